-- What saves of packages leave in a store.
use Rattle.std.proofs.Common.{◌≢◌, List, [], ◌∷◌, ap, sym, subst, ◌∙◌, inl, inr, ◌⊎◌}
use Rattle.std.specs.Prelude.{map, bytes_eq, Contains}
use Rattle.std.specs.List.{IsDistinct}
use Rattle.std.specs.FinMap.{insert}
use Rattle.bulk_base.proofs.Members.{contains_here, contains_more, contains_cases, contains_none}
use Rattle.outside.specs.Changes.{replayed}
use Rattle.outside.specs.Contents.{Contents}
use Rattle.bulk_model.specs.declared.version.Version.TheVariants.{Two}
use Rattle.bulk_model.specs.FileNames.{package_file}
use Rattle.bulk_model.specs.Spelling.{spelling}
use Rattle.bulk_model.specs.Views.{PackageView}
use Rattle.pkg_record.specs.Laws.{HasRecord}
use Rattle.pkg_record.specs.Stored.{packages_in}
use Rattle.incremental_example.specs.Diamond.{save}
use Rattle.record_laws.proofs.Storing.{after_a_put}
use Rattle.incremental_example.proofs.Facts.{differs}

abbrev AllRecorded : List PackageView → Type 0
AllRecorded ps = (p : PackageView) → Contains ps p → HasRecord Two p

abbrev with_saved : Contents → PackageView → Contents
with_saved content p = insert content (package_file p.name) (spelling p)

-- they leave these packages and what was there
pub only_saved : (ps : List PackageView) (content : Contents) → AllRecorded ps → (q : PackageView) → Contains (packages_in (replayed (map save ps) content)) q → Contains ps q ⊎ Contains (packages_in content) q
only_saved [] content are q c = inr c
only_saved (p ∷ ps) content are q c =
    elim (only_saved ps (with_saved content p) (λ r h. are r (contains_more p ps r h)) q c) [
      | inl h ↦ inl (contains_more p ps q h)
      | inr h ↦ elim ((after_a_put content p (are p (contains_here p ps)) q).0 h) [
        | inl e ↦ inl (subst (Contains (p ∷ ps)) (sym e) (contains_here p ps))
        | inr other ↦ inr other.0
      ]
    ]

-- what has another name stays
stays : (ps : List PackageView) (content : Contents) → AllRecorded ps → (q : PackageView) → Contains (packages_in content) q → ((p : PackageView) → Contains ps p → q.name ≢ p.name)
    → Contains (packages_in (replayed (map save ps) content)) q
stays [] content are q c apart = c
stays (p ∷ ps) content are q c apart =
    stays ps (with_saved content p) (λ r h. are r (contains_more p ps r h)) q ((after_a_put content p (are p (contains_here p ps)) q).1 (inr (c, apart p (contains_here p ps)))) (λ r h. apart r (contains_more p ps r h))

-- of different names all are there
pub all_saved : (ps : List PackageView) → IsDistinct bytes_eq (map (λ (p : PackageView). p.name) ps) → (content : Contents) → AllRecorded ps → (q : PackageView) → Contains ps q → Contains (packages_in (replayed (map save ps) content)) q
unfolding IsDistinct
all_saved [] d content are q c = absurd (contains_none q c)
all_saved (p ∷ ps) d content are q c =
    elim (contains_cases p ps q c) [
      | inl e ↦
          stays ps (with_saved content p) (λ r h. are r (contains_more p ps r h)) q ((after_a_put content p (are p (contains_here p ps)) q).1 (inl (sym e)))
          (λ r h same. differs (λ (x : PackageView). x.name) p ps d r h (ap (λ (x : PackageView). x.name) e ∙ same))
      | inr m ↦ all_saved ps d.1 (with_saved content p) (λ r h. are r (contains_more p ps r h)) q m
    ]
