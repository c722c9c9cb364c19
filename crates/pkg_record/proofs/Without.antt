-- A record of version 1 tells no digests: it spells the package as if there were none.
use Rattle.std.proofs.Common.{◌≡◌, ◌^◌, ◌<◌, List, [], ◌∷◌, ◌++◌, map, codes, refl, ap, ap₂, sym, subst, ◌∙◌}
use Rattle.std.specs.List.{flat_map, AllByRecursion}
use Rattle.std.specs.Fmt.{decimal}
use Rattle.std.proofs.lemmas.List.{length-map}
use Rattle.std.proofs.lemmas.List.Concat.{flat_map-cons}
use Rattle.bulk_model.specs.declared.depend.Recorded.{Recorded}
use Rattle.bulk_model.specs.declared.version.Version.{Version}
use Rattle.bulk_model.specs.declared.version.Version.TheVariants.{One, Two}
use Rattle.bulk_model.specs.Digests.{no_digest}
use Rattle.bulk_model.specs.Facts.{IsDependList}
use Rattle.bulk_model.specs.Lines.{line, name_lines, option_lines, file_pieces}
use Rattle.bulk_model.specs.Spelling.{version_words, recorded_line, unsigned}
use Rattle.bulk_model.specs.Views.{PackageView, need_of}
use Rattle.pkg_record.specs.Laws.{HasRecord}
use Rattle.pkg_record.specs.Reading.{answer}
use Rattle.pkg_record.proofs.SaidAgain.{Tells}

abbrev bare : Recorded → Recorded
bare d = record { kind = d.kind; node = d.node; name = d.name; digest = no_digest }

abbrev without_digests : PackageView → PackageView
without_digests p =
    record { name = p.name; origin = p.origin; flavor = p.flavor; recipe = no_digest; options = p.options; depends = map bare p.depends; files = p.files }

-- what a record of a version tells of a package
abbrev pub told_as : Version → PackageView → PackageView
told_as One p = without_digests p
told_as Two p = p

-- all that is told of a package is what a record of a version tells
abbrev pub IsTold : Version → PackageView → Type 0
IsTold version p = Tells version p.recipe × AllByRecursion (λ d. Tells version d.digest) p.depends

bare_lines : (ds : List Recorded) → flat_map (recorded_line One) (map bare ds) ≡ flat_map (recorded_line One) ds
bare_lines [] = refl
bare_lines (d ∷ ds) =
    flat_map-cons (recorded_line One) (bare d) (map bare ds) ∙ ap (λ l. recorded_line One d ++ l) (bare_lines ds) ∙ sym (flat_map-cons (recorded_line One) d ds)

bare_needs : (ds : List Recorded) → map need_of (map bare ds) ≡ map need_of ds
bare_needs [] = refl
bare_needs (d ∷ ds) = ap (λ l. need_of d ∷ l) (bare_needs ds)

bare_digests : (ds : List Recorded) → AllByRecursion (λ d. d.digest ≡ no_digest) (map bare ds)
bare_digests [] = tt
bare_digests (d ∷ ds) = (refl, bare_digests ds)

pub told_unsigned : (version : Version) (p : PackageView) → unsigned version (told_as version p) ≡ unsigned version p
told_unsigned Two p = refl
told_unsigned One p =
    let before = line (version_words One) ++ name_lines p.name p.origin p.flavor ++ [] ++ option_lines p.options in
    ap₂ (λ n l. before ++ (line (codes "depends " ++ decimal n) ++ l) ++ file_pieces (codes "files ") p.files) (length-map p.depends bare) (bare_lines p.depends)

pub told_record : (version : Version) (p : PackageView) → HasRecord version p → HasRecord version (told_as version p)
told_record Two p h = h
told_record One p h = record {
  facts = record {
    name = h.facts.name;
    origin = h.facts.origin;
    flavor = h.facts.flavor;
    options = h.facts.options;
    depends = subst IsDependList (sym (bare_needs p.depends)) h.facts.depends;
    files = h.facts.files;
  };
  digests = tt;
  paths = h.paths;
  options = h.options;
  depends = subst (λ n. n < 2 ^ 64) (sym (length-map p.depends bare)) h.depends;
  files = h.files;
  sizes = h.sizes;
}

pub is_told : (version : Version) (p : PackageView) → HasRecord version p → IsTold version (told_as version p)
is_told Two p h = h.digests
is_told One p h = (refl, bare_digests p.depends)

pub told_answer : (version : Version) (p : PackageView) → answer version (told_as version p) ≡ answer version p
told_answer One p = refl
told_answer Two p = refl
