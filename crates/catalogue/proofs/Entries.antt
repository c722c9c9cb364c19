-- What is told of a package, member by member.
use Rattle.std.proofs.Common.{◌≡◌, ℕ, List, length, map, ap, ◌∙◌}
use Rattle.bulk_model.specs.Digests.{digest_of, hex}
use Rattle.bulk_model.specs.Spelling.{spelling}
use Rattle.bulk_model.specs.Views.{PackageView}
use Rattle.serde_json.specs.Data.{Data, Members, string, no_members, put}
use Rattle.serde_json.specs.View.{items_of}
use Rattle.catalogue.specs.Catalogue.{strings, with_options, depend_names, entry_by, entry}

-- one more member
pub one_more : (key : List ℕ) (new old was : Members) (value is : Data) → new ≡ put key value old
    → value ≡ is → old ≡ was → new ≡ put key is was
one_more key new old was value is e f g = e ∙ ap (λ d. put key d old) f ∙ ap (put key is) g

pub entry_is : (p : PackageView) (depends : List Data) (names : List (List ℕ)) (options : Members)
    (sha256 : List ℕ) (size : ℕ) (record' : List ℕ)
    → depends ≡ map string names → names ≡ depend_names p
    → options ≡ with_options p.options no_members
    → sha256 ≡ hex (digest_of record') → size ≡ length record' → record' ≡ spelling p
    → entry_by p (items_of depends) options sha256 size ≡ entry p
unfolding entry
entry_is p depends names options sha256 size record' d n o h s r =
    ap (λ x. entry_by p (items_of x) options sha256 size) (d ∙ ap (map string) n)
    ∙ ap (λ x. entry_by p (strings (depend_names p)) x sha256 size) o
    ∙ ap (λ x. entry_by p (strings (depend_names p)) (with_options p.options no_members) x size) (h ∙ ap (λ bytes. hex (digest_of bytes)) r)
    ∙ ap (λ x. entry_by p (strings (depend_names p)) (with_options p.options no_members) (hex (digest_of (spelling p))) x) (s ∙ ap length r)
