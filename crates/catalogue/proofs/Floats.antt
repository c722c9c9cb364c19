-- What is told of a package has no float.
use Rattle.std.proofs.Common.{◌≡◌, ℕ, Bool, true, false, List, [], ◌∷◌, refl, ap, ◌∙◌}
use Rattle.std.specs.Prelude.{◌||◌, codes, unwrap_or, length}
use Rattle.std.specs.Ordering.{match_ordering, nat_cmp}
use Rattle.std.specs.Cmp.Lexicographic.{slice_cmp}
use Rattle.std.specs.declared.cmp.Ordering.{Ordering}
use Rattle.std.specs.declared.cmp.Ordering.TheVariants.{Less, Equal, Greater}
use Rattle.bulk_base.specs.declared.file.Switch.{Switch}
use Rattle.bulk_model.specs.Digests.{digest_of, hex}
use Rattle.bulk_model.specs.Spelling.{spelling}
use Rattle.bulk_model.specs.Views.{PackageView}
use Rattle.serde_json.specs.Data.{Data, Items, Members, boolean, number, unsigned, string, array, object, no_members, member, put}
use Rattle.serde_json.specs.Written.{has_float, items_have_float, members_have_float}
use Rattle.catalogue.specs.Catalogue.{strings, with_options, depend_names, entry_by, entry}

or_of : (a b : Bool) → a ≡ false → b ≡ false → (a || b) ≡ false
or_of a b f g = ap (λ x. x || b) f ∙ g

first_of : (a b : Bool) → (a || b) ≡ false → a ≡ false
first_of true b h = h
first_of false b h = refl

second_of : (a b : Bool) → (a || b) ≡ false → b ≡ false
second_of true b h = absurd (cc h)
second_of false b h = h

put_case : (o : Ordering) (k l : List ℕ) (d e : Data) (ms : Members) → has_float d ≡ false
    → (has_float e || members_have_float ms) ≡ false → members_have_float (put k d ms) ≡ false
    → members_have_float (match_ordering o (member k d (member l e ms)) (member l d ms) (member l e (put k d ms))) ≡ false
put_case Less k l d e ms f g h = or_of (has_float d) (has_float e || members_have_float ms) f g
put_case Equal k l d e ms f g h =
    or_of (has_float d) (members_have_float ms) f (second_of (has_float e) (members_have_float ms) g)
put_case Greater k l d e ms f g h =
    or_of (has_float e) (members_have_float (put k d ms)) (first_of (has_float e) (members_have_float ms) g) h

-- a member without a float that is put among such
pub put_none : (k : List ℕ) (d : Data) (ms : Members) → has_float d ≡ false
    → members_have_float ms ≡ false → members_have_float (put k d ms) ≡ false
put_none k d no_members f g = or_of (has_float d) false f refl
put_none k d (member l e ms) f g =
    put_case (slice_cmp nat_cmp k l) k l d e ms f g (put_none k d ms f (second_of (has_float e) (members_have_float ms) g))

strings_none : (texts : List (List ℕ)) → items_have_float (strings texts) ≡ false
strings_none [] = refl
strings_none (text ∷ texts) = strings_none texts

options_none : (options : List Switch) (ms : Members) → members_have_float ms ≡ false
    → members_have_float (with_options options ms) ≡ false
options_none [] ms f = f
options_none (option ∷ options) ms f =
    options_none options (put option.name (boolean option.on) ms) (put_none option.name (boolean option.on) ms refl f)

by_none : (p : PackageView) (depends : Items) (options : Members) (sha256 : List ℕ) (size : ℕ)
    → items_have_float depends ≡ false → members_have_float options ≡ false
    → has_float (entry_by p depends options sha256 size) ≡ false
unfolding entry_by
by_none p depends options sha256 size f g =
    let a : Members = put (codes "depends") (array depends) no_members in
    let b : Members = put (codes "files") (number (unsigned (length p.files))) a in
    let c : Members = put (codes "flavor") (string (unwrap_or p.flavor [])) b in
    let d : Members = put (codes "name") (string p.name) c in
    let e : Members = put (codes "options") (object options) d in
    let h : Members = put (codes "origin") (string p.origin) e in
    let i : Members = put (codes "sha256") (string sha256) h in
    put_none (codes "size") (number (unsigned size)) i refl
    (put_none (codes "sha256") (string sha256) h refl
    (put_none (codes "origin") (string p.origin) e refl
    (put_none (codes "options") (object options) d g
    (put_none (codes "name") (string p.name) c refl
    (put_none (codes "flavor") (string (unwrap_or p.flavor [])) b refl
    (put_none (codes "files") (number (unsigned (length p.files))) a refl
    (put_none (codes "depends") (array depends) no_members f refl)))))))

pub entry_none : (p : PackageView) → has_float (entry p) ≡ false
unfolding entry
entry_none p =
    by_none p (strings (depend_names p)) (with_options p.options no_members)
    (hex (digest_of (spelling p))) (length (spelling p))
    (strings_none (depend_names p)) (options_none p.options no_members refl)
