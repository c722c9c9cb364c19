-- The places of the base root, of installed files and of a port's own, apart from each other.
use Rattle.std.proofs.Common.{◌≡◌, ℕ, ◌+◌, Bool, true, false, List, [], ◌∷◌, ◌++◌, ap, subst, sym, ◌∙◌, refl, arith, nat_eq, drop, length}
use Rattle.std.specs.Prelude.{cond, not, ◌&&◌, ◌||◌, map, codes, bytes_eq}
use Rattle.std.specs.List.{list_all, list_any, starts_with}
use Rattle.std.proofs.lemmas.Bool.{and_parts, and_from}
use Rattle.std.proofs.lemmas.Bool.Decides.{nat_tests}
use Rattle.std.proofs.lemmas.List.{append_assoc}
use Rattle.std.proofs.lemmas.Slice.Eq.{bytes_eq-Decides}
use Rattle.bulk_base.specs.Path.{joined, collides, is_below, is_slash}
use Rattle.bulk_base.specs.declared.file.FileItem.{FileItem}
use Rattle.bulk_base.proofs.Paths.{is_below-joined, below_is_joined}
use Rattle.bulk_model.specs.Bake.{placed}
use Rattle.bulk_model.specs.Facts.{paths_of}
use Rattle.bulk_model.specs.PlanFacts.{is_reserved}
use Rattle.root_clone.specs.Taking.{entries_of}

-- the path is that of a folder, or stands below it
abbrev is_within : List ℕ → List ℕ → Bool
is_within w path = bytes_eq w path || is_below w path

-- what is a folder of a path below a folder without slashes is that folder, or stands below it
above_is_within : (w b x : List ℕ) → list_any is_slash w ≡ false → is_below b (joined w x) ≡ true → is_within w b ≡ true
above_is_within [] [] x n h = refl
above_is_within [] (c ∷ b) x n h = grind (arith, nat_tests)
above_is_within (d ∷ w) [] x n h = grind (arith, nat_tests)
above_is_within (d ∷ w) (c ∷ b) x n h = let more = above_is_within w b x in grind (arith, nat_tests, more)

below_twice : (w x rest : List ℕ) → joined (joined w x) rest ≡ joined w (x ++ 47 ∷ rest)
below_twice w x rest = append_assoc w (47 ∷ x) (47 ∷ rest)

or_right : (a : Bool) {b : Bool} → b ≡ true → (a || b) ≡ true
or_right a e = grind arith

none_of_three : (a b c : Bool) → ((a ≡ true) → false ≡ true) → ((b ≡ true) → false ≡ true) → ((c ≡ true) → false ≡ true) → not (a || b || c) ≡ true
none_of_three true b c p q r = p refl
none_of_three false true c p q r = q refl
none_of_three false false true p q r = r refl
none_of_three false false false p q r = refl

-- a path that is not within a folder collides with nothing below it
pub outside_is_free : (w x b : List ℕ) → list_any is_slash w ≡ false → is_within w b ≡ false → not (collides (joined w x) b) ≡ true
outside_is_free w x b n h =
    let within : is_within w b ≡ true → false ≡ true = λ e. sym h ∙ e in
    let below : is_below w b ≡ true → false ≡ true = λ e. within (or_right (bytes_eq w b) e) in
    none_of_three (bytes_eq (joined w x) b) (is_below b (joined w x)) (is_below (joined w x) b)
    (λ e. below (ap (is_below w) (sym ((bytes_eq-Decides (joined w x) b).0 e)) ∙ is_below-joined w x))
    (λ e. within (above_is_within w b x n e))
    (λ e. below (ap (is_below w) (below_is_joined (joined w x) b e ∙ below_twice w x (drop (length (joined w x) + 1) b)) ∙ is_below-joined w (x ++ 47 ∷ drop (length (joined w x) + 1) b)))

-- ---- the three folders of a build

-- a path that a build does not use lies outside each of its folders
no_folder : (a b c : Bool) → not (a || (b || (c || false))) ≡ true → (a ≡ false) × (b ≡ false) × (c ≡ false)
no_folder a b c h = (grind arith, grind arith, grind arith)

pub base_outside_local : (path b : List ℕ) → not (is_reserved b) ≡ true → not (collides (joined (codes "local") path) b) ≡ true
base_outside_local path b h = outside_is_free (codes "local") path b refl (no_folder (is_within (codes "local") b) (is_within (codes "work") b) (is_within (codes "stage") b) h).0

pub base_outside_work : (path b : List ℕ) → not (is_reserved b) ≡ true → not (collides (joined (codes "work") path) b) ≡ true
base_outside_work path b h = outside_is_free (codes "work") path b refl (no_folder (is_within (codes "local") b) (is_within (codes "work") b) (is_within (codes "stage") b) h).1

pub all_entries : (test free : List ℕ → Bool) → ((path : List ℕ) → free path ≡ true → test path ≡ true) → (files : List FileItem)
    → list_all free (paths_of files) ≡ true → list_all test (map (λ e. e.0) (entries_of files)) ≡ true
all_entries test free weaker [] h = refl
all_entries test free weaker (f ∷ files) h =
    let m = and_parts (free f.path) (list_all free (paths_of files)) h in
    and_from _ _ (weaker f.path m.0) (all_entries test free weaker files m.1)

pub all_placed : (test : List ℕ → Bool) (w : List ℕ) → ((path : List ℕ) → test (joined w path) ≡ true) → (files : List FileItem)
    → list_all test (map (λ e. e.0) (placed w files)) ≡ true
all_placed test w all [] = refl
all_placed test w all (f ∷ files) = and_from _ _ (all f.path) (all_placed test w all files)
