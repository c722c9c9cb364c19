-- Names in form pass the tests, since their parts lack the marks between them.
use Rattle.std.proofs.Common.{◌≡◌, ℕ, ◌+◌, ◌<◌, ◌≤◌, Bool, true, false, List, [], ◌∷◌, ◌++◌, length, take, drop, arith, refl, ap, sym, ◌∙◌, append_assoc, append-nil, eq-eqb}
use Rattle.std.specs.Prelude.{◌||◌, ◌==◌, not, nat_le, Option, Some, None, IsTrue, IfSome}
use Rattle.std.specs.List.{list_all, position_or_len}
use Rattle.std.proofs.lemmas.Bool.Decides.{nat_tests}
use Rattle.std.proofs.lemmas.List.{length-append, drop_at, get_or_append_left}
use Rattle.std.proofs.lemmas.List.Folds.{list_all-append}
use Rattle.std.proofs.lemmas.List.Sums.{position_or_len_is, AllPass-from_list_all}
use Rattle.std.proofs.Math.Seq.{get_or-append_seam, take-append_seam}
use Rattle.std.proofs.lemmas.Bool.{and_from}
use Rattle.bulk_base.specs.Names.{is_digit, is_alphanumeric, is_made_of, is_port_byte, is_port_name, is_version, is_shown_number, IsOrigin, IsNode, IsPackageName}
use Rattle.bulk_base.specs.Marks.{is_mark, front, back}
use Rattle.port_name.specs.Forms.{is_origin, is_node}
use Rattle.port_name.specs.PackageForm.{is_revised, is_full_version, is_parted_at, some_below, is_package_name}
use Rattle.port_name.proofs.Parting.{some_below-at}
use Rattle.port_name.proofs.Origins.{test-from_IsNode}
use Rattle.pkg_record.proofs.Names.{list_all-weaken, made_of, tail_of}

left_true : (a b : Bool) → a ≡ true → (a || b) ≡ true
left_true a b p = grind arith

right_true : (a b : Bool) → b ≡ true → (a || b) ≡ true
right_true true b p = refl
right_true false b p = p

not_true : (b : Bool) → not b ≡ true → b ≡ false
not_true true h = cc
not_true false h = refl

-- ---- cuts

abbrev pub differs : ℕ → ℕ → Bool
differs mark b = not (b == mark)

-- no byte of the text is the mark
abbrev pub Lacks : ℕ → List ℕ → Type 0
Lacks mark text = list_all (differs mark) text ≡ true

cut_place : (mark : ℕ) (a b : List ℕ) → Lacks mark a → position_or_len (is_mark mark) (a ++ mark ∷ b) ≡ length a
cut_place mark a b h =
    position_or_len_is (is_mark mark) (a ++ mark ∷ b) (length a) 0 (omega (arith, length-append a (mark ∷ b)))
    (λ k l. ap (is_mark mark) (get_or_append_left a (mark ∷ b) 0 k l) ∙ not_true _ (AllPass-from_list_all (differs mark) a h k 0 l))
    (λ l. ap (is_mark mark) (get_or-append_seam a mark b 0) ∙ eq-eqb mark mark refl)

pub front_again : (mark : ℕ) (a b : List ℕ) → Lacks mark a → front mark (a ++ mark ∷ b) ≡ a
front_again mark a b h = ap (λ n. take n (a ++ mark ∷ b)) (cut_place mark a b h) ∙ take-append_seam a (mark ∷ b)

behind_seam : (mark : ℕ) (a b : List ℕ) → drop (length a + 1) (a ++ mark ∷ b) ≡ b
behind_seam mark a b = ap (drop (length a + 1)) (sym (append_assoc a (mark ∷ []) b)) ∙ drop_at (a ++ mark ∷ []) b (length a + 1) (length-append a (mark ∷ []))

pub back_again : (mark : ℕ) (a b : List ℕ) → Lacks mark a → back mark (a ++ mark ∷ b) ≡ b
back_again mark a b h = ap (λ n. drop (n + 1) (a ++ mark ∷ b)) (cut_place mark a b h) ∙ behind_seam mark a b

pub found_below : (mark : ℕ) (a b : List ℕ) → Lacks mark a → position_or_len (is_mark mark) (a ++ mark ∷ b) < length (a ++ mark ∷ b)
found_below mark a b h = omega (arith, cut_place mark a b h, length-append a (mark ∷ b))

pub lacks_joined : (mark : ℕ) (a b : List ℕ) → Lacks mark a → Lacks mark b → Lacks mark (a ++ b)
lacks_joined mark a b p q = list_all-append (differs mark) a b ∙ and_from _ _ p q

-- ---- names

port_bytes : (name : List ℕ) → is_port_name name ≡ true → list_all is_port_byte name ≡ true
port_bytes name h = grind arith

port_slash : (b : ℕ) → is_port_byte b ≡ true → differs 47 b ≡ true
port_slash b h = grind (arith, nat_tests)

port_at : (b : ℕ) → is_port_byte b ≡ true → differs 64 b ≡ true
port_at b h = grind (arith, nat_tests)

version_underscore : (b : ℕ) → (is_alphanumeric b || (b == 46) || (b == 43)) ≡ true → differs 95 b ≡ true
version_underscore b h = grind (arith, nat_tests)

version_comma : (b : ℕ) → (is_alphanumeric b || (b == 46) || (b == 43)) ≡ true → differs 44 b ≡ true
version_comma b h = grind (arith, nat_tests)

digit_comma : (b : ℕ) → is_digit b ≡ true → differs 44 b ≡ true
digit_comma b h = grind (arith, nat_tests)

pub origin_again : (text : List ℕ) → IsOrigin text → is_origin text ≡ true
origin_again text o =
    let lacks : Lacks 47 o.category = list_all-weaken is_port_byte (differs 47) port_slash o.category (port_bytes o.category o.category_form) in
    ap is_origin o.spelled
    ∙ and_from _ _ (ap is_port_name (front_again 47 o.category o.port lacks) ∙ o.category_form) (ap is_port_name (back_again 47 o.category o.port lacks) ∙ o.port_form)

origin_at : (text : List ℕ) → IsOrigin text → Lacks 64 text
origin_at text o =
    let a : Lacks 64 o.category = list_all-weaken is_port_byte (differs 64) port_at o.category (port_bytes o.category o.category_form) in
    let b : Lacks 64 o.port = list_all-weaken is_port_byte (differs 64) port_at o.port (port_bytes o.port o.port_form) in
    ap (list_all (differs 64)) o.spelled ∙ lacks_joined 64 o.category (47 ∷ o.port) a b

pub node_again : (text : List ℕ) → IsNode text → is_node text ≡ true
node_again text n = test-from_IsNode text n

version_bytes : (version : List ℕ) → is_version version ≡ true → list_all (λ b. is_alphanumeric b || (b == 46) || (b == 43)) version ≡ true
version_bytes version h = (made_of (λ b. is_alphanumeric b || (b == 46) || (b == 43)) 1 64 version h).2

revised_again : (version : List ℕ) (revision : Option (List ℕ)) → is_version version ≡ true → IfSome revision (λ r. IsTrue (is_shown_number r)) → is_revised (version ++ tail_of 95 revision) ≡ true
revised_again version None v h = ap is_revised (append-nil version) ∙ left_true _ _ v
revised_again version (Some r) v h =
    let lacks : Lacks 95 version = list_all-weaken _ (differs 95) version_underscore version (version_bytes version v) in
    right_true _ _ (and_from _ _ (ap is_version (front_again 95 version r lacks) ∙ v) (ap is_shown_number (back_again 95 version r lacks) ∙ h))

shown_digits : (text : List ℕ) → is_shown_number text ≡ true → list_all is_digit text ≡ true
shown_digits text h = grind arith

revised_comma : (version : List ℕ) (revision : Option (List ℕ)) → is_version version ≡ true → IfSome revision (λ r. IsTrue (is_shown_number r)) → Lacks 44 (version ++ tail_of 95 revision)
revised_comma version None v h = ap (list_all (differs 44)) (append-nil version) ∙ list_all-weaken _ (differs 44) version_comma version (version_bytes version v)
revised_comma version (Some r) v h =
    lacks_joined 44 version (95 ∷ r) (list_all-weaken _ (differs 44) version_comma version (version_bytes version v)) (list_all-weaken is_digit (differs 44) digit_comma r (shown_digits r h))

full_again : (revised : List ℕ) (epoch : Option (List ℕ)) → is_revised revised ≡ true → Lacks 44 revised → IfSome epoch (λ e. IsTrue (is_shown_number e)) → is_full_version (revised ++ tail_of 44 epoch) ≡ true
full_again revised None r lacks h = ap is_full_version (append-nil revised) ∙ left_true _ _ r
full_again revised (Some e) r lacks h = right_true _ _ (and_from _ _ (ap is_revised (front_again 44 revised e lacks) ∙ r) (ap is_shown_number (back_again 44 revised e lacks) ∙ h))

parted_again : (base rest : List ℕ) → is_made_of is_port_byte 1 192 base ≡ true → is_full_version rest ≡ true → is_parted_at (base ++ 45 ∷ rest) (length base) ≡ true
parted_again base rest b r =
    and_from _ _
    (and_from _ _ (ap (λ c. c == 45) (get_or-append_seam base 45 rest 0)) (ap (is_made_of is_port_byte 1 192) (take-append_seam base (45 ∷ rest)) ∙ b))
    (ap is_full_version (behind_seam 45 base rest) ∙ r)

short_enough : (n : ℕ) → n ≤ 200 → nat_le n 200 ≡ true
short_enough n l = grind (arith, nat_tests)

pub name_again : (text : List ℕ) → IsPackageName text → is_package_name text ≡ true
name_again text n =
    let revised = n.version ++ tail_of 95 n.revision in
    let rest = revised ++ tail_of 44 n.epoch in
    let full : is_full_version rest ≡ true = full_again revised n.epoch (revised_again n.version n.revision n.version_form n.revision_form) (revised_comma n.version n.revision n.version_form n.revision_form) n.epoch_form in
    let e : text ≡ n.base ++ 45 ∷ rest =
    n.spelled ∙ append_assoc (n.base ++ (45 ∷ n.version)) (tail_of 95 n.revision) (tail_of 44 n.epoch) ∙ append_assoc n.base (45 ∷ n.version) (tail_of 95 n.revision ++ tail_of 44 n.epoch) ∙ ap (λ l. n.base ++ 45 ∷ l) (sym (append_assoc n.version (tail_of 95 n.revision) (tail_of 44 n.epoch))) in
    let parted : some_below (is_parted_at text) (length text) ≡ true =
    some_below-at (is_parted_at text) (length text) (length n.base) (omega (arith, ap length e, length-append n.base (45 ∷ rest))) (ap (λ t. is_parted_at t (length n.base)) e ∙ parted_again n.base rest n.base_form full) in
    and_from _ _ (short_enough (length text) n.short) parted
