-- Texts that begin with spellings, each of which tells where it ends.
use Rattle.std.proofs.Common.{◌≡◌, ℕ, ◌<◌, ◌^◌, List, [], ◌∷◌, ◌++◌, length, arith, refl, ap, ap₂, sym, ◌∙◌, append_assoc}
use Rattle.std.specs.Prelude.{Option, Some}
use Rattle.std.specs.List.{flat_map, AllByRecursion}
use Rattle.std.specs.Fmt.{decimal}
use Rattle.std.proofs.lemmas.List.Concat.{flat_map-cons}
use Rattle.bulk_base.specs.Marks.{front, back}
use Rattle.bulk_model.specs.Lines.{line, count_line}
use Rattle.pkg_record.specs.Said.{count_of, count_behind}
use Rattle.pkg_record.proofs.NamesAgain.{Lacks, front_again, back_again, lacks_joined}
use Rattle.pkg_record.proofs.SaidAgain.{digits_again, count_again, plain_line, plain_word, decimal_plain}

abbrev some : {X : Type 0} → X → Option X
some x = Some x

pub some_is : {X : Type 0} (x y : X) → some x ≡ some y → x ≡ y
some_is x y e = cc

-- what is spelled tells what it spells and where it ends
abbrev pub Delimits : {X : Type 0} → (X → List ℕ) → (X → Type 0) → Type 0
Delimits {X} spell Form = (x y : X) (r s : List ℕ) → Form x → Form y → spell x ++ r ≡ spell y ++ s → (x ≡ y) × (r ≡ s)

pub marked : (mark : ℕ) (a b r s : List ℕ) → Lacks mark a → Lacks mark b → a ++ mark ∷ r ≡ b ++ mark ∷ s → (a ≡ b) × (r ≡ s)
marked mark a b r s h k e = (
  sym (front_again mark a r h) ∙ ap (front mark) e ∙ front_again mark b s k,
  sym (back_again mark a r h) ∙ ap (back mark) e ∙ back_again mark b s k,
)

pub lines_delimit : Delimits line (Lacks 10)
lines_delimit a b r s h k e = marked 10 a b r s h k (sym (append_assoc a (10 ∷ []) r) ∙ e ∙ append_assoc b (10 ∷ []) s)

-- a line whose text says what it spells
pub said_delimit : {X : Type 0} (text : X → List ℕ) (says : List ℕ → Option X) (Form : X → Type 0) → ((x : X) → Form x → says (text x) ≡ Some x) → ((x : X) → Form x → Lacks 10 (text x))
    → Delimits (λ x. line (text x)) Form
said_delimit text says Form again lacks x y r s f g e =
    let l = lines_delimit (text x) (text y) r s (lacks x f) (lacks y g) e in
    (some_is x y (sym (again x f) ∙ ap says l.0 ∙ again y g), l.1)

-- so many of them
pub many_delimit : {X : Type 0} (spell : X → List ℕ) (Form : X → Type 0) → Delimits spell Form → (xs ys : List X) (r s : List ℕ) → length xs ≡ length ys → AllByRecursion Form xs → AllByRecursion Form ys
    → flat_map spell xs ++ r ≡ flat_map spell ys ++ s → (xs ≡ ys) × (r ≡ s)
many_delimit spell Form one [] [] r s n f g e = (refl, e)
many_delimit spell Form one [] (y ∷ ys) r s n f g e = absurd (omega (arith, n))
many_delimit spell Form one (x ∷ xs) [] r s n f g e = absurd (omega (arith, n))
many_delimit spell Form one (x ∷ xs) (y ∷ ys) r s n f g e =
    let left : flat_map spell (x ∷ xs) ++ r ≡ spell x ++ (flat_map spell xs ++ r) = ap (λ t. t ++ r) (flat_map-cons spell x xs) ∙ append_assoc (spell x) (flat_map spell xs) r in
    let right : flat_map spell (y ∷ ys) ++ s ≡ spell y ++ (flat_map spell ys ++ s) = ap (λ t. t ++ s) (flat_map-cons spell y ys) ∙ append_assoc (spell y) (flat_map spell ys) s in
    let d = one x y (flat_map spell xs ++ r) (flat_map spell ys ++ s) f.0 g.0 (sym left ∙ e ∙ right) in
    let m = many_delimit spell Form one xs ys r s (omega (arith, n)) f.1 g.1 d.1 in
    (ap₂ (λ a b. a ∷ b) d.0 m.0, m.1)

-- a heading's line with their count, and they
abbrev pub counted : {X : Type 0} → List ℕ → (X → List ℕ) → List X → List ℕ
counted heading spell xs = count_line heading (length xs) ++ flat_map spell xs

abbrev pub AreCounted : {X : Type 0} → (X → Type 0) → List X → Type 0
AreCounted Form xs = (length xs < 2 ^ 64) × AllByRecursion Form xs

pub counted_delimit : {X : Type 0} (heading : List ℕ) (spell : X → List ℕ) (Form : X → Type 0) → Lacks 10 heading → Delimits spell Form → Delimits (counted heading spell) (AreCounted Form)
counted_delimit heading spell Form h one xs ys r s f g e =
    let lacks : (n : ℕ) → n < 2 ^ 64 → Lacks 10 (heading ++ decimal n) = λ n l. lacks_joined 10 heading (decimal n) h (plain_line (decimal n) (decimal_plain n l)) in
    let regrouped : count_line heading (length xs) ++ (flat_map spell xs ++ r) ≡ count_line heading (length ys) ++ (flat_map spell ys ++ s) =
    sym (append_assoc (count_line heading (length xs)) (flat_map spell xs) r) ∙ e ∙ append_assoc (count_line heading (length ys)) (flat_map spell ys) s in
    let c = said_delimit (λ n. heading ++ decimal n) (count_behind heading) (λ n. n < 2 ^ 64) (count_again heading) lacks (length xs) (length ys) (flat_map spell xs ++ r) (flat_map spell ys ++ s) f.0 g.0 regrouped in
    many_delimit spell Form one xs ys r s c.0 f.1 g.1 c.1

-- a number before a space, or before the end of its line
number_is : (n m : ℕ) → n < 2 ^ 64 → m < 2 ^ 64 → decimal n ≡ decimal m → n ≡ m
number_is n m f g e = some_is n m (sym (digits_again n f) ∙ ap count_of e ∙ digits_again m g)

pub number_spaced : (n m : ℕ) (r s : List ℕ) → n < 2 ^ 64 → m < 2 ^ 64 → decimal n ++ 32 ∷ r ≡ decimal m ++ 32 ∷ s → (n ≡ m) × (r ≡ s)
number_spaced n m r s f g e =
    let d = marked 32 (decimal n) (decimal m) r s (plain_word (decimal n) (decimal_plain n f)) (plain_word (decimal m) (decimal_plain m g)) e in
    (number_is n m f g d.0, d.1)

pub number_ended : (n m : ℕ) (r s : List ℕ) → n < 2 ^ 64 → m < 2 ^ 64 → decimal n ++ 10 ∷ r ≡ decimal m ++ 10 ∷ s → (n ≡ m) × (r ≡ s)
number_ended n m r s f g e =
    let d = marked 10 (decimal n) (decimal m) r s (plain_line (decimal n) (decimal_plain n f)) (plain_line (decimal m) (decimal_plain m g)) e in
    (number_is n m f g d.0, d.1)
