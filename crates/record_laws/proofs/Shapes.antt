-- One state and one rest at which the lines and pieces of a record stop.
use Rattle.std.proofs.Common.{◌≡◌, ℕ, zero, suc, ◌<◌, ◌≤◌, List, [], ◌∷◌, ◌++◌, length, take, arith, ap, ap₂, sym, subst, ◌∙◌, append_assoc}
use Rattle.std.specs.Prelude.{not, Contains}
use Rattle.std.specs.List.{position_or_len}
use Rattle.std.proofs.lemmas.Bool.{eqb-true}
use Rattle.std.proofs.lemmas.List.{length-append, get_or-take, length-take-le, append_cancel_left}
use Rattle.std.proofs.lemmas.List.Sums.{split_at_first, passes_at_first, fails_before_first, list_all-from_AllPass}
use Rattle.std.proofs.Math.Seq.{get_or-append_seam, take-append_seam}
use Rattle.bulk_base.specs.Marks.{is_mark, front, back}
use Rattle.bulk_model.specs.Lines.{line}
use Rattle.pkg_record.proofs.NamesAgain.{differs, Lacks}
use Rattle.record_laws.specs.Units.{State, Shape, a_line, a_piece, nothing, shape, HasShape, EndsIn, leads, Fits, Reaches}
use Rattle.record_laws.proofs.Delimiting.{lines_delimit, some_is}

-- ---- lines

pub parted_line : (bytes : List ℕ) → position_or_len (is_mark 10) bytes < length bytes → bytes ≡ line (front 10 bytes) ++ back 10 bytes
parted_line bytes l =
    split_at_first (is_mark 10) bytes 0 l
    ∙ ap (λ b. front 10 bytes ++ b ∷ back 10 bytes) (eqb-true _ _ (passes_at_first (is_mark 10) bytes 0 l))
    ∙ sym (append_assoc (front 10 bytes) (10 ∷ []) (back 10 bytes))

pub front_lacks : (bytes : List ℕ) → position_or_len (is_mark 10) bytes < length bytes → Lacks 10 (front 10 bytes)
front_lacks bytes l =
    let place = position_or_len (is_mark 10) bytes in
    list_all-from_AllPass (differs 10) (front 10 bytes)
    (λ k d b. let below : k < place = omega (arith, b, length-take-le place bytes (omega arith)) in
    ap not (ap (is_mark 10) (get_or-take place bytes k d below) ∙ fails_before_first (is_mark 10) bytes k d below))

pub feed_at : (text rest : List ℕ) → Contains (line text ++ rest) 10
feed_at text rest =
    subst (λ b. Contains b 10) (sym (append_assoc text (10 ∷ []) rest))
    (length text, omega (arith, length-append text (10 ∷ rest)), get_or-append_seam text 10 rest 10)

-- ---- texts of a shape

feed_behind : (a r : List ℕ) → line a ++ r ≡ a ++ 10 ∷ r
feed_behind a r = append_assoc a (10 ∷ []) r

pieces_delimit : (size : ℕ) (a b r s : List ℕ) → length a ≡ size → length b ≡ size → line a ++ r ≡ line b ++ s → (a ≡ b) × (r ≡ s)
pieces_delimit size a b r s h k e =
    let same : a ≡ b =
    sym (take-append_seam a (10 ∷ r)) ∙ ap₂ take (h ∙ sym k) (sym (feed_behind a r) ∙ e ∙ feed_behind b s) ∙ take-append_seam b (10 ∷ s) in
    (same, append_cancel_left (line a) r s (e ∙ ap (λ t. line t ++ s) (sym same)))

texts_delimit : (form : Shape) (a b r s : List ℕ) → HasShape form a → HasShape form b → line a ++ r ≡ line b ++ s → (a ≡ b) × (r ≡ s)
texts_delimit a_line a b r s h k e = lines_delimit a b r s h k e
texts_delimit (a_piece size) a b r s h k e = pieces_delimit size a b r s h k e
texts_delimit nothing a b r s h k e = absurd h

text_ends : (form : Shape) (text rest : List ℕ) → HasShape form text → EndsIn form (line text ++ rest)
text_ends a_line text rest h = feed_at text rest
text_ends (a_piece size) text rest h = omega (arith, h, length-append (line text) rest, length-append text (10 ∷ []))
text_ends nothing text rest h = absurd h

-- what fits ends in the bytes
pub fits_ends : (state : State) (bytes : List ℕ) (next : State) (after : List ℕ) → Fits state bytes next after → EndsIn (shape state) bytes
fits_ends state bytes next after f = subst (EndsIn (shape state)) (sym f.2) (text_ends (shape state) f.0 after f.1)

-- ---- one way on, and one end

abbrev At : Type 0
At = State × List ℕ

abbrev at : State → List ℕ → At
at state bytes = (state, bytes)

one_fits : (state : State) (bytes : List ℕ) (next other : State) (after rest : List ℕ) → Fits state bytes next after → Fits state bytes other rest → at next after ≡ at other rest
one_fits state bytes next other after rest f g =
    let t = texts_delimit (shape state) f.0 g.0 after rest f.1 g.1 (sym f.2 ∙ g.2) in
    ap₂ at (some_is next other (sym f.3 ∙ ap (leads state) t.0 ∙ g.3)) t.1

-- nothing more fits
abbrev pub Halts : State → List ℕ → Type 0
Halts state bytes = (next : State) (after : List ℕ) → Fits state bytes next after → ⊥

pub one_halt : (n m : ℕ) (state : State) (bytes : List ℕ) (last other : State) (rest left : List ℕ) → Reaches n state bytes last rest → Reaches m state bytes other left → Halts last rest → Halts other left
    → (last ≡ other) × (rest ≡ left)
one_halt zero zero state bytes last other rest left f g h k = (sym f.0 ∙ g.0, sym f.1 ∙ g.1)
one_halt zero (suc m) state bytes last other rest left f g h k =
    absurd (subst (λ (x : At). Halts x.0 x.1) (sym (ap₂ at f.0 f.1)) h g.0 g.1 g.2)
one_halt (suc n) zero state bytes last other rest left f g h k =
    absurd (subst (λ (x : At). Halts x.0 x.1) (sym (ap₂ at g.0 g.1)) k f.0 f.1 f.2)
one_halt (suc n) (suc m) state bytes last other rest left f g h k =
    one_halt n m f.0 f.1 last other rest left f.3 (subst (λ (x : At). Reaches m x.0 x.1 other left) (one_fits state bytes g.0 f.0 g.1 f.1 g.2 f.2) g.3) h k

-- one way behind another
pub reaches_on : (n m : ℕ) (state : State) (bytes : List ℕ) (next : State) (after : List ℕ) (last : State) (rest : List ℕ) → Reaches n state bytes next after → Reaches m next after last rest
    → (k : ℕ) × Reaches k state bytes last rest
reaches_on zero m state bytes next after last rest f g = (m, subst (λ (x : At). Reaches m x.0 x.1 last rest) (sym (ap₂ at f.0 f.1)) g)
reaches_on (suc n) m state bytes next after last rest f g =
    let t = reaches_on n m f.0 f.1 next after last rest f.3 g in
    (suc t.0, (f.0, f.1, f.2, t.1))

-- what is left is no more than there was
fits_within : (state : State) (bytes : List ℕ) (next : State) (after : List ℕ) → Fits state bytes next after → length after ≤ length bytes
fits_within state bytes next after f = omega (arith, ap length f.2, length-append (line f.0) after)

pub reaches_within : (n : ℕ) (state : State) (bytes : List ℕ) (last : State) (rest : List ℕ) → Reaches n state bytes last rest → length rest ≤ length bytes
reaches_within zero state bytes last rest f = omega (arith, ap length f.1)
reaches_within (suc n) state bytes last rest f =
    let t = reaches_within n f.0 f.1 last rest f.3 in
    omega (arith, t, fits_within state bytes f.0 f.1 f.2)
