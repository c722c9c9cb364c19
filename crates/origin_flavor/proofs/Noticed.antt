-- What the loop that tells of the words that moved keeps.
use Rattle.std.proofs.Common.{◌≡◌, ℕ, ◌+◌, ◌<◌, ◌≤◌, Bool, true, false, List, [], ◌∷◌, ◌++◌, length, get_or, take, cond, ◌∙◌, ap, sym, refl}
use Rattle.std.specs.Prelude.{not, ◌||◌, filter, map, bytes_eq}
use Rattle.std.specs.List.{list_any}
use Rattle.std.specs.Cmp.Lexicographic.{nat_list_eq_equiv}
use Rattle.std.proofs.lemmas.List.{append-nil, take_all, map-append}
use Rattle.std.proofs.lemmas.List.Elements.{filter-append}
use Rattle.std.proofs.lemmas.Slice.Eq.{bytes_eq-Decides}
use Rattle.port_desc.proofs.Turns.{taken_more}
use Rattle.bulk_model.specs.declared.reason.Notice.{Notice}
use Rattle.origin_flavor.specs.declared.answer.Answer.{Answer}
use Rattle.origin_flavor.specs.Notices.{notice_of, has_other_word, each_word_once, with_notice, notices_of}

abbrev has_word_of : Notice → Notice → Bool
has_word_of a b = bytes_eq a.word b.word

abbrev pub told_by : List Answer → List Notice
told_by answers = map notice_of (filter (λ answer. answer.moved) answers)

abbrev pushed : Bool → List Notice → Notice → List Notice
pushed there notices notice = cond there notices (notices ++ notice ∷ [])

-- notices of another word than x leave those of the word of n
other_case : (x n y : Notice) (rest : List Notice) (kept : Bool) → has_word_of x y ≡ (not kept) → has_word_of n x ≡ false
    → list_any (has_word_of n) (cond kept (y ∷ rest) rest) ≡ (has_word_of n y || list_any (has_word_of n) rest)
other_case x n y rest true e o = refl
other_case x n y rest false e o =
    let same : has_word_of n y ≡ false = ap (bytes_eq n.word) (sym ((bytes_eq-Decides x.word y.word).0 e)) ∙ o in
    ap (λ b. b || list_any (has_word_of n) rest) (sym same)

not_not : (b : Bool) → b ≡ not (not b)
not_not true = refl
not_not false = refl

among_others : (x n : Notice) (notices : List Notice) → has_word_of n x ≡ false → list_any (has_word_of n) (filter (has_other_word x) notices) ≡ list_any (has_word_of n) notices
among_others x n [] o = refl
among_others x n (y ∷ notices) o =
    other_case x n y (filter (has_other_word x) notices) (has_other_word x y) (not_not (has_word_of x y)) o
    ∙ ap (λ b. has_word_of n y || b) (among_others x n notices o)

push_case : (x n : Notice) (kept : List Notice) (same there : Bool) → has_word_of x n ≡ same → x ∷ filter (has_other_word x) (pushed there kept n) ≡ pushed (same || there) (x ∷ filter (has_other_word x) kept) n
push_case x n kept true true e = refl
push_case x n kept false true e = refl
push_case x n kept true false e =
    ap (λ rest. x ∷ rest) (filter-append (has_other_word x) kept (n ∷ []) ∙ ap (λ b. filter (has_other_word x) kept ++ cond (not b) (n ∷ []) []) e ∙ append-nil (filter (has_other_word x) kept))
push_case x n kept false false e =
    ap (λ rest. x ∷ rest) (filter-append (has_other_word x) kept (n ∷ []) ∙ ap (λ b. filter (has_other_word x) kept ++ cond (not b) (n ∷ []) []) e)

there_case : (x n : Notice) (kept : List Notice) (same : Bool) → has_word_of n x ≡ same
    → (same || list_any (has_word_of n) kept) ≡ list_any (has_word_of n) (x ∷ filter (has_other_word x) kept)
there_case x n kept true e = ap (λ b. b || list_any (has_word_of n) (filter (has_other_word x) kept)) (sym e)
there_case x n kept false e = sym (among_others x n kept e) ∙ ap (λ b. b || list_any (has_word_of n) (filter (has_other_word x) kept)) (sym e)

pub each_word_once-push : (notices : List Notice) (n : Notice) → each_word_once (notices ++ n ∷ []) ≡ with_notice (each_word_once notices) n
each_word_once-push [] n = refl
each_word_once-push (x ∷ notices) n =
    let kept = each_word_once notices in
    ap (λ rest. x ∷ filter (has_other_word x) rest) (each_word_once-push notices n)
    ∙ push_case x n kept (has_word_of n x) (list_any (has_word_of n) kept) (nat_list_eq_equiv.symm x.word n.word)
    ∙ ap (λ b. pushed b (x ∷ filter (has_other_word x) kept) n) (there_case x n kept (has_word_of n x) refl)

-- one more answer
moved_case : (before : List Answer) (answer : Answer) (moved : Bool) → answer.moved ≡ moved
    → each_word_once (told_by (before ++ answer ∷ [])) ≡ cond moved (with_notice (each_word_once (told_by before)) (notice_of answer)) (each_word_once (told_by before))
moved_case before answer true m =
    ap (λ a. each_word_once (map notice_of a)) (filter-append (λ a. a.moved) before (answer ∷ []) ∙ ap (λ b. filter (λ a. a.moved) before ++ cond b (answer ∷ []) []) m)
    ∙ ap each_word_once (map-append notice_of (filter (λ a. a.moved) before) (answer ∷ []))
    ∙ each_word_once-push (told_by before) (notice_of answer)
moved_case before answer false m =
    ap (λ a. each_word_once (map notice_of a)) (filter-append (λ a. a.moved) before (answer ∷ []) ∙ ap (λ b. filter (λ a. a.moved) before ++ cond b (answer ∷ []) []) m ∙ append-nil (filter (λ a. a.moved) before))

pub noticed_more : (answers : List Answer) (at : ℕ) (answer : Answer) (told more : List Notice) (moved : Bool) → at < length answers → answer ≡ get_or answers at answer → answer.moved ≡ moved
    → more ≡ cond moved (with_notice told (notice_of answer)) told → told ≡ each_word_once (told_by (take at answers)) → more ≡ each_word_once (told_by (take (at + 1) answers))
noticed_more answers at answer told more moved l e b m so_far =
    m ∙ ap (λ t. cond moved (with_notice t (notice_of answer)) t) so_far ∙ sym (moved_case (take at answers) answer moved b)
    ∙ ap (λ a. each_word_once (told_by a)) (sym (taken_more answers at answer l e))

pub noticed_all : (answers : List Answer) (at : ℕ) (told : List Notice) → length answers ≤ at → told ≡ each_word_once (told_by (take at answers)) → told ≡ notices_of answers
unfolding notices_of
noticed_all answers at told l so_far = so_far ∙ ap (λ a. each_word_once (told_by a)) (take_all at answers l)
