-- What the loop that keeps each text once keeps.
use Rattle.std.proofs.Common.{◌≡◌, ℕ, ◌+◌, ◌<◌, ◌≤◌, Bool, true, false, List, [], ◌∷◌, ◌++◌, length, get_or, take, cond, ap, sym, ◌∙◌, refl}
use Rattle.std.specs.Prelude.{not, ◌||◌, bytes_eq, filter}
use Rattle.std.specs.Cmp.Lexicographic.{nat_list_eq_equiv}
use Rattle.std.proofs.lemmas.List.{take_all, append-nil}
use Rattle.std.proofs.lemmas.List.Folds.{list_any-append}
use Rattle.std.proofs.lemmas.Slice.Eq.{bytes_eq-Decides}
use Rattle.std.proofs.lemmas.List.Elements.{filter-append}
use Rattle.port_name.specs.Sets.{is_among}
use Rattle.port_desc.specs.Dependencies.{each_once}
use Rattle.port_desc.proofs.Turns.{taken_more}
use Rattle.port_desc.proofs.Flavored.{Alike, alike_more}

-- a list with a text at its end, where the text is in it or not
abbrev pub with_text : Bool → List (List ℕ) → List ℕ → List (List ℕ)
with_text there texts text = cond there texts (texts ++ text ∷ [])

abbrev others : List ℕ → List (List ℕ) → List (List ℕ)
others x texts = filter (λ other. not (bytes_eq x other)) texts

last_case : (x : List ℕ) (kept : List (List ℕ)) (text : List ℕ) (equal there : Bool) → bytes_eq x text ≡ equal
    → x ∷ others x (with_text there kept text) ≡ with_text (equal || there) (x ∷ others x kept) text
last_case x kept text true true e = refl
last_case x kept text false true e = refl
last_case x kept text true false e =
    ap (λ rest. x ∷ rest) (filter-append (λ other. not (bytes_eq x other)) kept (text ∷ [])
    ∙ ap (λ b. others x kept ++ cond (not b) (text ∷ []) []) e ∙ append-nil (others x kept))
last_case x kept text false false e =
    ap (λ rest. x ∷ rest) (filter-append (λ other. not (bytes_eq x other)) kept (text ∷ [])
    ∙ ap (λ b. others x kept ++ cond (not b) (text ∷ []) []) e)

pub each_once-push : (texts : List (List ℕ)) (text : List ℕ) → each_once (texts ++ text ∷ []) ≡ with_text (is_among texts text) (each_once texts) text
each_once-push [] text = refl
each_once-push (x ∷ texts) text =
    ap (λ rest. x ∷ others x rest) (each_once-push texts text)
    ∙ last_case x (each_once texts) text (bytes_eq text x) (is_among texts text) (nat_list_eq_equiv.symm x text)

-- the texts so far are known, and each is found once
pub record OnceSoFar (texts before found : List (List ℕ)) (at : ℕ) : Type 0 where
  pub same : Alike before (take at texts)
  pub kept : found ≡ each_once (take at texts)

pub once_begin : (texts before found : List (List ℕ)) → before ≡ [] → found ≡ [] → OnceSoFar texts before found 0
once_begin texts before found b f = record { same = λ name. ap (λ x. is_among x name) b; kept = f }

kept_more : (texts found : List (List ℕ)) (at : ℕ) (text : List ℕ) (there : Bool) → at < length texts → text ≡ get_or texts at text → is_among (take at texts) text ≡ there
    → found ≡ each_once (take at texts) → with_text there found text ≡ each_once (take (at + 1) texts)
kept_more texts found at text there l e t kept =
    ap (λ f. with_text there f text) kept ∙ ap (λ b. with_text b (each_once (take at texts)) text) (sym t)
    ∙ sym (each_once-push (take at texts) text) ∙ ap each_once (sym (taken_more texts at text l e))

or_again : (a b : Bool) → (b ≡ true → a ≡ true) → (a || (b || false)) ≡ a
or_again true b h = refl
or_again false true h = sym (h refl)
or_again false false h = refl

equal_among : (texts : List (List ℕ)) (text name : List ℕ) → is_among texts text ≡ true → bytes_eq name text ≡ true → is_among texts name ≡ true
equal_among texts text name t e = ap (is_among texts) ((bytes_eq-Decides name text).0 e) ∙ t

-- a text that is in a list already changes nothing
pub among_again : (texts : List (List ℕ)) (text : List ℕ) → is_among texts text ≡ true → (name : List ℕ) → is_among texts name ≡ is_among (texts ++ text ∷ []) name
among_again texts text t name =
    sym (or_again (is_among texts name) (bytes_eq name text) (λ equal. equal_among texts text name t equal))
    ∙ sym (list_any-append (bytes_eq name) texts (text ∷ []))

pub once_more : (texts before found longer more : List (List ℕ)) (at : ℕ) (text : List ℕ) → at < length texts → text ≡ get_or texts at text
    → Alike longer (before ++ text ∷ []) → more ≡ with_text (is_among before text) found text → OnceSoFar texts before found at → OnceSoFar texts longer more (at + 1)
once_more texts before found longer more at text l e add m so_far = record {
  same = alike_more before (take at texts) longer (take (at + 1) texts) text so_far.same add (taken_more texts at text l e);
  kept = m ∙ kept_more texts found at text (is_among before text) l e (sym (so_far.same text)) so_far.kept;
}

pub once_end : (texts before found : List (List ℕ)) (at : ℕ) → length texts ≤ at → OnceSoFar texts before found at → found ≡ each_once texts
once_end texts before found at l so_far = so_far.kept ∙ ap each_once (take_all at texts l)
