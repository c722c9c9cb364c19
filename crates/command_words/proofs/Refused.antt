-- The law on usage, from the definition of what words ask for.
use Rattle.std.proofs.Common.{◌≡◌, ◌≢◌, ◌↔◌, ◌⊎◌, ◌∙◌, ◌==◌, ◌≤◌, slice_index_or, Bool, true, false, not, cond, ℕ, List, [], ◌∷◌, length, Option, option_map, Some, None, inl, inr, refl, ap, sym, arith, ne_eqb, codes}
use Rattle.std.specs.Option.{option_map_or}
use Rattle.clap.specs.Kinds.{Kinds}
use Rattle.clap.specs.Walk.{Row, Text, first_of, is_empty}
use Rattle.clap.specs.Simple.{matches_of}
use Rattle.clap.specs.Faults.{fault_of}
use Rattle.bulk_base.specs.Number.{number_of}
use Rattle.command_words.specs.declared.description.Flags.{Flags}
use Rattle.command_words.specs.declared.description.Flags.TheVariants.{OfBulk, OfPkgclean}
use Rattle.command_words.specs.declared.asked.Asked.{Asked}
use Rattle.command_words.specs.declared.asked.Asked.TheVariants.{Usage}
use Rattle.command_words.specs.declared.asked.CommandName.TheVariants.{Bulk as OfBulkName, PkgClean as OfPkgcleanName}
use Rattle.command_words.specs.declared.asked.PortWords.{PortWords}
use Rattle.command_words.specs.Description.{description}
use Rattle.command_words.specs.Reading.{read_by}
use Rattle.command_words.specs.Asked.{are_fit, flags_asked, words_asked, matches_asked, asked_of, builders_of, bulk_words, flags_of, name_of, pkgclean_words, ports_of}
use Rattle.command_words.specs.Refused.{BreaksARule, HasUsageWhereRefused, IsAllBeside, IsNoNumber, IsRefused, NamesNone}

-- ---- `-a`, `-f` and origins

abbrev Amiss : PortWords → Type 0
Amiss ports = IsAllBeside ports ⊎ NamesNone ports

unfit_to : (all : Bool) (list : Option Text) (origins : List Text)
    → are_fit (record { all = all; list = list; origins = origins }) ≡ false → Amiss (record { all = all; list = list; origins = origins })
unfit_to true None [] e = cc
unfit_to true None (o ∷ os) e = inl (refl, inr (λ no. cc))
unfit_to true (Some t) os e = inl (refl, inl refl)
unfit_to false None [] e = inr (refl, refl, refl)
unfit_to false None (o ∷ os) e =
    let some : (length (o ∷ os) == 0) ≡ false = ne_eqb _ _ (λ z. omega arith) in
    absurd (impossible (length (o ∷ os) == 0) some e)
  where
    impossible : (b : Bool) → b ≡ false → not b ≡ false → ⊥
    impossible true p q = cc
    impossible false p q = cc
unfit_to false (Some t) os e = cc

amiss_from : (all : Bool) (list : Option Text) (origins : List Text)
    → Amiss (record { all = all; list = list; origins = origins }) → are_fit (record { all = all; list = list; origins = origins }) ≡ false
amiss_from true (Some t) os (inl h) = refl
amiss_from true None [] (inl (all, inl some)) = cc
amiss_from true None [] (inl (all, inr origins)) = absurd (origins refl)
amiss_from true None (o ∷ os) (inl h) =
    let some : (length (o ∷ os) == 0) ≡ false = ne_eqb _ _ (λ z. omega arith) in
    rw some refl
amiss_from false list os (inl h) = let no = h.0 in cc
amiss_from true list os (inr h) = let no = h.0 in cc
amiss_from false list os (inr h) = rw (h.1, h.2) refl

-- ---- the number of builders

no_number_to : (value : Option Text) → builders_of value ≡ None → IsNoNumber value
no_number_to None e = cc
no_number_to (Some text) e = go (number_of text) e
  where
    go : (o : Option ℕ) → option_map (λ n. Some n) o ≡ None → o ≡ None
    go None p = refl
    go (Some n) p = cc

no_number_from : (value : Option Text) → IsNoNumber value → builders_of value ≡ None
no_number_from None h = absurd h
no_number_from (Some text) h = ap (option_map (λ n. Some n)) h

-- ---- the two commands

bulk_to : (rows : List Row) (fit : Bool) (builders : Option (Option ℕ))
    → cond fit (option_map_or (bulk_words rows) builders (Usage OfBulkName)) (Usage OfBulkName) ≡ Usage OfBulkName
    → (builders ≡ None) ⊎ (fit ≡ false)
bulk_to rows false builders e = inr refl
bulk_to rows true None e = inl refl
bulk_to rows true (Some n) e = cc

bulk_from : (rows : List Row) (fit : Bool) (builders : Option (Option ℕ)) → (builders ≡ None) ⊎ (fit ≡ false)
    → cond fit (option_map_or (bulk_words rows) builders (Usage OfBulkName)) (Usage OfBulkName) ≡ Usage OfBulkName
bulk_from rows false builders h = refl
bulk_from rows true None h = refl
bulk_from rows true (Some n) (inl h) = cc
bulk_from rows true (Some n) (inr h) = cc

broken_to : (flags : Flags) (rows : List Row) → matches_asked flags rows ≡ Usage (name_of flags) → BreaksARule flags rows
broken_to OfBulk rows e =
    elim (bulk_to rows (are_fit (ports_of rows)) (builders_of (first_of (codes "builders") rows)) e) [
      | inl none ↦ inl (no_number_to (first_of (codes "builders") rows) none)
      | inr unfit ↦ inr (unfit_to (ports_of rows).all (ports_of rows).list (ports_of rows).origins unfit)
    ]
broken_to OfPkgclean rows e =
    unfit_to (ports_of rows).all (ports_of rows).list (ports_of rows).origins (go (are_fit (ports_of rows)) e)
  where
    go : (fit : Bool) → cond fit (pkgclean_words rows) (Usage OfPkgcleanName) ≡ Usage OfPkgcleanName → fit ≡ false
    go true p = cc
    go false p = refl

broken_from : (flags : Flags) (rows : List Row) → BreaksARule flags rows → matches_asked flags rows ≡ Usage (name_of flags)
broken_from OfBulk rows (inl number) =
    bulk_from rows (are_fit (ports_of rows)) (builders_of (first_of (codes "builders") rows)) (inl (no_number_from (first_of (codes "builders") rows) number))
broken_from OfBulk rows (inr amiss) =
    bulk_from rows (are_fit (ports_of rows)) (builders_of (first_of (codes "builders") rows))
    (inr (amiss_from (ports_of rows).all (ports_of rows).list (ports_of rows).origins amiss))
broken_from OfPkgclean rows amiss =
    ap (λ fit. cond fit (pkgclean_words rows) (Usage OfPkgcleanName)) (amiss_from (ports_of rows).all (ports_of rows).list (ports_of rows).origins amiss)

-- ---- both with clap's faults

without_fault : (flags : Flags) (kinds : Kinds) (rows : List Row) → kinds ≡ []
    → (kinds ≢ []) ⊎ BreaksARule flags rows → matches_asked flags rows ≡ Usage (name_of flags)
without_fault flags kinds rows none (inl some) = absurd (some none)
without_fault flags kinds rows none (inr broken) = broken_from flags rows broken

usage_by_kinds : (flags : Flags) (kinds : Kinds) (rows : List Row)
    → (option_map_or (matches_asked flags) (cond (is_empty kinds) (Some rows) None) (Usage (name_of flags)) ≡ Usage (name_of flags))
    ↔ ((kinds ≢ []) ⊎ BreaksARule flags rows)
usage_by_kinds flags [] rows = (λ e. inr (broken_to flags rows e), λ h. without_fault flags [] rows refl h)
usage_by_kinds flags (k ∷ kinds) rows =
    let some : (length (k ∷ kinds) == 0) ≡ false = ne_eqb _ _ (λ e. omega arith) in
    (λ e. inl (λ no. cc), λ h. rw some refl)

usage_by_flags : (flags : Flags) (words : List Text) → (flags_asked flags words ≡ Usage (name_of flags)) ↔ IsRefused flags words
unfolding read_by
usage_by_flags flags words = usage_by_kinds flags (fault_of (description flags) words) (matches_of (description flags) words)

chosen : (command : Text) (rest : List Text) (flags : Flags) → flags_of command ≡ Some flags
    → asked_of (command ∷ rest) ≡ flags_asked flags (command ∷ rest)
chosen command rest flags is =
    ap (λ o. option_map_or (λ f. flags_asked f (command ∷ rest)) o (words_asked command rest)) is

-- the same where the code has the first word as an item of a slice
pub chosen_item : (words : List Text) (item : Text) (flags : Flags) → 1 ≤ length words → item ≡ slice_index_or words 0 item
    → Some flags ≡ flags_of item → flags_asked flags words ≡ asked_of words
chosen_item [] item flags some at is = absurd (omega arith)
chosen_item (command ∷ rest) item flags some at is = sym (chosen command rest flags (ap flags_of (sym at) ∙ sym is))

pub usage_where_refused : (words : List Text) (found : Asked) → found ≡ asked_of words → HasUsageWhereRefused words found
usage_where_refused words found is command rest flags first by =
    let same = is ∙ ap asked_of first ∙ chosen command rest flags by ∙ ap (flags_asked flags) (sym first) in
    let law = usage_by_flags flags words in
    (λ e. law.0 (sym same ∙ e), λ h. same ∙ law.1 h)
