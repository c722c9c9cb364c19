-- The files that go, one more after another.
use Rattle.std.proofs.Common.{◌≡◌, ℕ, ◌+◌, ◌<◌, Bool, true, false, List, [], ◌∷◌, ◌++◌, length, get_or, take, ap, sym, ◌∙◌, cond}
use Rattle.std.specs.Prelude.{Option, Some, None, unwrap_or}
use Rattle.std.specs.Option.{option_map}
use Rattle.std.specs.List.{filter_map, cons_option}
use Rattle.std.specs.FinMap as files
use Rattle.std.proofs.lemmas.List.{take_more}
use Rattle.std.proofs.lemmas.List.Elements.{filter_map-append}
use Rattle.std.proofs.lemmas.List.Sums.{fold-append}
use Rattle.bulk_model.specs.FileNames.{package_file}
use Rattle.bulk_model.specs.Flags.{flag}
use Rattle.bulk_model.specs.Views.{PackageView}
use Rattle.bulk_model.specs.declared.reason.Reason.{Reason}
use Rattle.bulk_model.specs.declared.reason.Reason.TheVariants.{MissingDepend}
use Rattle.bulk_model.specs.declared.reason.Stale.{Stale}
use Rattle.stale_check.specs.Placing.{member_at, no_member}
use Rattle.stale_check.specs.Recording.{Goes}
use Rattle.stale_check.specs.Stale.{Reasons, stale_at, with_reason, with_packages}

-- ---- the reasons of packages

packages_more : (goes : PackageView → Option Reason) (start : Reasons) (members : List PackageView) (at : ℕ) → at < length members
    → with_packages goes start (take (at + 1) members)
    ≡ with_reason (with_packages goes start (take at members)) (package_file (member_at members at).name) (goes (member_at members at))
packages_more goes start members at l =
    ap (with_packages goes start) (take_more members at no_member l)
    ∙ fold-append (λ (to : Reasons) (p : PackageView). with_reason to (package_file p.name) (goes p)) start (take at members) (member_at members at ∷ [])

module _ (goes : PackageView → Option Reason) (start : Reasons) (members : List PackageView) (own : List (Option Reason)) (lost : List Bool) (at : ℕ)
    (within : at < length members) (goes_are : Goes members own lost goes) (before after : Reasons) (so_far : before ≡ with_packages goes start (take at members)) where
  -- one that goes
  pub package_goes : (name : List ℕ) (reason : Reason) → flag lost at ≡ true → name ≡ package_file (member_at members at).name → reason ≡ unwrap_or (get_or own at None) MissingDepend
      → after ≡ files.insert before name reason → after ≡ with_packages goes start (take (at + 1) members)
  package_goes name reason f n r e =
      let is : goes (member_at members at) ≡ Some reason =
      goes_are at within ∙ ap (λ b. cond b (Some (unwrap_or (get_or own at None) MissingDepend)) None) f ∙ ap Some (sym r) in
      e ∙ ap (λ k. files.insert before k reason) n
      ∙ ap (λ b. files.insert b (package_file (member_at members at).name) reason) so_far
      ∙ ap (with_reason (with_packages goes start (take at members)) (package_file (member_at members at).name)) (sym is)
      ∙ sym (packages_more goes start members at within)

  -- one that stays
  pub package_stays : flag lost at ≡ false → after ≡ before → after ≡ with_packages goes start (take (at + 1) members)
  package_stays f e =
      let is : goes (member_at members at) ≡ None =
      goes_are at within ∙ ap (λ b. cond b (Some (unwrap_or (get_or own at None) MissingDepend)) None) f in
      e ∙ so_far
      ∙ ap (with_reason (with_packages goes start (take at members)) (package_file (member_at members at).name)) (sym is)
      ∙ sym (packages_more goes start members at within)

-- ---- the list

abbrev pub stale_of : List ℕ → Option Reason → Option Stale
stale_of file reason = option_map (λ r. let s : Stale = record { file = file; reason = r } in s) reason

pub stale_more : (reasons : Reasons) (items : List (List ℕ)) (i : ℕ) (found : Option Reason) (before after : List Stale) → i < length items → found ≡ files.get reasons (get_or items i [])
    → before ≡ filter_map (stale_at reasons) (take i items) → after ≡ before ++ cons_option (stale_of (get_or items i []) found) [] → after ≡ filter_map (stale_at reasons) (take (i + 1) items)
stale_more reasons items i found before after l is e step =
    step ∙ ap (λ r. before ++ cons_option (stale_of (get_or items i []) r) []) is ∙ ap (λ xs. xs ++ cons_option (stale_at reasons (get_or items i [])) []) e
    ∙ sym (filter_map-append (stale_at reasons) (take i items) (get_or items i [] ∷ [])) ∙ ap (filter_map (stale_at reasons)) (sym (take_more items i [] l))

-- one more of what a list gives
pub given_more : {X Y : Type 0} (f : X → Option Y) (xs : List X) (i : ℕ) (x : X) (found : Option Y) (before after : List Y) → i < length xs → x ≡ get_or xs i x → found ≡ f x
    → before ≡ filter_map f (take i xs) → after ≡ before ++ cons_option found [] → after ≡ filter_map f (take (i + 1) xs)
given_more f xs i x found before after l is e so_far step =
    step ∙ ap (λ o. before ++ cons_option o []) (e ∙ ap f is) ∙ ap (λ ys. ys ++ cons_option (f (get_or xs i x)) []) so_far
    ∙ sym (filter_map-append f (take i xs) (get_or xs i x ∷ [])) ∙ ap (filter_map f) (sym (take_more xs i x l))
