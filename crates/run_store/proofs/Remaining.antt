-- What a test by name keeps of packages is what is left of them.
use Rattle.std.proofs.Common.{◌≡◌, ◌<◌, Bool, true, not, List, length, ap, subst, refl, ◌∙◌}
use Rattle.std.specs.Prelude.{Option, filter, Contains, bytes_eq, is_some}
use Rattle.std.proofs.lemmas.List.{get_or_default}
use Rattle.std.specs.Cmp.Lexicographic.{bytes_decides}
use Rattle.bulk_base.proofs.Members.{member_any, filter_into, filter_out_of}
use Rattle.bulk_model.specs.Views.{PackageView}
use Rattle.bulk_model.specs.declared.reason.Reason.{Reason}
use Rattle.stale_check.specs.Fresh.{IsGreatest}
use Rattle.stale_check.specs.Lost.{AreLost}
use Rattle.stale_check.specs.Placing.{member_at, no_member}
use Rattle.stale_check.specs.Stale.{left, is_left}
use Rattle.stale_check.proofs.Passes.{has_all_more, fresh_is_greatest, greatest_is_fresh}

module _ (own : PackageView → Option Reason) (members : List PackageView) (lost : List Bool) (are : AreLost own members lost) where
  some : List PackageView
  some = filter (is_left own members) members

  greatest : IsGreatest (λ p. is_some (own p)) members (left own members)
  greatest = fresh_is_greatest (λ p. is_some (own p)) members

  -- a member whose name is left is left
  is_there : (p : PackageView) → Contains some p → Contains (left own members) p
  unfolding some
  is_there p c =
      let both : Contains members p × (is_left own members p ≡ true) = filter_out_of (is_left own members) members p c in
      let here : both.0.0 < length members = both.0.1 in
      let is : member_at members both.0.0 ≡ p = get_or_default members both.0.0 no_member p here ∙ both.0.2 in
      subst (λ x. Contains (left own members) x) is
      (are.kept both.0.0 here (are.marked both.0.0 here ∙ ap not (ap (is_left own members) is ∙ both.1)))

  -- and what is left is such a member
  is_kept : (p : PackageView) → Contains (left own members) p → Contains some p
  unfolding some
  is_kept p c =
      filter_into (is_left own members) members p (greatest.within p c)
      (member_any (λ (other : PackageView). bytes_eq p.name other.name) (left own members) p c ((bytes_decides p.name p.name).1 refl))

  pub left_is : filter (is_left own members) members ≡ left own members
  unfolding some
  left_is =
      greatest_is_fresh (λ p. is_some (own p)) members (is_left own members)
      (record {
        within = λ p c. greatest.within p (is_there p c);
        closed = λ p c. has_all_more (left own members) some is_kept p (greatest.closed p (is_there p c));
        free = λ p c. greatest.free p (is_there p c);
        greatest = λ others within closed free p c. is_kept p (greatest.greatest others within closed free p c);
      })
