use Rattle.std.proofs.Common.{◌≡◌, ◌++◌}
use Rattle.origin_flavor.proofs.notice_list.NoticeList.into_notices.Given as goal

abbrev pub invariant-loop-notice : goal.invariant-loop-notice
invariant-loop-notice l = l.found ++ l.notice-iterator ≡ l.fn.self
