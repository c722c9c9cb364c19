use Rattle.std.proofs.Common.{◌∙◌, sym}
use Rattle.root_clone.proofs.Seen.{see_in_loop}
use Rattle.root_clone.proofs.conflict.see_all.Goals as goal

pub loop-file-preserved : goal.loop-file-preserved
loop-file-preserved c = λ rest.
    see_in_loop c.args.files.now rest c.loop-file.file-index c.file-item.result c.in_ok-copy.field-0 c.loop-file.seen c.insert.new.self _ _
    c.loop-file-test.true c.file-item.is (sym c.in_ok-meets.ensures ∙ c.if-branch.false) c.in_ok-copy.ensures c.in_ok-insert.ensures.ok (c.loop-file.invariant rest)
