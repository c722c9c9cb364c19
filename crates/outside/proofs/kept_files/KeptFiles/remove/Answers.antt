use Rattle.outside.proofs.Journals.{replayed_on}
use Rattle.outside.proofs.kept_files.KeptFiles.remove.Goals as goal

pub invariant_of-self-2 : goal.invariant_of-self-2
invariant_of-self-2 c =
    replayed_on c.self.inside.changes.items c.push.new.self.items _ c.self.inside.first c.self.inside.files c.remove.new.self
    c.in_ok-push.ensures.items c.self.invariant (cc (c.remove.ensures.removed, c.in_ok-copy.ensures))
