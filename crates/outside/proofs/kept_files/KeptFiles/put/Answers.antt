use Rattle.outside.proofs.Journals.{replayed_on}
use Rattle.outside.proofs.kept_files.KeptFiles.put.Goals as goal

pub invariant_of-self-in_default : goal.invariant_of-self-in_default
invariant_of-self-in_default c =
    replayed_on c.self.inside.changes.items c.push.new.self.items _ c.self.inside.first c.self.inside.files c.insert.new.self
    c.in_ok-push.ensures.items c.self.invariant
    (cc (c.in_default.ensures.ok, c.in_ok-copy.ensures, c.in_ok-name.ensures, c.in_ok-from_slice.ensures, c.in_ok-bytes.ensures))
