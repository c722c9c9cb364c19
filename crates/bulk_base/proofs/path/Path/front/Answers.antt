use Rattle.std.proofs.Common.{subst, sym}
use Rattle.std.specs.Str.{IsUtf8}
use Rattle.std.proofs.lemmas.Str.{IsCharBoundary-start}
use Rattle.bulk_base.proofs.path.Path.front.Goals as goal

pub piece-requires-clause-starts : goal.piece-requires-clause-starts
piece-requires-clause-starts c = IsCharBoundary-start c.self.inside.text (subst IsUtf8 (sym c.self.view_is) c.requires.text.0)
