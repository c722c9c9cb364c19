use Rattle.std.proofs.Common.{◌≡◌, ap, map, ◌∙◌, rules, tests}
use Rattle.std.specs.Prelude.{filter, bytes_eq, codes}
use Rattle.std.specs.List.{slice_split}
use Rattle.std.specs.Slice.Iter.{split_rest, split_done, split_callee}
use Rattle.std.proofs.lemmas.Iterator.Splits.{YieldsList-from_slice_split}
use Rattle.port_desc.specs.Commands.{is_command}
use Rattle.port_desc.proofs.Turns.{yielded_all}
use Rattle.port_desc.proofs.commands.commands_of.Goals as goal

pub returns : goal.returns
returns c =
    let gives = c.into_iter-piece-iterator.ensures.into_iter_gives in
    let split = c.split-piece-items.ensures in
    let all : map (λ piece. piece.now) c.loop-piece.yielded ≡ slice_split (λ word. bytes_eq word (codes ";")) c.args.words.now =
    yielded_all c.loop-piece.yielded c.loop-piece.piece-iterator c.loop-piece.yielded_by c.next.result c.next.new.self c.in-None.is c.next.ensures.steps
    (YieldsList-from_slice_split _ _ c.args.words.now (ap split_rest gives ∙ split.rest) (ap split_done gives ∙ split.done) (ap split_callee gives ∙ split.closure) (λ x b q k. search (rules, tests)))
    in c.loop-piece.invariant ∙ ap (filter is_command) all
