use Rattle.std.proofs.Common.{◌≡◌, length}
use Rattle.std.specs.Vec.Iter.{into_iter_items, into_iter_len}
use Rattle.outside.specs.Given.{with_files, content_of}
use Rattle.outside.proofs.folder.collected.Given as goal

abbrev pub invariant-loop-file : goal.invariant-loop-file
invariant-loop-file l = (with_files l.content (into_iter_items l.file-iterator) ≡ content_of l.fn.files) × (into_iter_len l.file-iterator ≡ length (into_iter_items l.file-iterator))
