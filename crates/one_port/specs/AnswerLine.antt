-- What a run prints in place of its lists, and its exit status (docs/FORMATS.md, "Refusals").
use Rattle.std.specs.Prelude.{ℕ, List, [], ◌++◌, codes}
use Rattle.std.specs.Fmt.{decimal}
use Rattle.bulk_model.specs.Lines.{line}
use Rattle.one_port.specs.declared.answer.Answer.{Answer}
use Rattle.one_port.specs.declared.answer.Answer.TheVariants.{Done, Usage, Builders, BadConf, BadPort, DupName, Limit, NoOrigin, NoFlavor, Gone, MovedLoop, NotYet, TreeFault, StoreFault, RoomFault, SinkFault, NoMemory}
use Rattle.one_port.specs.Kind.{Kind, kind_of, printed, bad_words, bad_tree, not_served, tree_failed, store_failed, room_failed, sink_failed, no_memory}
use Rattle.one_port.specs.KindText.{conf_text, port_text, limit_name, spaced}

abbrev pub said : List ℕ → List ℕ
said text = line (codes "poudriere: " ++ text)

-- what is said of a line of a file
abbrev pub said_at : List ℕ → ℕ → List ℕ → List ℕ
said_at path number text = said (path ++ codes ":" ++ decimal number ++ codes ": " ++ text)

-- the one line of an answer that is not Done
abbrev pub answer_line : Answer → List ℕ
answer_line Done = []
answer_line Usage = line (codes "usage: poudriere bulk [-acCnT] [-f path] [-J n] [origin ...]")
answer_line (Builders asked had) = said (decimal asked ++ codes " builders asked, " ++ decimal had ++ codes " rooms")
answer_line (BadConf path number kind) = said_at path number (conf_text kind)
answer_line (BadPort path number kind) = said_at path number (port_text kind)
answer_line (DupName a b name) = said (a ++ codes " and " ++ b ++ codes " are both " ++ name)
answer_line (Limit which count) = said (codes "limit " ++ limit_name which ++ codes ": " ++ decimal count)
answer_line (NoOrigin word) = said (codes "no origin " ++ word)
answer_line (NoFlavor word) = said (codes "no flavor " ++ word)
answer_line (Gone word reason) = said (word ++ codes " was removed: " ++ reason)
answer_line (MovedLoop origins) = said (codes "MOVED comes back:" ++ spaced origins)
answer_line (NotYet path) = said (path ++ codes ": not yet")
answer_line TreeFault = said (codes "tree failed")
answer_line StoreFault = said (codes "store failed")
answer_line (RoomFault builder) = said (codes "room " ++ decimal builder ++ codes " failed")
answer_line SinkFault = said (codes "output failed")
answer_line NoMemory = said (codes "out of memory")

-- the exit status of an answer that is not Done: 2 for a refusal, 3 for a fault, 4 for want of memory
abbrev pub status_by : Kind → ℕ
status_by printed = 0
status_by bad_words = 2
status_by bad_tree = 2
status_by not_served = 2
status_by tree_failed = 3
status_by store_failed = 3
status_by (room_failed builder) = 3
status_by sink_failed = 3
status_by no_memory = 4

abbrev pub answer_status : Answer → ℕ
answer_status answer = status_by (kind_of answer)
