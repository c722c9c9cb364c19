-- What a run prints in place of its lists, and its exit status (docs/FORMATS.md, "Refusals").
use Rattle.std.specs.Prelude.{ℕ, List, [], ◌++◌, codes}
use Rattle.std.specs.Fmt.{decimal}
use Rattle.bulk_model.specs.Lines.{line}
use Rattle.run_answer.specs.declared.answer.Answer.{Answer}
use Rattle.run_answer.specs.declared.answer.Answer.TheVariants.{Done, Usage, Builders, BadConf, BadPort, DupName, Limit, NoList, BadList, NoOrigin, NoFlavor, Gone, MovedLoop, NoDepend, MovedDepend, Loop, BadDist, BadCurrent, TreeFault, StoreFault, DistFault, SiteFault, RoomFault, SinkFault, NoMemory}
use Rattle.run_answer.specs.Kind.{Kind, kind_of, printed, refused, bad_site, tree_failed, store_failed, dist_failed, site_failed, room_failed, sink_failed, no_memory}
use Rattle.run_answer.specs.KindText.{conf_text, port_text, dist_text, limit_name, spaced}

-- a line of the program's own
abbrev pub message : List ℕ → List ℕ
message text = line (codes "poudriere: " ++ text)

-- what is said of a line of a file
abbrev pub message_at : List ℕ → ℕ → List ℕ → List ℕ
message_at path number text = message (path ++ codes ":" ++ decimal number ++ codes ": " ++ text)

-- what is said of a distfile
abbrev pub dist_line : List ℕ → List ℕ → List ℕ → List ℕ
dist_line port file differs = message (port ++ codes ": distfile " ++ file ++ codes ": " ++ differs)

-- the one line of an answer that is not Done, of a command with that usage line
abbrev pub answer_line : List ℕ → Answer → List ℕ
answer_line usage Done = []
answer_line usage Usage = line usage
answer_line usage (Builders asked had) =
    message (decimal asked ++ codes " builders asked, " ++ decimal had ++ codes " rooms")
answer_line usage (BadConf path number kind) = message_at path number (conf_text kind)
answer_line usage (BadPort path number kind) = message_at path number (port_text kind)
answer_line usage (DupName a b name) =
    message (a ++ codes " and " ++ b ++ codes " are both " ++ name)
answer_line usage (Limit which count) =
    message (codes "limit " ++ limit_name which ++ codes ": " ++ decimal count)
answer_line usage (NoList path) = message (codes "no list " ++ path)
answer_line usage (BadList path number) =
    message (codes "bad list " ++ path ++ codes ":" ++ decimal number)
answer_line usage (NoOrigin word) = message (codes "no origin " ++ word)
answer_line usage (NoFlavor word) = message (codes "no flavor " ++ word)
answer_line usage (Gone word reason) = message (word ++ codes " was removed: " ++ reason)
answer_line usage (MovedLoop origins) = message (codes "MOVED comes back:" ++ spaced origins)
answer_line usage (NoDepend port origin) =
    message (port ++ codes " depends on " ++ origin ++ codes ", which is not there")
answer_line usage (MovedDepend port old new) =
    message (port ++ codes " depends on " ++ old ++ codes ", which moved to " ++ new)
answer_line usage (Loop ports) = message (codes "dependency loop:" ++ spaced ports)
answer_line usage (BadDist port file why) = dist_line port file (dist_text why)
answer_line usage BadCurrent = message (codes "bad current")
answer_line usage TreeFault = message (codes "tree failed")
answer_line usage StoreFault = message (codes "store failed")
answer_line usage DistFault = message (codes "distfiles failed")
answer_line usage SiteFault = message (codes "site failed")
answer_line usage (RoomFault builder) =
    message (codes "room " ++ decimal builder ++ codes " failed")
answer_line usage SinkFault = message (codes "output failed")
answer_line usage NoMemory = message (codes "out of memory")

-- the exit status of an answer that is not Done: 2 for a refusal, 3 for a fault, 4 for want of
-- memory
abbrev pub status_by : Kind → ℕ
status_by printed = 0
status_by refused = 2
status_by bad_site = 2
status_by tree_failed = 3
status_by store_failed = 3
status_by dist_failed = 3
status_by site_failed = 3
status_by (room_failed builder) = 3
status_by sink_failed = 3
status_by no_memory = 4

abbrev pub answer_status : Answer → ℕ
answer_status answer = status_by (kind_of answer)
