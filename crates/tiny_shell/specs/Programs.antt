-- The programs that rooms in memory know, by what they do to a folder (docs/FORMATS.md).
use Rattle.std.specs.Prelude.{◌≡◌, Result, Ok, Err, ℕ, Bool, ◌&&◌, nat_le, if◌then◌else◌, List, [], ◌∷◌, ◌++◌, Option, Some, None, bytes_eq, codes, replicate}
use Rattle.std.specs.List.{list_all, flat_map}
use Rattle.std.specs.Option.{option_map, option_and_then}
use Rattle.std.specs.FinMap.{get, insert, remove, contains_key}
use Rattle.bulk_base.specs.Path.{is_path}
use Rattle.bulk_base.specs.Number.{number_of}
use Rattle.outside.specs.Contents.{Contents, can_hold, files_below}

-- writes a file, in place of one that was there: 2 where the path is none, 1 where no file can
-- stand at it
abbrev pub written : List ℕ → List ℕ → Contents → ℕ × Contents
written path bytes folder =
    if is_path path then (if can_hold path folder then (0, insert folder path bytes) else (1, folder))
    else (2, folder)

-- true: 0
abbrev pub true_status : List (List ℕ) → ℕ
true_status [] = 0
true_status _ = 2

-- false: 1
abbrev pub false_status : List (List ℕ) → ℕ
false_status [] = 1
false_status _ = 2

-- the number, if it is at most 255
abbrev pub small_status : Option ℕ → ℕ
small_status (Some number) = if nat_le number 255 then number else 2
small_status None = 2

-- exit N: N, at most 255
abbrev pub exit_status : List (List ℕ) → ℕ
exit_status (number ∷ []) = small_status (number_of number)
exit_status _ = 2

-- the words with a space between, and a line feed
abbrev pub line_of : List ℕ → List (List ℕ) → List ℕ
line_of word words = word ++ flat_map (λ next. 32 ∷ next) words ++ 10 ∷ []

-- put PATH WORD ..: writes the words as a line
abbrev pub run_put : List (List ℕ) → Contents → ℕ × Contents
run_put (path ∷ word ∷ words) folder = written path (line_of word words) folder
run_put _ folder = (2, folder)

-- writes what a file holds to a path; 1 where the file is absent
abbrev pub copied : Option (List ℕ) → List ℕ → Contents → ℕ × Contents
copied (Some bytes) path folder = written path bytes folder
copied None path folder = (1, folder)

-- cp FROM TO: copies a file
abbrev pub run_cp : List (List ℕ) → Contents → ℕ × Contents
run_cp (from ∷ to ∷ []) folder =
    if is_path from then (if is_path to then copied (get folder from) to folder else (2, folder))
    else (2, folder)
run_cp _ folder = (2, folder)

-- what files hold, one after another, where all are there
abbrev pub all_of : List (List ℕ) → Contents → Option (List ℕ)
all_of [] folder = Some []
all_of (path ∷ paths) folder =
    option_and_then (λ bytes. option_map (λ more. bytes ++ more) (all_of paths folder))
    (get folder path)

-- cat TO FROM ..: writes files one after another
abbrev pub run_cat : List (List ℕ) → Contents → ℕ × Contents
run_cat (to ∷ from ∷ more) folder =
    if is_path to && list_all is_path (from ∷ more) then copied (all_of (from ∷ more) folder) to folder
    else (2, folder)
run_cat _ folder = (2, folder)

-- test PATH: whether the file is there
abbrev pub test_status : List (List ℕ) → Contents → ℕ
test_status (path ∷ []) folder =
    if is_path path then (if contains_key folder path then 0 else 1) else 2
test_status _ folder = 2

-- rm PATH: takes the file away
abbrev pub run_rm : List (List ℕ) → Contents → ℕ × Contents
run_rm (path ∷ []) folder =
    if is_path path then
    (if contains_key folder path then (0, remove folder path) else (1, folder))
    else (2, folder)
run_rm _ folder = (2, folder)

-- so many bytes `x`, at most 1,048,576
abbrev pub filled : Option ℕ → List ℕ → Contents → ℕ × Contents
filled (Some count) path folder =
    if nat_le count 1048576 then written path (replicate count 120) folder else (2, folder)
filled None path folder = (2, folder)

-- fill PATH N: writes N bytes `x`
abbrev pub run_fill : List (List ℕ) → Contents → ℕ × Contents
run_fill (path ∷ count ∷ []) folder = filled (number_of count) path folder
run_fill _ folder = (2, folder)

-- paths, each with a line feed
abbrev pub listed : List (List ℕ) → List ℕ
listed paths = flat_map (λ path. path ++ 10 ∷ []) paths

-- list TO FOLDER: writes the paths of the files below the folder, as they were before
abbrev pub run_list : List (List ℕ) → Contents → ℕ × Contents
run_list (to ∷ below ∷ []) folder =
    if is_path below then written to (listed (files_below below folder)) folder else (2, folder)
run_list _ folder = (2, folder)

-- the status and the folder after a command: 127 where there is no such program, and 2 where its
-- arguments are wrong
abbrev pub mem_runs : List (List ℕ) → Contents → ℕ × Contents
mem_runs [] folder = (127, folder)
mem_runs (program ∷ arguments) folder =
    if bytes_eq program (codes "true") then (true_status arguments, folder)
    else (if bytes_eq program (codes "false") then (false_status arguments, folder)
    else (if bytes_eq program (codes "exit") then (exit_status arguments, folder)
    else (if bytes_eq program (codes "put") then run_put arguments folder
    else (if bytes_eq program (codes "cp") then run_cp arguments folder
    else (if bytes_eq program (codes "cat") then run_cat arguments folder
    else (if bytes_eq program (codes "test") then (test_status arguments folder, folder)
    else (if bytes_eq program (codes "rm") then run_rm arguments folder
    else (if bytes_eq program (codes "fill") then run_fill arguments folder
    else (if bytes_eq program (codes "list") then run_list arguments folder
    else (127, folder))))))))))

-- a command ended with this status and left this folder; on an error it left the folder as it was
abbrev pub EndsWith : {E : Type 0} → ℕ × Contents → Contents → Contents → Result ℕ E → Type 0
EndsWith expected before now (Ok status) = (status ≡ expected.0) × (now ≡ expected.1)
EndsWith expected before now (Err _) = now ≡ before
