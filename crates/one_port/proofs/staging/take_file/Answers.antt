use Rattle.std.proofs.Common.{◌≡◌, ℕ, List, take, ap, sym, ◌∙◌, Vec, Global}
use Rattle.std.specs.Prelude.{Option, Some, None}
use Rattle.std.specs.Option.{option_map}
use Rattle.std.specs.FinMap.{get}
use Rattle.bulk_base.specs.declared.file.FileItem.{FileItem}
use Rattle.one_port.specs.RoomBuild.{cut_file}
use Rattle.one_port.proofs.staging.take_file.Goals as goal

file_of : List ℕ → List ℕ → FileItem
file_of path bytes = record { path = path; bytes = bytes }

-- a file's first bytes under a path are the file under that path, cut
cut_when_taken : (most : ℕ) (path : List ℕ) (taken found : Option (List ℕ)) → taken ≡ option_map (take most) found
    → option_map (λ bytes. record { path = path; bytes = bytes }) taken ≡ option_map (cut_file most) (option_map (λ bytes. record { path = path; bytes = bytes }) found)
cut_when_taken most path taken None h = ap (option_map (λ bytes. record { path = path; bytes = bytes })) h
cut_when_taken most path taken (Some bytes) h = ap (option_map (λ bytes. record { path = path; bytes = bytes })) h

pub returns-in_ok-path_in_stage-in-Some-clause-told :
    goal.returns-in_ok-path_in_stage-in-Some-clause-told
returns-in_ok-path_in_stage-in-Some-clause-told g c t =
    (λ k. Some (record { path = c.in_ok-path_in_stage-in-Some.ensures.path k; bytes = c.from_vec.ensures k }))
    ∙ cut_when_taken c.args.most _ (Some c.in-Some.bytes.items) (get (g.R.Room.folder c.args.room.now) c.args.path.now)
    (ap (option_map (λ (b : Vec ℕ Global). b.items)) (sym c.in-Some.is) ∙ c.in_ok-bytes.ensures.told t)

pub returns-in-None-clause-told : goal.returns-in-None-clause-told
returns-in-None-clause-told g c t =
    cut_when_taken c.args.most _ None (get (g.R.Room.folder c.args.room.now) c.args.path.now)
    (ap (option_map (λ (b : Vec ℕ Global). b.items)) (sym c.in-None.is) ∙ c.in_ok-bytes.ensures.told t)
