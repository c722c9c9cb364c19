-- The files of a package may be those of a job.
use Rattle.std.proofs.Common.{◌≡◌, ℕ, true, List, [], ◌∷◌, length, arith, refl}
use Rattle.std.specs.Prelude.{nat_le}
use Rattle.std.specs.List.{list_all}
use Rattle.std.proofs.lemmas.Bool.{and_parts, and_from}
use Rattle.std.proofs.lemmas.Bool.Decides.{nat_tests}
use Rattle.bulk_base.specs.declared.file.FileItem.{FileItem}
use Rattle.bulk_model.specs.Facts.{IsFileList, paths_of}

one_more : (n : ℕ) → nat_le n 1018 ≡ true → nat_le n 1019 ≡ true
one_more n h = grind (arith, nat_tests)

all_more : (paths : List (List ℕ)) → list_all (λ path. nat_le (length path) 1018) paths ≡ true → list_all (λ path. nat_le (length path) 1019) paths ≡ true
all_more [] h = refl
all_more (path ∷ paths) h =
    let both = and_parts (nat_le (length path) 1018) (list_all (λ path. nat_le (length path) 1018) paths) h in
    and_from _ _ (one_more (length path) both.0) (all_more paths both.1)

pub job_files : (files : List FileItem) → IsFileList 1018 files → IsFileList 1019 files
job_files files f = record { order = f.order; apart = f.apart; short = all_more (paths_of files) f.short }
