-- A list of distfiles by its first bytes.
use Rattle.std.proofs.Common.{◌≡◌, ◌∙◌, ℕ, ◌+◌, ◌<◌, ◌≤◌, Bool, true, false, List, length, take, ap, sym, refl, cond, arith, Ok}
use Rattle.std.specs.Prelude.{Option, Some, None, nat_le}
use Rattle.std.specs.Option.{option_map, option_map_or}
use Rattle.std.specs.declared.result.Result.{Result}
use Rattle.std.proofs.lemmas.Bool.{leb-true, leb-false, lt-leb}
use Rattle.std.proofs.lemmas.List.{take_all, length-take}
use Rattle.std.proofs.lemmas.Option.{same_Some}
use Rattle.dist_files.specs.declared.dist.Dist.{Dist}
use Rattle.dist_files.specs.Distinfo.{distinfo_of}
use Rattle.outside.specs.Contents.{Contents}
use Rattle.port_vars.specs.Assignment.{◌>>=◌}
use Rattle.tree_index.specs.Faults.{refused_as}
use Rattle.tree_index.specs.Places.{files_folder, distinfo_file}
use Rattle.tree_index.specs.declared.node.NodeInfo.{NodeInfo}
use Rattle.job_files.specs.Distfiles.{entries_in, refuse_kept, distfiles}
use Rattle.job_files.specs.Faults.{dist_fault}
use Rattle.job_files.specs.Gathered.{too_long}
use Rattle.job_files.specs.NodeFiles.{by_list, with_distfiles}
use Rattle.job_files.specs.declared.fault.PlanError.{PlanError}
use Rattle.job_files.specs.declared.gathered.Gathered.{Gathered}

abbrev read : List ℕ → List ℕ → Result (List Dist) PlanError
read path bytes = refused_as (dist_fault path) (distinfo_of bytes)

same_entries : (most : ℕ) (path bytes : List ℕ) (b : Bool) → nat_le (length bytes) most ≡ b
    → cond (nat_le (length (take (most + 1) bytes)) most) (read path (take (most + 1) bytes)) too_long ≡ cond (nat_le (length bytes) most) (read path bytes) too_long
same_entries most path bytes true e =
    let l : length bytes ≤ most = leb-true (length bytes) most e in
    ap (λ bs. cond (nat_le (length bs) most) (read path bs) too_long) (take_all (most + 1) bytes (omega arith))
same_entries most path bytes false e =
    let l : most < length bytes = leb-false (length bytes) most e in
    let long : nat_le (length (take (most + 1) bytes)) most ≡ false = lt-leb (length (take (most + 1) bytes)) most (omega (arith, length-take (most + 1) bytes)) in
    ap (λ b. cond b (read path (take (most + 1) bytes)) too_long) long ∙ sym (ap (λ b. cond b (read path bytes) too_long) e)

-- no more of a list is looked at than one byte past the limit
entries_first : (path bytes : List ℕ) → entries_in path (take 4194305 bytes) ≡ entries_in path bytes
entries_first path bytes = same_entries 4194304 path bytes (nat_le (length bytes) 4194304) refl

list_first : (content : Contents) (node : NodeInfo) (own : Gathered) (bytes : List ℕ) → by_list content node own (take 4194305 bytes) ≡ by_list content node own bytes
list_first content node own bytes =
    ap (λ r. (r >>= (λ dists. refuse_kept (files_folder node.origin) own.files >>= (λ free. Ok dists))) >>= (λ dists. distfiles content node.node own.bytes dists >>= (λ more. Ok (with_distfiles own more))))
    (entries_first (distinfo_file node.origin) bytes)

pub by_first : (content : Contents) (node : NodeInfo) (own : Gathered) (bytes slice : List ℕ) (held : Option (List ℕ)) → slice ≡ bytes → Some bytes ≡ option_map (take 4194305) held
    → by_list content node own slice ≡ option_map_or (by_list content node own) held (Ok own)
by_first content node own bytes slice None s e = absurd (cc)
by_first content node own bytes slice (Some whole) s e =
    ap (by_list content node own) (s ∙ same_Some bytes (take 4194305 whole) e) ∙ list_first content node own whole
