use Rattle.std.proofs.Common.{◌∙◌, ap, sym, Vec, Global, ℕ, arith}
use Rattle.std.specs.Prelude.{Some}
use Rattle.std.specs.Option.{option_map}
use Rattle.std.specs.FinMap.{get}
use Rattle.one_port.proofs.TakenFiles.{too_large, gone, whole}
use Rattle.one_port.proofs.port_files.take_file.Goals as goal

pub returns-then-len-gt-MOST_FILE_BYTES-clause-told : goal.returns-then-len-gt-MOST_FILE_BYTES-clause-told
returns-then-len-gt-MOST_FILE_BYTES-clause-told g c t =
    too_large 4194304 c.in-Some.bytes.items (get (g.T.Tree.content c.args.tree.now) c.args.path.now)
    (ap (option_map (λ (b : Vec ℕ Global). b.items)) (sym c.in-Some.is) ∙ c.in_ok-bytes.ensures.told t) (omega arith)

pub returns-in-None-clause-told : goal.returns-in-None-clause-told
returns-in-None-clause-told g c t =
    gone 4194304 _ (get (g.T.Tree.content c.args.tree.now) c.args.path.now)
    (ap (option_map (λ (b : Vec ℕ Global). b.items)) (sym c.in-None.is) ∙ c.in_ok-bytes.ensures.told t)

pub returns-in_ok-path_in_folder-in-Some-clause-told : goal.returns-in_ok-path_in_folder-in-Some-clause-told
returns-in_ok-path_in_folder-in-Some-clause-told g c t =
    let held = whole 4194304 _ c.in-Some.bytes.items (get (g.T.Tree.content c.args.tree.now) c.args.path.now)
    (ap (option_map (λ (b : Vec ℕ Global). b.items)) (sym c.in-Some.is) ∙ c.in_ok-bytes.ensures.told t) (omega arith) in
    (held.0, (λ k. Some (record { path = c.in_ok-path_in_folder-in-Some.ensures.path k; bytes = c.from_vec.ensures k })) ∙ held.1)
