use Rattle.std.proofs.Common.{◌≡◌, ◌≢◌, ◌∙◌, ◌+◌, ap, sym, subst, Vec, Global, ℕ, Err, take}
use Rattle.std.specs.Prelude.{Some}
use Rattle.std.specs.Result.{IfErr}
use Rattle.std.specs.Option.{option_map}
use Rattle.std.specs.FinMap.{get}
use Rattle.outside.specs.Contents.{Contents}
use Rattle.tree_index.specs.Places.{distinfo_file}
use Rattle.job_files.specs.NodeFiles.{by_list, with_listed}
use Rattle.job_files.specs.declared.fault.PlanError.TheVariants.{TreeFault, NoMemory}
use Rattle.job_files.proofs.Lists.{by_first}
use Rattle.job_files.proofs.node_files.add_distfiles.Goals as goal

pub returns-clause-refused : goal.returns-clause-refused
returns-clause-refused g c t =
    let content : Contents = g.T.Tree.content c.args.tree.now in
    let node = c.args.node.now in
    let read : Some c.in-Some.bytes.items ≡ option_map (take 4194305) (get content c.in_ok-path.path) =
    ap (option_map (λ (b : Vec ℕ Global). b.items)) (sym c.in-Some.is) ∙ c.in_ok-bytes.ensures.told t ∙ ap (λ m. option_map (take (m + 1)) (get content c.in_ok-path.path)) c.most.ensures in
    let held : Some c.in-Some.bytes.items ≡ option_map (take 4194305) (get content (distinfo_file node.origin)) =
    read ∙ ap (λ p. option_map (take 4194305) (get content p)) c.in_ok-path.ensures in
    let is : by_list (g.T.Tree.content c.bytes.new.self) node c.args.own c.as_slice.result.now ≡ with_listed content node c.args.own =
    ap (λ m. by_list m node c.args.own c.as_slice.result.now) c.in_ok-bytes.ensures.same
    ∙ by_first content node c.args.own c.in-Some.bytes.items c.as_slice.result.now (get content (distinfo_file node.origin)) c.as_slice.ensures.value held in
    subst (λ r. IfErr c.add_by_list.result (λ e. e ≢ NoMemory → e ≢ TreeFault → r ≡ Err e)) is (c.add_by_list.ensures.refused t)
