use Rattle.std.proofs.Common.{◌≡◌, ◌∙◌, subst, sym}
use Rattle.bulk_model.specs.Facts.{IsJob}
use Rattle.tree_index.specs.Places.{origin_name}
use Rattle.plan_maker.proofs.JobForm.{IsJob-node}
use Rattle.plan_maker.proofs.node_job.job_with.Goals as goal

pub invariant_of-result : goal.invariant_of-result
invariant_of-result c =
    let node = c.args.node.now in
    let name : c.in_ok-copy.field-0 ≡ node.desc.name = c.in_ok-copy.ensures in
    let origin : c.in_ok-origin_name.field-0 ≡ origin_name node.origin = c.in_ok-origin_name.ensures in
    let flavor : c.in_ok-copy_of.field-0 ≡ node.flavor = c.in_ok-copy_of.ensures ∙ c.as_ref.ensures.value in
    let options : c.in_ok-switch_copies.field-0 ≡ node.options = c.in_ok-switch_copies.ensures ∙ c.as_slice.ensures in
    let steps : c.in_ok-copy-2.field-0 ≡ node.desc.steps = c.in_ok-copy-2.ensures in
    subst IsJob (λ k. record {
      name = sym name k;
      origin = sym origin k;
      flavor = sym flavor k;
      options = sym options k;
      depends = sym c.depends.view_is k;
      steps = sym steps k;
      files = c.args.files;
    }) (IsJob-node node c.args.depends c.args.files c.requires.node c.requires.depends c.requires.files)
