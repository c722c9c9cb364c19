use Rattle.std.proofs.Common.{◌∙◌, ap, sym, length, map}
use Rattle.std.specs.List.{filter_map, range_with_len}
use Rattle.std.specs.String.{string_bytes}
use Rattle.std.proofs.lemmas.List.{length_push}
use Rattle.std.proofs.lemmas.Slice.Zip.{zip_turn}
use Rattle.bulk_model.specs.Fit.{status_in}
use Rattle.bulk_model.specs.Lists.{built_entry}
use Rattle.bulk_model.specs.PlanView.{no_job}
use Rattle.bulk_model.specs.Results.{status_of_outcome}
use Rattle.one_port.specs.PortsPlan.{plan_of}
use Rattle.one_port.proofs.PortEntries.{entries_more, built_at}
use Rattle.one_port.proofs.port_lists.built_entries.Goals as goal

pub loop-job-preserved : goal.loop-job-preserved
loop-job-preserved c =
    let turn = zip_turn c.args.jobs.now c.args.outcomes.now c.loop-job.yielded c.into_iter-job-iterator.result c.loop-job.job-iterator c.next.new.self c.next.result (cc) (cc) c.loop-job.yielded_by (c.in-Some.job, c.in-Some.outcome) c.in-Some.is c.next.ensures.steps in
    entries_more (λ n. built_entry (plan_of c.args.jobs.now) n (status_in (map status_of_outcome c.args.outcomes.now) n)) string_bytes (length c.loop-job.yielded)
    c.loop-job.entries.items c.push_entry.new.entries.items c.in_ok-entry.entry c.loop-job.invariant
    (c.in_ok-entry.ensures ∙ built_at c.args.jobs.now c.args.outcomes.now (length c.loop-job.yielded) c.in-Some.job.now c.in-Some.outcome.now turn.1 (turn.2 no_job) (turn.3 c.in-Some.outcome.now))
    c.in_ok-push_entry.ensures
    ∙ ap (λ n. filter_map (λ n. built_entry (plan_of c.args.jobs.now) n (status_in (map status_of_outcome c.args.outcomes.now) n)) (range_with_len 0 n)) (sym (length_push c.loop-job.yielded (c.in-Some.job, c.in-Some.outcome)))
