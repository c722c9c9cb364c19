use Rattle.std.proofs.Common.{◌++◌, ◌∙◌, ap, inr, length}
use Rattle.std.proofs.lemmas.Slice.Zip.{AllZip-long}
use Rattle.one_port.specs.PortsRun.{IsBuildAlone}
use Rattle.one_port.specs.PortsWanted.{names_of}
use Rattle.one_port.proofs.PortsBuilt.{began_all, has_stored_first}
use Rattle.one_port.proofs.port_run.run_ports.Goals as goal

pub returns-in-Err-store_all-clause-left : goal.returns-in-Err-store_all-clause-left
returns-in-Err-store_all-clause-left g c t =
    inr (has_stored_first g.R.Ways.Ways.tells g.R.Ways.Ways.runs c.args.ports.now.jobs c.as_slice-jobs.result.now c.in-Ok.outcomes c.as_slice.result.now (g.S.Store.content c.args.store.now) (g.S.Store.content c.store_all.new.store)
    (c.as_slice-jobs.ensures ∙ ap (λ p. p.jobs) c.ports.view_is) c.as_slice.ensures c.in-Ok.ensures.builds (c.store_all.ensures.left t))

pub returns-in-Err-store_all-clause-begun : goal.returns-in-Err-store_all-clause-begun
returns-in-Err-store_all-clause-begun g c =
    began_all c.args.ports.now.jobs (g.R.Room.begun c.args.room.now) (g.R.Room.begun c.build_all.new.room) (c.in-Ok.ensures.begun ∙ ap (λ jobs. g.R.Room.begun c.args.room.now ++ names_of jobs) (c.as_slice-jobs.ensures ∙ ap (λ p. p.jobs) c.ports.view_is))

pub ports_report-requires : goal.ports_report-requires
ports_report-requires g c =
    ap length c.as_slice-in-Ok-store_all-2.ensures ∙ AllZip-long (IsBuildAlone g.R.Ways.Ways.tells g.R.Ways.Ways.runs) c.as_slice-jobs.result.now c.in-Ok.outcomes c.in-Ok.ensures.builds

pub returns-clause-left : goal.returns-clause-left
returns-clause-left g c t =
    inr (has_stored_first g.R.Ways.Ways.tells g.R.Ways.Ways.runs c.args.ports.now.jobs c.as_slice-jobs.result.now c.in-Ok.outcomes c.as_slice.result.now (g.S.Store.content c.args.store.now) (g.S.Store.content c.store_all.new.store)
    (c.as_slice-jobs.ensures ∙ ap (λ p. p.jobs) c.ports.view_is) c.as_slice.ensures c.in-Ok.ensures.builds (c.store_all.ensures.left t))

pub returns-clause-begun : goal.returns-clause-begun
returns-clause-begun g c =
    began_all c.args.ports.now.jobs (g.R.Room.begun c.args.room.now) (g.R.Room.begun c.build_all.new.room) (c.in-Ok.ensures.begun ∙ ap (λ jobs. g.R.Room.begun c.args.room.now ++ names_of jobs) (c.as_slice-jobs.ensures ∙ ap (λ p. p.jobs) c.ports.view_is))
