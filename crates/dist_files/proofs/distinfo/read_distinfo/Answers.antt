use Rattle.std.proofs.Common.{◌≡◌, ◌∙◌, Some, None, Err, ap, sym, rules}
use Rattle.std.specs.Prelude.{find}
use Rattle.std.specs.Option.{option_copied}
use Rattle.std.proofs.lemmas.Result.{err_from_is_err_and}
use Rattle.dist_files.specs.declared.fault.DistError.TheVariants.{Collide}
use Rattle.dist_files.specs.Distinfo.{distinfo_of, judged, is_inside}
use Rattle.dist_files.specs.Stated.{entry_at}
use Rattle.dist_files.proofs.Read.{by_map, judged_inside, judged_ok}
use Rattle.dist_files.proofs.distinfo.read_distinfo.Goals as goal

pub returns-in_err-dists-clause-refused : goal.returns-in_err-dists-clause-refused
returns-in_err-dists-clause-refused c =
    let p = err_from_is_err_and c.from_residual-in_err-dists.result c.from_residual-in_err-dists.ensures.1 in
    rw (p.1, p.2) (λ some.
    by_map c.args.bytes.now c.in_ok-stated.stated c.in_ok-files.files c.in_ok-stated.ensures.good c.in_ok-stated.ensures.ok c.in_ok-files.ensures.all
    ∙ c.in_err-dists.ensures.unpaired some)

pub returns-in-Some-clause-refused : goal.returns-in-Some-clause-refused
returns-in-Some-clause-refused c = λ some.
    let found : find (is_inside c.in_ok-files.files) c.in_ok-files.files ≡ Some c.in-Some.file.now = sym c.in_ok-file.ensures ∙ ap option_copied c.in-Some.is in
    by_map c.args.bytes.now c.in_ok-stated.stated c.in_ok-files.files c.in_ok-stated.ensures.good c.in_ok-stated.ensures.ok c.in_ok-files.ensures.all
    ∙ judged_inside (entry_at c.in_ok-stated.stated) c.in_ok-files.files c.in-Some.file.now c.in_ok-dists.ensures.paired found
    ∙ ap (λ f. Err (Collide f)) (sym c.in_ok-copy-in-Some.ensures)

pub returns-clause-ok : goal.returns-clause-ok
returns-clause-ok c =
    let apart : find (is_inside c.in_ok-files.files) c.in_ok-files.files ≡ None = sym c.in_ok-file.ensures ∙ ap option_copied c.in-None.is in
    by_map c.args.bytes.now c.in_ok-stated.stated c.in_ok-files.files c.in_ok-stated.ensures.good c.in_ok-stated.ensures.ok c.in_ok-files.ensures.all
    ∙ judged_ok (entry_at c.in_ok-stated.stated) c.in_ok-files.files c.in_ok-dists.dists c.in_ok-dists.ensures.paired apart c.in_ok-dists.ensures.ok
