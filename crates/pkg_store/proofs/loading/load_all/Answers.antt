use Rattle.std.proofs.Common.{◌∙◌, List, ℕ, ap, ap₂, sym, Ok}
use Rattle.std.proofs.lemmas.Result.{err_from_is_err_and}
use Rattle.outside.specs.Contents.{Contents}
use Rattle.pkg_store.specs.declared.found.Found.{Found}
use Rattle.pkg_store.specs.Reading.{files_read}
use Rattle.pkg_store.proofs.Gathering.{none_yet, loaded_ok, loaded_err}
use Rattle.pkg_store.proofs.loading.load_all.Goals as goal

pub returns-in_err-read_files-clause-refused : goal.returns-in_err-read_files-clause-refused
returns-in_err-read_files-clause-refused g c t =
    let p = err_from_is_err_and c.from_residual-in_err-read_files.result c.from_residual-in_err-read_files.ensures.1 in
    let read =
    ap₂ (λ (content : Contents) (files : List (List ℕ)). files_read content files) (sym c.in_ok-files.ensures.same.content) (sym c.as_slice.ensures) in
    rw (p.1, p.2) (λ some no_fault.
    loaded_err (g.S.Store.content c.args.store.now) c.in_ok-files.files (c.in_ok-files.ensures.ok t) c.in_err-read_files.field-0.0
    (ap₂ (λ (f : Found → _) (found : Found). f found) read (sym (c.new-found.ensures ∙ ap none_yet c.most.ensures)) ∙ c.in_err-read_files.ensures.refused t some no_fault))

pub returns-clause-ok : goal.returns-clause-ok
returns-clause-ok g c t =
    let read =
    ap₂ (λ (content : Contents) (files : List (List ℕ)). files_read content files) (sym c.in_ok-files.ensures.same.content) (sym c.as_slice.ensures) in
    loaded_ok (g.S.Store.content c.args.store.now) c.in_ok-files.files (c.in_ok-files.ensures.ok t) c.read_files.new.found
    (ap₂ (λ (f : Found → _) (found : Found). f found) read (sym (c.new-found.ensures ∙ ap none_yet c.most.ensures)) ∙ c.in_ok-read_files.ensures.ok t)
    ∙ ap Ok (sym c.into_loaded.ensures)
