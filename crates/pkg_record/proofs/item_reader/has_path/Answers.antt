use Rattle.std.proofs.Common.{rules, IsTrue, Contains, ◌↔◌, subst, sym}
use Rattle.std.specs.Cmp.Lexicographic.{slice_cmp}
use Rattle.std.specs.Ordering.{nat_cmp}
use Rattle.std.proofs.lemmas.Fn.{always_returns_same}
use Rattle.bulk_model.specs.Facts.{paths_of}
use Rattle.pkg_record.proofs.Folders.{searched_path}
use Rattle.pkg_record.proofs.item_reader.has_path.Goals as goal

pub returns : goal.returns
returns c =
    let found = c.binary_search_by.ensures in
    let answered = found.position (λ y. slice_cmp nat_cmp y.path c.args.path.now) (always_returns_same _ _ _ (λ a r f called. (search rules, search rules))) in
    subst (λ b. IsTrue b ↔ Contains (paths_of c.args.files.now) c.args.path.now) (sym c.is_ok.ensures.value)
    (searched_path c.args.files.now c.args.path.now c.binary_search_by.result c.requires found.bound answered)
