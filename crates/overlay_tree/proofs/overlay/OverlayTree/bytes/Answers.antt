use Rattle.std.proofs.Common.{◌≡◌, ◌<◌, ◌∙◌, Bool, true, false, List, ℕ, ap, sym, subst, length, arith}
use Rattle.std.specs.Prelude.{◌==◌, ◌||◌, map, IfOk}
use Rattle.std.specs.Option.{option_map}
use Rattle.std.proofs.lemmas.List.{length-map}
use Rattle.outside.specs.Contents.{Contents}
use Rattle.overlay_tree.specs.Places.{is_in_base, is_joined, is_port_file}
use Rattle.overlay_tree.proofs.Told.{base_bytes, joined_told, port_told, none_told}
use Rattle.overlay_tree.proofs.overlay.OverlayTree.bytes.Goals as goal

sized : {T : Type 0} (content : T → Contents) (trees : List T) (file : List ℕ) (result b : Bool) → result ≡ (length trees == 1 || is_in_base file) → result ≡ b → (length (map content trees) == 1 || is_in_base file) ≡ b
sized content trees file result b e r = ap (λ n. n == 1 || is_in_base file) (length-map trees content) ∙ sym e ∙ r

some_trees : {T : Type 0} (content : T → Contents) (trees : List T) → 0 < length trees → 0 < length (map content trees)
some_trees content trees l = omega (arith, length-map trees content)

pub bytes_at-requires : goal.bytes_at-requires
bytes_at-requires g c = c.is_base_file.ensures.some

pub returns-then-is_base_file-clause-told : goal.returns-then-is_base_file-clause-told
returns-then-is_base_file-clause-told g c = λ t.
    let trees = c.args.self.now in
    let file : List ℕ = c.args.file.now in
    let base = sized g.T.Tree.content trees file c.is_base_file.result true c.is_base_file.ensures.base c.if-is_base_file.true in
    subst (λ r. IfOk c.bytes_at.result (λ found. option_map (λ b. b.items) found ≡ r))
    (base_bytes c.args.most file (map g.T.Tree.content trees) (some_trees g.T.Tree.content trees c.is_base_file.ensures.some) base) (c.bytes_at.ensures.told t)

pub returns-then-is_joined-clause-told : goal.returns-then-is_joined-clause-told
returns-then-is_joined-clause-told g c = λ t.
    let trees = c.args.self.now in
    let file : List ℕ = c.args.file.now in
    let laid = sized g.T.Tree.content trees file c.is_base_file.result false c.is_base_file.ensures.base c.if-is_base_file.false in
    let joined : is_joined file ≡ true = ap is_joined (sym c.bytes.ensures.same) ∙ sym c.is_joined.ensures ∙ c.if-is_joined.true in
    subst (λ r. IfOk c.joined_bytes.result (λ found. option_map (λ b. b.items) found ≡ r))
    (joined_told c.args.most file (map g.T.Tree.content trees) (some_trees g.T.Tree.content trees c.is_base_file.ensures.some) laid joined) (c.joined_bytes.ensures.told t)

pub returns-then-is_port_file-clause-told : goal.returns-then-is_port_file-clause-told
returns-then-is_port_file-clause-told g c = λ t.
    let trees = c.args.self.now in
    let file : List ℕ = c.args.file.now in
    let laid = sized g.T.Tree.content trees file c.is_base_file.result false c.is_base_file.ensures.base c.if-is_base_file.false in
    let other : is_joined file ≡ false = ap is_joined (sym c.bytes.ensures.same) ∙ sym c.is_joined.ensures ∙ c.if-is_joined.false in
    let port : is_port_file file ≡ true = ap is_port_file (sym c.bytes-2.ensures.same) ∙ sym c.is_port_file.ensures ∙ c.if-is_port_file.true in
    subst (λ r. IfOk c.port_bytes.result (λ found. option_map (λ b. b.items) found ≡ r))
    (port_told c.args.most file (map g.T.Tree.content trees) (some_trees g.T.Tree.content trees c.is_base_file.ensures.some) laid other port) (c.port_bytes.ensures.told t)

pub returns-clause-told : goal.returns-clause-told
returns-clause-told g c = λ t.
    let trees = c.args.self.now in
    let file : List ℕ = c.args.file.now in
    let laid = sized g.T.Tree.content trees file c.is_base_file.result false c.is_base_file.ensures.base c.if-is_base_file.false in
    let other : is_joined file ≡ false = ap is_joined (sym c.bytes.ensures.same) ∙ sym c.is_joined.ensures ∙ c.if-is_joined.false in
    let nowhere : is_port_file file ≡ false = ap is_port_file (sym c.bytes-2.ensures.same) ∙ sym c.is_port_file.ensures ∙ c.if-is_port_file.false in
    none_told c.args.most file (map g.T.Tree.content trees) (some_trees g.T.Tree.content trees c.is_base_file.ensures.some) laid other nowhere
