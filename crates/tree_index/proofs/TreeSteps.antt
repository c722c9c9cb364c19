-- The nodes of a tree, step by step: what is left behind each file and each check that refuses nothing, and each refusal.
use Rattle.std.proofs.Common.{◌≡◌, ◌∙◌, ℕ, Bool, List, ap, refl, Ok, Err, Result}
use Rattle.outside.specs.Contents.{Contents}
use Rattle.conf_file.specs.declared.make.MakeConf.{MakeConf}
use Rattle.moved_list.specs.declared.line.MovedLine.{MovedLine}
use Rattle.port_vars.specs.Assignment.{◌>>=◌}
use Rattle.tree_index.specs.declared.fault.IndexError.{IndexError}
use Rattle.tree_index.specs.declared.node.NodeInfo.{NodeInfo}
use Rattle.tree_index.specs.Places.{categories_file}
use Rattle.tree_index.specs.VarFiles.{listed_in}
use Rattle.tree_index.specs.Tree.{moved_at, nodes_in, Listed, tree_nodes}

module _ (make : MakeConf) (try_broken : Bool) (content : Contents) where
  -- what follows MOVED, and what follows the list of categories
  after_moved : List (List ℕ) → List MovedLine → Result Listed IndexError
  after_moved categories moved = nodes_in make try_broken content categories >>= (λ nodes. Ok (moved, nodes))

  after_categories : List (List ℕ) → Result Listed IndexError
  after_categories categories = moved_at content >>= after_moved categories

  all_steps : tree_nodes make try_broken content ≡ listed_in content categories_file >>= after_categories
  unfolding tree_nodes after_categories after_moved
  all_steps = refl

  pub categories_refused : (e : IndexError) → listed_in content categories_file ≡ Err e → tree_nodes make try_broken content ≡ Err e
  categories_refused e h = all_steps ∙ ap (λ r. r >>= after_categories) h

  module _ (categories : List (List ℕ)) (listed : listed_in content categories_file ≡ Ok categories) where
    from_moved : tree_nodes make try_broken content ≡ moved_at content >>= after_moved categories
    unfolding after_categories
    from_moved = all_steps ∙ ap (λ r. r >>= after_categories) listed

    pub moved_refused : (e : IndexError) → moved_at content ≡ Err e → tree_nodes make try_broken content ≡ Err e
    moved_refused e h = from_moved ∙ ap (λ r. r >>= after_moved categories) h

    module _ (moved : List MovedLine) (told : moved_at content ≡ Ok moved) where
      from_nodes : tree_nodes make try_broken content ≡ nodes_in make try_broken content categories >>= (λ nodes. Ok (moved, nodes))
      unfolding after_moved
      from_nodes = from_moved ∙ ap (λ r. r >>= after_moved categories) told

      pub nodes_refused : (e : IndexError) → nodes_in make try_broken content categories ≡ Err e → tree_nodes make try_broken content ≡ Err e
      nodes_refused e h = from_nodes ∙ ap (λ r. r >>= (λ nodes. Ok (moved, nodes))) h

      pub nothing_refused : (nodes : List NodeInfo) → nodes_in make try_broken content categories ≡ Ok nodes → tree_nodes make try_broken content ≡ Ok (moved, nodes)
      nothing_refused nodes h = from_nodes ∙ ap (λ r. r >>= (λ nodes. Ok (moved, nodes))) h
