-- What is found with a category, by its list and its ports, and with a port, by its nodes and their bytes.
use Rattle.std.proofs.Common.{◌≡◌, ◌∙◌, ℕ, Bool, List, ap, Ok, Err}
use Rattle.outside.specs.Contents.{Contents}
use Rattle.conf_file.specs.declared.make.MakeConf.{MakeConf}
use Rattle.port_vars.specs.Assignment.{◌>>=◌}
use Rattle.port_name.specs.declared.place.Origin.{Origin}
use Rattle.tree_index.specs.declared.fault.IndexError.{IndexError}
use Rattle.tree_index.specs.declared.found.Found.{Found}
use Rattle.tree_index.specs.declared.node.NodeInfo.{NodeInfo}
use Rattle.tree_index.specs.Places.{ports_file, port_file}
use Rattle.tree_index.specs.PortNodes.{port_nodes}
use Rattle.tree_index.specs.VarFiles.{listed_in, size_at}
use Rattle.tree_index.specs.Tree.{with_nodes, counted, with_port, with_ports, with_category}

pub list_refused : (make : MakeConf) (try_broken : Bool) (content : Contents) (found : Found) (category : List ℕ) (e : IndexError) → listed_in content (ports_file category) ≡ Err e → with_category make try_broken content found category ≡ Err e
unfolding with_category
list_refused make try_broken content found category e h = ap (λ r. r >>= with_ports make try_broken content category found) h

pub list_read : (make : MakeConf) (try_broken : Bool) (content : Contents) (found : Found) (category : List ℕ) (ports : List (List ℕ)) → listed_in content (ports_file category) ≡ Ok ports
    → with_category make try_broken content found category ≡ with_ports make try_broken content category found ports
unfolding with_category
list_read make try_broken content found category ports h = ap (λ r. r >>= with_ports make try_broken content category found) h

pub port_refused : (make : MakeConf) (try_broken : Bool) (content : Contents) (found : Found) (origin : Origin) (e : IndexError) → port_nodes make try_broken content origin ≡ Err e → with_port make try_broken content found origin ≡ Err e
port_refused make try_broken content found origin e h = ap (λ r. r >>= (λ nodes. counted (with_nodes found nodes (size_at content (port_file origin))))) h

pub port_read : (make : MakeConf) (try_broken : Bool) (content : Contents) (found : Found) (origin : Origin) (nodes : List NodeInfo) (size : ℕ) → port_nodes make try_broken content origin ≡ Ok nodes
    → size_at content (port_file origin) ≡ size → with_port make try_broken content found origin ≡ counted (with_nodes found nodes size)
port_read make try_broken content found origin nodes size h s =
    ap (λ r. r >>= (λ nodes. counted (with_nodes found nodes (size_at content (port_file origin))))) h
    ∙ ap (λ size. counted (with_nodes found nodes size)) s
