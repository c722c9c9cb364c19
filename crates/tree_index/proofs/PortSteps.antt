-- The steps by which a port is read.
use Rattle.std.proofs.Common.{◌≡◌, Bool, List, ◌∙◌, Result, Ok, Err}
use Rattle.outside.specs.Contents.{Contents}
use Rattle.port_vars.specs.Variables.{Vars}
use Rattle.port_vars.specs.Assignment.{◌>>=◌}
use Rattle.port_name.specs.declared.place.Origin.{Origin}
use Rattle.port_desc.proofs.Refused.{ok_then, err_then}
use Rattle.conf_file.specs.declared.make.MakeConf.{MakeConf}
use Rattle.tree_index.specs.declared.fault.IndexError.{IndexError}
use Rattle.tree_index.specs.declared.node.NodeInfo.{NodeInfo}
use Rattle.tree_index.specs.Places.{port_file, options_file}
use Rattle.tree_index.specs.VarFiles.{vars_at, vars_if_there}
use Rattle.tree_index.specs.PortNodes.{nodes_by, port_nodes}

module _ (make : MakeConf) (try_broken : Bool) (content : Contents) (origin : Origin) where
  abbrev by_file : Vars → Result (List NodeInfo) IndexError
  by_file file = vars_at content (port_file origin) >>= λ vars. nodes_by make try_broken origin file vars

  pub options_file_refused : (e : IndexError) → vars_if_there content (options_file origin) ≡ Err e → port_nodes make try_broken content origin ≡ Err e
  unfolding port_nodes
  options_file_refused e h = err_then (vars_if_there content (options_file origin)) by_file e h

  pub port_file_refused : (file : Vars) (e : IndexError) → vars_if_there content (options_file origin) ≡ Ok file → vars_at content (port_file origin) ≡ Err e → port_nodes make try_broken content origin ≡ Err e
  unfolding port_nodes
  port_file_refused file e f h =
      ok_then (vars_if_there content (options_file origin)) by_file file f
      ∙ err_then (vars_at content (port_file origin)) (λ vars. nodes_by make try_broken origin file vars) e h

  pub both_read : (file vars : Vars) → vars_if_there content (options_file origin) ≡ Ok file → vars_at content (port_file origin) ≡ Ok vars → port_nodes make try_broken content origin ≡ nodes_by make try_broken origin file vars
  unfolding port_nodes
  both_read file vars f h =
      ok_then (vars_if_there content (options_file origin)) by_file file f
      ∙ ok_then (vars_at content (port_file origin)) (λ vars. nodes_by make try_broken origin file vars) vars h
