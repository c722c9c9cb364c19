-- The job of a node in form is in form.
use Rattle.std.proofs.Common.{List, refl}
use Rattle.bulk_base.specs.Names.{IsOrigin}
use Rattle.bulk_base.specs.declared.file.FileItem.{FileItem}
use Rattle.bulk_model.specs.Facts.{IsJob, IsDependList, IsFileList}
use Rattle.bulk_model.specs.declared.depend.Depend.{Depend}
use Rattle.port_name.specs.declared.place.Origin.{Origin}
use Rattle.tree_index.specs.declared.node.NodeInfo.{NodeInfo}
use Rattle.tree_index.specs.Facts.{IsNodeInfo, IsPlace}
use Rattle.tree_index.specs.Places.{origin_name}
use Rattle.plan_maker.specs.Jobs.{job_with}

origin_form : (origin : Origin) → IsPlace origin → IsOrigin (origin_name origin)
origin_form origin h = record { category = origin.category; port = origin.port; category_form = h.category; port_form = h.port; spelled = refl }

pub IsJob-node : (node : NodeInfo) (depends : List Depend) (files : List FileItem) → IsNodeInfo node → IsDependList depends → IsFileList 1019 files → IsJob (job_with node depends files)
IsJob-node node depends files h d f = record {
  name = h.name;
  origin = origin_form node.origin h.origin;
  flavor = h.flavor;
  options = h.options;
  depends = d;
  files = f;
}
