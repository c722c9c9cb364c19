-- The options that a port defines (Porter's Handbook, "Options"; docs/FORMATS.md).
use Rattle.std.specs.Prelude.{ℕ, List, [], ◌++◌, map, codes}
use Rattle.std.specs.List.{flat_map}
use Rattle.port_vars.specs.Variables.{Vars}
use Rattle.option_set.specs.declared.defining.Group.{Group}
use Rattle.option_set.specs.declared.defining.Defining.{Defining}
use Rattle.bulk_base.specs.Order.{in_order}
use Rattle.port_vars.specs.ValueWords.{words_in}

-- a group with the words of its own variable
abbrev pub group_of : Vars → List ℕ → List ℕ → Group
group_of vars prefix name = record { name = name; members = words_in vars (prefix ++ name) }

-- the groups that a variable lists
abbrev pub groups_in : Vars → List ℕ → List ℕ → List Group
groups_in vars variable prefix = map (group_of vars prefix) (words_in vars variable)

-- what a port defines its options by
abbrev pub defining : Vars → Defining
defining vars = record {
  alone = words_in vars (codes "OPTIONS_DEFINE");
  any = groups_in vars (codes "OPTIONS_GROUP") (codes "OPTIONS_GROUP_");
  single = groups_in vars (codes "OPTIONS_SINGLE") (codes "OPTIONS_SINGLE_");
  radio = groups_in vars (codes "OPTIONS_RADIO") (codes "OPTIONS_RADIO_");
  multi = groups_in vars (codes "OPTIONS_MULTI") (codes "OPTIONS_MULTI_");
}

abbrev pub members_of : List Group → List (List ℕ)
members_of groups = flat_map (λ group. group.members) groups

-- all names of groups, then their members
abbrev pub words_of_groups : List Group → List (List ℕ)
words_of_groups groups = map (λ group. group.name) groups ++ members_of groups

-- the words of the variables that define options, in their order
abbrev pub defining_words : Defining → List (List ℕ)
defining_words d = (((d.alone ++ words_of_groups d.any) ++ words_of_groups d.single) ++ words_of_groups d.radio) ++ words_of_groups d.multi

-- those of them that are options
abbrev pub option_words : Defining → List (List ℕ)
option_words d = (((d.alone ++ members_of d.any) ++ members_of d.single) ++ members_of d.radio) ++ members_of d.multi

-- the options that a port defines, in byte order
abbrev pub options_of : Defining → List (List ℕ)
options_of d = in_order (option_words d)
