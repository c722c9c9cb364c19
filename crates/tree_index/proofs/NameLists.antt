-- Words all of which are names of categories or ports.
use Rattle.std.proofs.Common.{◌≡◌, ℕ, Bool, true, false, List, [], ◌∷◌, refl, ap, sym, cond, arith, Ok, Err}
use Rattle.std.specs.Prelude.{find, Some, None, ◌&&◌, not, codes}
use Rattle.std.specs.List.{AllByRecursion, list_all}
use Rattle.std.proofs.lemmas.Option.{none-some}
use Rattle.bulk_base.specs.Names.{is_port_name}
use Rattle.bulk_base.specs.Order.{in_order}
use Rattle.tree_index.specs.declared.fault.IndexError.TheVariants.{BadPort}
use Rattle.tree_index.specs.declared.fault.PortKind.TheVariants.{BadValue}
use Rattle.tree_index.specs.Gathered.{IsNameList}
use Rattle.tree_index.specs.VarFiles.{is_no_port_name, names_among}
use Rattle.bulk_base.proofs.InOrder.{list_all-in_order, in_order-ascends}

all_pass : (words : List (List ℕ)) → find is_no_port_name words ≡ None → list_all is_port_name words ≡ true
all_pass [] h = refl
all_pass (word ∷ words) h = elim (is_port_name word) as (λ b. cond (not b) (Some word) (find is_no_port_name words) ≡ None → (b && list_all is_port_name words) ≡ true) [
  | true ↦ λ e. all_pass words e
  | false ↦ λ e. absurd (none-some word (sym e))
] h

parts_of : (a b : Bool) → (a && b) ≡ true → (a ≡ true) × (b ≡ true)
parts_of a b h = (grind arith, grind arith)

each_passes : (p : List ℕ → Bool) (words : List (List ℕ)) → list_all p words ≡ true → AllByRecursion (λ word. p word ≡ true) words
each_passes p [] h = tt
each_passes p (word ∷ words) h = let parts = parts_of (p word) (list_all p words) h in (parts.0, each_passes p words parts.1)

pub names_listed : (words : List (List ℕ)) → find is_no_port_name words ≡ None → IsNameList (in_order words)
names_listed words h = record {
  order = in_order-ascends words;
  forms = each_passes is_port_name (in_order words) (list_all-in_order is_port_name words (all_pass words h));
}

pub listed_by : (path : List ℕ) (words : List (List ℕ)) → find is_no_port_name words ≡ None → names_among path words ≡ Ok (in_order words)
listed_by path words h = ap (λ found. elim found [ None ↦ Ok (in_order words) | Some word ↦ Err (BadPort path 0 (BadValue (codes "SUBDIR"))) ]) h

pub refused_by : (path word : List ℕ) (words : List (List ℕ)) → find is_no_port_name words ≡ Some word → names_among path words ≡ Err (BadPort path 0 (BadValue (codes "SUBDIR")))
refused_by path word words h = ap (λ found. elim found [ None ↦ Ok (in_order words) | Some word ↦ Err (BadPort path 0 (BadValue (codes "SUBDIR"))) ]) h
