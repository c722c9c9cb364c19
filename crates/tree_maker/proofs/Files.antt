-- The files of ports, one after another.
use Rattle.std.proofs.Common.{◌≡◌, ℕ, suc, ◌+◌, ◌-◌, ◌<◌, ◌%◌, List, [], ◌∷◌, ◌++◌, ap, sym, ◌∙◌, arith, append_assoc}
use Rattle.std.specs.Prelude.{codes}
use Rattle.std.specs.Fmt.{decimal}
use Rattle.bulk_base.specs.declared.file.FileItem.{FileItem}
use Rattle.tree_maker.specs.Draws.{draw}
use Rattle.tree_maker.specs.Made.{line, name_lines, port_text, port_path, port_file, port_files, targets, fate, rest}

name_lines_group : (folder version : List ℕ)
    → codes "PORTNAME=" ++ (folder ++ (10 ∷ codes "PORTVERSION=1." ++ (version ++ 10 ∷ [])))
    ≡ line (codes "PORTNAME=" ++ folder) ++ line (codes "PORTVERSION=1." ++ version)
name_lines_group folder version =
    ap (λ xs. codes "PORTNAME=" ++ xs) (sym (append_assoc folder (10 ∷ []) (codes "PORTVERSION=1." ++ (version ++ 10 ∷ []))))

pub name_lines_are : (text folder : List ℕ) (version : ℕ)
    → text ≡ codes "PORTNAME=" ++ (folder ++ (codes "\nPORTVERSION=1." ++ (decimal version ++ 10 ∷ [])))
    → text ≡ name_lines folder version
name_lines_are text folder version e = e ∙ name_lines_group folder (decimal version)

abbrev item : List ℕ → List ℕ → FileItem
item path bytes = record { path = path; bytes = bytes }

-- a port's file by what was drawn for it
pub file_is : (i x : ℕ) (path bytes : List ℕ) (version : ℕ) (on : List ℕ) (end : ℕ)
    → path ≡ port_path i → bytes ≡ port_text i version on end → version ≡ draw 1 x % 10
    → on ≡ targets i x → end ≡ fate i x
    → ◌≡◌ {A = FileItem} (record { path = path; bytes = bytes }) (port_file i x)
file_is i x path bytes version on end p b v t f =
    ap (λ y. item y bytes) p ∙ ap (item (port_path i)) b
    ∙ ap (λ y. item (port_path i) (port_text i y on end)) v
    ∙ ap (λ y. item (port_path i) (port_text i (draw 1 x % 10) y end)) t
    ∙ ap (λ y. item (port_path i) (port_text i (draw 1 x % 10) (targets i x) y)) f

-- one more port's file
pub ports_more : (total i x y : ℕ) (before now whole : List FileItem) (file : FileItem) → i < total
    → before ++ port_files (total - i) i x ≡ whole → now ≡ before ++ file ∷ []
    → file ≡ port_file i x → y ≡ rest i x
    → now ++ port_files (total - (i + 1)) (i + 1) y ≡ whole
ports_more total i x y before now whole file l so_far more is s =
    ap (λ xs. xs ++ port_files (total - (i + 1)) (i + 1) y) more
    ∙ append_assoc before (file ∷ []) (port_files (total - (i + 1)) (i + 1) y)
    ∙ ap (λ f. before ++ f ∷ port_files (total - (i + 1)) (i + 1) y) is
    ∙ ap (λ z. before ++ port_file i x ∷ port_files (total - (i + 1)) (i + 1) z) s
    ∙ ap (λ k. before ++ port_files k i x) (let e : suc (total - (i + 1)) ≡ total - i = omega arith in e)
    ∙ so_far
