-- What an object in memory holds of the files that it was handed.
use Rattle.std.specs.Prelude.{ℕ, Bool, List, [], ◌∷◌, Option}
use Rattle.std.specs.List.{list_any, find}
use Rattle.std.specs.FinMap.{empty, insert}
use Rattle.bulk_base.specs.Path.{is_below}
use Rattle.bulk_base.specs.declared.file.FileItem.{FileItem}
use Rattle.outside.specs.declared.item.Item.{Item}
use Rattle.outside.specs.Contents.{Contents}

-- the content with these files put into it, one after another
abbrev pub with_files : Contents → List FileItem → Contents
with_files content [] = content
with_files content (file ∷ files) = with_files (insert content file.path file.bytes) files

-- the content of files; of equal paths the last counts
abbrev pub content_of : List FileItem → Contents
content_of files = with_files empty files

-- the content with these files of a store put into it, one after another
abbrev pub with_items : Contents → List Item → Contents
with_items content [] = content
with_items content (item ∷ items) = with_items (insert content item.name item.bytes) items

-- the content of a store's files; of equal names the last counts
abbrev pub content_of_items : List Item → Contents
content_of_items items = with_items empty items

-- whether a path is a folder of one of these
abbrev pub is_folder_of : List (List ℕ) → List ℕ → Bool
is_folder_of paths folder = list_any (is_below folder) paths

-- the first of these paths that is a folder of another
abbrev pub first_folder : List (List ℕ) → Option (List ℕ)
first_folder paths = find (is_folder_of paths) paths
