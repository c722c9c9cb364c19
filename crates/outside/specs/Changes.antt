-- Changes of a store: what they leave, and what a call that makes one may leave.
use Rattle.std.specs.Prelude.{◌≡◌, ℕ, ◌⊎◌, List, [], ◌∷◌, ◌++◌, Result, Ok, Err, MatchBool}
use Rattle.std.specs.FinMap.{insert, remove, contains_key}
use Rattle.outside.specs.Contents.{Contents}
use Rattle.outside.specs.declared.change.Change.{Change}
use Rattle.outside.specs.declared.change.Change.TheVariants.{Put, Remove}
use Rattle.outside.specs.declared.outer.Outer.{Outer}
use Rattle.outside.specs.declared.outer.Outer.TheVariants.{Fault, NoMemory}

-- the content after one change
abbrev pub changed : Change → Contents → Contents
changed (Put name bytes) content = insert content name bytes
changed (Remove name) content = remove content name

-- the content after a list of changes, the first of them first
abbrev pub replayed : List Change → Contents → Contents
replayed [] content = content
replayed (change ∷ changes) content = replayed changes (changed change content)

-- the change was made, and the journal tells it
pub record TookEffect (change : Change) (before now : Contents) (told_before told_now : List Change) : Type 0 where
  pub content : now ≡ changed change before
  pub journal : told_now ≡ told_before ++ change ∷ []

-- nothing changed
pub record IsUnchanged (before now : Contents) (told_before told_now : List Change) : Type 0 where
  pub content : now ≡ before
  pub journal : told_now ≡ told_before

-- a call made the change; after a fault it stands or not, and after want of memory nothing changed
abbrev pub Made : {X : Type 0} → Change → Contents → Contents → List Change → List Change → Result X Outer → Type 0
Made change before now told_before told_now (Ok _) = TookEffect change before now told_before told_now
Made change before now told_before told_now (Err Fault) = TookEffect change before now told_before told_now ⊎ IsUnchanged before now told_before told_now
Made change before now told_before told_now (Err NoMemory) = IsUnchanged before now told_before told_now

-- a removal of a name that is not there changes nothing
abbrev pub Removed : {X : Type 0} → List ℕ → Contents → Contents → List Change → List Change → Result X Outer → Type 0
Removed name before now told_before told_now result =
    MatchBool (contains_key before name) (Made (Remove name) before now told_before told_now result) (IsUnchanged before now told_before told_now)
