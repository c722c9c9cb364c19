-- What a journal makes of the content at the beginning.
use Rattle.std.proofs.Common.{◌≡◌, List, [], ◌∷◌, ◌++◌, refl}
use Rattle.outside.specs.Contents.{Contents}
use Rattle.outside.specs.Changes.{changed, replayed}
use Rattle.outside.specs.declared.change.Change.{Change}

-- changes behind others are made after them
pub replayed-append : (changes more : List Change) (first : Contents) → replayed (changes ++ more) first ≡ replayed more (replayed changes first)
replayed-append [] more first = refl
replayed-append (c ∷ changes) more first = replayed-append changes more (changed c first)

-- one more change is made last
pub replayed-push : (changes : List Change) (change : Change) (first : Contents) → replayed (changes ++ change ∷ []) first ≡ changed change (replayed changes first)
replayed-push changes change first = replayed-append changes (change ∷ []) first

-- what a journal makes of a content, after one more change
pub replayed_on : (changes more : List Change) (change : Change) (first before now : Contents)
    → more ≡ changes ++ change ∷ [] → before ≡ replayed changes first → now ≡ changed change before → now ≡ replayed more first
replayed_on changes more change first before now longer held made = rw (longer, replayed-push, ← held) made
