-- What holds of the store on a desk.
use Rattle.std.specs.Prelude.{◌≡◌, ℕ, Bool, true, List, [], ◌∷◌, ◌++◌, length, IsTrue}
use Rattle.outside.specs.Contents.{Contents}
use Rattle.outside.specs.Changes.{replayed}
use Rattle.outside.specs.declared.change.Change.{Change}
use Rattle.bulk_model.specs.declared.plan.Kept.{Kept as KeptPackages}
use Rattle.bulk_model.specs.Flags.{flag}
use Rattle.bulk_model.specs.Installs.{has}
use Rattle.bulk_model.specs.Journal.{Passes, ArePuts}
use Rattle.bulk_model.specs.PlanView.{PlanView}
use Rattle.store_desk.specs.declared.view.Held.{Held}
use Rattle.store_desk.specs.declared.view.Origin.{Origin}
use Rattle.store_desk.specs.Told.{Lore, all_done, IsRight}

-- the nodes of puts one after another, the last first, before the nodes that were done
abbrev pub put_nodes : (plan : PlanView) (kept : KeptPackages) (passes : Passes) (done : List ℕ)
    (puts : List Change) → ArePuts plan kept passes done puts → List ℕ
put_nodes plan kept passes done [] are = done
put_nodes plan kept passes done (change ∷ changes) are =
    put_nodes plan kept passes (are.0 ∷ done) changes are.2

module _ {X : Type 0} (l : Lore X) (o : Origin) where
  abbrev pub passes : Passes
  passes n bytes = IsRight l.rooms_tell l.runs o.plan o.kept n bytes

  -- the journal since the desk was made, and the content that it leaves
  pub record IsWritten (saved : List Bool) (tried : ℕ → Bool) (journal : List Change)
      (content : Contents) : Type 0 where
    pub puts : List Change
    pub since : journal ≡ o.journal ++ puts
    pub replays : content ≡ replayed puts o.content
    -- each under its node's file name, behind those of its dependencies
    pub ordered : ArePuts o.plan o.kept passes [] puts
    -- each saved node has its put, and each put is that of a node that was tried
    pub saved_put : (n : ℕ) → flag saved n ≡ true
        → has (put_nodes o.plan o.kept passes [] puts ordered) n ≡ true
    pub put_tried : (n : ℕ) → has (put_nodes o.plan o.kept passes [] puts ordered) n ≡ true
        → tried n ≡ true

  -- marks have a place for each node, each saved node has its dependencies kept or saved, and where
  -- the store tells, its journal is so written
  pub record IsSound (h : Held X) : Type 0 where
    pub rooms : length h.saved ≡ length o.plan.jobs
    pub places : length h.tried ≡ length o.plan.jobs
    pub closed : (n : ℕ) → flag h.saved n ≡ true → all_done o.plan o.kept h.saved n ≡ true
    pub written : IsTrue l.tells
        → IsWritten h.saved (flag h.tried) (l.journal h.store) (l.content h.store)
