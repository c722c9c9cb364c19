-- What a command wants, by what its steps give.
use Rattle.std.proofs.Common.{◌≡◌, ℕ, Bool, List, ap, ◌∙◌}
use Rattle.std.specs.declared.option.Option.{Option}
use Rattle.std.specs.declared.result.Result.{Result}
use Rattle.std.specs.declared.result.Result.TheVariants.{Ok, Err}
use Rattle.port_vars.specs.Assignment.{◌>>=◌}
use Rattle.tree_index.specs.Index.{IndexView}
use Rattle.origin_flavor.specs.declared.fault.WantedError.{WantedError}
use Rattle.origin_flavor.specs.declared.answer.Answer.{Answer}
use Rattle.origin_flavor.specs.declared.selection.Wanted.{Wanted}
use Rattle.origin_flavor.specs.ListFile.{wanted_words}
use Rattle.origin_flavor.specs.Answers.{answers_of}
use Rattle.origin_flavor.specs.Command.{wanted_by, wanted_of}

module _ (index : IndexView) (list : Option (List ℕ)) (words : List (List ℕ)) (all every_flavor : Bool) where
  abbrev by_answers : Result (List Answer) WantedError → Result Wanted WantedError
  by_answers answers = answers >>= λ found. Ok (wanted_by index all every_flavor found)

  by_steps : wanted_of index list words all every_flavor ≡ (wanted_words list words >>= λ asked. by_answers (answers_of index asked))
  unfolding wanted_of
  by_steps = Rattle.std.proofs.Common.refl

  pub bad_list : (error : WantedError) → wanted_words list words ≡ Err error → wanted_of index list words all every_flavor ≡ Err error
  bad_list error e = by_steps ∙ ap (λ r. r >>= λ asked. by_answers (answers_of index asked)) e

  pub refused_word : (asked : List (List ℕ)) (error : WantedError) → wanted_words list words ≡ Ok asked → answers_of index asked ≡ Err error → wanted_of index list words all every_flavor ≡ Err error
  refused_word asked error w e = by_steps ∙ ap (λ r. r >>= λ words. by_answers (answers_of index words)) w ∙ ap by_answers e

  pub all_served : (asked : List (List ℕ)) (answers : List Answer) → wanted_words list words ≡ Ok asked → answers_of index asked ≡ Ok answers
      → wanted_of index list words all every_flavor ≡ Ok (wanted_by index all every_flavor answers)
  all_served asked answers w e = by_steps ∙ ap (λ r. r >>= λ words. by_answers (answers_of index words)) w ∙ ap by_answers e
