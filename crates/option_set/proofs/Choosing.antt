-- What the steps of the choice answer is what the definitions say.
use Rattle.std.proofs.Common.{◌≡◌, ℕ, List, length, ap, ◌∙◌}
use Rattle.std.specs.Prelude.{filter, codes, IfOk}
use Rattle.std.specs.declared.result.Result.{Result}
use Rattle.std.specs.declared.result.Result.TheVariants.{Ok, Err}
use Rattle.std.specs.declared.alloc.AllocError.{AllocError}
use Rattle.std.specs.FinMap as map
use Rattle.std.proofs.Math.Path.{fun_ext}
use Rattle.bulk_base.specs.declared.file.Switch.{Switch}
use Rattle.port_vars.specs.Variables.{Vars}
use Rattle.port_name.specs.Sets.{is_among}
use Rattle.option_set.specs.declared.layers.Layers.{Layers}
use Rattle.option_set.specs.Layers.{asked}
use Rattle.bulk_base.specs.Order.{TextSet as Words}
use Rattle.port_vars.specs.ValueWords.{words_in}
use Rattle.option_set.specs.Implied.{implied_by, names_on, on_after, on_in}

pub on_is : (vars : Vars) (options : List (List ℕ)) (layers : Layers) (default : List (List ℕ)) (switches : List Switch) (begun : List (List ℕ)) (rounds : ℕ) (on : Words)
    → (held : Result (List (List ℕ)) AllocError)
    → default ≡ words_in vars (codes "OPTIONS_DEFAULT") → switches ≡ asked options default layers → begun ≡ names_on switches → rounds ≡ length options
    → ((name : List ℕ) → map.contains_key on name ≡ is_among (on_after (implied_by vars) begun rounds) name)
    → IfOk held (λ names. names ≡ filter (map.contains_key on) options) → IfOk held (λ names. names ≡ on_in vars options layers)
unfolding on_in
on_is vars options layers default switches begun rounds on (Err e) d s b r o h = tt
on_is vars options layers default switches begun rounds on (Ok names) d s b r o h =
    h ∙ ap (λ p. filter p options) (fun_ext o)
    ∙ ap (λ n. filter (is_among (on_after (implied_by vars) begun n)) options) r
    ∙ ap (λ start. filter (is_among (on_after (implied_by vars) start (length options))) options)
    (b ∙ ap names_on (s ∙ ap (λ words. asked options words layers) d))
