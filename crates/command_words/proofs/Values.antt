-- What the getters of clap's matches read, in the words of the definitions.
use Rattle.std.proofs.Common.{◌≡◌, ◌∙◌, ◌<◌, ℕ, zero, suc, List, [], ◌∷◌, Bor, length, slice_index_or, Option, option_map, Some, false, ap, sym, arith, codes}
use Rattle.std.specs.Prelude.{IsTrue, unwrap_or}
use Rattle.std.specs.Option.{option_map_or}
use Rattle.std.specs.Str.{bytes_eq}
use Rattle.clap.specs.Words.{all_of, first_of, first_value, matched_of, raw_values, rows_of}
use Rattle.clap.specs.Walk.{Text, texts}
use Rattle.clap.specs.declared.parser.matches.Found.{Found}
use Rattle.clap.proofs.WalkLemmas.{first_value-rows, raw_values-rows}
use Rattle.bulk_base.specs.Text.{has_text_bytes}
use Rattle.command_words.specs.Reading.{has_flag, origins_of}
use Rattle.command_words.specs.Texts.{HaveTextBytes, RowsHaveTextBytes}
use Rattle.command_words.proofs.TextRows.{value_has_text_bytes, values_have_text_bytes}

pub first_by_rows : (f : Found) (id : Text) (value : Option Text) → value ≡ first_value f id → value ≡ first_of id (rows_of f)
first_by_rows f id value is = is ∙ first_value-rows f id

pub flag_by_rows : (f : Found) (id : Text) (value : Option Text) → value ≡ first_value f id
    → option_map_or (λ text. bytes_eq text (codes "true")) value false ≡ has_flag id (rows_of f)
flag_by_rows f id value is = ap (λ v. option_map_or (λ text. bytes_eq text (codes "true")) v false) (first_by_rows f id value is)

pub all_by_rows : (f : Found) (id : Text) (values : Option (List Text)) → values ≡ option_map raw_values (matched_of f id)
    → values ≡ all_of id (rows_of f)
all_by_rows f id values is = is ∙ raw_values-rows f id

pub origins_by_rows : (f : Found) (values : Option (List Text)) → values ≡ option_map raw_values (matched_of f (codes "origins"))
    → unwrap_or values [] ≡ origins_of (rows_of f)
origins_by_rows f values is = ap (λ v. unwrap_or v []) (all_by_rows f (codes "origins") values is)

pub value_is_text : (f : Found) (id value : Text) → RowsHaveTextBytes (rows_of f) → Some value ≡ first_value f id → IsTrue (has_text_bytes value)
value_is_text f id value fine is = value_has_text_bytes id (rows_of f) value fine (sym (first_by_rows f id (Some value) is))

pub values_are_texts : (f : Found) (id : Text) (values : List Text) → RowsHaveTextBytes (rows_of f)
    → Some values ≡ option_map raw_values (matched_of f id) → HaveTextBytes values
values_are_texts f id values fine is = values_have_text_bytes id (rows_of f) values fine (sym (all_by_rows f id (Some values) is))

-- each of some texts
pub each_has_text_bytes : (values : List (Bor Text)) (i : ℕ) (d : Bor Text) → HaveTextBytes (texts values) → i < length values
    → IsTrue (has_text_bytes (slice_index_or values i d).now)
each_has_text_bytes [] i d fine within = absurd (omega arith)
each_has_text_bytes (v ∷ vs) zero d fine within = fine.0
each_has_text_bytes (v ∷ vs) (suc i) d fine within = each_has_text_bytes vs i d fine.1 (omega arith)
