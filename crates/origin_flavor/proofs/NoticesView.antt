-- Notices by their words, as the list of them.
use Rattle.std.proofs.Common.{◌≡◌, ℕ, Bool, true, false, List, [], ◌∷◌, ◌++◌, cond, ap, sym, ◌∙◌, refl, Option, Some, None, is_some}
use Rattle.std.specs.Prelude.{map, ◌||◌, bytes_eq, String}
use Rattle.std.specs.List.{list_any}
use Rattle.std.specs.Map.{keys_of, values_of}
use Rattle.std.specs.String.{string_bytes, string_eq}
use Rattle.std.proofs.lemmas.List.{map-append}
use Rattle.indexmap.specs.IndexMap.{IndexMap, get, get_by, insert_entry}
use Rattle.indexmap.proofs.CallerLemmas.{insert_entry-new}
use Rattle.bulk_model.specs.declared.reason.Notice.{Notice}
use Rattle.origin_flavor.specs.Notices.{with_notice}

any_mapped : {X Y : Type 0} (f : X → Y) (p : Y → Bool) (xs : List X) → list_any p (map f xs) ≡ list_any (λ x. p (f x)) xs
any_mapped f p [] = refl
any_mapped f p (x ∷ xs) = ap (λ b. p (f x) || b) (any_mapped f p xs)

-- a text is that of a key just where it is that of a value
pub any_key : {K X : Type 0} (text : K → List ℕ) (word : X → List ℕ) (keys : List K) (values : List X) (w : List ℕ) → map text keys ≡ map word values
    → list_any (λ k. bytes_eq w (text k)) keys ≡ list_any (λ x. bytes_eq w (word x)) values
any_key text word keys values w e = sym (any_mapped text (bytes_eq w) keys) ∙ ap (list_any (bytes_eq w)) e ∙ any_mapped word (bytes_eq w) values

pub keys_push : {K X : Type 0} (entries : List (K × X)) (k : K) (x : X) → keys_of (entries ++ (k, x) ∷ []) ≡ keys_of entries ++ k ∷ []
keys_push entries k x = map-append (λ e. e.0) entries ((k, x) ∷ [])

pub values_push : {K X : Type 0} (entries : List (K × X)) (k : K) (x : X) → values_of (entries ++ (k, x) ∷ []) ≡ values_of entries ++ x ∷ []
values_push entries k x = map-append (λ e. e.1) entries ((k, x) ∷ [])

-- the texts of keys stay those of values
pub texts_push : {K X : Type 0} (text : K → List ℕ) (word : X → List ℕ) (entries more : List (K × X)) (k : K) (x : X) → more ≡ entries ++ (k, x) ∷ [] → text k ≡ word x
    → map text (keys_of entries) ≡ map word (values_of entries) → map text (keys_of more) ≡ map word (values_of more)
texts_push text word entries more k x m e so_far =
    ap (λ es. map text (keys_of es)) m ∙ ap (map text) (keys_push entries k x) ∙ map-append text (keys_of entries) (k ∷ [])
    ∙ ap (λ ts. ts ++ text k ∷ []) so_far ∙ ap (λ t. map word (values_of entries) ++ t ∷ []) e
    ∙ sym (map-append word (values_of entries) (x ∷ [])) ∙ ap (map word) (sym (values_push entries k x)) ∙ ap (λ es. map word (values_of es)) (sym m)

pub none_there : {X : Type 0} (o : Option X) → is_some o ≡ false → o ≡ None
none_there None e = refl
none_there (Some x) e = absurd (Rattle.std.proofs.Common.true≢false e)

-- a key that no text like its own is among goes last
pub entries_more : {Z X S : Type 0} (old : IndexMap (String Z) X S) (more : List (String Z × X)) (key : String Z) (x : X) (w : List ℕ) → string_bytes key ≡ w
    → is_some (get_by (λ k. bytes_eq w (string_bytes k)) old) ≡ false → more ≡ insert_entry string_eq old.entries key x → more ≡ old.entries ++ (key, x) ∷ []
entries_more old more key x w e absent m =
    let none : get string_eq old key ≡ None = none_there _ (ap (λ t. is_some (get_by (λ k. bytes_eq t (string_bytes k)) old)) e ∙ absent) in
    m ∙ insert_entry-new string_eq old key x none

-- a notice of a word that has none goes last
pub told_more : (told : List Notice) (notice : Notice) → list_any (λ (n : Notice). bytes_eq notice.word n.word) told ≡ false → told ++ notice ∷ [] ≡ with_notice told notice
told_more told notice absent = sym (ap (λ b. cond b told (told ++ notice ∷ [])) absent)

pub told_same : (told : List Notice) (notice : Notice) → list_any (λ (n : Notice). bytes_eq notice.word n.word) told ≡ true → told ≡ with_notice told notice
told_same told notice there = sym (ap (λ b. cond b told (told ++ notice ∷ [])) there)
