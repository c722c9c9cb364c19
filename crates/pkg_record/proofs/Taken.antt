-- What the text of a line says is what it spells.
use Rattle.std.proofs.Common.{◌≡◌, ℕ, ◌+◌, ◌<◌, ◌^◌, Bool, true, false, List, [], ◌∷◌, ◌++◌, length, get_or, take, drop, codes, ltb, arith, refl, ap, ap₂, sym, ◌∙◌, inl, inr, append_assoc, append-nil}
use Rattle.std.specs.Prelude.{◌⊎◌, ◌&&◌, ◌==◌, nat_eq, nat_le, Option, Some, None, Result, Ok, Err, cond, bytes_eq}
use Rattle.std.specs.Option.{option_map, option_and_then}
use Rattle.std.specs.List.{starts_with, position_or_len}
use Rattle.std.specs.Fmt.{decimal}
use Rattle.std.specs.Str.Parse.{digits_value}
use Rattle.std.proofs.lemmas.Bool.{eqb-true, and_parts}
use Rattle.std.proofs.lemmas.Bool.Decides.{nat_tests, Decides-eqb}
use Rattle.std.proofs.lemmas.Fmt.{decimal-digits_value}
use Rattle.std.proofs.lemmas.List.{length-append, length-drop, take-append-drop, drop_more, length-take-le}
use Rattle.std.proofs.lemmas.List.Sums.{split_at_first, passes_at_first}
use Rattle.std.proofs.lemmas.Slice.Eq.{starts_is, bytes_eq-Decides}
use Rattle.bulk_base.proofs.Digits.{own}
use Rattle.bulk_base.specs.declared.file.Switch.{Switch}
use Rattle.bulk_base.specs.Names.{is_flavor, is_option_name}
use Rattle.bulk_base.specs.Path.{is_path}
use Rattle.bulk_model.specs.declared.depend.Recorded.{Recorded}
use Rattle.bulk_model.specs.declared.digest.Digest.{Digest}
use Rattle.bulk_model.specs.declared.version.Version.{Version}
use Rattle.bulk_model.specs.declared.version.Version.TheVariants.{One, Two}
use Rattle.bulk_model.specs.Digests.{no_digest, hex}
use Rattle.bulk_model.specs.declared.depend.DepKind.{DepKind}
use Rattle.bulk_model.specs.declared.depend.DepKind.TheVariants.{Pkg, Fetch, Extract, Patch, Build, Lib, Run}
use Rattle.bulk_model.specs.Lines.{line, kind_word, flavor_word, switch_word, option_line}
use Rattle.bulk_model.specs.Spelling.{version_words, mark_word, recorded_line}
use Rattle.pkg_record.specs.declared.fault.Fault.{Fault}
use Rattle.pkg_record.specs.declared.fault.Fault.TheVariants.{Short, Misfit}
use Rattle.bulk_base.specs.Marks.{is_mark, front, back}
use Rattle.port_name.specs.Forms.{is_node}
use Rattle.port_name.specs.PackageForm.{is_package_name, some_below, is_parted_at}
use Rattle.pkg_record.specs.Said.{behind, passing, word_behind, flavor_of, flavor_said, is_numeral, count_of, count_behind, switch_of, switch, named_switch, switch_in, option_said, kind_of, version_said, digest_said, recipe_said, recorded, mark_in, noted, named_depend, depend_in, depend_said, file_in, file_said}
use Rattle.pkg_record.specs.Reading.{◌>>=◌, line_at, fitting, said_at, piece_at}
use Rattle.pkg_record.proofs.Names.{parted, some_below-place}
use Rattle.pkg_record.proofs.Numerals.{digits_of}
use Rattle.pkg_record.proofs.DigestTexts.{digest_taken, digest_filled}

-- ---- steps that gave a value

abbrev done : {A : Type 0} → A → Result A Fault
done x = Ok x

pub ok_is : {A : Type 0} (x y : A) → done x ≡ done y → x ≡ y
ok_is x y e = cc

abbrev some : {A : Type 0} → A → Option A
some x = Some x

some_is : {A : Type 0} (x y : A) → some x ≡ some y → x ≡ y
some_is x y e = cc

pub bind_ok : {A B : Type 0} (r : Result A Fault) (f : A → Result B Fault) (y : B) → (r >>= f) ≡ Ok y → (x : A) × (r ≡ Ok x) × (f x ≡ Ok y)
bind_ok (Ok x) f y e = (x, refl, e)
bind_ok (Err d) f y e = absurd cc

pub then_some : {A B : Type 0} (o : Option A) (f : A → Option B) (y : B) → option_and_then f o ≡ Some y → (x : A) × (o ≡ Some x) × (f x ≡ Some y)
then_some (Some x) f y e = (x, refl, e)
then_some None f y e = absurd cc

pub mapped_some : {A B : Type 0} (o : Option A) (f : A → B) (y : B) → option_map f o ≡ Some y → (x : A) × (o ≡ Some x) × (f x ≡ y)
mapped_some (Some x) f y e = (x, refl, some_is (f x) y e)
mapped_some None f y e = absurd cc

pub given : {A : Type 0} (b : Bool) (x y : A) → cond b (Some x) None ≡ Some y → (b ≡ true) × (x ≡ y)
given true x y e = (refl, some_is x y e)
given false x y e = absurd cc

pub given_ok : {A : Type 0} (b : Bool) (d : Fault) (x y : A) → cond b (Ok x) (Err d) ≡ Ok y → (b ≡ true) × (x ≡ y)
given_ok true d x y e = (refl, ok_is x y e)
given_ok false d x y e = absurd cc

chosen : {A : Type 0} (b : Bool) (x y z : A) → cond b x y ≡ z → ((b ≡ true) × (x ≡ z)) ⊎ ((b ≡ false) × (y ≡ z))
chosen true x y z e = inl (refl, e)
chosen false x y z e = inr (refl, e)

same_bytes : (a b : List ℕ) → bytes_eq a b ≡ true → a ≡ b
same_bytes a b h = (bytes_eq-Decides a b).0 h

-- ---- a line

cut_there : (mark : ℕ) (text : List ℕ) → position_or_len (is_mark mark) text < length text → text ≡ front mark text ++ mark ∷ back mark text
cut_there mark text l = split_at_first (is_mark mark) text 0 l ∙ ap (λ b. front mark text ++ b ∷ back mark text) (eqb-true _ _ (passes_at_first (is_mark mark) text 0 l))

pub below : (a b : ℕ) → ltb a b ≡ true → a < b
below a b h = grind (arith, nat_tests)

pub line_taken : (bytes text rest : List ℕ) → line_at bytes ≡ Ok (text, rest) → bytes ≡ line text ++ rest
line_taken bytes text rest e =
    let g = given_ok (ltb (position_or_len (is_mark 10) bytes) (length bytes)) Short (front 10 bytes, back 10 bytes) (text, rest) e in
    cut_there 10 bytes (below _ _ g.0)
    ∙ ap (λ (x : List ℕ × List ℕ). x.0 ++ 10 ∷ x.1) g.1
    ∙ sym (append_assoc text (10 ∷ []) rest)

pub fits : {X : Type 0} (left : ℕ) (r : List ℕ) (o : Option X) (x : X) (rest : List ℕ) → fitting left r o ≡ Ok (x, rest) → (o ≡ Some x) × (r ≡ rest)
fits left r (Some y) x rest e = let p = ok_is (y, r) (x, rest) e in (ap (λ q. Some q.0) p, ap (λ q. q.1) p)
fits left r None x rest e = absurd cc

-- the text of a line that says something, and the line in front of the rest
pub said_taken : {X : Type 0} (says : List ℕ → Option X) (bytes : List ℕ) (x : X) (rest : List ℕ) → said_at says bytes ≡ Ok (x, rest) → (text : List ℕ) × (says text ≡ Some x) × (bytes ≡ line text ++ rest)
unfolding said_at
said_taken says bytes x rest e =
    let b = bind_ok (line_at bytes) (λ l. fitting (length bytes) l.1 (says l.0)) (x, rest) e in
    let f = fits (length bytes) b.0.1 (says b.0.0) x rest b.2 in
    (b.0.0, f.0, line_taken bytes b.0.0 b.0.1 b.1 ∙ ap (λ r. line b.0.0 ++ r) f.1)

-- ---- what a text says

pub heading_taken : (heading text rest : List ℕ) → behind heading text ≡ Some rest → text ≡ heading ++ rest
heading_taken heading text rest e =
    let g = given (starts_with nat_eq text heading) (drop (length heading) text) rest e in
    (starts_is Decides-eqb text heading (starts_with nat_eq text heading) refl).0 g.0 ∙ ap (λ r. heading ++ r) g.1

pub word_taken : (heading : List ℕ) (test : List ℕ → Bool) (text word : List ℕ) → word_behind heading test text ≡ Some word → text ≡ heading ++ word
word_taken heading test text word e =
    let t = then_some (behind heading text) (passing test) word e in
    let g = given (test t.0) t.0 word t.2 in
    heading_taken heading text t.0 t.1 ∙ ap (λ r. heading ++ r) g.1

flavor_word_taken : (word : List ℕ) (flavor : Option (List ℕ)) → flavor_of word ≡ Some flavor → word ≡ flavor_word flavor
flavor_word_taken word flavor e = elim (chosen (bytes_eq word (codes "-")) (Some None) (option_map (λ f. Some f) (passing is_flavor word)) (Some flavor) e) [
  | inl c ↦ same_bytes word (codes "-") c.0 ∙ ap flavor_word (some_is None flavor c.1)
  | inr c ↦
      let m = mapped_some (passing is_flavor word) (λ f. Some f) flavor c.1 in
      let g = given (is_flavor word) word m.0 m.1 in
      g.1 ∙ ap flavor_word m.2
]

pub flavor_taken : (text : List ℕ) (flavor : Option (List ℕ)) → flavor_said text ≡ Some flavor → text ≡ codes "flavor " ++ flavor_word flavor
flavor_taken text flavor e =
    let t = then_some (behind (codes "flavor ") text) flavor_of flavor e in
    heading_taken (codes "flavor ") text t.0 t.1 ∙ ap (λ r. codes "flavor " ++ r) (flavor_word_taken t.0 flavor t.2)

numeral_filled : (digits : List ℕ) → is_numeral digits ≡ true → 0 < length digits
numeral_filled digits h = grind (arith, nat_tests)

numeral_zero : (digits : List ℕ) → is_numeral digits ≡ true → get_or digits 0 0 ≡ 48 → length digits ≡ 1
numeral_zero digits h z = grind (arith, nat_tests)

pub digits_taken : (digits : List ℕ) (n : ℕ) → count_of digits ≡ Some n → digits ≡ decimal n
digits_taken digits n e = counted (2 ^ 64) refl e
  where
    counted : (limit : ℕ) → limit ≡ 2 ^ 64 → cond (is_numeral digits && ltb (digits_value 10 digits) limit) (Some (digits_value 10 digits)) None ≡ Some n → digits ≡ decimal n
    counted limit same e =
        let g = given (is_numeral digits && ltb (digits_value 10 digits) limit) (digits_value 10 digits) n e in
        let p = and_parts (is_numeral digits) (ltb (digits_value 10 digits) limit) g.0 in
        let short : digits_value 10 digits < 2 ^ 64 = omega (arith, below _ _ p.1, same) in
        sym (decimal-digits_value own digits (digits_of digits p.0) (numeral_filled digits p.0) (numeral_zero digits p.0) short) ∙ ap decimal g.1

pub count_taken : (heading text : List ℕ) (n : ℕ) → count_behind heading text ≡ Some n → text ≡ heading ++ decimal n
count_taken heading text n e =
    let t = then_some (behind heading text) count_of n e in
    heading_taken heading text t.0 t.1 ∙ ap (λ r. heading ++ r) (digits_taken t.0 n t.2)

switch_taken : (word : List ℕ) (on : Bool) → switch_of word ≡ Some on → word ≡ switch_word on
switch_taken word on e = elim (chosen (bytes_eq word (codes "on")) (Some true) (cond (bytes_eq word (codes "off")) (Some false) None) (Some on) e) [
  | inl c ↦ same_bytes word (codes "on") c.0 ∙ ap switch_word (some_is true on c.1)
  | inr c ↦ (let g = given (bytes_eq word (codes "off")) false on c.1 in same_bytes word (codes "off") g.0 ∙ ap switch_word g.1)
]

switch_filled : (on : Bool) → 0 < length (switch_word on)
switch_filled true = omega arith
switch_filled false = omega arith

spaced : (h a b : List ℕ) → h ++ (a ++ 32 ∷ b) ≡ h ++ a ++ codes " " ++ b
spaced h a b = sym (append_assoc (h ++ a) (codes " ") b ∙ append_assoc h a (32 ∷ b))

pub option_taken : (text : List ℕ) (option : Switch) → option_said text ≡ Some option → line text ≡ option_line option
option_taken text option e =
    let t = then_some (behind (codes "option ") text) switch_in option e in
    let words = t.0 in
    let s = then_some (switch_of (back 32 words)) (named_switch (front 32 words)) option t.2 in
    let word : back 32 words ≡ switch_word s.0 = switch_taken (back 32 words) s.0 s.1 in
    let g = given (is_option_name (front 32 words)) (switch (front 32 words) s.0) option s.2 in
    let cut : words ≡ front 32 words ++ 32 ∷ back 32 words = parted 32 words (omega (arith, ap length word, switch_filled s.0)) in
    ap line (heading_taken (codes "option ") text words t.1 ∙ ap (λ w. codes "option " ++ w) (cut ∙ ap (λ w. front 32 words ++ 32 ∷ w) word) ∙ spaced (codes "option ") (front 32 words) (switch_word s.0))
    ∙ ap option_line g.1

kind_taken : (word : List ℕ) (kind : DepKind) → kind_of word ≡ Some kind → word ≡ kind_word kind
unfolding kind_of
kind_taken word kind e = elim (chosen (bytes_eq word (codes "pkg")) (Some Pkg) _ (Some kind) e) [
  | inl c ↦ same_bytes word (codes "pkg") c.0 ∙ ap kind_word (some_is Pkg kind c.1)
  | inr c1 ↦ elim (chosen (bytes_eq word (codes "fetch")) (Some Fetch) _ (Some kind) c1.1) [
    | inl c ↦ same_bytes word (codes "fetch") c.0 ∙ ap kind_word (some_is Fetch kind c.1)
    | inr c2 ↦ elim (chosen (bytes_eq word (codes "extract")) (Some Extract) _ (Some kind) c2.1) [
      | inl c ↦ same_bytes word (codes "extract") c.0 ∙ ap kind_word (some_is Extract kind c.1)
      | inr c3 ↦ elim (chosen (bytes_eq word (codes "patch")) (Some Patch) _ (Some kind) c3.1) [
        | inl c ↦ same_bytes word (codes "patch") c.0 ∙ ap kind_word (some_is Patch kind c.1)
        | inr c4 ↦ elim (chosen (bytes_eq word (codes "build")) (Some Build) _ (Some kind) c4.1) [
          | inl c ↦ same_bytes word (codes "build") c.0 ∙ ap kind_word (some_is Build kind c.1)
          | inr c5 ↦ elim (chosen (bytes_eq word (codes "lib")) (Some Lib) _ (Some kind) c5.1) [
            | inl c ↦ same_bytes word (codes "lib") c.0 ∙ ap kind_word (some_is Lib kind c.1)
            | inr c6 ↦ (let g = given (bytes_eq word (codes "run")) Run kind c6.1 in same_bytes word (codes "run") g.0 ∙ ap kind_word g.1)
          ]
        ]
      ]
    ]
  ]
]

pub package_name_filled : (text : List ℕ) → is_package_name text ≡ true → 0 < length text
package_name_filled text h =
    let k = some_below-place (is_parted_at text) (length text) (and_parts (nat_le (length text) 200) (some_below (is_parted_at text) (length text)) h).1 in
    omega (arith, k.1)

mark_taken : (version : Version) (words : List ℕ) (mark : List ℕ × Digest) → mark_in version words ≡ Some mark → words ≡ mark.0 ++ mark_word version mark.1
mark_taken One words mark e = ap (λ (m : List ℕ × Digest). m.0) (some_is (words, no_digest) mark e) ∙ sym (append-nil mark.0)
mark_taken Two words mark e =
    let m = mapped_some (digest_said (back 32 words)) (λ d. (front 32 words, d)) mark e in
    parted 32 words (digest_filled (back 32 words) m.0 m.1)
    ∙ ap (λ w. front 32 words ++ 32 ∷ w) (digest_taken (back 32 words) m.0 m.1)
    ∙ ap (λ (x : List ℕ × Digest). x.0 ++ mark_word Two x.1) m.2

pub depend_taken : (version : Version) (text : List ℕ) (found : Recorded) → depend_said version text ≡ Some found → line text ≡ recorded_line version found
depend_taken version text found e =
    let t = then_some (behind (codes "depend ") text) (depend_in version) found e in
    let words = t.0 in
    let rest = back 32 words in
    let node = front 32 rest in
    let last = back 32 rest in
    let k = then_some (kind_of (front 32 words)) (named_depend version node last) found t.2 in
    let kind : front 32 words ≡ kind_word k.0 = kind_taken (front 32 words) k.0 k.1 in
    let m = then_some (mark_in version last) (noted k.0 node) found k.2 in
    let name = m.0.0 in
    let mark = mark_word version m.0.1 in
    let told : last ≡ name ++ mark = mark_taken version last m.0 m.1 in
    let g = given (is_node node && is_package_name name) (recorded k.0 node name m.0.1) found m.2 in
    let filled : 0 < length name = package_name_filled name (and_parts (is_node node) (is_package_name name) g.0).1 in
    let some_last : 0 < length last = omega (arith, filled, ap length told, length-append name mark) in
    let some_rest : 0 < length rest = omega (arith, some_last, length-drop (position_or_len (is_mark 32) rest + 1) rest) in
    let first : words ≡ kind_word k.0 ++ 32 ∷ rest = parted 32 words some_rest ∙ ap (λ w. w ++ 32 ∷ rest) kind in
    let second : rest ≡ node ++ 32 ∷ (name ++ mark) = parted 32 rest some_last ∙ ap (λ w. node ++ 32 ∷ w) told in
    let head = codes "depend " ++ kind_word k.0 ++ codes " " in
    ap line (heading_taken (codes "depend ") text words t.1
    ∙ ap (λ w. codes "depend " ++ w) first
    ∙ spaced (codes "depend ") (kind_word k.0) rest
    ∙ ap (λ w. head ++ w) second
    ∙ spaced head node (name ++ mark)
    ∙ sym (append_assoc (head ++ node ++ codes " ") name mark))
    ∙ ap (recorded_line version) g.1

pub recipe_taken : (text : List ℕ) (recipe : Digest) → recipe_said text ≡ Some recipe → text ≡ codes "recipe " ++ hex recipe
recipe_taken text recipe e =
    let t = then_some (behind (codes "recipe ") text) digest_said recipe e in
    heading_taken (codes "recipe ") text t.0 t.1 ∙ ap (λ w. codes "recipe " ++ w) (digest_taken t.0 recipe t.2)

pub version_taken : (text : List ℕ) (version : Version) → version_said text ≡ Some version → text ≡ version_words version
version_taken text version e = elim (chosen (bytes_eq text (version_words One)) (Some One) _ (Some version) e) [
  | inl c ↦ same_bytes text (version_words One) c.0 ∙ ap version_words (some_is One version c.1)
  | inr c1 ↦ (let g = given (bytes_eq text (version_words Two)) Two version c1.1 in same_bytes text (version_words Two) g.0 ∙ ap version_words g.1)
]

pub path_filled : (path : List ℕ) → is_path path ≡ true → 0 < length path
path_filled [] h = absurd cc
path_filled (b ∷ path) h = omega arith

pub file_taken : (text : List ℕ) (size : ℕ) (path : List ℕ) → 0 < length path → file_said text ≡ Some (size, path) → text ≡ codes "file " ++ decimal size ++ codes " " ++ path
file_taken text size path filled e =
    let t = then_some (behind (codes "file ") text) file_in (size, path) e in
    let words = t.0 in
    let m = mapped_some (count_of (front 32 words)) (λ n. (n, back 32 words)) (size, path) t.2 in
    let same_size : m.0 ≡ size = ap (λ (x : ℕ × List ℕ). x.0) m.2 in
    let same_path : back 32 words ≡ path = ap (λ (x : ℕ × List ℕ). x.1) m.2 in
    let digits : front 32 words ≡ decimal size = digits_taken (front 32 words) m.0 m.1 ∙ ap decimal same_size in
    let cut : words ≡ front 32 words ++ 32 ∷ back 32 words = parted 32 words (omega (arith, filled, ap length same_path)) in
    heading_taken (codes "file ") text words t.1
    ∙ ap (λ w. codes "file " ++ w) (cut ∙ ap₂ (λ d p. d ++ 32 ∷ p) digits same_path)
    ∙ spaced (codes "file ") (decimal size) path

pub chosen_ok : {A : Type 0} (b : Bool) (r : Result A Fault) (d : Fault) (y : A) → cond b r (Err d) ≡ Ok y → (b ≡ true) × (r ≡ Ok y)
chosen_ok true r d y e = (refl, e)
chosen_ok false r d y e = absurd cc

pub piece_taken : (size : ℕ) (bytes text rest : List ℕ) → piece_at size bytes ≡ Ok (text, rest) → (bytes ≡ line text ++ rest) × (length text ≡ size)
piece_taken size bytes text rest e =
    let g = chosen_ok (ltb size (length bytes)) (cond (get_or bytes size 0 == 10) (Ok (take size bytes, drop (size + 1) bytes)) (Err (Misfit (length bytes)))) Short (text, rest) e in
    let l : size < length bytes = below _ _ g.0 in
    let h = given_ok (get_or bytes size 0 == 10) (Misfit (length bytes)) (take size bytes, drop (size + 1) bytes) (text, rest) g.1 in
    let cut : bytes ≡ take size bytes ++ 10 ∷ drop (size + 1) bytes = sym (take-append-drop size bytes) ∙ ap (λ r. take size bytes ++ r) (drop_more bytes size 0 l ∙ ap (λ b. b ∷ drop (size + 1) bytes) (eqb-true _ _ h.0)) in (
      cut ∙ ap (λ (x : List ℕ × List ℕ). x.0 ++ 10 ∷ x.1) h.1 ∙ sym (append_assoc text (10 ∷ []) rest),
      sym (ap (λ (x : List ℕ × List ℕ). length x.0) h.1) ∙ length-take-le size bytes (omega arith),
    )
