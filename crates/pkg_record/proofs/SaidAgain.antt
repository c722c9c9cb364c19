-- What is spelled in a line is said by its text, and the line is read whatever follows it.
use Rattle.std.proofs.Common.{◌≡◌, ℕ, ◌+◌, ◌%◌, ◌<◌, ◌^◌, Bool, true, false, List, [], ◌∷◌, ◌++◌, length, get_or, take, drop, codes, ltb, arith, refl, ap, ap₂, sym, ◌∙◌, inl, inr, append_assoc, append-nil, zero, suc}
use Rattle.std.specs.Prelude.{◌⊎◌, ◌&&◌, ◌==◌, nat_eq, Option, Some, None, Ok, Err, cond, bytes_eq, IsTrue, IfSome}
use Rattle.std.specs.Option.{option_map, option_and_then}
use Rattle.std.specs.List.{list_all, starts_with}
use Rattle.std.specs.Char.{is_ascii_digit}
use Rattle.std.specs.Fmt.{decimal}
use Rattle.std.specs.Str.Parse.{digits_value}
use Rattle.std.proofs.lemmas.Bool.{cases_Bool, lt-ltb, and_from}
use Rattle.std.proofs.lemmas.Bool.Decides.{nat_tests, Decides-eqb}
use Rattle.std.proofs.lemmas.Fmt.{digits_value-decimal, decimal_by_steps, decimal_nonempty, first_decimal, decimal_digit}
use Rattle.std.proofs.lemmas.List.{length-append, drop_at}
use Rattle.std.proofs.lemmas.List.Folds.{list_all-append}
use Rattle.std.proofs.lemmas.Slice.Eq.{starts_is, bytes_eq-Decides}
use Rattle.std.proofs.Math.Seq.{get_or-append_seam, take-append_seam}
use Rattle.bulk_base.proofs.Digits.{own}
use Rattle.bulk_base.specs.declared.file.Switch.{Switch}
use Rattle.bulk_base.specs.Names.{is_flavor, is_option_name}
use Rattle.bulk_model.specs.declared.depend.Recorded.{Recorded}
use Rattle.bulk_model.specs.declared.digest.Digest.{Digest}
use Rattle.bulk_model.specs.declared.version.Version.{Version}
use Rattle.bulk_model.specs.declared.version.Version.TheVariants.{One, Two}
use Rattle.bulk_model.specs.Digests.{no_digest, hex}
use Rattle.bulk_model.specs.declared.depend.DepKind.{DepKind}
use Rattle.bulk_model.specs.declared.depend.DepKind.TheVariants.{Pkg, Fetch, Extract, Patch, Build, Lib, Run}
use Rattle.bulk_model.specs.Lines.{line, kind_word, flavor_word, switch_word, depend_words}
use Rattle.bulk_model.specs.Spelling.{version_words, mark_word}
use Rattle.pkg_record.specs.Laws.{IsDigest}
use Rattle.pkg_record.specs.declared.fault.Fault.TheVariants.{Short, Misfit}
use Rattle.bulk_base.specs.Marks.{front, back}
use Rattle.port_name.specs.Forms.{is_node}
use Rattle.port_name.specs.PackageForm.{is_package_name}
use Rattle.pkg_record.specs.Said.{behind, passing, word_behind, flavor_of, flavor_said, is_numeral, count_of, count_behind, switch_of, switch, named_switch, switch_in, option_said, kind_of, version_said, digest_said, recipe_said, recorded, mark_in, noted, named_depend, depend_in, depend_said, file_in, file_said}
use Rattle.pkg_record.specs.Reading.{◌>>=◌, line_at, fitting, said_at, piece_at}
use Rattle.pkg_record.proofs.Names.{is_visible, is_plain, list_all-weaken, option_name, node_plain, package_name_plain}
use Rattle.pkg_record.proofs.DigestTexts.{digest_again}
use Rattle.pkg_record.proofs.NamesAgain.{differs, Lacks, front_again, back_again, found_below}

-- ---- a line

line_again : (text rest : List ℕ) → Lacks 10 text → line_at (line text ++ rest) ≡ Ok (text, rest)
line_again text rest h =
    ap line_at (append_assoc text (10 ∷ []) rest)
    ∙ ap (λ b. cond b (Ok (front 10 (text ++ 10 ∷ rest), back 10 (text ++ 10 ∷ rest))) (Err Short)) (lt-ltb _ _ (found_below 10 text rest h))
    ∙ ap₂ (λ a b. Ok (a, b)) (front_again 10 text rest h) (back_again 10 text rest h)

pub said_again : {X : Type 0} (says : List ℕ → Option X) (text : List ℕ) (x : X) (rest : List ℕ) → Lacks 10 text → says text ≡ Some x → said_at says (line text ++ rest) ≡ Ok (x, rest)
unfolding said_at
said_again says text x rest h e =
    ap (λ r. r >>= λ l. fitting (length (line text ++ rest)) l.1 (says l.0)) (line_again text rest h) ∙ ap (fitting (length (line text ++ rest)) rest) e

-- ---- what a text says

pub heading_again : (heading rest : List ℕ) → behind heading (heading ++ rest) ≡ Some rest
heading_again heading rest =
    ap (λ b. cond b (Some (drop (length heading) (heading ++ rest))) None) ((starts_is Decides-eqb (heading ++ rest) heading (starts_with nat_eq (heading ++ rest) heading) refl).1 rest refl)
    ∙ ap (λ r. Some r) (drop_at heading rest (length heading) refl)

pub word_again : (heading : List ℕ) (test : List ℕ → Bool) (word : List ℕ) → test word ≡ true → word_behind heading test (heading ++ word) ≡ Some word
word_again heading test word t = ap (option_and_then (passing test)) (heading_again heading word) ∙ ap (λ b. cond b (Some word) None) t

flavor_differs : (flavor : List ℕ) → is_flavor flavor ≡ true → bytes_eq flavor (codes "-") ≡ false
flavor_differs flavor h = elim (cases_Bool (bytes_eq flavor (codes "-"))) [
  | inl e ↦ (let same : is_flavor (codes "-") ≡ true = ap is_flavor (sym ((bytes_eq-Decides flavor (codes "-")).0 e)) ∙ h in cc)
  | inr e ↦ e
]

flavor_word_again : (flavor : Option (List ℕ)) → IfSome flavor (λ f. IsTrue (is_flavor f)) → flavor_of (flavor_word flavor) ≡ Some flavor
flavor_word_again None h = refl
flavor_word_again (Some f) h =
    ap (λ b. cond b (Some None) (option_map (λ x. Some x) (passing is_flavor f))) (flavor_differs f h) ∙ ap (λ b. option_map (λ x. Some x) (cond b (Some f) None)) h

pub flavor_again : (flavor : Option (List ℕ)) → IfSome flavor (λ f. IsTrue (is_flavor f)) → flavor_said (codes "flavor " ++ flavor_word flavor) ≡ Some flavor
flavor_again flavor h = ap (option_and_then flavor_of) (heading_again (codes "flavor ") (flavor_word flavor)) ∙ flavor_word_again flavor h

digit_is : (n : ℕ) → n < 10 → is_ascii_digit (48 + n) ≡ true
digit_is n l = grind (arith, nat_tests)

decimal_digits : (n : ℕ) → n < 2 ^ 64 → list_all is_ascii_digit (decimal n) ≡ true
decimal_digits = decimal_by_steps (λ n ds. list_all is_ascii_digit ds ≡ true)
    (λ n l. and_from _ true (digit_is n l) refl)
    (λ n ds l h. list_all-append is_ascii_digit ds ((48 + n % 10) ∷ []) ∙ and_from _ _ h (and_from _ true (digit_is (n % 10) (omega arith)) refl))

numeral_test : (ds : List ℕ) → list_all is_ascii_digit ds ≡ true → 0 < length ds → (length ds ≡ 1) ⊎ (48 < get_or ds 0 0) → is_numeral ds ≡ true
numeral_test ds digits some (inl one) = grind (arith, nat_tests)
numeral_test ds digits some (inr first) = grind (arith, nat_tests)

decimal_is_numeral : (n : ℕ) → n < 2 ^ 64 → is_numeral (decimal n) ≡ true
decimal_is_numeral zero l = ap is_numeral (decimal_digit 0 (omega arith))
decimal_is_numeral (suc n) l = numeral_test (decimal (suc n)) (decimal_digits (suc n) l) (decimal_nonempty (suc n) l) (inr (first_decimal (suc n) (omega arith) l))

pub digits_again : (n : ℕ) → n < 2 ^ 64 → count_of (decimal n) ≡ Some n
digits_again n l = counted (2 ^ 64) l
  where
    counted : (limit : ℕ) → n < limit → cond (is_numeral (decimal n) && ltb (digits_value 10 (decimal n)) limit) (Some (digits_value 10 (decimal n))) None ≡ Some n
    counted limit below =
        let value : digits_value 10 (decimal n) ≡ n = digits_value-decimal own n l in
        ap (λ v. cond (is_numeral (decimal n) && ltb v limit) (Some v) None) value
        ∙ ap (λ b. cond b (Some n) None) (and_from _ _ (decimal_is_numeral n l) (lt-ltb n limit below))

pub count_again : (heading : List ℕ) (n : ℕ) → n < 2 ^ 64 → count_behind heading (heading ++ decimal n) ≡ Some n
count_again heading n l = ap (option_and_then count_of) (heading_again heading (decimal n)) ∙ digits_again n l

visible_word : (b : ℕ) → is_visible b ≡ true → differs 32 b ≡ true
visible_word b h = grind (arith, nat_tests)

visible_line : (b : ℕ) → is_visible b ≡ true → differs 10 b ≡ true
visible_line b h = grind (arith, nat_tests)

pub plain_word : (text : List ℕ) → is_plain text ≡ true → Lacks 32 text
plain_word text h = list_all-weaken is_visible (differs 32) visible_word text h

pub plain_line : (text : List ℕ) → is_plain text ≡ true → Lacks 10 text
plain_line text h = list_all-weaken is_visible (differs 10) visible_line text h

digit_visible : (b : ℕ) → is_ascii_digit b ≡ true → is_visible b ≡ true
digit_visible b h = grind (arith, nat_tests)

pub decimal_plain : (n : ℕ) → n < 2 ^ 64 → is_plain (decimal n) ≡ true
decimal_plain n l = list_all-weaken is_ascii_digit is_visible digit_visible (decimal n) (decimal_digits n l)

switch_word_again : (on : Bool) → switch_of (switch_word on) ≡ Some on
switch_word_again true = refl
switch_word_again false = refl

spaced_back : (h a b : List ℕ) → h ++ a ++ codes " " ++ b ≡ h ++ (a ++ 32 ∷ b)
spaced_back h a b = append_assoc (h ++ a) (codes " ") b ∙ append_assoc h a (32 ∷ b)

pub option_again : (option : Switch) → is_option_name option.name ≡ true → option_said (codes "option " ++ option.name ++ codes " " ++ switch_word option.on) ≡ Some option
option_again option h =
    let name = option.name in
    let word = switch_word option.on in
    let lacks : Lacks 32 name = plain_word name (option_name name h).1 in
    ap option_said (spaced_back (codes "option ") name word)
    ∙ ap (option_and_then switch_in) (heading_again (codes "option ") (name ++ 32 ∷ word))
    ∙ ap₂ (λ a b. option_and_then (named_switch a) (switch_of b)) (front_again 32 name word lacks) (back_again 32 name word lacks)
    ∙ ap (option_and_then (named_switch name)) (switch_word_again option.on)
    ∙ ap (λ b. cond b (Some (switch name option.on)) None) h

kind_word_again : (kind : DepKind) → (kind_of (kind_word kind) ≡ Some kind) × (Lacks 32 (kind_word kind)) × (Lacks 10 (kind_word kind))
unfolding kind_of
kind_word_again Pkg = (refl, refl, refl)
kind_word_again Fetch = (refl, refl, refl)
kind_word_again Extract = (refl, refl, refl)
kind_word_again Patch = (refl, refl, refl)
kind_word_again Build = (refl, refl, refl)
kind_word_again Lib = (refl, refl, refl)
kind_word_again Run = (refl, refl, refl)

pub kind_line : (kind : DepKind) → Lacks 10 (kind_word kind)
kind_line kind = (kind_word_again kind).2

-- what a version tells of a digest: nothing, so that there is none; or the digest
abbrev pub Tells : Version → Digest → Type 0
Tells One digest = digest ≡ no_digest
Tells Two digest = IsDigest digest

mark_again : (version : Version) (name : List ℕ) (digest : Digest) → Lacks 32 name → Tells version digest → mark_in version (name ++ mark_word version digest) ≡ Some (name, digest)
mark_again One name digest lacks told = ap₂ (λ a b. Some (a, b)) (append-nil name) (sym told)
mark_again Two name digest lacks told =
    ap₂ (λ a b. option_map (λ d. (a, d)) (digest_said b)) (front_again 32 name (hex digest) lacks) (back_again 32 name (hex digest) lacks)
    ∙ ap (option_map (λ d. (name, d))) (digest_again digest told)

depend_words_again : (version : Version) (kind : DepKind) (node name : List ℕ) (digest : Digest) → is_node node ≡ true → is_package_name name ≡ true → Tells version digest
    → depend_in version (kind_word kind ++ 32 ∷ (node ++ 32 ∷ (name ++ mark_word version digest))) ≡ Some (recorded kind node name digest)
depend_words_again version kind node name digest n m told =
    let k = kind_word_again kind in
    let last = name ++ mark_word version digest in
    let rest = node ++ 32 ∷ last in
    let lacks : Lacks 32 node = plain_word node (node_plain node n) in
    ap₂ (λ a b. option_and_then (named_depend version (front 32 b) (back 32 b)) (kind_of a)) (front_again 32 (kind_word kind) rest k.1) (back_again 32 (kind_word kind) rest k.1)
    ∙ ap (option_and_then (named_depend version (front 32 rest) (back 32 rest))) k.0
    ∙ ap₂ (λ a b. named_depend version a b kind) (front_again 32 node last lacks) (back_again 32 node last lacks)
    ∙ ap (option_and_then (noted kind node)) (mark_again version name digest (plain_word name (package_name_plain name m)) told)
    ∙ ap (λ b. cond b (Some (recorded kind node name digest)) None) (and_from _ _ n m)

pub depend_again : (version : Version) (d : Recorded) → is_node d.node ≡ true → is_package_name d.name ≡ true → Tells version d.digest
    → depend_said version (depend_words d.kind d.node d.name ++ mark_word version d.digest) ≡ Some d
depend_again version d n m told =
    let head = codes "depend " ++ kind_word d.kind ++ codes " " in
    let last = d.name ++ mark_word version d.digest in
    let words = kind_word d.kind ++ 32 ∷ (d.node ++ 32 ∷ last) in
    let e : depend_words d.kind d.node d.name ++ mark_word version d.digest ≡ codes "depend " ++ words =
    append_assoc (head ++ d.node ++ codes " ") d.name (mark_word version d.digest)
    ∙ spaced_back head d.node last
    ∙ spaced_back (codes "depend ") (kind_word d.kind) (d.node ++ 32 ∷ last) in
    ap (depend_said version) e
    ∙ ap (option_and_then (depend_in version)) (heading_again (codes "depend ") words)
    ∙ depend_words_again version d.kind d.node d.name d.digest n m told

pub version_again : (version : Version) → version_said (version_words version) ≡ Some version
version_again One = refl
version_again Two = refl

pub version_line : (version : Version) → Lacks 10 (version_words version)
version_line One = refl
version_line Two = refl

pub recipe_again : (recipe : Digest) → IsDigest recipe → recipe_said (codes "recipe " ++ hex recipe) ≡ Some recipe
recipe_again recipe h = ap (option_and_then digest_said) (heading_again (codes "recipe ") (hex recipe)) ∙ digest_again recipe h

pub file_again : (size : ℕ) (path : List ℕ) → size < 2 ^ 64 → file_said (codes "file " ++ decimal size ++ codes " " ++ path) ≡ Some (size, path)
file_again size path l =
    let lacks : Lacks 32 (decimal size) = plain_word (decimal size) (decimal_plain size l) in
    ap file_said (spaced_back (codes "file ") (decimal size) path)
    ∙ ap (option_and_then file_in) (heading_again (codes "file ") (decimal size ++ 32 ∷ path))
    ∙ ap₂ (λ a b. option_map (λ n. (n, b)) (count_of a)) (front_again 32 (decimal size) path lacks) (back_again 32 (decimal size) path lacks)
    ∙ ap (option_map (λ n. (n, path))) (digits_again size l)

pub piece_again : (bytes rest : List ℕ) → piece_at (length bytes) (line bytes ++ rest) ≡ Ok (bytes, rest)
piece_again bytes rest =
    let whole = bytes ++ 10 ∷ rest in
    let cut : drop (length bytes + 1) whole ≡ rest = ap (drop (length bytes + 1)) (sym (append_assoc bytes (10 ∷ []) rest)) ∙ drop_at (bytes ++ 10 ∷ []) rest (length bytes + 1) (length-append bytes (10 ∷ [])) in
    ap (piece_at (length bytes)) (append_assoc bytes (10 ∷ []) rest)
    ∙ ap (λ b. cond b (cond (get_or whole (length bytes) 0 == 10) (Ok (take (length bytes) whole, drop (length bytes + 1) whole)) (Err (Misfit (length whole)))) (Err Short)) (lt-ltb (length bytes) (length whole) (omega (arith, length-append bytes (10 ∷ rest))))
    ∙ ap (λ b. cond (b == 10) (Ok (take (length bytes) whole, drop (length bytes + 1) whole)) (Err (Misfit (length whole)))) (get_or-append_seam bytes 10 rest 0)
    ∙ ap₂ (λ a b. Ok (a, b)) (take-append_seam bytes (10 ∷ rest)) cut
