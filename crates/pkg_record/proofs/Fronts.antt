-- What is read from the front of bytes that are read: the same, or Short.
use Rattle.std.proofs.Common.{◌≡◌, ℕ, ◌+◌, ◌<◌, ◌≤◌, zero, suc, true, List, [], ◌∷◌, ◌++◌, length, get_or, take, drop, codes, ltb, arith, ap, sym, ◌∙◌, inl, inr, ◌⊎◌}
use Rattle.std.specs.Prelude.{◌==◌, Option, Some, Result, Ok, Err, cond}
use Rattle.std.specs.Option.{option_and_then}
use Rattle.std.specs.List.{position_or_len}
use Rattle.std.proofs.lemmas.Bool.{cases_lt, lt-ltb, le-ltb}
use Rattle.std.proofs.lemmas.List.{length-append, get_or_append_left, take-append-le, drop-append-le}
use Rattle.std.proofs.lemmas.List.Sums.{position_or_len_is, fails_before_first, passes_at_first}
use Rattle.bulk_base.specs.declared.file.FileItem.{FileItem}
use Rattle.bulk_model.specs.declared.version.Version.{Version}
use Rattle.bulk_model.specs.declared.version.Version.TheVariants.{One, Two}
use Rattle.bulk_model.specs.Digests.{no_digest}
use Rattle.pkg_record.specs.declared.fault.Fault.{Fault}
use Rattle.pkg_record.specs.declared.fault.Fault.TheVariants.{Short, Misfit}
use Rattle.bulk_base.specs.Marks.{is_mark}
use Rattle.port_name.specs.Forms.{is_origin}
use Rattle.port_name.specs.PackageForm.{is_package_name}
use Rattle.pkg_record.specs.Said.{word_behind, version_said, flavor_said, recipe_said, count_behind, option_said, depend_said, file_said}
use Rattle.pkg_record.specs.Reading.{◌>>=◌, line_at, fitting, said_at, piece_at, next_option, option_at, next_depend, depend_at, next_file, file_at, items_at, listed_at, recipe_at, package_told, unsigned_at}
use Rattle.pkg_record.proofs.Taken.{bind_ok, ok_is, given_ok, chosen_ok, below, fits}
use Rattle.pkg_record.proofs.Spelled.{file_made, from_files, from_depends, from_options, from_recipe, from_flavor, from_origin, from_name}

abbrev pub Reader : Type 0 → Type 0
Reader X = List ℕ → Result (X × List ℕ) Fault

-- the same was read, and what is left is the front of what was left
pub record Same {X : Type 0} (read : Reader X) (bytes more : List ℕ) (x : X) (rest : List ℕ) : Type 0 where
  pub left : List ℕ
  pub reads : read bytes ≡ Ok (x, left)
  pub front : left ++ more ≡ rest

-- from the front of what it reads, a reader gives the same, or Short
abbrev pub Fronts : {X : Type 0} → Reader X → Type 0
Fronts {X} read = (bytes more : List ℕ) (x : X) (rest : List ℕ) → read (bytes ++ more) ≡ Ok (x, rest) → (read bytes ≡ Err Short) ⊎ Same read bytes more x rest

pub fronts_done : {X : Type 0} (x : X) → Fronts (λ bytes. Ok (x, bytes))
fronts_done x bytes more y rest e =
    let p = ok_is (x, bytes ++ more) (y, rest) e in
    inr (record { left = bytes; reads = ap (λ (q : _ × List ℕ). Ok (q.0, bytes)) p; front = ap (λ (q : _ × List ℕ). q.1) p })

module _ {X Y : Type 0} (read : Reader X) (then : X → Reader Y) where
  second_case : (bytes more : List ℕ) (x : X) (middle : List ℕ) (y : Y) (rest : List ℕ) → (s : Same read bytes more x middle) → (then x s.left ≡ Err Short) ⊎ Same (then x) s.left more y rest
      → ((read bytes >>= λ r. then r.0 r.1) ≡ Err Short) ⊎ Same (λ bytes. read bytes >>= λ r. then r.0 r.1) bytes more y rest
  second_case bytes more x middle y rest s (inl short) = inl (ap (λ r. r >>= λ r. then r.0 r.1) s.reads ∙ short)
  second_case bytes more x middle y rest s (inr t) = inr (record { left = t.left; reads = ap (λ r. r >>= λ r. then r.0 r.1) s.reads ∙ t.reads; front = t.front })

  first_case : ((x : X) → Fronts (then x)) → (bytes more : List ℕ) (x : X) (middle : List ℕ) (y : Y) (rest : List ℕ) → then x middle ≡ Ok (y, rest)
      → (read bytes ≡ Err Short) ⊎ Same read bytes more x middle
      → ((read bytes >>= λ r. then r.0 r.1) ≡ Err Short) ⊎ Same (λ bytes. read bytes >>= λ r. then r.0 r.1) bytes more y rest
  first_case thens bytes more x middle y rest e (inl short) = inl (ap (λ r. r >>= λ r. then r.0 r.1) short)
  first_case thens bytes more x middle y rest e (inr s) =
      second_case bytes more x middle y rest s (thens x s.left more y rest (ap (then x) s.front ∙ e))

  -- one reader and then another
  pub fronts_then : Fronts read → ((x : X) → Fronts (then x)) → Fronts (λ bytes. read bytes >>= λ r. then r.0 r.1)
  fronts_then reads thens bytes more y rest e =
      let b = bind_ok (read (bytes ++ more)) (λ r. then r.0 r.1) (y, rest) e in
      first_case thens bytes more b.0.0 b.0.1 y rest b.2 (reads bytes more b.0.0 b.0.1 b.1)

-- a line
place_same : (bytes more : List ℕ) → position_or_len (is_mark 10) (bytes ++ more) < length bytes → position_or_len (is_mark 10) bytes ≡ position_or_len (is_mark 10) (bytes ++ more)
place_same bytes more l =
    position_or_len_is (is_mark 10) bytes (position_or_len (is_mark 10) (bytes ++ more)) 0 (omega arith)
    (λ k b. ap (is_mark 10) (sym (get_or_append_left bytes more 0 k (omega arith))) ∙ fails_before_first (is_mark 10) (bytes ++ more) k 0 b)
    (λ b. ap (is_mark 10) (sym (get_or_append_left bytes more 0 (position_or_len (is_mark 10) (bytes ++ more)) l)) ∙ passes_at_first (is_mark 10) (bytes ++ more) 0 (omega (arith, length-append bytes more)))

place_none : (bytes more : List ℕ) → length bytes ≤ position_or_len (is_mark 10) (bytes ++ more) → position_or_len (is_mark 10) bytes ≡ length bytes
place_none bytes more l =
    position_or_len_is (is_mark 10) bytes (length bytes) 0 (omega arith)
    (λ k b. ap (is_mark 10) (sym (get_or_append_left bytes more 0 k b)) ∙ fails_before_first (is_mark 10) (bytes ++ more) k 0 (omega arith))
    (λ b. absurd (omega arith))

abbrev line_in : List ℕ → ℕ → Result (List ℕ × List ℕ) Fault
line_in bytes place = cond (ltb place (length bytes)) (Ok (take place bytes, drop (place + 1) bytes)) (Err Short)

line_case : (bytes more text rest : List ℕ) → (text ≡ take (position_or_len (is_mark 10) (bytes ++ more)) (bytes ++ more)) → rest ≡ drop (position_or_len (is_mark 10) (bytes ++ more) + 1) (bytes ++ more)
    → (position_or_len (is_mark 10) (bytes ++ more) < length bytes) ⊎ (length bytes ≤ position_or_len (is_mark 10) (bytes ++ more)) → (line_at bytes ≡ Err Short) ⊎ Same line_at bytes more text rest
line_case bytes more text rest t r (inl l) =
    let place = position_or_len (is_mark 10) (bytes ++ more) in
    inr (record {
      left = drop (place + 1) bytes;
      reads = ap (line_in bytes) (place_same bytes more l)
          ∙ ap (λ b. cond b (Ok (take place bytes, drop (place + 1) bytes)) (Err Short)) (lt-ltb place (length bytes) l)
          ∙ ap (λ x. Ok (x, drop (place + 1) bytes)) (sym (take-append-le place bytes more (omega arith)) ∙ sym t);
      front = sym (drop-append-le (place + 1) bytes more (omega arith)) ∙ sym r;
    })
line_case bytes more text rest t r (inr past) =
    inl (ap (line_in bytes) (place_none bytes more past)
    ∙ ap (λ b. cond b (Ok (take (length bytes) bytes, drop (length bytes + 1) bytes)) (Err Short)) (le-ltb (length bytes) (length bytes) (omega arith)))

line_fronts : Fronts line_at
line_fronts bytes more text rest e =
    let place = position_or_len (is_mark 10) (bytes ++ more) in
    let g = given_ok (ltb place (length (bytes ++ more))) Short (take place (bytes ++ more), drop (place + 1) (bytes ++ more)) (text, rest) e in
    line_case bytes more text rest (ap (λ (x : List ℕ × List ℕ). x.0) (sym g.1)) (ap (λ (x : List ℕ × List ℕ). x.1) (sym g.1)) (cases_lt place (length bytes))

-- a line that says something
fitting_same : {X : Type 0} (left : ℕ) (r : List ℕ) (o : Option X) (x : X) → o ≡ Some x → fitting left r o ≡ Ok (x, r)
fitting_same left r o x e = ap (fitting left r) e

said_case : {X : Type 0} (says : List ℕ → Option X) (bytes more text middle : List ℕ) (x : X) (rest : List ℕ) → says text ≡ Some x → middle ≡ rest → (line_at bytes ≡ Err Short) ⊎ Same line_at bytes more text middle
    → (said_at says bytes ≡ Err Short) ⊎ Same (said_at says) bytes more x rest
unfolding said_at
said_case says bytes more text middle x rest says_it same (inl short) = inl (ap (λ r. r >>= λ l. fitting (length bytes) l.1 (says l.0)) short)
said_case says bytes more text middle x rest says_it same (inr s) =
    inr (record {
      left = s.left;
      reads = ap (λ r. r >>= λ l. fitting (length bytes) l.1 (says l.0)) s.reads ∙ fitting_same (length bytes) s.left (says text) x says_it;
      front = s.front ∙ same;
    })

pub said_fronts : {X : Type 0} (says : List ℕ → Option X) → Fronts (said_at says)
unfolding said_at
said_fronts says bytes more x rest e =
    let b = bind_ok (line_at (bytes ++ more)) (λ l. fitting (length (bytes ++ more)) l.1 (says l.0)) (x, rest) e in
    let f = fits (length (bytes ++ more)) b.0.1 (says b.0.0) x rest b.2 in
    said_case says bytes more b.0.0 b.0.1 x rest f.0 f.1 (line_fronts bytes more b.0.0 b.0.1 b.1)

-- the bytes of a file
piece_case : (size : ℕ) (bytes more text rest : List ℕ) → size < length (bytes ++ more) → (get_or (bytes ++ more) size 0 == 10) ≡ true → text ≡ take size (bytes ++ more) → rest ≡ drop (size + 1) (bytes ++ more)
    → (size < length bytes) ⊎ (length bytes ≤ size) → (piece_at size bytes ≡ Err Short) ⊎ Same (piece_at size) bytes more text rest
piece_case size bytes more text rest w h t r (inl l) =
    inr (record {
      left = drop (size + 1) bytes;
      reads = ap (λ b. cond b (cond (get_or bytes size 0 == 10) (Ok (take size bytes, drop (size + 1) bytes)) (Err (Misfit (length bytes)))) (Err Short)) (lt-ltb size (length bytes) l)
          ∙ ap (λ b. cond b (Ok (take size bytes, drop (size + 1) bytes)) (Err (Misfit (length bytes)))) (ap (λ b. b == 10) (sym (get_or_append_left bytes more 0 size l)) ∙ h)
          ∙ ap (λ x. Ok (x, drop (size + 1) bytes)) (sym (take-append-le size bytes more (omega arith)) ∙ sym t);
      front = sym (drop-append-le (size + 1) bytes more (omega arith)) ∙ sym r;
    })
piece_case size bytes more text rest w h t r (inr past) =
    inl (ap (λ b. cond b (cond (get_or bytes size 0 == 10) (Ok (take size bytes, drop (size + 1) bytes)) (Err (Misfit (length bytes)))) (Err Short)) (le-ltb size (length bytes) past))

pub piece_fronts : (size : ℕ) → Fronts (piece_at size)
piece_fronts size bytes more text rest e =
    let whole = bytes ++ more in
    let g = chosen_ok (ltb size (length whole)) (cond (get_or whole size 0 == 10) (Ok (take size whole, drop (size + 1) whole)) (Err (Misfit (length whole)))) Short (text, rest) e in
    let h = given_ok (get_or whole size 0 == 10) (Misfit (length whole)) (take size whole, drop (size + 1) whole) (text, rest) g.1 in
    piece_case size bytes more text rest (below _ _ g.0) h.0 (ap (λ (x : List ℕ × List ℕ). x.0) (sym h.1)) (ap (λ (x : List ℕ × List ℕ). x.1) (sym h.1)) (cases_lt size (length bytes))

-- items
option_fronts : (before : List _) → Fronts (option_at before)
unfolding option_at
option_fronts before = said_fronts (λ text. option_and_then (next_option before) (option_said text))

depend_fronts : (version : Version) (before : List _) → Fronts (depend_at version before)
unfolding depend_at
depend_fronts version before = said_fronts (λ text. option_and_then (next_depend before) (depend_said version text))

recipe_fronts : (version : Version) → Fronts (recipe_at version)
unfolding recipe_at
recipe_fronts One = fronts_done no_digest
recipe_fronts Two = said_fronts recipe_said

file_fronts : (before : List FileItem) → Fronts (file_at before)
unfolding file_at
file_fronts before =
    fronts_then (said_at (λ text. option_and_then (next_file before) (file_said text))) (λ head rest. piece_at head.0 rest >>= λ piece. Ok (file_made head.1 piece.0, piece.1))
    (said_fronts (λ text. option_and_then (next_file before) (file_said text)))
    (λ head. fronts_then (piece_at head.0) (λ piece rest. Ok (file_made head.1 piece, rest)) (piece_fronts head.0) (λ piece. fronts_done (file_made head.1 piece)))

items_fronts : {X : Type 0} (item : List X → Reader X) → ((before : List X) → Fronts (item before)) → (n : ℕ) (before : List X) → Fronts (items_at item n before)
unfolding items_at
items_fronts item fronts zero before = fronts_done before
items_fronts item fronts (suc n) before = fronts_then (item before) (λ x rest. items_at item n (before ++ x ∷ []) rest) (fronts before) (λ x. items_fronts item fronts n (before ++ x ∷ []))

listed_fronts : {X : Type 0} (heading : List ℕ) (item : List X → Reader X) → ((before : List X) → Fronts (item before)) → Fronts (listed_at heading item)
unfolding listed_at
listed_fronts heading item fronts =
    fronts_then (said_at (count_behind heading)) (λ count rest. items_at item count [] rest) (said_fronts (count_behind heading)) (λ count. items_fronts item fronts count [])

-- the lines before the digest
pub unsigned_fronts : Fronts unsigned_at
unfolding unsigned_at
unsigned_fronts =
    fronts_then (said_at version_said) (λ version rest. from_name version rest) (said_fronts version_said) (λ version.
    fronts_then (said_at (word_behind (codes "name ") is_package_name)) (λ name rest. from_origin version name rest) (said_fronts (word_behind (codes "name ") is_package_name)) (λ name.
    fronts_then (said_at (word_behind (codes "origin ") is_origin)) (λ origin rest. from_flavor version name origin rest) (said_fronts (word_behind (codes "origin ") is_origin)) (λ origin.
    fronts_then (said_at flavor_said) (λ flavor rest. from_recipe version name origin flavor rest) (said_fronts flavor_said) (λ flavor.
    fronts_then (recipe_at version) (λ recipe rest. from_options version name origin flavor recipe rest) (recipe_fronts version) (λ recipe.
    fronts_then (listed_at (codes "options ") option_at) (λ options rest. from_depends version name origin flavor recipe options rest) (listed_fronts (codes "options ") option_at option_fronts) (λ options.
    fronts_then (listed_at (codes "depends ") (depend_at version)) (λ depends rest. from_files version name origin flavor recipe options depends rest) (listed_fronts (codes "depends ") (depend_at version) (depend_fronts version)) (λ depends.
    fronts_then (listed_at (codes "files ") file_at) (λ files rest. Ok ((version, package_told name origin flavor recipe options depends files), rest)) (listed_fronts (codes "files ") file_at file_fronts) (λ files.
    fronts_done (version, package_told name origin flavor recipe options depends files)))))))))
