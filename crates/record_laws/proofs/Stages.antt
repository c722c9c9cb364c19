-- Each stage of the reading goes through lines and pieces that fit, or stops at the first that does not.
use Rattle.std.proofs.Common.{◌≡◌, ℕ, zero, suc, ◌+◌, ◌<◌, Bool, true, false, List, [], ◌∷◌, ◌++◌, length, get_or, take, drop, codes, ltb, arith, refl, ap, ap₂, sym, subst, ◌∙◌, append_assoc, inl, inr, eq-eqb, ◌-◌}
use Rattle.std.specs.Prelude.{◌≢◌, ◌==◌, Contains, Option, Some, None, Result, Ok, Err, cond}
use Rattle.std.specs.Option.{option_map, option_and_then}
use Rattle.std.specs.List.{position_or_len}
use Rattle.std.proofs.lemmas.Bool.{eqb-true, lt-ltb, cases_lt}
use Rattle.std.proofs.lemmas.List.{take-append-drop, drop_more, length-take-le}
use Rattle.std.proofs.lemmas.List.Sums.{passes_at_first, fails_before_first}
use Rattle.std.proofs.Math.Seq.{get_or-append_seam}
use Rattle.bulk_base.specs.declared.file.FileItem.{FileItem}
use Rattle.bulk_base.specs.declared.file.Switch.{Switch}
use Rattle.bulk_base.specs.Marks.{is_mark, front, back}
use Rattle.bulk_model.specs.declared.depend.Recorded.{Recorded}
use Rattle.bulk_model.specs.declared.version.Version.{Version}
use Rattle.bulk_model.specs.declared.version.Version.TheVariants.{One, Two}
use Rattle.bulk_model.specs.Digests.{is_digest}
use Rattle.bulk_model.specs.Lines.{line}
use Rattle.bulk_model.specs.Views.{PackageView}
use Rattle.port_name.specs.Forms.{is_origin}
use Rattle.port_name.specs.PackageForm.{is_package_name}
use Rattle.pkg_record.specs.declared.fault.RecordError.{RecordError}
use Rattle.pkg_record.specs.declared.fault.RecordError.TheVariants.{Short, BadField, BadDigest, NoMemory}
use Rattle.pkg_record.specs.Said.{word_behind, version_said, flavor_said, recipe_said, count_behind, option_said, depend_said, file_said}
use Rattle.pkg_record.specs.Reading.{◌>>=◌, fitting, said_at, piece_at, next_option, option_at, next_depend, depend_at, next_file, file_at, items_at, listed_at, recipe_at, package_told, unsigned_at, signed_at, error_of}
use Rattle.pkg_record.proofs.Fronts.{Reader}
use Rattle.pkg_record.proofs.NamesAgain.{Lacks, front_again}
use Rattle.pkg_record.proofs.Spelled.{file_made, from_files, from_depends, from_options, from_recipe, from_flavor, from_origin, from_name}
use Rattle.pkg_record.proofs.Taken.{below}
use Rattle.record_laws.specs.Units.{State, version_line, name_line, origin_line, flavor_line, recipe_line, options_line, option_line, depends_line, depend_line, files_line, file_line, file_bytes, digest_line, the_end, behind_flavor, options_left, depends_left, files_left, file, leads, Shape, a_line, a_piece, nothing, shape, HasShape, EndsIn, Fits, Reaches}
use Rattle.record_laws.proofs.Shapes.{parted_line, front_lacks, Halts, reaches_on}

-- why a reading of so many bytes stops where it is
abbrev pub Stops : ℕ → State → List ℕ → RecordError → Type 0
Stops size state rest Short = (state ≢ the_end) × (EndsIn (shape state) rest → ⊥)
Stops size state rest (BadField place) = (place ≡ size - length rest) × EndsIn (shape state) rest × Halts state rest
Stops size state rest (BadDigest stated found) = ⊥
Stops size state rest NoMemory = ⊥

abbrev pub StopsBehind : ℕ → State → List ℕ → RecordError → Type 0
StopsBehind size state bytes error =
    (last : State) × (rest : List ℕ) × (n : ℕ) × Reaches n state bytes last rest × Stops size last rest error

-- what a reader gave: it went on to the state behind what it read, or stopped
abbrev pub Outcome : {X F : Type 0} → ℕ → (F → RecordError) → State → List ℕ → (X → State) → Result (X × List ℕ) F → Type 0
Outcome size error state bytes next (Ok x) = (n : ℕ) × Reaches n state bytes (next x.0) x.1
Outcome size error state bytes next (Err fault) = StopsBehind size state bytes (error fault)

pub stays : (state : State) (bytes : List ℕ) → Reaches zero state bytes state bytes
stays state bytes = (refl, refl)

pub one_step : (state : State) (bytes : List ℕ) (next : State) (after : List ℕ) → Fits state bytes next after → Reaches (suc zero) state bytes next after
one_step state bytes next after f = (next, after, f, stays next after)

pub by_cases : {A : Type 0} (P : A → Type 0) (b : Bool) (x y : A) → (b ≡ true → P x) → (b ≡ false → P y) → P (cond b x y)
by_cases P true x y f g = f refl
by_cases P false x y f g = g refl

-- ---- a line

abbrev some : {A : Type 0} → A → Option A
some x = Some x

none_some : {A : Type 0} (o : Option A) (x : A) → o ≡ None → o ≡ some x → ⊥
none_some o x e f = cc

line_is_something : (form : Shape) → form ≡ a_line → form ≡ nothing → ⊥
line_is_something form e f = cc

piece_is_something : (form : Shape) (size : ℕ) → form ≡ a_piece size → form ≡ nothing → ⊥
piece_is_something form size e f = cc

not_below : (a b : ℕ) → ltb a b ≡ false → a < b → ⊥
not_below a b h l = let k : ltb a b ≡ true = lt-ltb a b l in cc

not_both : (b : Bool) → b ≡ true → b ≡ false → ⊥
not_both b h k = cc

contained_below : (bytes : List ℕ) → Contains bytes 10 → position_or_len (is_mark 10) bytes < length bytes
contained_below bytes c = elim (cases_lt (position_or_len (is_mark 10) bytes) (length bytes)) [
  | inl l ↦ l
  | inr past ↦ absurd (not_both (get_or bytes c.0 10 == 10) (eq-eqb (get_or bytes c.0 10) 10 c.2) (fails_before_first (is_mark 10) bytes c.0 10 (omega (arith, c.1))))
]

feed_there : (bytes : List ℕ) → position_or_len (is_mark 10) bytes < length bytes → Contains bytes 10
feed_there bytes l = (position_or_len (is_mark 10) bytes, l, eqb-true _ _ (passes_at_first (is_mark 10) bytes 10 l))

module _ (size : ℕ) where
  abbrev pub Stage : {X : Type 0} → State → Reader X → (X → State) → Type 0
  Stage state read next = (bytes : List ℕ) → Outcome size (error_of size) state bytes next (read bytes)

  pub stage_done : {X : Type 0} (x : X) (next : X → State) → Stage (next x) (λ bytes. Ok (x, bytes)) next
  stage_done x next bytes = (zero, stays (next x) bytes)

  module _ (state : State) (bytes : List ℕ) (middle : State) (after : List ℕ) (n : ℕ) (reached : Reaches n state bytes middle after) where
    pub stops_behind : (error : RecordError) → StopsBehind size middle after error → StopsBehind size state bytes error
    stops_behind error s =
        let t = reaches_on n s.2 state bytes middle after s.0 s.1 reached s.3 in
        (s.0, s.1, t.0, t.1, s.4)

    pub outcome_behind : {Y : Type 0} (last : Y → State) (r : Result (Y × List ℕ) _) → Outcome size (error_of size) middle after last r → Outcome size (error_of size) state bytes last r
    outcome_behind last (Ok y) o = reaches_on n o.0 state bytes middle after (last y.0) y.1 reached o.1
    outcome_behind last (Err fault) o = stops_behind (error_of size fault) o

  module _ {X Y : Type 0} (state : State) (read : Reader X) (next : X → State) (then : X → Reader Y) (last : Y → State) where
    first_case : ((x : X) → Stage (next x) (then x) last) → (bytes : List ℕ) (r : Result (X × List ℕ) _) → Outcome size (error_of size) state bytes next r
        → Outcome size (error_of size) state bytes last (r >>= λ x. then x.0 x.1)
    first_case thens bytes (Ok x) o = outcome_behind state bytes (next x.0) x.1 o.0 o.1 last (then x.0 x.1) (thens x.0 x.1)
    first_case thens bytes (Err fault) o = o

    -- one reader and then another
    pub stage_then : Stage state read next → ((x : X) → Stage (next x) (then x) last) → Stage state (λ bytes. read bytes >>= λ x. then x.0 x.1) last
    stage_then first thens bytes = first_case thens bytes (read bytes) (first bytes)

  module _ {X : Type 0} (state : State) (says : List ℕ → Option X) (next : X → State) (form : shape state ≡ a_line) (leading : (text : List ℕ) → leads state text ≡ option_map next (says text)) (bytes : List ℕ) where
    has_line : (text : List ℕ) → Lacks 10 text → HasShape (shape state) text
    has_line text h = subst (λ s. HasShape s text) (sym form) h

    unfit_line : says (front 10 bytes) ≡ None → Halts state bytes
    unfit_line e to after f =
        let lacks : Lacks 10 f.0 = subst (λ s. HasShape s f.0) form f.1 in
        let same : front 10 bytes ≡ f.0 = ap (front 10) (f.2 ∙ append_assoc f.0 (10 ∷ []) after) ∙ front_again 10 f.0 after lacks in
        none_some (leads state f.0) to (leading f.0 ∙ ap (option_map next) (ap says (sym same) ∙ e)) f.3

    said_case : position_or_len (is_mark 10) bytes < length bytes → (o : Option X) → says (front 10 bytes) ≡ o → Outcome size (error_of size) state bytes next (fitting (length bytes) (back 10 bytes) o)
    said_case l (Some x) e =
        (suc zero, one_step state bytes (next x) (back 10 bytes) (front 10 bytes, has_line (front 10 bytes) (front_lacks bytes l), parted_line bytes l, leading (front 10 bytes) ∙ ap (option_map next) e))
    said_case l None e = (state, bytes, zero, stays state bytes, (refl, subst (λ s. EndsIn s bytes) (sym form) (feed_there bytes l), unfit_line e))

    said_outcome : Outcome size (error_of size) state bytes next (said_at says bytes)
    unfolding said_at
    said_outcome =
        by_cases (λ r. Outcome size (error_of size) state bytes next (r >>= λ (l : List ℕ × List ℕ). fitting (length bytes) l.1 (says l.0))) (ltb (position_or_len (is_mark 10) bytes) (length bytes)) _ _
        (λ h. said_case (below _ _ h) (says (front 10 bytes)) refl)
        (λ h. (state, bytes, zero, stays state bytes, ((λ e. line_is_something (shape state) form (ap shape e)), λ c. not_below _ _ h (contained_below bytes (subst (λ s. EndsIn s bytes) form c)))))

  pub said_stage : {X : Type 0} (state : State) (says : List ℕ → Option X) (next : X → State) → shape state ≡ a_line → ((text : List ℕ) → leads state text ≡ option_map next (says text)) → Stage state (said_at says) next
  said_stage state says next form leading bytes = said_outcome state says next form leading bytes

  -- ---- the bytes of a file

  module _ (n : ℕ) (before : List FileItem) (path : List ℕ) (count : ℕ) (bytes : List ℕ) where
    abbrev here : State
    here = file_bytes n before path count

    abbrev behind_piece : List ℕ → State
    behind_piece piece = files_left n (before ++ file path piece ∷ [])

    parted_piece : count < length bytes → (get_or bytes count 0 == 10) ≡ true → bytes ≡ line (take count bytes) ++ drop (count + 1) bytes
    parted_piece l h =
        sym (take-append-drop count bytes)
        ∙ ap (λ r. take count bytes ++ r) (drop_more bytes count 0 l ∙ ap (λ b. b ∷ drop (count + 1) bytes) (eqb-true _ _ h))
        ∙ sym (append_assoc (take count bytes) (10 ∷ []) (drop (count + 1) bytes))

    unfit_piece : (get_or bytes count 0 == 10) ≡ false → Halts here bytes
    unfit_piece h to after f =
        let there : get_or bytes count 0 ≡ 10 =
        ap₂ (λ b k. get_or b k 0) (f.2 ∙ append_assoc f.0 (10 ∷ []) after) (sym f.1) ∙ get_or-append_seam f.0 10 after 0 in
        not_both (get_or bytes count 0 == 10) (eq-eqb (get_or bytes count 0) 10 there) h

    piece_outcome : Outcome size (error_of size) here bytes behind_piece (piece_at count bytes)
    piece_outcome =
        by_cases (λ r. Outcome size (error_of size) here bytes behind_piece r) (ltb count (length bytes)) _ _
        (λ l. by_cases (λ r. Outcome size (error_of size) here bytes behind_piece r) (get_or bytes count 0 == 10) _ _
        (λ h. (suc zero, one_step here bytes (behind_piece (take count bytes)) (drop (count + 1) bytes) (take count bytes, let b : count < length bytes = below _ _ l in length-take-le count bytes (omega (arith, b)), parted_piece (below _ _ l) h, refl)))
        (λ h. (here, bytes, zero, stays here bytes, (refl, below _ _ l, unfit_piece h))))
        (λ l. (here, bytes, zero, stays here bytes, ((λ e. piece_is_something (shape here) count refl (ap shape e)), λ b. not_below _ _ l b)))

  -- ---- items

  option_stage : (version : Version) (n : ℕ) (before : List Switch) → Stage (options_left version (suc n) before) (option_at before) (λ x. options_left version n (before ++ x ∷ []))
  unfolding option_at
  option_stage version n before =
      said_stage (option_line version n before) (λ text. option_and_then (next_option before) (option_said text)) (λ x. options_left version n (before ++ x ∷ [])) refl (λ text. refl)

  depend_stage : (version : Version) (n : ℕ) (before : List Recorded) → Stage (depends_left version (suc n) before) (depend_at version before) (λ x. depends_left version n (before ++ x ∷ []))
  unfolding depend_at
  depend_stage version n before =
      said_stage (depend_line version n before) (λ text. option_and_then (next_depend before) (depend_said version text)) (λ x. depends_left version n (before ++ x ∷ [])) refl (λ text. refl)

  file_stage : (n : ℕ) (before : List FileItem) → Stage (files_left (suc n) before) (file_at before) (λ x. files_left n (before ++ x ∷ []))
  unfolding file_at
  file_stage n before =
      stage_then (file_line n before) (said_at (λ text. option_and_then (next_file before) (file_said text))) (λ (head : ℕ × List ℕ). file_bytes n before head.1 head.0)
      (λ (head : ℕ × List ℕ) rest. piece_at head.0 rest >>= λ piece. Ok (file_made head.1 piece.0, piece.1)) (λ x. files_left n (before ++ x ∷ []))
      (said_stage (file_line n before) (λ text. option_and_then (next_file before) (file_said text)) (λ (head : ℕ × List ℕ). file_bytes n before head.1 head.0) refl (λ text. refl))
      (λ head. stage_then (file_bytes n before head.1 head.0) (piece_at head.0) (λ piece. files_left n (before ++ file head.1 piece ∷ [])) (λ piece rest. Ok (file_made head.1 piece, rest)) (λ x. files_left n (before ++ x ∷ []))
      (piece_outcome n before head.1 head.0)
      (λ piece. stage_done (file_made head.1 piece) (λ x. files_left n (before ++ x ∷ []))))

  module _ {X : Type 0} (item : List X → Reader X) (left : ℕ → List X → State) (one : (n : ℕ) (before : List X) → Stage (left (suc n) before) (item before) (λ x. left n (before ++ x ∷ []))) where
    items_stage : (n : ℕ) (before : List X) → Stage (left n before) (items_at item n before) (left zero)
    unfolding items_at
    items_stage zero before = stage_done before (left zero)
    items_stage (suc n) before =
        stage_then (left (suc n) before) (item before) (λ x. left n (before ++ x ∷ [])) (λ x rest. items_at item n (before ++ x ∷ []) rest) (left zero) (one n before) (λ x. items_stage n (before ++ x ∷ []))

    listed_stage : (state : State) (heading : List ℕ) → shape state ≡ a_line → ((text : List ℕ) → leads state text ≡ option_map (λ n. left n []) (count_behind heading text)) → Stage state (listed_at heading item) (left zero)
    unfolding listed_at
    listed_stage state heading form leading =
        stage_then state (said_at (count_behind heading)) (λ n. left n []) (λ count rest. items_at item count [] rest) (left zero) (said_stage state (count_behind heading) (λ n. left n []) form leading) (λ count. items_stage count [])

  recipe_stage : (version : Version) → Stage (behind_flavor version) (recipe_at version) (λ recipe. options_line version)
  unfolding recipe_at
  recipe_stage One = λ bytes. (zero, stays (options_line One) bytes)
  recipe_stage Two = said_stage recipe_line recipe_said (λ recipe. options_line Two) refl (λ text. refl)

  -- ---- the lines before the digest

  abbrev Told : Type 0
  Told = Version × PackageView

  abbrev behind_all : Told → State
  behind_all told = digest_line

  pub unsigned_stage : Stage version_line unsigned_at behind_all
  unfolding unsigned_at
  unsigned_stage =
      stage_then version_line (said_at version_said) (λ version. name_line version) (λ version rest. from_name version rest) behind_all
      (said_stage version_line version_said (λ version. name_line version) refl (λ text. refl)) (λ version.
      stage_then (name_line version) (said_at (word_behind (codes "name ") is_package_name)) (λ name. origin_line version) (λ name rest. from_origin version name rest) behind_all
      (said_stage (name_line version) (word_behind (codes "name ") is_package_name) (λ name. origin_line version) refl (λ text. refl)) (λ name.
      stage_then (origin_line version) (said_at (word_behind (codes "origin ") is_origin)) (λ origin. flavor_line version) (λ origin rest. from_flavor version name origin rest) behind_all
      (said_stage (origin_line version) (word_behind (codes "origin ") is_origin) (λ origin. flavor_line version) refl (λ text. refl)) (λ origin.
      stage_then (flavor_line version) (said_at flavor_said) (λ flavor. behind_flavor version) (λ flavor rest. from_recipe version name origin flavor rest) behind_all
      (said_stage (flavor_line version) flavor_said (λ flavor. behind_flavor version) refl (λ text. refl)) (λ flavor.
      stage_then (behind_flavor version) (recipe_at version) (λ recipe. options_line version) (λ recipe rest. from_options version name origin flavor recipe rest) behind_all
      (recipe_stage version) (λ recipe.
      stage_then (options_line version) (listed_at (codes "options ") option_at) (λ options. depends_line version) (λ options rest. from_depends version name origin flavor recipe options rest) behind_all
      (listed_stage option_at (options_left version) (option_stage version) (options_line version) (codes "options ") refl (λ text. refl)) (λ options.
      stage_then (depends_line version) (listed_at (codes "depends ") (depend_at version)) (λ depends. files_line) (λ depends rest. from_files version name origin flavor recipe options depends rest) behind_all
      (listed_stage (depend_at version) (depends_left version) (depend_stage version) (depends_line version) (codes "depends ") refl (λ text. refl)) (λ depends.
      stage_then files_line (listed_at (codes "files ") file_at) (λ files. digest_line) (λ files rest. Ok ((version, package_told name origin flavor recipe options depends files), rest)) behind_all
      (listed_stage file_at files_left file_stage files_line (codes "files ") refl (λ text. refl)) (λ files.
      stage_done (version, package_told name origin flavor recipe options depends files) behind_all))))))))

  -- ---- all of the bytes

  -- what the reading gave: all bytes are read, or it stopped
  abbrev pub Comes : {X F : Type 0} → (F → RecordError) → State → List ℕ → Result X F → Type 0
  Comes error state bytes (Ok x) = (n : ℕ) × Reaches n state bytes the_end []
  Comes error state bytes (Err fault) = StopsBehind size state bytes (error fault)

  module _ (state : State) (bytes : List ℕ) (middle : State) (after : List ℕ) (n : ℕ) (reached : Reaches n state bytes middle after) where
    comes_behind : {Y : Type 0} (r : Result Y _) → Comes (error_of size) middle after r → Comes (error_of size) state bytes r
    comes_behind (Ok y) o = reaches_on n o.0 state bytes middle after the_end [] reached o.1
    comes_behind (Err fault) o = stops_behind state bytes middle after n reached (error_of size fault) o

  comes_then : {X Y : Type 0} (state : State) (bytes : List ℕ) (next : X → State) (then : X × List ℕ → Result Y _) → ((x : X) (rest : List ℕ) → Comes (error_of size) (next x) rest (then (x, rest)))
      → (r : Result (X × List ℕ) _) → Outcome size (error_of size) state bytes next r → Comes (error_of size) state bytes (r >>= then)
  comes_then state bytes next then thens (Ok x) o = comes_behind state bytes (next x.0) x.1 o.0 o.1 (then x) (thens x.0 x.1)
  comes_then state bytes next then thens (Err fault) o = o

  nothing_fits : (rest : List ℕ) → Halts the_end rest
  nothing_fits rest to after f = f.1

  no_bytes : (rest : List ℕ) → (length rest == 0) ≡ true → rest ≡ []
  no_bytes [] h = refl
  no_bytes (b ∷ rest) h = absurd (let e : length (b ∷ rest) ≡ 0 = eqb-true _ _ h in omega (arith, e))

  some_bytes : (rest : List ℕ) → (length rest == 0) ≡ false → rest ≢ []
  some_bytes rest h e = not_both (length rest == 0) (eq-eqb (length rest) 0 (ap length e)) h

  pub signed_comes : (bytes : List ℕ) → Comes (error_of size) version_line bytes (signed_at bytes)
  unfolding signed_at
  signed_comes bytes =
      comes_then version_line bytes behind_all _
      (λ told last. comes_then digest_line last (λ digest. the_end) _
      (λ digest rest. by_cases (Comes (error_of size) the_end rest) (length rest == 0) _ _
      (λ h. (zero, (refl, no_bytes rest h)))
      (λ h. (the_end, rest, zero, stays the_end rest, (refl, some_bytes rest h, nothing_fits rest))))
      (said_at (word_behind (codes "sha256 ") is_digest) last)
      (said_stage digest_line (word_behind (codes "sha256 ") is_digest) (λ digest. the_end) refl (λ text. refl) last))
      (unsigned_at bytes) (unsigned_stage bytes)
