-- A recipe's text tells its job and its base files.
use Rattle.std.proofs.Common.{◌≡◌, ℕ, Bool, true, List, [], ◌++◌, codes, refl, ap, sym, ◌∙◌, append_assoc, append-nil}
use Rattle.std.specs.Prelude.{Option, IfSome, IsTrue}
use Rattle.std.specs.List.{flat_map}
use Rattle.std.proofs.lemmas.List.{append_cancel_left}
use Rattle.bulk_base.specs.declared.file.FileItem.{FileItem}
use Rattle.bulk_base.specs.declared.file.Switch.{Switch}
use Rattle.bulk_base.specs.Names.{is_flavor}
use Rattle.bulk_model.specs.declared.depend.Depend.{Depend}
use Rattle.bulk_model.specs.declared.steps.Steps.{Steps}
use Rattle.bulk_model.specs.Lines.{line, flavor_word, name_lines, option_lines, file_pieces}
use Rattle.bulk_model.specs.Recipe.{depend_lines, steps_line, command_lines, step_lines, recipe_text}
use Rattle.bulk_model.specs.Views.{JobView}
use Rattle.port_name.specs.Forms.{is_origin}
use Rattle.port_name.specs.PackageForm.{is_package_name}
use Rattle.pkg_record.specs.Said.{word_behind, flavor_said}
use Rattle.pkg_record.proofs.Names.{package_name_plain, origin_plain}
use Rattle.pkg_record.proofs.NamesAgain.{Lacks, lacks_joined, origin_again, name_again}
use Rattle.pkg_record.proofs.SaidAgain.{word_again, flavor_again, plain_line}
use Rattle.pkg_record.proofs.SpelledAgain.{flavor_line}
use Rattle.record_laws.specs.Recipes.{HasRecipe, EachHasItsText}
use Rattle.record_laws.proofs.Delimiting.{some_is, lines_delimit}
use Rattle.record_laws.proofs.RecipeParts.{options_delimit, depends_delimit, files_delimit, commands_delimit, AreCounts, SameCounts, counts_delimit}

-- ---- the text in its parts, each followed by the rest

module _ (job : JobView) (rest : List ℕ) where
  abbrev after_steps : List ℕ
  after_steps =
      flat_map command_lines job.steps.extract ++ (flat_map command_lines job.steps.patch ++ (flat_map command_lines job.steps.configure
      ++ (flat_map command_lines job.steps.build ++ (flat_map command_lines job.steps.stage ++ rest))))

  steps_regrouped : step_lines job.steps ++ rest ≡ steps_line job.steps ++ after_steps
  steps_regrouped =
      let counts = steps_line job.steps in
      let extract = flat_map command_lines job.steps.extract in
      let patch = flat_map command_lines job.steps.patch in
      let configure = flat_map command_lines job.steps.configure in
      let build = flat_map command_lines job.steps.build in
      let stage = flat_map command_lines job.steps.stage in
      append_assoc (counts ++ extract ++ patch ++ configure ++ build) stage rest
      ∙ append_assoc (counts ++ extract ++ patch ++ configure) build (stage ++ rest)
      ∙ append_assoc (counts ++ extract ++ patch) configure (build ++ (stage ++ rest))
      ∙ append_assoc (counts ++ extract) patch (configure ++ (build ++ (stage ++ rest)))
      ∙ append_assoc counts extract (patch ++ (configure ++ (build ++ (stage ++ rest))))

abbrev first : List ℕ
first = line (codes "poudriere-recipe 1")

module _ (base : List FileItem) (job : JobView) where
  abbrev base_part : List ℕ
  base_part = file_pieces (codes "base ") base ++ []

  abbrev files_part : List ℕ
  files_part = file_pieces (codes "files ") job.files ++ base_part

  abbrev steps_part : List ℕ
  steps_part = steps_line job.steps ++ after_steps job files_part

  abbrev depends_part : List ℕ
  depends_part = depend_lines job.depends ++ steps_part

  abbrev options_part : List ℕ
  options_part = option_lines job.options ++ depends_part

  abbrev flavor_part : List ℕ
  flavor_part = line (codes "flavor " ++ flavor_word job.flavor) ++ options_part

  abbrev origin_part : List ℕ
  origin_part = line (codes "origin " ++ job.origin) ++ flavor_part

  abbrev name_part : List ℕ
  name_part = line (codes "name " ++ job.name) ++ origin_part

  text_regrouped : recipe_text base job ≡ first ++ name_part
  text_regrouped =
      let name = line (codes "name " ++ job.name) in
      let origin = line (codes "origin " ++ job.origin) in
      let flavor = line (codes "flavor " ++ flavor_word job.flavor) in
      let names = name_lines job.name job.origin job.flavor in
      let options = option_lines job.options in
      let depends = depend_lines job.depends in
      let steps = step_lines job.steps in
      let files = file_pieces (codes "files ") job.files in
      let bases = file_pieces (codes "base ") base in
      sym (append-nil (recipe_text base job))
      ∙ append_assoc (first ++ names ++ options ++ depends ++ steps ++ files) bases []
      ∙ append_assoc (first ++ names ++ options ++ depends ++ steps) files base_part
      ∙ append_assoc (first ++ names ++ options ++ depends) steps files_part
      ∙ ap (λ t. (first ++ names ++ options ++ depends) ++ t) (steps_regrouped job files_part)
      ∙ append_assoc (first ++ names ++ options) depends steps_part
      ∙ append_assoc (first ++ names) options depends_part
      ∙ append_assoc first names options_part
      ∙ ap (λ t. first ++ t) (append_assoc (name ++ origin) flavor options_part ∙ append_assoc name origin flavor_part)

-- ---- the names

word_delimits : (heading : List ℕ) (test : List ℕ → Bool) (a b r s : List ℕ) → Lacks 10 heading → Lacks 10 a → Lacks 10 b → test a ≡ true → test b ≡ true → line (heading ++ a) ++ r ≡ line (heading ++ b) ++ s → (a ≡ b) × (r ≡ s)
word_delimits heading test a b r s h j k f g e =
    let l = lines_delimit (heading ++ a) (heading ++ b) r s (lacks_joined 10 heading a h j) (lacks_joined 10 heading b h k) e in
    (some_is a b (sym (word_again heading test a f) ∙ ap (word_behind heading test) l.0 ∙ word_again heading test b g), l.1)

flavor_delimits : (a b : Option (List ℕ)) (r s : List ℕ) → IfSome a (λ f. IsTrue (is_flavor f)) → IfSome b (λ f. IsTrue (is_flavor f))
    → line (codes "flavor " ++ flavor_word a) ++ r ≡ line (codes "flavor " ++ flavor_word b) ++ s → (a ≡ b) × (r ≡ s)
flavor_delimits a b r s f g e =
    let l = lines_delimit (codes "flavor " ++ flavor_word a) (codes "flavor " ++ flavor_word b) r s
    (lacks_joined 10 (codes "flavor ") (flavor_word a) refl (flavor_line a f)) (lacks_joined 10 (codes "flavor ") (flavor_word b) refl (flavor_line b g)) e in
    (some_is a b (sym (flavor_again a f) ∙ ap flavor_said l.0 ∙ flavor_again b g), l.1)

-- ---- all parts

abbrev counts_of : (base : List FileItem) (job : JobView) → HasRecipe base job → AreCounts job.steps
counts_of base job h = record { extract = h.extract.count; patch = h.patch.count; configure = h.configure.count; build = h.build.count; stage = h.stage.count }

abbrev steps_of : List (List (List ℕ)) → List (List (List ℕ)) → List (List (List ℕ)) → List (List (List ℕ)) → List (List (List ℕ)) → Steps
steps_of extract patch configure build stage = record { extract = extract; patch = patch; configure = configure; build = build; stage = stage }

same_steps : (x y : Steps) → x.extract ≡ y.extract → x.patch ≡ y.patch → x.configure ≡ y.configure → x.build ≡ y.build → x.stage ≡ y.stage → x ≡ y
same_steps x y a b c d e =
    ap (λ t. steps_of t x.patch x.configure x.build x.stage) a
    ∙ ap (λ t. steps_of y.extract t x.configure x.build x.stage) b
    ∙ ap (λ t. steps_of y.extract y.patch t x.build x.stage) c
    ∙ ap (λ t. steps_of y.extract y.patch y.configure t x.stage) d
    ∙ ap (λ t. steps_of y.extract y.patch y.configure y.build t) e

abbrev job_of : List ℕ → List ℕ → Option (List ℕ) → List Switch → List Depend → Steps → List FileItem → JobView
job_of name origin flavor options depends steps files =
    record { name = name; origin = origin; flavor = flavor; options = options; depends = depends; steps = steps; files = files }

same_jobs : (x y : JobView) → x.name ≡ y.name → x.origin ≡ y.origin → x.flavor ≡ y.flavor → x.options ≡ y.options → x.depends ≡ y.depends → x.steps ≡ y.steps → x.files ≡ y.files → x ≡ y
same_jobs x y a b c d e f g =
    ap (λ t. job_of t x.origin x.flavor x.options x.depends x.steps x.files) a
    ∙ ap (λ t. job_of y.name t x.flavor x.options x.depends x.steps x.files) b
    ∙ ap (λ t. job_of y.name y.origin t x.options x.depends x.steps x.files) c
    ∙ ap (λ t. job_of y.name y.origin y.flavor t x.depends x.steps x.files) d
    ∙ ap (λ t. job_of y.name y.origin y.flavor y.options t x.steps x.files) e
    ∙ ap (λ t. job_of y.name y.origin y.flavor y.options y.depends t x.files) f
    ∙ ap (λ t. job_of y.name y.origin y.flavor y.options y.depends y.steps t) g

pub each_has_its_text : EachHasItsText
each_has_its_text base other job another h k e =
    let names : name_part base job ≡ name_part other another =
    append_cancel_left first (name_part base job) (name_part other another) (sym (text_regrouped base job) ∙ e ∙ text_regrouped other another) in
    let name_x = name_again job.name h.facts.name in
    let name_y = name_again another.name k.facts.name in
    let origin_x = origin_again job.origin h.facts.origin in
    let origin_y = origin_again another.origin k.facts.origin in
    let name = word_delimits (codes "name ") is_package_name job.name another.name (origin_part base job) (origin_part other another) refl
    (plain_line job.name (package_name_plain job.name name_x)) (plain_line another.name (package_name_plain another.name name_y)) name_x name_y names in
    let origin = word_delimits (codes "origin ") is_origin job.origin another.origin (flavor_part base job) (flavor_part other another) refl
    (plain_line job.origin (origin_plain job.origin origin_x)) (plain_line another.origin (origin_plain another.origin origin_y)) origin_x origin_y name.1 in
    let flavor = flavor_delimits job.flavor another.flavor (options_part base job) (options_part other another) h.facts.flavor k.facts.flavor origin.1 in
    let options = options_delimit job.options another.options (depends_part base job) (depends_part other another) h.options k.options h.facts.options k.facts.options flavor.1 in
    let depends = depends_delimit job.depends another.depends (steps_part base job) (steps_part other another) h.depends k.depends h.facts.depends k.facts.depends options.1 in
    let counts : SameCounts job.steps another.steps (after_steps job (files_part base job)) (after_steps another (files_part other another)) =
    counts_delimit job.steps another.steps (after_steps job (files_part base job)) (after_steps another (files_part other another)) (counts_of base job h) (counts_of other another k) depends.1 in
    let extract = commands_delimit job.steps.extract another.steps.extract _ _ counts.extract h.extract k.extract counts.rest in
    let patch = commands_delimit job.steps.patch another.steps.patch _ _ counts.patch h.patch k.patch extract.1 in
    let configure = commands_delimit job.steps.configure another.steps.configure _ _ counts.configure h.configure k.configure patch.1 in
    let build = commands_delimit job.steps.build another.steps.build _ _ counts.build h.build k.build configure.1 in
    let stage = commands_delimit job.steps.stage another.steps.stage (files_part base job) (files_part other another) counts.stage h.stage k.stage build.1 in
    let steps = same_steps job.steps another.steps extract.0 patch.0 configure.0 build.0 stage.0 in
    let files = files_delimit (codes "files ") refl job.files another.files (base_part base job) (base_part other another) h.files k.files stage.1 in
    let bases = files_delimit (codes "base ") refl base other [] [] h.base_files k.base_files files.1 in
    (bases.0, same_jobs job another name.0 origin.0 flavor.0 options.0 depends.0 steps files.0)
