-- The values of every match are pieces of the words, or clap's own for flags: so where the words are texts, they have the
-- bytes of texts. Shown along clap's walk over the words, for any rules whose own values have such bytes.
use Rattle.std.proofs.Common.{◌≡◌, ◌==◌, ℕ, zero, suc, Bool, true, false, cond, List, [], ◌∷◌, ◌++◌, drop, fold, Option, Some, None, refl, subst, codes}
use Rattle.std.specs.Prelude.{IsTrue, length, slice_get, option_and_then, option_map, encode_utf8, find, ◌&&◌}
use Rattle.std.specs.List.{AllByRecursion, after_first}
use Rattle.std.specs.Option.{option_map_or}
use Rattle.std.specs.Str.{bytes_eq, chars}
use Rattle.clap.specs.Lexer.{strip_byte, long_of, long_of_rest, short_of, short_of_rest, has_byte, name_and_value}
use Rattle.clap.specs.Walk.{Held, Names, Outcome, Row, Rule, Step, Text, Waiting, Walk, done, waits, plain, refused, idle, option, positional, next, trailing, subcommand, value, action_of, after_flag, after_step, all_of, arg_by_id, arg_by_index, arg_by_long, arg_by_short, at_row, attached_value, bundle, bundle_met, bundle_step, default_rows, first_of, flag_met, has_row, is_pending, long_met, long_or_other, more_values, nothing_held, option_met, option_word, plain_word, positional_held, pushed, reacted, reading_by, rows_after, settled, settled_rows, short_met, short_or_plain, started, subcommand_met, subcommand_or_other, takes_several, takes_values, to_positional, used, used_as, used_by_id, values_or_missing, walk, walk_from, walked, walked_from, with_default, with_values, without, word_met}
use Rattle.clap.specs.declared.builder.action.ArgAction.{ArgAction}
use Rattle.clap.specs.declared.builder.action.ArgAction.TheVariants.{Set, Append, SetTrue, SetFalse, Count}
use Rattle.clap.specs.declared.builder.value_parser.Reading.{Reading}
use Rattle.clap.specs.declared.parser.matches.ValueSource.{ValueSource}
use Rattle.clap.specs.Simple.{built, matches_of, names_of}
use Rattle.bulk_base.specs.Text.{has_text_bytes, is_text_byte}
use Rattle.command_words.specs.declared.description.Flags.{Flags}
use Rattle.command_words.specs.declared.description.Flags.TheVariants.{OfBulk, OfPkgclean}
use Rattle.command_words.specs.Description.{description}
use Rattle.command_words.specs.Texts.{HaveTextBytes, RowsHaveTextBytes}

-- ---- texts, options, rows, rules and what is held

abbrev Fine : Text → Type 0
Fine text = IsTrue (has_text_bytes text)

abbrev OptionFine : Option Text → Type 0
OptionFine None = Unit {0}
OptionFine (Some text) = Fine text

abbrev PendingFine : Option (Text × List Text) → Type 0
PendingFine None = Unit {0}
PendingFine (Some p) = HaveTextBytes p.1

abbrev HeldFine : Held → Type 0
HeldFine h = RowsHaveTextBytes h.rows × PendingFine h.pending

-- a use is not counted, since a count is a value of its own
abbrev IsNotCounted : ArgAction → Type 0
IsNotCounted Count = ⊥
IsNotCounted _ = Unit {0}

-- the values that a rule itself gives
abbrev RuleFine : Rule → Type 0
RuleFine a = HaveTextBytes a.missing × HaveTextBytes a.defaults × IsNotCounted (action_of a)

abbrev RulesFine : List Rule → Type 0
RulesFine rules = AllByRecursion RuleFine rules

abbrev FoundFine : Option Rule → Type 0
FoundFine None = Unit {0}
FoundFine (Some a) = RuleFine a

-- ---- pieces of texts

tail_fine : (x : ℕ) (xs : Text) → Fine (x ∷ xs) → Fine xs
tail_fine x xs = go (is_text_byte x)
  where
    go : (b : Bool) → IsTrue (b && has_text_bytes xs) → IsTrue (has_text_bytes xs)
    go true h = h
    go false h = cc

drop_fine : (n : ℕ) (text : Text) → Fine text → Fine (drop n text)
drop_fine zero text h = h
drop_fine (suc n) [] h = h
drop_fine (suc n) (x ∷ xs) h = drop_fine n xs (tail_fine x xs h)

stripped_fine : (c : ℕ) (text : Text) → Fine text → OptionFine (strip_byte c text)
stripped_fine c [] h = tt
stripped_fine c (x ∷ xs) h = go (x == c)
  where
    go : (b : Bool) → OptionFine (cond b (Some xs) None)
    go true = tail_fine x xs h
    go false = tt

attached_fine : (rest : Text) → Fine rest → OptionFine (attached_value rest)
attached_fine [] h = tt
attached_fine (x ∷ xs) h = go (x == 61)
  where
    go : (b : Bool) → OptionFine (option_map_or (λ (v : Text). Some v) (cond b (Some xs) None) (Some (x ∷ xs)))
    go true = tail_fine x xs h
    go false = h

texts_append : (a b : List Text) → HaveTextBytes a → HaveTextBytes b → HaveTextBytes (a ++ b)
texts_append [] b p q = q
texts_append (x ∷ xs) b p q = (p.0, texts_append xs b p.1 q)

rows_append : (a b : List Row) → RowsHaveTextBytes a → RowsHaveTextBytes b → RowsHaveTextBytes (a ++ b)
rows_append [] b p q = q
rows_append (r ∷ rs) b p q = (p.0, rows_append rs b p.1 q)

found_fine : (passes : Rule → Bool) (rules : List Rule) → RulesFine rules → FoundFine (find passes rules)
found_fine passes [] h = tt
found_fine passes (a ∷ rest) h = go (passes a) (found_fine passes rest h.1)
  where
    go : (b : Bool) → FoundFine (find passes rest) → FoundFine (cond b (Some a) (find passes rest))
    go true behind = h.0
    go false behind = behind

-- ---- the rows

at_row_fine : (id : Text) (change : Row → List Row) (missing rows : List Row)
    → ((r : Row) → HaveTextBytes r.values → RowsHaveTextBytes (change r)) → RowsHaveTextBytes missing → RowsHaveTextBytes rows
    → RowsHaveTextBytes (at_row id change missing rows)
at_row_fine id change missing [] changed there h = there
at_row_fine id change missing (r ∷ rs) changed there h =
    go (bytes_eq r.id id) (at_row_fine id change missing rs changed there h.1)
  where
    go : (b : Bool) → RowsHaveTextBytes (at_row id change missing rs)
        → RowsHaveTextBytes (cond b (change r ++ rs) (r ∷ at_row id change missing rs))
    go true behind = rows_append (change r) rs (changed r h.0) h.1
    go false behind = (h.0, behind)

with_values_fine : (id : Text) (how : Reading) (s : ValueSource) (values : List Text) (rows : List Row)
    → HaveTextBytes values → RowsHaveTextBytes rows → RowsHaveTextBytes (with_values id how s values rows)
with_values_fine id how s values rows v h =
    at_row_fine id (more_values s values) _ rows (λ r old. (texts_append r.values values old v, tt)) (v, tt) h

without_fine : (id : Text) (rows : List Row) → RowsHaveTextBytes rows → RowsHaveTextBytes (without id rows)
without_fine id rows h = at_row_fine id (λ _. []) [] rows (λ r old. tt) tt h

-- ---- uses of arguments

given_fine : (a : Rule) (values : List Text) → RuleFine a → HaveTextBytes values → HaveTextBytes (values_or_missing a values)
given_fine a [] r v = r.0
given_fine a (t ∷ ts) r v = v

used_as_fine : (act : ArgAction) (id : Text) (how : Reading) (values : List Text) (rows : List Row)
    → IsNotCounted act → HaveTextBytes values → RowsHaveTextBytes rows → RowsHaveTextBytes (used_as act id how values rows)
used_as_fine Set id how values rows n v h = with_values_fine id how _ values (without id rows) v (without_fine id rows h)
used_as_fine SetTrue id how values rows n v h = with_values_fine id how _ values (without id rows) v (without_fine id rows h)
used_as_fine SetFalse id how values rows n v h = with_values_fine id how _ values (without id rows) v (without_fine id rows h)
used_as_fine Append id how values rows n v h = with_values_fine id how _ values rows v h
used_as_fine Count id how values rows n v h = absurd n
used_as_fine _ id how values rows n v h = h

used_fine : (a : Rule) (values : List Text) (rows : List Row)
    → RuleFine a → HaveTextBytes values → RowsHaveTextBytes rows → RowsHaveTextBytes (used a values rows)
used_fine a values rows r v h = used_as_fine (action_of a) a.id (reading_by a) (values_or_missing a values) rows r.2 (given_fine a values r v) h

used_found_fine : (found : Option Rule) (values : List Text) (rows : List Row)
    → FoundFine found → HaveTextBytes values → RowsHaveTextBytes rows → RowsHaveTextBytes (used_by_id found values rows)
used_found_fine None values rows f v h = h
used_found_fine (Some a) values rows f v h = used_fine a values rows f v h

settled_rows_fine : (c : List Rule) (pending : Option (Text × List Text)) (rows : List Row)
    → RulesFine c → PendingFine pending → RowsHaveTextBytes rows → RowsHaveTextBytes (settled_rows c pending rows)
settled_rows_fine c None rows f p h = h
settled_rows_fine c (Some q) rows f p h = used_found_fine (arg_by_id c q.0) q.1 rows (found_fine _ c f) p h

settled_fine : (c : List Rule) (h : Held) → RulesFine c → HeldFine h → HeldFine (settled c h)
settled_fine c h f p = (settled_rows_fine c h.pending h.rows f p.1 p.0, tt)

reacted_fine : (c : List Rule) (a : Rule) (values : List Text) (h : Held)
    → RulesFine c → RuleFine a → HaveTextBytes values → HeldFine h → HeldFine (reacted c a values h)
reacted_fine c a values h f r v p = (used_fine a values (settled c h).rows r v (settled_fine c h f p).0, tt)

-- ---- flags

option_met_fine : (c : List Rule) (a : Rule) (v : Option Text) (h : Held)
    → RulesFine c → RuleFine a → OptionFine v → HeldFine h → HeldFine (option_met c a v h).0
option_met_fine c a (Some t) h f r v p = reacted_fine c a (t ∷ []) h f r (v, tt) p
option_met_fine c a None h f r v p = ((settled_fine c h f p).0, tt)

flag_met_fine : (c : List Rule) (a : Rule) (v : Option Text) (h : Held)
    → RulesFine c → RuleFine a → HeldFine h → HeldFine (flag_met c a v h).0
flag_met_fine c a (Some t) h f r p = p
flag_met_fine c a None h f r p = reacted_fine c a [] h f r tt p

long_met_fine : (c : List Rule) (found : Option Rule) (v : Option Text) (h : Held)
    → RulesFine c → FoundFine found → OptionFine v → HeldFine h → HeldFine (long_met c found v h).0
long_met_fine c None v h f r o p = p
long_met_fine c (Some a) v h f r o p = go (takes_values a)
  where
    go : (b : Bool) → HeldFine (cond b (option_met c a v h) (flag_met c a v h)).0
    go true = option_met_fine c a v h f r o p
    go false = flag_met_fine c a v h f r p

short_met_fine : (c : List Rule) (found : Option Rule) (rest : Text) (h : Held) (more : Held → Held × Outcome)
    → RulesFine c → FoundFine found → Fine rest → ((k : Held) → HeldFine k → HeldFine (more k).0) → HeldFine h
    → HeldFine (short_met c found rest h more).0
short_met_fine c None rest h more f r t n p = p
short_met_fine c (Some a) rest h more f r t n p = go (takes_values a)
  where
    go : (b : Bool) → HeldFine (cond b (option_met c a (attached_value rest) h) (more (reacted c a [] h))).0
    go true = option_met_fine c a (attached_value rest) h f r (attached_fine rest t) p
    go false = n (reacted c a [] h) (reacted_fine c a [] h f r tt p)

bundle_step_fine : (c : List Rule) (x : Option ℕ) (flags : Text) (skip : ℕ) (so_far : Outcome) (h : Held)
    (more : Text → ℕ → Outcome → Held → Held × Outcome) → RulesFine c → Fine flags
    → ((t : Text) (n : ℕ) (o : Outcome) (k : Held) → Fine t → HeldFine k → HeldFine (more t n o k).0) → HeldFine h
    → HeldFine (bundle_step c x flags skip so_far h more).0
bundle_step_fine c None flags skip so_far h more f t n p = p
bundle_step_fine c (Some x) flags zero so_far h more f t n p =
    let rest = drop (length (encode_utf8 x)) flags in
    let fine = drop_fine (length (encode_utf8 x)) flags t in
    short_met_fine c (arg_by_short c x) rest h (more rest 0 done) f (found_fine _ c f) fine (λ k q. n rest 0 done k fine q) p
bundle_step_fine c (Some x) flags (suc skip) so_far h more f t n p =
    n (drop (length (encode_utf8 x)) flags) skip so_far h (drop_fine (length (encode_utf8 x)) flags t) p

bundle_met_fine : (c : List Rule) (k : ℕ) (flags : Text) (skip : ℕ) (so_far : Outcome) (h : Held)
    → RulesFine c → Fine flags → HeldFine h → HeldFine (bundle_met c k flags skip so_far h).0
unfolding bundle_met
bundle_met_fine c zero flags skip so_far h f t p = p
bundle_met_fine c (suc k) flags skip so_far h f t p =
    bundle_step_fine c (slice_get (chars flags) 0) flags skip so_far h (bundle_met c k) f t
    (λ t' n o k' fine q. bundle_met_fine c k t' n o k' f fine q) p

-- ---- words

started_fine : (id : Text) (pending : Option (Text × List Text)) → PendingFine pending → HaveTextBytes (started id pending).1
started_fine id None p = tt
started_fine id (Some q) p = p

pushed_fine : (id word : Text) (h : Held) → Fine word → HeldFine h → HeldFine (pushed id word h)
pushed_fine id word h w p = (p.0, texts_append (started id h.pending).1 (word ∷ []) (started_fine id h.pending p.1) (w, tt))

option_word_fine : (found : Option Rule) (id word : Text) (h : Held) → Fine word → HeldFine h → HeldFine (option_word found id word h).0
option_word_fine None id word h w p = p
option_word_fine (Some a) id word h w p = pushed_fine id word h w p

plain_word_fine : (c : List Rule) (waiting : Waiting) (word : Text) (h : Held) → Fine word → HeldFine h → HeldFine (plain_word c waiting word h).0
plain_word_fine c (option id) word h w p = option_word_fine (arg_by_id c id) id word h w p
plain_word_fine c idle word h w p = p
plain_word_fine c positional word h w p = p

after_flag_fine : (c : List Rule) (waiting : Waiting) (word : Text) (h : Held) (o : Outcome)
    → Fine word → HeldFine h → HeldFine (after_flag c waiting word h o).0
after_flag_fine c waiting word h done w p = p
after_flag_fine c waiting word h (waits id) w p = p
after_flag_fine c waiting word h plain w p = plain_word_fine c waiting word h w p
after_flag_fine c waiting word h refused w p = plain_word_fine c waiting word h w p

short_or_plain_fine : (c : List Rule) (waiting : Waiting) (word : Text) (flags : Option Text) (h : Held)
    → RulesFine c → Fine word → OptionFine flags → HeldFine h → HeldFine (short_or_plain c waiting word flags h).0
short_or_plain_fine c waiting word (Some flags) h f w t p =
    after_flag_fine c waiting word (bundle c flags h).0 (bundle c flags h).1 w
    (bundle_met_fine c (length flags) flags h.skip plain (record h { skip = 0 }) f t p)
short_or_plain_fine c waiting word None h f w t p = plain_word_fine c waiting word h w p

-- a name, and a value that is a text if there is one
abbrev LongFine : Option (Text × Option Text) → Type 0
LongFine None = Unit {0}
LongFine (Some p) = OptionFine p.1

long_or_other_fine : (c : List Rule) (waiting : Waiting) (word : Text) (long : Option (Text × Option Text)) (h : Held)
    → RulesFine c → Fine word → LongFine long → OptionFine (short_of word) → HeldFine h → HeldFine (long_or_other c waiting word long h).0
long_or_other_fine c waiting word (Some q) h f w l t p =
    after_flag_fine c waiting word (long_met c (arg_by_long c q.0) q.1 h).0 (long_met c (arg_by_long c q.0) q.1 h).1 w
    (long_met_fine c (arg_by_long c q.0) q.1 h f (found_fine _ c f) l p)
long_or_other_fine c waiting word None h f w l t p = short_or_plain_fine c waiting word (short_of word) h f w t p

short_rest_fine : (rest : Option Text) → OptionFine rest → OptionFine (option_and_then short_of_rest rest)
short_rest_fine None h = tt
short_rest_fine (Some []) h = tt
short_rest_fine (Some (x ∷ xs)) h = go (x == 45)
  where
    go : (b : Bool) → OptionFine (cond b None (Some (x ∷ xs)))
    go true = tt
    go false = h

short_fine : (word : Text) → Fine word → OptionFine (short_of word)
short_fine word w = short_rest_fine (strip_byte 45 word) (stripped_fine 45 word w)

value_fine : (text : Text) → Fine text → OptionFine (name_and_value text).1
value_fine text w = go (has_byte 61 text)
  where
    go : (b : Bool) → OptionFine (cond b (Some (after_first (λ x. x == 61) text)) None)
    go true = drop_fine _ text w
    go false = tt

long_rest_fine : (rest : Option Text) → OptionFine rest → LongFine (option_and_then long_of_rest rest)
long_rest_fine None h = tt
long_rest_fine (Some []) h = tt
long_rest_fine (Some (x ∷ xs)) h = value_fine (x ∷ xs) h

twice_stripped_fine : (rest : Option Text) → OptionFine rest → OptionFine (option_and_then (strip_byte 45) rest)
twice_stripped_fine None h = tt
twice_stripped_fine (Some t) h = stripped_fine 45 t h

long_fine : (word : Text) → Fine word → LongFine (long_of word)
long_fine word w =
    long_rest_fine (option_and_then (strip_byte 45) (strip_byte 45 word))
    (twice_stripped_fine (strip_byte 45 word) (stripped_fine 45 word w))

other_fine : (c : List Rule) (met : Option Text) (waiting : Waiting) (position : ℕ) (word : Text) (h : Held)
    → RulesFine c → Fine word → HeldFine h → HeldFine (subcommand_or_other c met waiting position word h).0
other_fine c (Some name) waiting position word h f w p = p
other_fine c None waiting position word h f w p = go (bytes_eq word (45 ∷ 45 ∷ []))
  where
    go : (b : Bool) → HeldFine (cond b (h, trailing position) (long_or_other c waiting word (long_of word) h)).0
    go true = p
    go false = long_or_other_fine c waiting word (long_of word) h f w (long_fine word w) (short_fine word w) p

word_met_fine : (c : List Rule) (names : Names) (is_trailing : Bool) (waiting : Waiting) (position : ℕ) (word : Text) (h : Held)
    → RulesFine c → Fine word → HeldFine h → HeldFine (word_met c names is_trailing waiting position word h).0
word_met_fine c names true waiting position word h f w p = p
word_met_fine c names false waiting position word h f w p = other_fine c (subcommand_met names waiting word) waiting position word h f w p

positional_fine : (c : List Rule) (a : Rule) (word : Text) (h : Held)
    → RulesFine c → Fine word → HeldFine h → HeldFine (positional_held c a word h)
positional_fine c a word h f w p = go (is_pending a h.pending && takes_several a)
  where
    go : (b : Bool) → HeldFine (pushed a.id word (cond b h (settled c h)))
    go true = pushed_fine a.id word h w p
    go false = pushed_fine a.id word (settled c h) w (settled_fine c h f p)

to_positional_fine : (c : List Rule) (found : Option Rule) (word : Text) (w : Walk) (h : Held)
    → RulesFine c → Fine word → HeldFine h → HeldFine (to_positional c found word w h).held
to_positional_fine c None word w h f t p = p
to_positional_fine c (Some a) word w h f t p = positional_fine c a word h f t p

after_step_fine : (c : List Rule) (word : Text) (w : Walk) (h : Held) (s : Step)
    → RulesFine c → Fine word → HeldFine h → HeldFine (after_step c word w h s).held
after_step_fine c word w h (next waiting) f t p = p
after_step_fine c word w h (trailing position) f t p = p
after_step_fine c word w h (subcommand name) f t p = p
after_step_fine c word w h value f t p = to_positional_fine c (arg_by_index c w.position) word w h f t p

walked_from_fine : (c : List Rule) (names : Names) (stopped : Option (Text × List Text)) (w : Walk) (word : Text)
    → RulesFine c → Fine word → HeldFine w.held → HeldFine (walked_from c names stopped w word).held
walked_from_fine c names (Some q) w word f t p = p
walked_from_fine c names None w word f t p =
    let met = word_met c names w.is_trailing w.waiting w.position word w.held in
    after_step_fine c word w met.0 met.1 f t (word_met_fine c names w.is_trailing w.waiting w.position word w.held f t p)

-- ---- the whole walk, and defaults

walked_fine : (c : List Rule) (names : Names) (w : Walk) (word : Text)
    → RulesFine c → Fine word → HeldFine w.held → HeldFine (walked c names w word).held
unfolding walked
walked_fine c names w word f t p = walked_from_fine c names w.stopped w word f t p

walk_fine : (c : List Rule) (names : Names) (words : List Text) (w : Walk)
    → RulesFine c → HaveTextBytes words → HeldFine w.held → HeldFine (fold (walked c names) w words).held
walk_fine c names [] w f t p = p
walk_fine c names (word ∷ rest) w f t p = walk_fine c names rest (walked c names w word) f t.1 (walked_fine c names w word f t.0 p)

default_rows_fine : (id : Text) (how : Reading) (values : List Text) (rows : List Row)
    → HaveTextBytes values → RowsHaveTextBytes rows → RowsHaveTextBytes (default_rows id how values rows)
default_rows_fine id how [] rows v h = h
default_rows_fine id how (t ∷ ts) rows v h = with_values_fine id how _ (t ∷ ts) rows v h

with_default_fine : (rows : List Row) (a : Rule) → RuleFine a → RowsHaveTextBytes rows → RowsHaveTextBytes (with_default rows a)
with_default_fine rows a r h = go (has_row a.id rows)
  where
    go : (b : Bool) → RowsHaveTextBytes (cond b rows (default_rows a.id (reading_by a) a.defaults rows))
    go true = h
    go false = default_rows_fine a.id (reading_by a) a.defaults rows r.1 h

defaults_fine : (rules : List Rule) (rows : List Row) → RulesFine rules → RowsHaveTextBytes rows → RowsHaveTextBytes (fold with_default rows rules)
defaults_fine [] rows f h = h
defaults_fine (a ∷ rest) rows f h = defaults_fine rest (with_default rows a) f.1 (with_default_fine rows a f.0 h)

rows_after_fine : (c : List Rule) (names : Names) (words : List Text) → RulesFine c → HaveTextBytes words → RowsHaveTextBytes (rows_after c names words)
rows_after_fine c names words f t =
    let end = (walk c names nothing_held words).held in
    defaults_fine c (settled c end).rows f (settled_fine c end f (walk_fine c names words (walk_from nothing_held) f t (tt, tt))).0

-- ---- the description's matches

a_flag : HaveTextBytes (codes "true" ∷ []) × HaveTextBytes (codes "false" ∷ []) × Unit {0}
a_flag = ((refl, tt), (refl, tt), tt)

an_option : HaveTextBytes [] × HaveTextBytes [] × Unit {0}
an_option = (tt, tt, tt)

rules_fine : (flags : Flags) → RulesFine (built (description flags)).top.rules
rules_fine OfBulk = (a_flag, (a_flag, (an_option, (a_flag, (a_flag, (a_flag, (an_option, (an_option, tt))))))))
rules_fine OfPkgclean = (a_flag, (a_flag, (an_option, (an_option, tt))))

behind_fine : (words : List Text) → HaveTextBytes words → HaveTextBytes (drop 1 words)
behind_fine [] t = tt
behind_fine (word ∷ rest) t = t.1

pub matches_have_text_bytes : (flags : Flags) (words : List Text) → HaveTextBytes words → RowsHaveTextBytes (matches_of (description flags) words)
matches_have_text_bytes OfBulk words t =
    rows_after_fine (built (description OfBulk)).top.rules (names_of (built (description OfBulk))) (drop 1 words) (rules_fine OfBulk) (behind_fine words t)
matches_have_text_bytes OfPkgclean words t =
    rows_after_fine (built (description OfPkgclean)).top.rules (names_of (built (description OfPkgclean))) (drop 1 words) (rules_fine OfPkgclean) (behind_fine words t)

-- ---- one option's value, and the origins

abbrev RowFine : Option Row → Type 0
RowFine None = Unit {0}
RowFine (Some r) = HaveTextBytes r.values

row_fine : (passes : Row → Bool) (rows : List Row) → RowsHaveTextBytes rows → RowFine (find passes rows)
row_fine passes [] h = tt
row_fine passes (r ∷ rest) h = go (passes r) (row_fine passes rest h.1)
  where
    go : (b : Bool) → RowFine (find passes rest) → RowFine (cond b (Some r) (find passes rest))
    go true behind = h.0
    go false behind = behind

abbrev first_in : Option Row → Option Text
first_in = option_and_then (λ r. slice_get r.values 0)

first_value_fine : (values : List Text) → HaveTextBytes values → OptionFine (slice_get values 0)
first_value_fine [] h = tt
first_value_fine (t ∷ ts) h = h.0

first_in_fine : (row : Option Row) → RowFine row → OptionFine (first_in row)
first_in_fine None h = tt
first_in_fine (Some r) h = first_value_fine r.values h

some_fine : (found : Option Text) (text : Text) → OptionFine found → found ≡ Some text → Fine text
some_fine found text h is = subst OptionFine is h

-- the value of an option has the bytes of a text
pub value_has_text_bytes : (id : Text) (rows : List Row) (text : Text) → RowsHaveTextBytes rows → first_of id rows ≡ Some text → IsTrue (has_text_bytes text)
value_has_text_bytes id rows text h is = some_fine (first_of id rows) text (first_in_fine (find (λ r. bytes_eq r.id id) rows) (row_fine (λ r. bytes_eq r.id id) rows h)) is

abbrev AllFine : Option (List Text) → Type 0
AllFine None = Unit {0}
AllFine (Some values) = HaveTextBytes values

all_in_fine : (row : Option Row) → RowFine row → AllFine (option_map (λ r. r.values) row)
all_in_fine None h = tt
all_in_fine (Some r) h = h

-- and so have all values of an argument
pub values_have_text_bytes : (id : Text) (rows : List Row) (values : List Text) → RowsHaveTextBytes rows → all_of id rows ≡ Some values → HaveTextBytes values
values_have_text_bytes id rows values h is = subst AllFine is (all_in_fine (find (λ r. bytes_eq r.id id) rows) (row_fine (λ r. bytes_eq r.id id) rows h))
