use Rattle.std.proofs.Common.{◌≡◌, ◌∙◌, ◌++◌, ◌∷◌, [], Bool, true, false, ap, sym, ℕ, List, String}
use Rattle.std.specs.Prelude.{bytes_eq}
use Rattle.std.specs.List.{list_any}
use Rattle.std.specs.String.{string_bytes}
use Rattle.std.proofs.lemmas.Map.Made.{is_some-lookup}
use Rattle.indexmap.specs.IndexMap.{keys, values}
use Rattle.bulk_model.specs.declared.reason.Notice.{Notice}
use Rattle.origin_flavor.specs.Notices.{with_notice}
use Rattle.origin_flavor.proofs.NoticesView.{any_key, entries_more, texts_push, values_push, told_more, told_same}
use Rattle.origin_flavor.proofs.notice_list.NoticeList.add.Goals as goal

abbrev word_of : Notice → List ℕ
word_of notice = notice.word

abbrev has_word : List ℕ → Notice → Bool
has_word word notice = bytes_eq word notice.word

abbrev has_text : {Z : Type 0} → List ℕ → String Z → Bool
has_text word key = bytes_eq word (string_bytes key)

pub returns-then-contains_key : goal.returns-then-contains_key
returns-then-contains_key c =
    let old = c.self.inside.notices in
    let there : list_any (has_text c.as_str.result.now) (keys old) ≡ true = sym (is_some-lookup (has_text c.as_str.result.now) old.entries) ∙ sym c.contains_key.ensures ∙ c.if-contains_key.true in
    let among : list_any (has_word c.as_str.result.now) (values old) ≡ true = sym (any_key string_bytes word_of (keys old) (values old) c.as_str.result.now c.self.invariant) ∙ there in
    told_same c.args.self.now (record { word = c.args.word.now; name = c.args.name.now })
    (ap (λ w. list_any (has_word w) c.args.self.now) (sym c.as_str.ensures.same) ∙ ap (list_any (has_word c.as_str.result.now)) (sym c.self.view_is) ∙ among)

abbrev made : goal.Joined-branch-5 → Notice
made c = record { word = c.in_ok-copy.field-0; name = c.in_ok-copy-2.field-0 }

more_entries : (c : goal.Joined-branch-5) → c.insert.new.self.entries ≡ c.self.inside.notices.entries ++ (c.in_ok-key.key, made c) ∷ []
more_entries c =
    entries_more c.self.inside.notices c.insert.new.self.entries c.in_ok-key.key (made c) c.as_str.result.now (c.in_ok-key.ensures.ok ∙ c.as_str-2.ensures.same ∙ sym c.as_str.ensures.same)
    (sym c.contains_key.ensures ∙ c.if-contains_key.false) c.in_ok-insert.ensures.entries

pub invariant_of-self-2 : goal.invariant_of-self-2
invariant_of-self-2 c =
    texts_push string_bytes word_of c.self.inside.notices.entries c.insert.new.self.entries c.in_ok-key.key (made c) (more_entries c)
    (c.in_ok-key.ensures.ok ∙ c.as_str-2.ensures.same ∙ sym c.in_ok-copy.ensures) c.self.invariant

pub returns : goal.returns
returns c =
    let old = c.self.inside.notices in
    let gone : list_any (has_text c.as_str.result.now) (keys old) ≡ false = sym (is_some-lookup (has_text c.as_str.result.now) old.entries) ∙ sym c.contains_key.ensures ∙ c.if-contains_key.false in
    let other : list_any (has_word c.as_str.result.now) (values old) ≡ false = sym (any_key string_bytes word_of (keys old) (values old) c.as_str.result.now c.self.invariant) ∙ gone in
    let absent : list_any (has_word (made c).word) (values old) ≡ false = ap (λ w. list_any (has_word w) (values old)) (c.in_ok-copy.ensures ∙ sym c.as_str.ensures.same) ∙ other in
    ap (λ es. Rattle.std.specs.Map.values_of es) (more_entries c) ∙ values_push old.entries c.in_ok-key.key (made c) ∙ told_more (values old) (made c) absent
    ∙ ap (λ told. with_notice told (made c)) c.self.view_is
    ∙ ap (λ w. with_notice c.args.self.now (record { word = w; name = c.in_ok-copy-2.field-0 })) c.in_ok-copy.ensures
    ∙ ap (λ n. with_notice c.args.self.now (record { word = c.args.word.now; name = n })) c.in_ok-copy-2.ensures
