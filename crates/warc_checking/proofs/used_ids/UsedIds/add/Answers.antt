use Rattle.std.proofs.Common.{◌≡◌, ◌||◌, true, false, map, Some, sym, ap, ◌∙◌}
use Rattle.std.proofs.lemmas.Bool.{ltb-true}
use Rattle.std.specs.BTreeSet.{contains_by}
use Rattle.std.specs.Cmp.Lexicographic.{slice_cmp}
use Rattle.std.specs.List.{list_any}
use Rattle.std.specs.Ordering.{nat_cmp}
use Rattle.std.specs.Str.{bytes_eq}
use Rattle.std.specs.Vec.{vec_items}
use Rattle.warc_record.specs.Ids.{id_key}
use Rattle.warc_checking.specs.Checking.{is_used}
use Rattle.warc_checking.specs.UsedIds.{Ids}
use Rattle.warc_checking.proofs.UsedIdLemmas.{ids_again, ids_more, kept_is_used, none_used, one_more_key}
use Rattle.warc_checking.proofs.TallyLemmas.{ids_unshared, unused}
use Rattle.warc_checking.proofs.used_ids.UsedIds.add.Goals as goal

pub returns-in_default-clause-used : goal.returns-in_default-clause-used
returns-in_default-clause-used g c = λ before ids lone. sym (ap (is_used before) (sym c.id_key.ensures ∙ c.in_default.is) ∙ none_used before)

pub returns-then-not-is_shared-clause-used : goal.returns-then-not-is_shared-clause-used
returns-then-not-is_shared-clause-used g c = λ before has lone.
    unused before c.args.self.now (id_key c.args.text.now) lone (λ key is. c.if-not-is_shared.ensures.shared key (c.requires.bucket key is))

pub returns-then-not-is_shared-clause-ids : goal.returns-then-not-is_shared-clause-ids
returns-then-not-is_shared-clause-ids g c = λ before r has is.
    ids_unshared before c.args.self.now (id_key c.args.text.now) r has is (λ key found. c.if-not-is_shared.ensures.shared key (c.requires.bucket key found))

pub returns-then-contains-clause-used : goal.returns-then-contains-clause-used
returns-then-contains-clause-used g c = λ before has lone.
    let is : id_key c.args.text.now ≡ Some c.in-Some.key = sym c.id_key.ensures ∙ c.in-Some.is in
    let shared = ltb-true 1 _ (sym (c.if-not-is_shared.ensures.shared c.in-Some.key (c.requires.bucket c.in-Some.key is))) in
    let found = c.if-contains.ensures ∙ ap (λ t. contains_by (λ k. slice_cmp nat_cmp t (vec_items k)) c.self.inside.keys) c.bytes.ensures in
    (kept_is_used vec_items _ c.in-Some.key true before c.args.self.now found (ap (λ (m : Ids). m.keys) c.self.view_is) has shared).1 ∙ ap (is_used before) (sym is)

pub returns-then-contains-clause-ids : goal.returns-then-contains-clause-ids
returns-then-contains-clause-ids g c = λ before r has key.
    let is : id_key c.args.text.now ≡ Some c.in-Some.key = sym c.id_key.ensures ∙ c.in-Some.is in
    let shared = ltb-true 1 _ (sym (c.if-not-is_shared.ensures.shared c.in-Some.key (c.requires.bucket c.in-Some.key is))) in
    let found = c.if-contains.ensures ∙ ap (λ t. contains_by (λ k. slice_cmp nat_cmp t (vec_items k)) c.self.inside.keys) c.bytes.ensures in
    ids_again before r c.in-Some.key c.args.self.now has (key ∙ is)
    (sym (kept_is_used vec_items _ c.in-Some.key true before c.args.self.now found (ap (λ (m : Ids). m.keys) c.self.view_is) has shared).0)

pub returns-clause-used : goal.returns-clause-used
returns-clause-used g c = λ before has lone.
    let is : id_key c.args.text.now ≡ Some c.in-Some.key = sym c.id_key.ensures ∙ c.in-Some.is in
    let shared = ltb-true 1 _ (sym (c.if-not-is_shared.ensures.shared c.in-Some.key (c.requires.bucket c.in-Some.key is))) in
    let found = c.if-contains.ensures ∙ ap (λ t. contains_by (λ k. slice_cmp nat_cmp t (vec_items k)) c.self.inside.keys) c.bytes.ensures in
    (kept_is_used vec_items _ c.in-Some.key false before c.args.self.now found (ap (λ (m : Ids). m.keys) c.self.view_is) has shared).1 ∙ ap (is_used before) (sym is)

pub returns-clause-ids : goal.returns-clause-ids
returns-clause-ids g c = λ before r has key.
    let is : id_key c.args.text.now ≡ Some c.in-Some.key = sym c.id_key.ensures ∙ c.in-Some.is in
    let text = c.in_ok-kept.ensures.items ∙ c.bytes-2.ensures in
    let old = c.self.inside.keys.keys in
    ids_more before r c.in-Some.key c.args.self.now (record { counts = c.self.inside.counts.items; buckets = c.self.inside.buckets.items; keys = map vec_items c.insert.new.self.keys }) has (key ∙ is)
    (λ q.
    ap (λ ks. list_any (bytes_eq q) (map vec_items ks)) c.in-Ok.ensures.keys ∙ one_more_key vec_items old c.in_ok-kept.kept q
    ∙ ap (λ t. bytes_eq q t || list_any (bytes_eq q) (map vec_items old)) text
    ∙ ap (λ ts. bytes_eq q c.in-Some.key || list_any (bytes_eq q) ts) (ap (λ (m : Ids). m.keys) c.self.view_is))
    (ap (λ (m : Ids). m.counts) c.self.view_is)
