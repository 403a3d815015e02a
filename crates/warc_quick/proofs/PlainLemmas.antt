-- A whole record, by its head and by what comes after it.
use Rattle.std.proofs.Common.{◌≡◌, ℕ, ◌+◌, ◌-◌, ◌≤◌, List, length, take, drop, slice_range, Ok, refl, sym, ap, subst, ◌∙◌, arith}
use Rattle.std.specs.Borrow.{Bor}
use Rattle.std.proofs.lemmas.List.{length-drop, length-take, length-take-le, take-append-drop}
use Rattle.warc_frame.specs.Reading.{Head, any_fields, block_at, head_of, record_of}
use Rattle.warc_frame.specs.Record.{Record}
use Rattle.warc_frame.specs.Spelling.{Spells}
use Rattle.warc_frame.proofs.LawLemmas.{heads_are_stable, reading_is_spelling}
use Rattle.warc_quick.specs.Quick.{IsQuickHead, IsQuickRecord}
use Rattle.warc_quick.specs.declared.head.QuickHead.{QuickHead}

part_len : (text : List ℕ) (n k : ℕ) → n + k + 4 ≤ length text → length (slice_range text n (n + k)) ≡ k
part_len text n k within = omega (arith, length-take (n + k - n) (drop n text), length-drop n text)

pub is_record : (text : List ℕ) (head : QuickHead) (head_text block : Bor (List ℕ)) → IsQuickHead text head → head_text.now ≡ take head.len text
    → block_at head.len head.block_len text ≡ Ok block.now → block.now ≡ slice_range text head.len (head.len + head.block_len)
    → head.len + head.block_len + 4 ≤ length text
    → IsQuickRecord text (record { head = head; head_text = head_text; block = block; len = head.len + length block.now + 4 })
unfolding record_of
is_record text head head_text block is front closed range within =
    let found : Head = record { version = is.version; fields = is.fields; len = head.len; block_len = head.block_len } in
    let read : head_of any_fields text ≡ Ok found =
    ap (head_of any_fields) (sym (take-append-drop head.len text))
    ∙ heads_are_stable any_fields (take head.len text) (drop head.len text) found is.whole in
    let content : Record = record { version = is.version; fields = is.fields; block = block.now } in
    let whole : record_of any_fields text ≡ Ok (content, head.len + head.block_len + 4) = rw (read, closed) refl in
    let spelled = reading_is_spelling any_fields text content (head.len + head.block_len + 4) whole in
    let size : length block.now ≡ head.block_len = ap length range ∙ part_len text head.len head.block_len within in
    let all : head.len + length block.now + 4 ≡ head.len + head.block_len + 4 = omega (arith, size) in
    let Q : ℕ → Type 0 = λ n. Spells content (take n text) in
    let count : length head_text.now ≡ head.len = ap length front ∙ length-take-le head.len text is.within in
    let P : ℕ → ℕ → Type 0 = λ n m. head_of any_fields head_text.now ≡ Ok (record { version = is.version; fields = is.fields; len = n; block_len = m }) in
    record {
      content = content;
      within = omega (arith, within, size);
      spelled = subst Q (sym all) spelled.1;
      says = is.says;
      block = sym size;
      block_is = refl;
      reads = subst (λ n. P n (length block.now)) (sym count) (subst (P head.len) (sym size) (ap (head_of any_fields) front ∙ is.whole));
      end = refl;
    }
