-- A record that is judged again: its head is read, and its block.
use Rattle.std.proofs.Common.{◌≡◌, ◌+◌, ◌≤◌, ℕ, List, [], ◌∷◌, ◌++◌, Some, length, map, take, drop, take_all, sym, ap, ◌∙◌, arith}
use Rattle.std.proofs.lemmas.List.{length-map}
use Rattle.std.specs.List.{slice_get}
use Rattle.warc_field.specs.Area.{Pair}
use Rattle.warc_value.specs.Digests.{verdict_of}
use Rattle.warc_value.specs.declared.hash.Wanted.{Wanted}
use Rattle.warc_frame.specs.Effects.{HasRange, ReadsOnly, ReadsRange}
use Rattle.warc_frame.specs.Seen.{IsInRange, SeenSource}
use Rattle.warc_frame.proofs.EffectLemmas.{reads_both, reads_within}
use Rattle.warc_record.specs.Readings.{digest_wanted}
use Rattle.warc_digest.specs.Judging.{judged_len}
use Rattle.warc_digest.proofs.RangeLemmas.{reads_judged}
use Rattle.warc_reading.specs.Archive.{contents}
use Rattle.warc_reading.specs.Judging.{verdict_on}
use Rattle.warc_reading.specs.Placing.{IsInRow}
use Rattle.warc_reading.specs.Rereading.{AreCheckable, HasHeadOf, HasTextOf, ReadsHeads, row_len}
use Rattle.warc_reading.specs.Row.{Placed, Row, row_of}
use Rattle.warc_reading.proofs.ReadLemmas.{reads_block_of, reads_head_of}
use Rattle.warc_reading.proofs.PlacedLemmas.{take_one}
use Rattle.warc_record.specs.Findings.{SeenFinding}
use Rattle.warc_checking.specs.Judged.{own_findings}
use Rattle.warc_checking.proofs.OwnFindingLemmas.{own_more}

abbrev pub head_there : (row : Row) (bytes : List ℕ) → HasTextOf row bytes → HasHeadOf row bytes
head_there row bytes is = record { placed = is.placed; has = is.has; row_is = is.row_is }

-- the block is among the bytes
pub block_there : (row : Row) (bytes : List ℕ) (start len : ℕ) → start ≡ row.block_start → len ≡ row.block_len
    → HasTextOf row bytes → HasRange start len bytes
block_there row bytes start len start_is len_is is =
    let begin = ap (λ (r : Row). r.block_start) is.row_is in
    let size = ap (λ (r : Row). r.block_len) is.row_is in
    (omega (arith, start_is, len_is, begin, size, is.written.end, is.written.within), omega (arith, is.short))

-- it is judged by the digest that its head asks for
pub block_judged : (row : Row) (bytes : List ℕ) (is : HasTextOf row bytes) (start len : ℕ) (wanted : Wanted)
    (fields : List Pair) → start ≡ row.block_start → len ≡ row.block_len → wanted ≡ digest_wanted fields
    → fields ≡ is.placed.content.fields → verdict_of wanted (take len (drop start bytes)) ≡ verdict_on is.placed
block_judged row bytes is start len wanted fields start_is len_is wanted_is fields_are =
    let begin : start ≡ is.placed.block_start = start_is ∙ ap (λ (r : Row). r.block_start) is.row_is in
    let size : len ≡ length is.placed.content.block = len_is ∙ ap (λ (r : Row). r.block_len) is.row_is in
    let block : take len (drop start bytes) ≡ is.placed.content.block =
    ap (λ n. take n (drop start bytes)) size
    ∙ ap (λ n. take (length is.placed.content.block) (drop n bytes)) begin ∙ is.written.block in
    ap (verdict_of wanted) block
    ∙ ap (λ w. verdict_of w is.placed.content.block) (wanted_is ∙ ap digest_wanted fields_are)

-- no other byte is read
pub reads_again : (row : Row) (start len : ℕ) (wanted : Wanted) {old mid new : SeenSource} → start ≡ row.block_start
    → len ≡ row.block_len → row.offset ≤ row.block_start → ReadsHeads (row ∷ []) old mid
    → ReadsRange start (judged_len wanted len) mid new → ReadsOnly (IsInRow row) (row_len row) old new
reads_again row start len wanted {old} {mid} {new} start_is len_is order head block =
    let here : ReadsOnly (IsInRange row.block_start row.block_len) row.block_len mid new =
    reads_within (λ q in_. (omega (arith, in_.0, start_is), omega (arith, in_.1, start_is, len_is))) (omega (arith, len_is))
    (reads_judged wanted start len block) in
    reads_both (reads_head_of row head) (reads_block_of row row.block_len order here)

-- the findings of the first n records are the findings of all where there are n
pub all_judged : (bytes : List ℕ) (records : List Placed) (rows : List Row) (n : ℕ) → AreCheckable bytes records rows
    → length rows ≤ n → map own_findings (contents (take n records)) ≡ map own_findings (contents records)
all_judged bytes records rows n can past =
    let size : length records ≤ n = omega (arith, past, ap length can.rows_are, length-map records row_of) in
    ap (λ l. map own_findings (contents l)) (take_all n records size)

-- the findings of one more record
pub judged_more : (records : List Placed) (i : ℕ) (p : Placed) (old new : List (List SeenFinding)) → slice_get records i ≡ Some p
    → new ≡ old ++ own_findings p.content ∷ [] → old ≡ map own_findings (contents (take i records))
    → new ≡ map own_findings (contents (take (i + 1) records))
judged_more records i p old new at more is =
    more ∙ ap (λ l. l ++ own_findings p.content ∷ []) is ∙ own_more (take i records) p
    ∙ ap (λ l. map own_findings (contents l)) (sym (take_one records i p at))
