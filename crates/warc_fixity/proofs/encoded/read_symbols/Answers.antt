use Rattle.std.proofs.Common.{List, ◌≡◌, ◌<◌, ◌+◌, ◌-◌, ◌*◌, ◌/◌, ◌%◌, ◌^◌, ℕ, sym, subst, arith}
use Rattle.std.proofs.lemmas.List.{length-replicate}
use Rattle.std.proofs.lemmas.Grind.{common_steps}
use Rattle.warc_fixity.proofs.ReadLemmas.{IsWhole, same_read, most_bits, byte_fits, read_none, read_few, read_byte, read_whole, zeros_are_bytes, not_symbols, good_symbols, bits_left}
use Rattle.warc_fixity.proofs.SymbolLemmas.{five_is, five_small}
use Rattle.warc_fixity.proofs.encoded.read_symbols.Goals.{then-count-lt3, else-count-lt3}
use Rattle.warc_fixity.proofs.encoded.read_symbols.Goals as goal

pub returns-then-not-all_symbols : goal.returns-then-not-all_symbols
returns-then-not-all_symbols g c = not_symbols g.row.N c.args.symbols.now (grind (arith, common_steps))

pub reading-init : goal.reading-init
reading-init g c = read_none c.args.symbols.now _ g.row.N (length-replicate g.row.N 0) (zeros_are_bytes g.row.N)

pub overflow_mul-more : goal.overflow_mul-more
overflow_mul-more g c = let most = most_bits (5 * c.reading.i % 8) c.reading.bits (omega arith) c.reading.invariant.below in omega arith

pub overflow_add-more : goal.overflow_add-more
overflow_add-more g c =
    let most = most_bits (5 * c.reading.i % 8) c.reading.bits (omega arith) c.reading.invariant.below in
    let five = five_small _ _ _ c.value.ensures.value c.unwrap_or.ensures in
    omega arith

pub overflow_cast-digest : goal.overflow_cast-digest
overflow_cast-digest g c =
    let count : ℕ = 5 * c.reading.i % 8 in
    let three : count ≡ count - 3 + 3 = omega (arith, c.if-count-lt3.false) in
    let five = five_small _ _ _ c.value.ensures.value c.unwrap_or.ensures in
    let fits : (c.reading.bits * 32 + c.unwrap_or.result) / c.pow-unit.result < 256 =
    subst (λ (unit : ℕ). (c.reading.bits * 32 + c.unwrap_or.result) / unit < 256) (sym c.pow-unit.ensures)
    (byte_fits (count - 3) c.reading.bits c.unwrap_or.result (omega arith) (subst (λ (k : ℕ). c.reading.bits < 2 ^ k) three c.reading.invariant.below) five) in
    omega (arith, fits)

pub reading-preserved : goal.reading-preserved
reading-preserved g c =
    let old = c.reading.invariant in
    let is = five_is _ _ _ c.value.ensures.value c.unwrap_or.ensures in
    let small = five_small _ _ _ c.value.ensures.value c.unwrap_or.ensures in
    let symbols : List ℕ = c.args.symbols.now in
    let i : ℕ = c.reading.i in
    elim c.if-count-lt3.branch [
      | then-count-lt3 w ↦
          same_read symbols _ _ (i + 1) _ _ g.row.N w.digest-is w.bits-is
          (read_few symbols c.reading.digest i c.reading.bits g.row.N c.unwrap_or.result c.reading-test.true is small w.if-count-lt3.true old)
      | else-count-lt3 w ↦
          same_read symbols _ _ (i + 1) _ _ g.row.N w.digest-is w.bits-is
          (read_byte symbols c.reading.digest i c.reading.bits g.row.N c.unwrap_or.result w.pow-unit.result c.reading-test.true is small w.if-count-lt3.false
          w.pow-unit.ensures (omega (arith, c.requires.len, c.reading-test.true)) old)
    ]

pub returns-then-bits-eq0 : goal.returns-then-bits-eq0
returns-then-bits-eq0 g c =
    let symbols : List ℕ = c.args.symbols.now in
    let whole : IsWhole symbols c.reading.digest c.reading.bits g.row.N =
    read_whole symbols c.reading.digest c.reading.i c.reading.bits g.row.N (omega arith) c.requires.len c.reading.invariant in
    good_symbols g.row.N symbols c.reading.digest (grind (arith, common_steps))
    (subst (λ (k : ℕ). IsWhole symbols c.reading.digest k g.row.N) c.if-bits-eq0.true whole)

pub returns-else-bits-eq0 : goal.returns-else-bits-eq0
returns-else-bits-eq0 g c =
    let symbols : List ℕ = c.args.symbols.now in
    let whole : IsWhole symbols c.reading.digest c.reading.bits g.row.N =
    read_whole symbols c.reading.digest c.reading.i c.reading.bits g.row.N (omega arith) c.requires.len c.reading.invariant in
    bits_left g.row.N c.reading.bits symbols c.reading.digest c.if-bits-eq0.false whole
