use Rattle.std.proofs.Common.{◌≡◌, ◌+◌, Some, length, map, refl, ap, sym, ◌∙◌, arith}
use Rattle.std.specs.List.{slice_get}
use Rattle.std.proofs.lemmas.List.{length-map}
use Rattle.std.proofs.lemmas.Option.{slice_get_read}
use Rattle.warc_reading.specs.Rows.{unpacked}
use Rattle.warc_reading.specs.declared.rows.RowEntry.{RowEntry}
use Rattle.warc_reading.proofs.RowLemmas.{end_is, entry_at, rows_unpacked}
use Rattle.warc_reading.proofs.rows.Rows.end.Goals as goal

pub returns-clause-end : goal.returns-clause-end
returns-clause-end g c = λ bytes of.
    let (some, here, past, (low, each), more) = c.in-Some-get.ensures.lookup in
    let packed = c.in-Some-get.packed.now in
    let entries = c.self.inside.entries.items in
    let found : slice_get c.deref.result.now c.in-Some.last ≡ Some packed = slice_get_read c.deref.result.now (length c.deref.result.now) c.in-Some.last packed refl low here in
    let is : slice_get entries c.in-Some.last ≡ Some packed = ap (λ xs. slice_get xs c.in-Some.last) (sym c.deref.ensures.value) ∙ found in
    let last : c.in-Some.last + 1 ≡ length (map unpacked entries) = omega (arith, c.in-Some.ensures, c.len.ensures, c.self.inside.entries.ok.0, length-map entries unpacked) in
    let seen = rows_unpacked c.self.inside.texts.items entries ∙ c.self.view_is in
    let end = end_is c.self.inside.texts.items bytes c.args.self.now (map unpacked entries) c.in-Some.last (unpacked packed) of seen (entry_at entries c.in-Some.last packed is) last in
    let at = ap (λ (e : RowEntry). e.block_start) c.entry-entry.ensures in
    let len = ap (λ (e : RowEntry). e.block_len) c.entry-entry.ensures in
    omega (arith, end, at, len, of.short, c.saturating_add-block_end.ensures, c.saturating_add.ensures, c.min.ensures)
