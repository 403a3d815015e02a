use Rattle.std.proofs.Common.{◌+◌, length, ap, ◌∙◌, ◌≡◌, arith, sym}
use Rattle.std.specs.List.{concat}
use Rattle.std.proofs.lemmas.List.{get_or_past}
use Rattle.warc_order.specs.Entries.{Entry, no_entry}
use Rattle.warc_order.specs.Layout.{Parts, texts_of}
use Rattle.warc_order.proofs.EntryLemmas.{held, part, starts_rise, starts_within}
use Rattle.warc_order.proofs.entries.Entries.text.Goals as goal

pub part-requires : goal.part-requires
part-requires g c =
    let bytes : c.deref.result.now ≡ concat (texts_of c.args.self.now) = c.deref.ensures.value
    ∙ ap (λ (p : Parts). p.bytes) (held _ _ c.self.invariant c.self.view_is) in
    record {
      order = omega (arith, starts_rise c.args.i c.args.self.now);
      end = omega (arith, ap length bytes, starts_within (c.args.i + 1) c.args.self.now);
    }

pub returns-then-i-len : goal.returns-then-i-len
returns-then-i-len g c =
    let bytes : c.deref.result.now ≡ concat (texts_of c.args.self.now) = c.deref.ensures.value
    ∙ ap (λ (p : Parts). p.bytes) (held _ _ c.self.invariant c.self.view_is) in
    rw (c.part.ensures, bytes, c.start-start.ensures, c.start-end.ensures) (part c.args.i c.args.self.now (omega
    arith))

pub returns-else-i-len : goal.returns-else-i-len
returns-else-i-len g c = ap (λ (e : Entry). e.text) (sym (get_or_past c.args.self.now c.args.i no_entry (omega
    arith)))
