use Rattle.std.proofs.Common.{◌∙◌, ap, inr, refl, Some}
use Rattle.warc_lent.proofs.TextLemmas.{refused_for, taken_whole}
use Rattle.warc_lent.proofs.texts.findings_text.Goals as goal

pub returns-in-Err-clause-refused : goal.returns-in-Err-clause-refused
returns-in-Err-clause-refused g c =
    inr (
      c.in-Err.fault,
      refl,
      refused_for c.in-Err.fault.kind c.args.bytes.now _ _ c.in-Err.fault c.in-Err.ensures.reads.cause
          (c.in-Err.ensures.refused c.args.bytes.now (ap Some c.new.ensures.bytes)),
    )

pub returns-clause-lines : goal.returns-clause-lines
returns-clause-lines g c =
    let is = c.in-Ok.ensures.accepted c.args.bytes.now (ap Some c.new.ensures.bytes) in
    record {
      rows = c.in-Ok.checked.listing.rows;
      is = is.listed;
      lines =
          c.into_inner.ensures
          ∙ taken_whole c.check.new.out.bytes c.new-lines.result.bytes _ (c.in_ok-check.ensures.reports c.args.bytes.now is).reported
          (c.new-lines.ensures.bytes ∙ c.new-2.ensures.items);
    }
