use Rattle.std.proofs.Common.{rules, ◌≡◌, ◌+◌, ◌++◌, append_assoc, take, Some, arith, refl, sym, ap, ap₂, ◌∙◌}
use Rattle.std.proofs.lemmas.List.{append-nil}
use Rattle.std.proofs.lemmas.Result.{IfErr-weaker, on_ok_weaker}
use Rattle.std.specs.List.{slice_get}
use Rattle.warc_judged.specs.Fixity.{counts_line}
use Rattle.warc_replay.specs.PayloadText.{payload_counts, payload_line_at, payload_line_if, payload_lines}
use Rattle.warc_frame.proofs.LawLemmas.{longer, same_out, same_staged}
use Rattle.warc_judged.proofs.LineLemmas.{lines_next}
use Rattle.warc.proofs.PayloadTextLemmas.{all_payload_lines, whole_payloads}
use Rattle.warc.proofs.opened.payloads.put_payloads.Goals as goal

pub listing-init : goal.listing-init
listing-init g c = record { staged = λ start output is. same_staged (sym (append-nil output)) is; sound = refl }

pub listing-preserved : goal.listing-preserved
listing-preserved g c =
    let rows = c.args.rows.now in
    let judged = c.args.payloads.now in
    let i = c.listing.position in
    let at : slice_get rows i ≡ Some c.in-Some.row = sym c.get.ensures ∙ c.in-Some.is in
    let line : payload_line_if i c.verdict-verdict.result c.in-Some.row c.at-digest.result.now ≡ payload_line_at judged i c.in-Some.row =
    ap₂ (λ v d. payload_line_if i v c.in-Some.row d) c.verdict-verdict.ensures c.at-digest.ensures in
    let next = ap (λ t. payload_lines judged (take i rows) ++ t) line ∙ lines_next (payload_line_at judged) rows i c.in-Some.row at in
    record {
      staged = λ start output is.
          same_staged (append_assoc output (payload_lines judged (take i rows)) _ ∙ ap (λ t. output ++ t) next)
          (c.in_ok-put_payload_if.ensures.out start _ (c.listing.invariant.staged start output is));
      sound = search rules;
    }

pub returns-in_err-put_payload_if : goal.returns-in_err-put_payload_if
returns-in_err-put_payload_if g c = record {
  out = search rules;
  cut = λ start output is.
      let rows = c.args.rows.now in
      let judged = c.args.payloads.now in
      let i = c.listing.position in
      let at : slice_get rows i ≡ Some c.in-Some.row = sym c.get.ensures ∙ c.in-Some.is in
      let line : payload_line_if i c.verdict-verdict.result c.in-Some.row c.at-digest.result.now ≡ payload_line_at judged i c.in-Some.row =
      ap₂ (λ v d. payload_line_if i v c.in-Some.row d) c.verdict-verdict.ensures c.at-digest.ensures in
      let next = ap (λ t. payload_lines judged (take i rows) ++ t) line ∙ lines_next (payload_line_at judged) rows i c.in-Some.row at in
      let cut = same_out (append_assoc output (payload_lines judged (take i rows)) _ ∙ ap (λ t. output ++ t) next) (c.in_err-put_payload_if.ensures.cut start _ (c.listing.invariant.staged start output is)) in
      let whole = same_out (append_assoc output (payload_lines judged (take (i + 1) rows)) _ ∙ ap (λ t. output ++ t) (all_payload_lines judged rows (i + 1) (counts_line (payload_counts judged.verdicts)))) (longer _ cut) in
      search rules;
  cause = search rules;
  left = search rules;
}

pub returns : goal.returns
returns g c =
    let rows = c.args.rows.now in
    let judged = c.args.payloads.now in
    let text = whole_payloads judged rows c.listing.position _ c.counts.result c.len-position-end.ensures (omega (arith, c.listing-test.false)) c.counts.ensures in
    record {
      out = λ start output is.
          on_ok_weaker c.put_counts.result (same_staged (append_assoc output _ _ ∙ ap (λ t. output ++ t) text))
          (c.put_counts.ensures.out start _ (c.listing.invariant.staged start output is));
      cut = λ start output is.
          IfErr-weaker c.put_counts.result _ _ (λ e out. same_out (append_assoc output _ _ ∙ ap (λ t. output ++ t) text) out)
          (c.put_counts.ensures.cut start _ (c.listing.invariant.staged start output is));
      cause = search rules;
      left = search rules;
    }
