use Rattle.std.proofs.Common.{rules, ◌≡◌, ◌+◌, ◌++◌, Some, append_assoc, take, refl, sym, ap, ◌∙◌}
use Rattle.std.proofs.lemmas.List.{append-nil}
use Rattle.std.specs.List.{slice_get}
use Rattle.warc_json.specs.Rows.{json_line, json_listing}
use Rattle.warc_frame.proofs.LawLemmas.{longer, same_out, same_staged}
use Rattle.warc_json.proofs.RowLemmas.{listing_front, listing_next}
use Rattle.warc_json.proofs.rows.put_rows.Goals as goal

pub listing-init : goal.listing-init
unfolding json_listing
listing-init g c = record { staged = λ start output is. same_staged (sym (append-nil output)) is; sound = refl }

pub returns-in_err-put_line : goal.returns-in_err-put_line
returns-in_err-put_line g c = record {
  out = search rules;
  cut = λ start output is.
      let rows = c.args.listing.now.rows in
      let i = c.listing.position in
      let at : slice_get rows i ≡ Some c.in-Some.row = sym c.row.ensures ∙ c.in-Some.is in
      let next = append_assoc output (json_listing (take i rows)) (json_line i c.in-Some.row) ∙ ap (λ l. output ++ l) (listing_next rows i c.in-Some.row at) in
      let cut = longer _ (same_out next (c.in_err-put_line.ensures.cut start _ (c.listing.invariant.staged start output is))) in
      let whole = same_out (append_assoc output (json_listing (take (i + 1) rows)) _ ∙ ap (λ l. output ++ l) (sym (listing_front rows (i + 1)))) cut in
      search rules;
  cause = search rules;
  left = search rules;
}

pub listing-preserved : goal.listing-preserved
listing-preserved g c =
    let rows = c.args.listing.now.rows in
    let i = c.listing.position in
    let at : slice_get rows i ≡ Some c.in-Some.row = sym c.row.ensures ∙ c.in-Some.is in
    record {
      staged = λ start output is.
          same_staged (append_assoc output (json_listing (take i rows)) (json_line i c.in-Some.row) ∙ ap (λ l. output ++ l) (listing_next rows i c.in-Some.row at))
          (c.in_ok-put_line.ensures.out start _ (c.listing.invariant.staged start output is));
      sound = search rules;
    }
