use Rattle.std.proofs.Common.{ap, ◌∙◌}
use Rattle.warc_json.specs.Rows.{target_value}
use Rattle.warc_json.proofs.PutLemmas.{puts_same}
use Rattle.warc_json.proofs.RowLemmas.{line_from}
use Rattle.warc_json.proofs.rows.put_line.Goals as goal
use Rattle.warc_reading.specs.Row.{Row}

pub returns : goal.returns
returns g c =
    let inside = c.row.view_is in
    puts_same (line_from c.args.position c.args.row.now c.row.inside.offset c.row.inside.block_len c.row.inside.kind.now c.row.inside.date.now c.row.inside.id.now _
    (ap (λ (r : Row). r.offset) inside) (ap (λ (r : Row). r.block_len) inside) (ap (λ (r : Row). r.kind) inside) (ap (λ (r : Row). r.date) inside)
    (ap (λ (r : Row). r.id) inside) (c.target_value.ensures ∙ ap (λ (r : Row). target_value r.target) inside))
    c.put_object.ensures
