use Rattle.std.proofs.Common.{sym, ◌∙◌}
use Rattle.std.proofs.lemmas.List.{take_rest}
use Rattle.warc_frame.proofs.StreamHeads.{begins-not, begins-across}
use Rattle.warc_frame.proofs.ends.begins_line.Goals as goal

pub returns-then-not-begins_as : goal.returns-then-not-begins_as
returns-then-not-begins_as c = begins-not c.args.kept.now c.args.piece.now c.args.line.now (sym c.begins_as.ensures ∙ c.if-not-begins_as.true)

pub returns : goal.returns
returns c =
    c.begins_as-2.ensures
    ∙ begins-across c.args.kept.now c.args.piece.now c.args.line.now _ c.min.result (sym c.begins_as.ensures ∙ c.if-not-begins_as.false) c.min.ensures (take_rest c.args.line.now c.min.result)
