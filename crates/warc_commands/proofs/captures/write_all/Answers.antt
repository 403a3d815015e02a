use Rattle.std.proofs.Common.{length, ap, ◌∙◌}
use Rattle.std.proofs.lemmas.Result.{err_from_is_err_and}
use Rattle.warc_replay.specs.Captures.{capture_positions}
use Rattle.warc_commands.proofs.CaptureLemmas.{writes_all, writes_front, writes_none}
use Rattle.warc_commands.proofs.captures.write_all.Goals as goal

pub returns-in_default : goal.returns-in_default
returns-in_default g c = writes_none

pub returns-in_err-list : goal.returns-in_err-list
returns-in_err-list g c =
    let p = err_from_is_err_and c.from_residual.result c.from_residual.ensures.1 in
    rw (p.1, p.2) (writes_front c.in-Ok.positions.items c.deref-listed.result.now c.deref-listed.ensures.value
    (λ bytes is. (is.indexed.listed, is.indexed.kept, is.verdicts_are, c.in-Ok.ensures ∙ ap capture_positions is.indexed.listed.are.rows_are)) c.in_err-list.ensures.lists)

pub returns : goal.returns
returns g c =
    writes_all c.in-Ok.positions.items c.deref-listed.result.now c.deref-listed.ensures.value
    (λ bytes is. (is.indexed.listed, is.indexed.kept, is.verdicts_are, c.in-Ok.ensures ∙ ap capture_positions is.indexed.listed.are.rows_are))
    (length c.deref-listed.result.now) (ap length c.deref-listed.ensures.value) c.in_ok-list.ensures.lists
