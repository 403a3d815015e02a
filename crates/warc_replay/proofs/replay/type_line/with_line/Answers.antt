use Rattle.std.proofs.Common.{subst, ◌≡◌, false, List, ℕ, Some}
use Rattle.warc_field.specs.Area.{Pair, field_of}
use Rattle.warc_field.specs.Text.{same}
use Rattle.warc_replay.proofs.TypeLineLemmas.{keeps_none}
use Rattle.warc_replay.proofs.replay.type_line.with_line.Goals as goal

pub returns-in-None : goal.returns-in-None
returns-in-None c = keeps_none c.args.line.now c.args.found c.type_in.result c.in-None.is
    (subst (λ (name : List ℕ). (field : Pair) → field_of c.args.line.now ≡ Some field → same field.0 name ≡ false) c.as_bytes.ensures.value (c.is_named.ensures.not c.if-is_named.false))
    c.type_in.ensures
