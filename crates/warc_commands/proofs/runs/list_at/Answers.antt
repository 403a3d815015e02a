use Rattle.std.proofs.Common.{inr, refl, sym, ◌∙◌}
use Rattle.warc_commands.proofs.RunLemmas.{given_file, given_input}
use Rattle.warc_commands.proofs.runs.list_at.Goals as goal

pub returns-in-Ok-clause-read : goal.returns-in-Ok-clause-read
returns-in-Ok-clause-read g c = record {
  source = g.Y.Stream.Source.seen c.stream-source.result;
  given = given_input _ _ _ _ (sym c.is_input.ensures ∙ c.if-is_input.true) c.stream-source.ensures;
  few = c.in-Ok.ensures.few;
  are = c.in-Ok.ensures.are;
}

pub returns-in-Err-clause-unread : goal.returns-in-Err-clause-unread
returns-in-Err-clause-unread g c = λ out. inr (record {
  source = g.Y.Stream.Source.seen c.stream-source.result;
  given = given_input _ _ _ _ (sym c.is_input.ensures ∙ c.if-is_input.true) c.stream-source.ensures;
  last = g.Y.Stream.Source.seen c.read_list.new.source;
  given_back = refl;
  ends = c.in-Err.ensures.cut out;
})

pub returns-in-Ok-read_list-clause-read : goal.returns-in-Ok-read_list-clause-read
returns-in-Ok-read_list-clause-read g c = record {
  source = g.Y.File.Source.seen c.in-Ok-open.file;
  given = given_file _ _ _ _ (sym c.is_input.ensures ∙ c.if-is_input.false) c.in-Ok-open.ensures;
  few = c.in-Ok-read_list.ensures.few;
  are = c.in-Ok-read_list.ensures.are;
}

pub returns-in-Err-read_list-clause-unread : goal.returns-in-Err-read_list-clause-unread
returns-in-Err-read_list-clause-unread g c = λ out. inr (record {
  source = g.Y.File.Source.seen c.in-Ok-open.file;
  given = given_file _ _ _ _ (sym c.is_input.ensures ∙ c.if-is_input.false) c.in-Ok-open.ensures;
  last = g.Y.File.Source.seen c.read_list-2.new.source;
  given_back = refl;
  ends = c.in-Err-read_list.ensures.cut out;
})
