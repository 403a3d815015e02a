use Rattle.warc_field.specs.Text.{is_value_byte}
use Rattle.warc_quick.proofs.RunLemmas.{run_is_all}
use Rattle.warc_quick.proofs.lines.split_crlf.Goals as goal

pub returns-clause-clean : goal.returns-clause-clean
returns-clause-clean c = run_is_all is_value_byte c.args.text.now _ c.value_len-len.ensures.value
