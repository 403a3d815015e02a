use Rattle.std.proofs.Common.{sym, arith}
use Rattle.warc_json.proofs.EscapeLemmas.{control_byte, plain_byte, short_byte}
use Rattle.warc_json.proofs.PutLemmas.{puts_same}
use Rattle.warc_json.proofs.strings.put_escape.Goals as goal

pub returns-in-Some : goal.returns-in-Some
returns-in-Some g c = puts_same (sym (short_byte c.args.byte c.in-Some.letter c.in-Some.ensures.0 c.in-Some.ensures.1)) c.put.ensures

pub returns-then-byte-ge32 : goal.returns-then-byte-ge32
returns-then-byte-ge32 g c = puts_same (sym (plain_byte c.args.byte c.in_default.ensures c.if-byte-ge32.true)) c.put-then-byte-ge32.ensures

pub returns : goal.returns
returns g c = puts_same (sym (control_byte c.args.byte c.digit-high.result c.digit-low.result c.in_default.ensures (omega (arith, c.if-byte-ge32.false)) c.digit-high.ensures c.digit-low.ensures)) c.put-2.ensures
