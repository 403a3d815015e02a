use Rattle.std.proofs.Common.{◌≡◌, None, Ok, List, ap, length, subst, sym, ◌∙◌}
use Rattle.std.proofs.lemmas.Result.{IfOk-weaker, MatchResult-weaker}
use Rattle.warc_field.specs.Area.{Pair}
use Rattle.warc_frame.specs.Reading.{any_fields, head_of}
use Rattle.warc_frame.specs.declared.version.Version.{Version}
use Rattle.warc_record.specs.Heads.{head_fault}
use Rattle.warc_frame.specs.declared.fault.EarlyFault.TheVariants.{Memory}
use Rattle.warc_reading.proofs.reread.good_head_in.Goals as goal

pub returns-clause-is : goal.returns-clause-is
returns-clause-is g c = λ r reads good.
    let read = c.in_ok-head.ensures.is r reads in
    let good_too : head_fault c.in_ok-head.head.fields ≡ None = ap head_fault read.fields ∙ good in
    MatchResult-weaker c.judged.result {P = λ x. x ≡ c.in_ok-head.head.fields} {P' = λ x. x ≡ r.fields}
    {Q = λ e. e ≡ Memory} {Q' = λ e. e ≡ Memory} (c.judged.ensures.read good_too) (λ x e. e ∙ read.fields) (λ f e. e)

pub returns-clause-whole : goal.returns-clause-whole
returns-clause-whole g c =
    let text = c.args.text.now in
    let P : List Pair → Type 0 = λ fields. (version : Version) × (head_of any_fields text
    ≡ Ok (record { version = version; fields = fields; len = length text; block_len = c.args.block_len })) in
    IfOk-weaker c.judged.result _ _ (λ x e. subst P (sym e) (c.in_ok-head.head.version, c.in_ok-head.ensures.whole)) c.judged.ensures.fields
