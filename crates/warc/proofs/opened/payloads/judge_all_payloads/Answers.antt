use Rattle.warc.proofs.KnownPayloadLemmas.{none_known}
use Rattle.warc.proofs.opened.payloads.judge_all_payloads.Goals as goal

pub returns : goal.returns
returns g c =
    let judges = c.judge_payloads_by.ensures in
    record {
      reported = λ bytes held is are. judges.reported bytes held is are (c.none-known.ensures is.are.records, none_known _ is.are.records c.new-blocks.ensures);
      early = judges.early;
      inside = judges.inside;
      keeps = judges.keeps;
      fails = judges.fails;
    }
