-- What contracts see of what is stored of an origin.
use Rattle.std.specs.Prelude.{◌≡◌, List, Result, Ok, Err, ⊤}
use Rattle.warc_frame.specs.Record.{Record}
use Rattle.warc_frame.specs.declared.fault.OutFault.TheVariants as outs
use Rattle.warc_segment.specs.Joined.{ReadRecord}
use Rattle.warc_answer.specs.Stored.{IsStoredBy, StoredBody}
use Rattle.warc_answer.specs.declared.answer.ReplayFault.{ReplayFault}
use Rattle.warc_answer.specs.declared.answer.ReplayFault.TheVariants.{Reason, Out}
use Rattle.warc_answer.specs.declared.stored.Stored.{Stored}

abbrev pub stored_seen : {A : Type 0} → Stored A → StoredBody
stored_seen s = record {
  status = s.status;
  media_type = s.media_type.items;
  codings = s.codings.items;
  coded = s.coded;
  truncated = s.truncated;
  head_len = s.head_len;
  length = s.length;
}

-- what is stored of an origin, or the reason why nothing is, unless a read or an allocation failed
abbrev pub IsJudged : {A : Type 0} → Record → List ReadRecord → Result (Stored A) ReplayFault → Type 0
IsJudged content joined (Ok s) = IsStoredBy content (Ok joined) (Ok (stored_seen s))
IsJudged content joined (Err (Reason why)) = IsStoredBy content (Ok joined) (Err why)
IsJudged content joined (Err (Out e)) = ⊤

-- a reason, or a read or an allocation failed before anything was written
abbrev pub IsEarly : ReplayFault → Type 0
IsEarly (Reason why) = ⊤
IsEarly (Out (outs.Read sent)) = sent ≡ 0
IsEarly (Out (outs.Write sent)) = ⊥
IsEarly (Out (outs.Memory sent)) = sent ≡ 0
