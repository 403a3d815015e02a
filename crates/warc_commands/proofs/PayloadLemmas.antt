-- How `fixity --payload` ends.
use Rattle.std.proofs.Common.{◌≡◌, inl, inr, ℕ, List, Result, Ok, Err, sym, subst, ◌∙◌}
use Rattle.warc_frame.proofs.EffectLemmas.{fails_as}
use Rattle.warc_frame.specs.Seen.{Seen, SeenSource}
use Rattle.warc_frame.specs.declared.fault.OutFault.{OutFault}
use Rattle.warc_reading.specs.Opening.{Opens}
use Rattle.warc_reading.specs.Row.{Row}
use Rattle.warc_replay.specs.PayloadVerdicts.{PayloadJudgements}
use Rattle.warc.specs.KnownPayloads.{AreRightFor, IsPayloadArchive, JudgesPayloadsBy, PayloadArchive}
use Rattle.warc_arguments.specs.declared.status.Status.{Status}
use Rattle.warc_commands.specs.Devices.{devices}
use Rattle.warc_commands.specs.Payloads.{PayloadLinesEnd, PayloadsEnd, PayloadsListed}
use Rattle.warc_commands.proofs.ProgramLemmas.{has_failed, may_have_failed}

lines_by : (rows other : List Row) (judged : PayloadJudgements) (out out' err err' : Seen) (status : Status) → rows ≡ other → PayloadLinesEnd rows judged out out' err err' status
    → PayloadLinesEnd other judged out out' err err' status
lines_by rows other judged out out' err err' status same ends = subst (λ (l : List Row). PayloadLinesEnd l judged out out' err err' status) same ends

-- how the command ends, by what was judged and what was written
pub payloads_end : {S : Type 0} (a : PayloadArchive S) (listed : List Row) (answer : Result PayloadJudgements OutFault) (old mid last new : SeenSource) (out out' err err' : Seen) (status : Status)
    → Opens IsPayloadArchive old mid (Ok a) → JudgesPayloadsBy (AreRightFor a.known) a.archive.listing.rows a.archive.index a.archive.parts mid last answer → listed ≡ a.archive.listing.rows → new.faults ≡ last.faults
    → PayloadsListed listed answer out out' err err' status → PayloadsEnd (devices old out err) (devices new out' err') status
payloads_end a listed (Ok judged) old mid last new out out' err err' status opened judges rows same ends =
    elim (lines_by listed a.archive.listing.rows judged out out' err err' status rows ends) [
      | inl all ↦ inl (record {
        rows = a.archive.listing.rows;
        judged = judged;
        are = λ bytes held.
            let is = opened.accepted bytes held in
            record { is = is.indexed.listed; each = judges.reported bytes (opened.reads.kept ∙ held) is.indexed.listed is.indexed.kept is.right };
        reported = all.0;
        unfailed = all.1;
        sound = same ∙ judges.fails.may ∙ opened.reads.cause;
        silent = all.2;
        status_is = all.3;
        status_in = all.4;
      })
      | inr cut ↦ inr (inr (inl (record {
        rows = a.archive.listing.rows;
        judged = judged;
        are = λ bytes held.
            let is = opened.accepted bytes held in
            record { is = is.indexed.listed; each = judges.reported bytes (opened.reads.kept ∙ held) is.indexed.listed is.indexed.kept is.right };
        sent = cut.0;
        front = cut.1;
        failed = cut.2;
        sound = same ∙ judges.fails.may ∙ opened.reads.cause;
        reported = cut.3;
        status_is = cut.4;
      })))
    ]
payloads_end a listed (Err fault) old mid last new out out' err err' status opened judges rows same ends =
    let fails = fails_as PayloadJudgements ℕ judges.fails in
    inr (inr (inr (record {
      fault = fault;
      early = judges.early;
      fails = record {
        may = may_have_failed fault _ _ _ _ opened.reads.cause (sym same) fails.may;
        failed = λ bytes held is.
            let has = opened.accepted bytes held in
            has_failed fault _ _ _ _ opened.reads.cause (sym same) (fails.failed bytes (opened.reads.kept ∙ held) (has.indexed.listed, has.indexed.kept));
      };
      untouched = ends.0;
      reported = ends.1;
      status_is = ends.2;
    })))
