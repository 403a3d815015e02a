-- What is stored went out of an archive that was opened, and the capture that is chosen there.
use Rattle.std.proofs.Common.{◌≡◌, ℕ, List, map, Ok, sym, ap, ◌∙◌}
use Rattle.std.specs.Prelude.{Result}
use Rattle.warc_value.specs.Dates.{Instant}
use Rattle.warc_frame.specs.Seen.{IfHeld, Seen, SeenSource}
use Rattle.warc_index.specs.Captures.{chosen_of}
use Rattle.warc_index.specs.declared.unfound.Unfound.{Unfound}
use Rattle.warc_reading.specs.Archive.{contents}
use Rattle.warc_lookup.specs.Indexed.{AreOf, Archived, IsIndexed, indexed_record}
use Rattle.warc_reading.specs.Opening.{Opens}
use Rattle.warc_reading.specs.Row.{Placed}
use Rattle.warc_replay.specs.Outcomes.{GivesStoredAt, StoredAnswer, fault_result}
use Rattle.warc_replay.specs.declared.fault.BodyFault.{BodyFault}
use Rattle.warc_replay.proofs.ReplayLemmas.{same_index}
use Rattle.warc_arguments.specs.declared.status.Status.{Status}
use Rattle.warc_commands.specs.Devices.{devices}
use Rattle.warc_commands.specs.Program.{Reports}
use Rattle.warc_commands.specs.Stored.{IsChosenOf, IsStoredGiven, stored_line, stored_status}
use Rattle.warc_commands.proofs.ProgramLemmas.{failed_as, good_records_of, may_have_failed_as}

-- what went out of the opened archive, by what was reported of it
pub stored_given : {S : Type 0} {archive : Archived S} {old mid last new : SeenSource} {before after err reported : Seen} {status : Status} (position : ℕ) (answer : Result StoredAnswer BodyFault)
    → Opens IsIndexed old mid (Ok archive) → GivesStoredAt archive.listing.rows archive.index archive.parts position mid last before after answer → new ≡ last
    → Reports (stored_line answer) err reported → status ≡ stored_status answer → IsStoredGiven position (devices old before err) (devices new after reported) status
stored_given {S} {archive} {old} {mid} {last} {new} position answer opens gives same reports is = record {
  answer = answer;
  is = λ bytes held.
      let found = opens.accepted bytes held in
      record {
        records = contents found.listed.are.records;
        are = good_records_of found.listed;
        reported = gives.reported bytes (opens.reads.kept ∙ held) found.listed found.kept;
        source = failed_as (fault_result answer) _ _ _ _ opens.reads.cause (ap (λ (s : SeenSource). s.faults) (sym same)) (gives.fails.failed bytes (opens.reads.kept ∙ held) (found.listed, found.kept));
      };
  silent = gives.silent;
  source = may_have_failed_as (fault_result answer) _ _ _ _ opens.reads.cause (ap (λ (s : SeenSource). s.faults) (sym same)) gives.fails.may;
  failed = gives.cause;
  reported = reports;
  status_is = is;
}

-- the capture that is chosen in the opened archive is chosen among the records that its bytes spell
pub chosen_of_bytes : {S : Type 0} {archive : Archived S} {old mid : SeenSource} (uri : List ℕ) (moment : Instant) (found : Result ℕ Unfound) → Opens IsIndexed old mid (Ok archive)
    → ((records : List Placed) → AreOf records archive.index archive.parts → found ≡ chosen_of (map indexed_record records) uri moment) → IfHeld old.holds (IsChosenOf uri moment found)
chosen_of_bytes uri moment found opens chosen = λ bytes held.
    let is = opens.accepted bytes held in
    record {
      records = contents is.listed.are.records;
      are = good_records_of is.listed;
      chosen = chosen is.listed.are.records is.kept ∙ ap (λ all. chosen_of all uri moment) (sym (same_index is.listed.are.records));
    }
