-- How the check of an archive ends: what it writes, what it reads, and what it returns.
use Rattle.std.specs.Prelude.{◌≡◌, ℕ, ◌^◌, ◌<◌, true, List, length, Result, IfErr, IfOk, OnOk}
use Rattle.std.specs.Io.KnownBytes.{append_known}
use Rattle.warc_frame.specs.Send.{WentOut, sent_of}
use Rattle.warc_frame.specs.Record.{Record}
use Rattle.warc_frame.specs.declared.fault.OutFault.{OutFault}
use Rattle.warc_reading.specs.Archive.{IsArchiveOf, contents}
use Rattle.warc_checking.specs.Checking.{check_text, findings_of_archive}
use Rattle.warc_frame.specs.Effects.{FailsBy}
use Rattle.warc_frame.specs.Failing.{failed_by, is_read}
use Rattle.warc_reading.specs.Rereading.{ReadsRows}
use Rattle.warc_reading.specs.Row.{Row}
use Rattle.warc_frame.specs.Seen.{IfHeld, Seen, SeenSource}

-- a line was written for each finding of the records, or a front of the lines; and how many lines there are
abbrev pub AreReported : List Record → Result ℕ OutFault → Seen → Seen → Type 0
AreReported records answer before after = OnOk answer (after.reports ≡ append_known before.reports (check_text records))

abbrev pub AreCounted : List Record → Result ℕ OutFault → Type 0
AreCounted records answer = IfOk answer (λ n. n ≡ length (findings_of_archive records))

abbrev pub AreCutOff : List Record → Result ℕ OutFault → Seen → Seen → Type 0
AreCutOff records answer before after =
    IfErr answer (λ e. WentOut before.reports (check_text records) after.reports (sent_of e))

-- Checking an archive of these rows. If its source holds the archive's bytes, a line is written for each finding of
-- the records that they spell, and counted, or a front of the lines is. Of any source only heads and blocks are read,
-- at most once for each byte of theirs
pub record Checks (rows : List Row) (old new : SeenSource) (before after : Seen) (answer : Result ℕ OutFault)
    : Type 0 where
  pub reported : IfHeld old.holds (λ bytes. (is : IsArchiveOf bytes rows)
      → AreReported (contents is.are.records) answer before after)
  pub number : IfHeld old.holds (λ bytes. (is : IsArchiveOf bytes rows)
      → AreCounted (contents is.are.records) answer)
  pub cut : IfHeld old.holds (λ bytes. (is : IsArchiveOf bytes rows)
      → AreCutOff (contents is.are.records) answer before after)
  pub reads : ReadsRows rows old new
  pub fails : FailsBy (λ bytes. IsArchiveOf bytes rows) answer old new
  pub cause : after.faults ≡ failed_by answer before.faults
  -- a read that fails does so before anything is written
  pub unsent : IfErr answer (λ e. is_read e ≡ true → (sent_of e ≡ 0) × (after ≡ before))

-- writing what was found of records as they were read: a line is written for each finding, and counted, or a front of
-- the lines is
pub record WritesFindings (records : List Record) (before after : Seen) (answer : Result ℕ OutFault) : Type 0 where
  pub reported : AreReported records answer before after
  pub number : AreCounted records answer
  pub cut : AreCutOff records answer before after

-- an archive has fewer findings than 2^64
abbrev pub FindingsAreCounted : Type 0
FindingsAreCounted = (bytes : List ℕ) (rows : List Row) (is : IsArchiveOf bytes rows)
    → length (findings_of_archive (contents is.are.records)) < 2 ^ 64
