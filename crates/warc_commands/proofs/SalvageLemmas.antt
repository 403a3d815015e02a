-- How `salvage` ends, from what its calls answered.
use Rattle.std.proofs.Common.{◌≡◌, ℕ, ◌^◌, ◌<◌, List, ◌++◌, length, Option, Some, Ok, Err, refl, sym, ap, subst, ◌∙◌, arith}
use Rattle.warc_frame.specs.FaultText.{out_fault_text}
use Rattle.warc_frame.specs.Seen.{Seen, SeenSource}
use Rattle.warc_frame.specs.declared.fault.Fault.{Fault}
use Rattle.warc_frame.specs.declared.fault.OutFault.{OutFault}
use Rattle.warc_reading.specs.Row.{Row}
use Rattle.warc.specs.Front.{CopiesFront, OpensFront}
use Rattle.warc.proofs.FrontLemmas.{front_begins}
use Rattle.warc_arguments.specs.declared.status.Status.{Status}
use Rattle.warc_arguments.specs.declared.status.Status.TheVariants.{Failed}
use Rattle.warc_commands.specs.Devices.{devices}
use Rattle.warc_commands.specs.Program.{Reports, reported_line}
use Rattle.warc_commands.specs.Salvage.{IsSalvageCutOff, IsSalvaged, ReportsAmount, salvage_status}
use Rattle.warc_commands.proofs.ProgramLemmas.{has_failed, may_have_failed}

-- what was reported of the records that stay
pub amount_as : (found : Option Fault) (n : ℕ) (rows was : List Row) (bytes : ℕ) (err reported : Seen) → n ≡ length rows → rows ≡ was → ReportsAmount found n bytes err reported
    → ReportsAmount found (length was) bytes err reported
amount_as found n rows was bytes err reported size same reports =
    let P : ℕ → Type 0 = λ k. ReportsAmount found k bytes err reported in
    subst P (size ∙ ap (λ l. length l) same) reports

module _ (rows : List Row) (found : Option Fault) (old mid last new : SeenSource) (before after err reported : Seen) (status : Status) (opened : OpensFront old mid rows found) where
  pub salvaged : (n : ℕ) → CopiesFront rows mid last before after (Ok n) → new.faults ≡ last.faults → ReportsAmount found (length rows) n err reported
      → status ≡ salvage_status found → IsSalvaged (devices old before err) (devices new after reported) status
  salvaged n copies same reports is = record {
    rows = rows;
    size = n;
    found = found;
    mid = mid;
    opens = opened.opens;
    is = λ bytes held few.
        let (text, more, whole, archive) = front_begins bytes found rows (opened.rows_are bytes held) in
        let short : length (text ++ more) < 2 ^ 64 = omega (arith, few, ap length whole) in
        let (out, size) = copies.reported text more (opened.opens.reads.kept ∙ held ∙ ap Some whole) short archive in
        record { text = text; front = record { front = opened.rows_are bytes held; is = archive }; reported = out; size_is = size };
    unfailed = copies.cause;
    sound = same ∙ copies.may;
    reported = reports;
    status_is = is;
  }

  pub salvage_cut : (e : OutFault) → CopiesFront rows mid last before after (Err e) → new.faults ≡ last.faults → Reports (reported_line (out_fault_text e)) err reported
      → status ≡ Failed → IsSalvageCutOff (devices old before err) (devices new after reported) status
  salvage_cut e copies same reports is = record {
    rows = rows;
    found = found;
    mid = mid;
    opens = opened.opens;
    fault = e;
    is = λ bytes held few.
        let (text, more, whole, archive) = front_begins bytes found rows (opened.rows_are bytes held) in
        let short : length (text ++ more) < 2 ^ 64 = omega (arith, few, ap length whole) in
        record { text = text; front = record { front = opened.rows_are bytes held; is = archive }; out = copies.cut text more (opened.opens.reads.kept ∙ held ∙ ap Some whole) short archive };
    fails = record {
      may = may_have_failed e _ _ _ _ refl (sym same) copies.may;
      failed = λ bytes held few.
          let (text, more, whole, archive) = front_begins bytes found rows (opened.rows_are bytes (sym opened.opens.reads.kept ∙ held)) in
          let short : length (text ++ more) < 2 ^ 64 = omega (arith, few, ap length whole) in
          has_failed e _ _ _ _ refl (sym same) (copies.failed text more (held ∙ ap Some whole) short archive);
    };
    failed = copies.cause;
    reported = reports;
    status_is = is;
  }
