-- The laws of archives.
use Rattle.std.proofs.Common.{◌≡◌, ◌⊎◌, ◌∙◌, ap, inl, inr, refl, sym, ℕ, List, arith}
use Rattle.warc_frame.specs.Faults.{AllAccepted}
use Rattle.warc_frame.specs.Record.{Record}
use Rattle.warc_frame.specs.Spelling.{SpellsAll}
use Rattle.warc_frame.specs.declared.fault.Fault.{Fault}
use Rattle.warc_frame.proofs.LawLemmas.{no_fault_where_spelled, no_fault_where_spelled-or, faults_are_stable as frame_faults_are_stable, first_fault_is_unique as frame_fault_is_unique}
use Rattle.warc_record.specs.Heads.{head_fault}
use Rattle.warc_reading.specs.Archive.{IsFaultOf, contents}
use Rattle.warc_frame.specs.Seen.{SeenSource}
use Rattle.warc_frame.specs.declared.fault.FaultKind.{FaultKind}
use Rattle.warc_frame.specs.declared.fault.FaultKind.TheVariants.{Memory, Read}
use Rattle.warc_reading.specs.Opening.{RefusesBy, faults_after}
use Rattle.warc.specs.Laws.{AreSpelledBy, ArchivesSpell, FaultsAreStable, NoFaultWhereSpelled, OneFault, RecordsAreSpelled, RecordsAreTheSame, RefusedForFault, SomeFaultElse}
use Rattle.warc_reading.proofs.GoodLemmas.{accepted, are_good}
use Rattle.warc_reading.proofs.StreamLemmas.{spells_all}

pub archives_spell : ArchivesSpell
archives_spell bytes rows is = (
  is.are.records,
  record { spelled = spells_all 0 is.are.records bytes is.are.spelled; good = is.are.good },
  is.are.rows_are,
)

pub no_fault : NoFaultWhereSpelled
no_fault bytes records fault short is first = no_fault_where_spelled head_fault 0 bytes records fault (omega arith) is.spelled (accepted records is.good) first

or_fault : (bytes : List ℕ) → ((records : List Record) × SpellsAll records bytes × AllAccepted head_fault records) ⊎ ((fault : Fault) × IsFaultOf bytes fault)
    → ((records : List Record) × AreSpelledBy bytes records) ⊎ ((fault : Fault) × IsFaultOf bytes fault)
or_fault bytes (inl (records, spelled, all)) = inl (records, record { spelled = spelled; good = are_good records bytes spelled all })
or_fault bytes (inr found) = inr found

pub some_fault : SomeFaultElse
some_fault bytes short = or_fault bytes (no_fault_where_spelled-or head_fault 0 bytes (omega arith))

pub faults_are_stable : FaultsAreStable
faults_are_stable bytes more fault is other = frame_faults_are_stable head_fault 0 bytes more fault is other

pub one_fault : OneFault
one_fault bytes one other a b = frame_fault_is_unique head_fault 0 bytes one other a b

pub records_are_spelled : RecordsAreSpelled
records_are_spelled bytes rows is = record { spelled = spells_all 0 is.are.records bytes is.are.spelled; good = is.are.good }

pub records_are_the_same : ((rs ss : List Record) (text : List ℕ) → SpellsAll rs text → SpellsAll ss text → rs ≡ ss) → RecordsAreTheSame
records_are_the_same only bytes rows others is other =
    only (contents is.are.records) (contents other.are.records) bytes (spells_all 0 is.are.records bytes is.are.spelled) (spells_all 0 other.are.records bytes other.are.spelled)

refused_by : (kind : FaultKind) (bytes : List ℕ) (old new : SeenSource) (f : Fault) → 0 ≡ faults_after kind 0 → RefusesBy kind bytes old new f → (kind ≡ Memory) ⊎ IsFaultOf bytes f
refused_by Read bytes old new f sound is = absurd (omega (arith, sound))
refused_by Memory bytes old new f sound is = inl refl
refused_by kind bytes old new f sound is = inr is

pub refused_for_fault : RefusedForFault
refused_for_fault bytes old new f held none still counted is =
    refused_by f.kind bytes old new f (sym still ∙ counted ∙ ap (faults_after f.kind) none) is
