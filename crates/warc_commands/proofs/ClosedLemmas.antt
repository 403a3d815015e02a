-- How a closed selection ends.
use Rattle.std.proofs.Common.{◌≡◌, ℕ, Bool, true, false, List, [], length, Option, None, Some, Result, Ok, Err, inl, inr, refl, sym, ap, subst, ◌∙◌, arith}
use Rattle.std.specs.Prelude.{◌++◌, codes, decimal}
use Rattle.std.specs.declared.vec.Vec.{Vec}
use Rattle.warc_frame.specs.Seen.{IfHeld, Seen, SeenSource}
use Rattle.warc_frame.specs.FaultText.{out_fault_text}
use Rattle.warc_frame.specs.declared.fault.OutFault.{OutFault}
use Rattle.warc_frame.proofs.EffectLemmas.{fails_as, fails_more}
use Rattle.warc_index.specs.Orders.{Indexes}
use Rattle.warc_segment.specs.Kept.{Kept as Parts}
use Rattle.warc_lookup.specs.Indexed.{Archived, IsIndexed}
use Rattle.warc_reading.specs.Opening.{Opens}
use Rattle.warc_reading.specs.Row.{Row}
use Rattle.warc_rewrite.specs.Closure.{GivesNeeded, GivesOthers}
use Rattle.warc_rewrite.specs.Selecting.{ReadsRecords, at_positions}
use Rattle.warc_arguments.specs.declared.status.Status.{Status}
use Rattle.warc_arguments.specs.declared.status.Status.TheVariants.{Failed}
use Rattle.warc_commands.specs.Closed.{ClosedEnds, ClosureEnds, GivesClosed, NamedEnds, ReadsClosed, SelectedAs, beside, beside_text}
use Rattle.warc_commands.specs.Devices.{Devices, devices}
use Rattle.warc_commands.specs.Named.{Names, bad_line}
use Rattle.warc_commands.specs.Program.{Reports, reported_line}
use Rattle.warc_commands.specs.Reads.{SelectReads}
use Rattle.warc_commands.specs.Selected.{ReadsSome, SendEnds, list_fault_text}
use Rattle.warc_commands.specs.Words.{IsBadWord, IsStarved}
use Rattle.warc_commands.specs.declared.lists.ListFault.{ListFault}
use Rattle.warc_commands.specs.declared.lists.ListFault.TheVariants.{Line, Memory as NoMemory}
use Rattle.warc_commands.proofs.ChoiceLemmas.{sent_before}
use Rattle.warc_commands.proofs.ProgramLemmas.{has_failed, may_have_failed}
use Rattle.warc_commands.proofs.ReadLemmas.{thrice_at_most, twice_at_most, unread}

-- ---- the closure

pub closes_others : {A : Type 0} (b : Bool) {rows : List Row} {index : Indexes} {parts : Parts} {ps : List ℕ} {old new : SeenSource} {answer : Result (Vec ℕ A) OutFault} → b ≡ true
    → GivesOthers rows index parts ps old new answer → GivesClosed b rows index parts ps old new answer
closes_others true is gives = gives
closes_others false is gives = absurd (cc is)

pub closes_needed : {A : Type 0} (b : Bool) {rows : List Row} {index : Indexes} {parts : Parts} {ps : List ℕ} {old new : SeenSource} {answer : Result (Vec ℕ A) OutFault} → b ≡ false
    → GivesNeeded rows index parts ps old new answer → GivesClosed b rows index parts ps old new answer
closes_needed true is gives = absurd (cc is)
closes_needed false is gives = gives

-- ---- what is read

pub reads_no_record : (rows : List Row) (s : SeenSource) → ReadsSome rows s s
reads_no_record rows s = record {
  positions = [];
  ascending = λ k lt. omega (arith, lt);
  reads = record { kept = refl; watched = refl; near = λ off. refl; bound = omega arith };
}

pub reads_nothing : (rows : List Row) (s : SeenSource) → ReadsClosed rows s s
reads_nothing rows s = record {
  mid = s;
  heads = record { kept = refl; watched = refl; near = λ off. refl; bound = omega arith };
  some = reads_no_record rows s;
}

-- ---- what went out

module _ {A : Type 0} {S : Type 0} (archive : Archived S) (except : Bool) (once : List ℕ) {old mid : SeenSource} {answer : Result (Vec ℕ A) OutFault}
    (gives : GivesClosed except archive.listing.rows archive.index archive.parts once old mid answer) where
  pub heads_then : {v : Vec ℕ A} → answer ≡ Ok v → (rows : List Row) (seen : List ℕ) (new : SeenSource) → rows ≡ archive.listing.rows → seen ≡ v.items → ReadsRecords (at_positions rows seen) mid new
      → ReadsClosed archive.listing.rows old new
  heads_then {v} is rows seen new rows_are seen_is reads =
      let P : Result (Vec ℕ A) OutFault → Type 0 = λ r. GivesClosed except archive.listing.rows archive.index archive.parts once old mid r in
      let given = subst P is gives in
      let Q : List Row → Type 0 = λ l. ReadsRecords (at_positions l v.items) mid new in
      let R : List ℕ → Type 0 = λ l. ReadsRecords (at_positions rows l) mid new in
      record {
        mid = mid;
        heads = given.reads;
        some = record { positions = v.items; ascending = given.are.ascending; reads = subst Q rows_are (subst R seen_is reads) };
      }

  module _ (indexed : IfHeld old.holds (λ bytes. IsIndexed bytes archive)) (out err : Seen) (new : Devices) (status : Status) where
    pub closure_sent : {v : Vec ℕ A} → answer ≡ Ok v → (rows : List Row) (seen : List ℕ) (n count named written : ℕ) → rows ≡ archive.listing.rows → seen ≡ v.items
        → n ≡ beside except count named written → count ≡ length rows → named ≡ length once → written ≡ length v.items → SendEnds (beside_text except n) rows seen (devices mid out err) new status
        → ClosureEnds except once archive.listing.rows (devices old out err) new status
    closure_sent {v} is rows seen n count named written rows_are seen_is n_is count_is named_is written_is ends =
        let P : Result (Vec ℕ A) OutFault → Type 0 = λ r. GivesClosed except archive.listing.rows archive.index archive.parts once old mid r in
        let given = subst P is gives in
        let whole = archive.listing.rows in
        let same : n ≡ beside except (length whole) (length once) (length v.items) =
        n_is ∙ ap (λ k. beside except k named written) (count_is ∙ ap (λ l. length l) rows_are) ∙ ap (λ k. beside except (length whole) k written) named_is ∙ ap (λ k. beside except (length whole) (length once) k) written_is in
        let Q : List Row → Type 0 = λ l. SendEnds (beside_text except n) l v.items (devices mid out err) new status in
        let R : List ℕ → Type 0 = λ l. SendEnds (beside_text except n) rows l (devices mid out err) new status in
        let T : ℕ → Type 0 = λ k. SendEnds (beside_text except k) whole v.items (devices mid out err) new status in
        inl (record {
          chosen = v.items;
          positions = given.are;
          are = λ bytes held. let it = indexed bytes held in record { is = it.listed; are = given.reported bytes held it.listed it.kept };
          ends = sent_before given.reads.kept given.fails.may out err new status _ v.items (subst T same (subst Q rows_are (subst R seen_is ends)));
        })

  pub unclosed : (indexed : IfHeld old.holds (λ bytes. IsIndexed bytes archive)) {e : OutFault} (out : Seen) {err err' : Seen} {status : Status} → answer ≡ Err e → Reports (reported_line (out_fault_text e)) err err' → status ≡ Failed
      → ClosureEnds except once archive.listing.rows (devices old out err) (devices mid out err') status
  unclosed indexed {e} out is reported three =
      let P : Result (Vec ℕ A) OutFault → Type 0 = λ r. GivesClosed except archive.listing.rows archive.index archive.parts once old mid r in
      let given = subst P is gives in
      inr (record {
        fault = e;
        early = given.early;
        fails = fails_as (Vec ℕ A) ℕ (fails_more (λ bytes held is. let it = indexed bytes held in (it.listed, it.kept)) given.fails);
        untouched = refl;
        reported = reported;
        status_is = three;
      })

-- how a closed selection ends, from what the source was before the archive was opened
module _ {rows : List Row} {old mid : SeenSource} (kept : mid.holds ≡ old.holds) (cause : mid.faults ≡ old.faults) (out err : Seen) (new : Devices) (status : Status) where
  closure_before : (except : Bool) (once : List ℕ) → ClosureEnds except once rows (devices mid out err) new status → ClosureEnds except once rows (devices old out err) new status
  closure_before except once (inl is) = inl (record {
    chosen = is.chosen;
    positions = is.positions;
    are = λ bytes held. is.are bytes (kept ∙ held);
    ends = sent_before kept cause out err new status _ is.chosen is.ends;
  })
  closure_before except once (inr is) = inr (record {
    fault = is.fault;
    early = is.early;
    fails = record {
      may = may_have_failed is.fault _ _ _ _ cause refl is.fails.may;
      failed = λ bytes held archive. has_failed is.fault _ _ _ _ cause refl (is.fails.failed bytes (kept ∙ held) archive);
    };
    untouched = is.untouched;
    reported = is.reported;
    status_is = is.status_is;
  })

  named_before : (except : Bool) (named : List ℕ) → NamedEnds except named rows (devices mid out err) new status → NamedEnds except named rows (devices old out err) new status
  named_before except named (inl is) = inl (record { there = is.there; once = is.once; once_are = is.once_are; ends = closure_before except is.once is.ends })
  named_before except named (inr is) = inr (record { absent = is.absent; first = is.first; sound = is.sound ∙ cause; untouched = is.untouched; reported = is.reported; status_is = is.status_is })

pub holds_indexed : {S : Type 0} {archive : Archived S} {old mid : SeenSource} → Opens IsIndexed old mid (Ok archive) → IfHeld mid.holds (λ bytes. IsIndexed bytes archive)
holds_indexed opens bytes held = opens.accepted bytes (sym opens.reads.kept ∙ held)

pub closed_by : {S : Type 0} {archive : Archived S} {except : Bool} {named : List ℕ} {old mid last new : SeenSource} {out out' err err' : Seen} {status : Status} → Opens IsIndexed old mid (Ok archive) → new ≡ last
    → NamedEnds except named archive.listing.rows (devices mid out err) (devices last out' err') status → ClosedEnds except None named (devices old out err) (devices new out' err') status
closed_by {S} {archive} {except} {named} {old} {mid} {last} {new} {out} {out'} {err} {err'} {status} opens same ends =
    let P : SeenSource → Type 0 = λ t. ClosedEnds except None named (devices old out err) (devices t out' err') status in
    subst P (sym same) (inl (record {
      rows = archive.listing.rows;
      are = λ bytes held. (opens.accepted bytes held).listed;
      ends = named_before opens.reads.kept opens.reads.cause out err (devices last out' err') status except named ends;
    }))

-- ---- with `--closed` or without it

starved_as : (closed except : Bool) (bad : Option ℕ) (named : List ℕ) (old new : Devices) (status : Status) → IsStarved old new status → SelectedAs closed except bad named old new status
starved_as false except None named old new status is = inr (inr is)
starved_as false except (Some line) named old new status is = inr is
starved_as true except None named old new status is = inr (inr is)
starved_as true except (Some line) named old new status is = inr is

bad_as : (closed except : Bool) (line : ℕ) (named : List ℕ) (old new : Devices) (status : Status) → IsBadWord (codes "bad position in line " ++ decimal line) old new status → SelectedAs closed except (Some line) named old new status
bad_as false except line named old new status is = inl is
bad_as true except line named old new status is = inl is

-- a list names no positions: nothing was read
pub list_refused : (closed except : Bool) (list named : List ℕ) (fault : ListFault) (source : SeenSource) (out err err' : Seen) (status : Status) → Names {A = ℕ} list (Err fault)
    → Reports (reported_line (list_fault_text fault)) err err' → status ≡ Failed → SelectedAs closed except (bad_line list) named (devices source out err) (devices source out err') status
list_refused closed except list named (Line number) source out err err' status names reports is =
    subst (λ (o : Option ℕ). SelectedAs closed except o named (devices source out err) (devices source out err') status) (sym names)
    (bad_as closed except number named (devices source out err) (devices source out err') status (record { unread = refl; untouched = refl; reported = reports; status_is = is }))
list_refused closed except list named NoMemory source out err err' status names reports is =
    starved_as closed except (bad_line list) named (devices source out err) (devices source out err') status (record { unread = refl; untouched = refl; reported = reports; status_is = is })

-- the positions are those that the lines of a list name
pub selected_as : (closed mode except : Bool) (bad : Option ℕ) (named wanted : List ℕ) (old new : Devices) (status : Status) → closed ≡ mode → (bad ≡ None) × (named ≡ wanted)
    → SelectedAs mode except None named old new status → SelectedAs closed except bad wanted old new status
selected_as closed mode except bad named wanted old new status by (none, same) ends =
    let P : Bool → Type 0 = λ b. SelectedAs b except bad wanted old new status in
    let Q : Option ℕ → Type 0 = λ o. SelectedAs mode except o wanted old new status in
    let R : List ℕ → Type 0 = λ l. SelectedAs mode except None l old new status in
    subst P (sym by) (subst Q (sym none) (subst R same ends))

pub select_reads : (closed mode : Bool) (old new : SeenSource) → closed ≡ mode → SelectReads mode old new → SelectReads closed old new
select_reads closed mode old new by reads = let P : Bool → Type 0 = λ b. SelectReads b old new in subst P (sym by) reads

pub select_unread : (closed : Bool) (s : SeenSource) → SelectReads closed s s
select_unread false s = twice_at_most (unread s)
select_unread true s = thrice_at_most (unread s)
