-- The good records of the pieces of a source.
use Rattle.std.proofs.Common.{◌≡◌, ℕ, ◌+◌, ◌^◌, ◌<◌, ◌≤◌, false, List, [], ◌∷◌, ◌++◌, length, take, drop, append_assoc, Option, Result, Ok, Err, refl, sym, ap, subst, ◌∙◌, arith}
use Rattle.std.proofs.lemmas.List.{append-nil}
use Rattle.std.proofs.lemmas.Result.{IfErr-weaker, on_ok_weaker}
use Rattle.warc_frame.specs.Count.{raised}
use Rattle.warc_frame.specs.Device.{Staged}
use Rattle.warc_frame.specs.Effects.{Emits, Flushes, IsOfDevice}
use Rattle.warc_frame.specs.Failing.{failed_by}
use Rattle.warc_frame.specs.FaultText.{out_fault_text}
use Rattle.warc_frame.specs.Record.{max_archive}
use Rattle.warc_frame.specs.Seen.{IfHeld, Seen, SeenSource}
use Rattle.warc_frame.specs.Send.{IsStaged}
use Rattle.warc_frame.specs.declared.fault.Fault.{Fault}
use Rattle.warc_frame.specs.declared.fault.OutFault.{OutFault}
use Rattle.warc_frame.specs.declared.fault.OutFault.TheVariants.{Write}
use Rattle.warc_frame.specs.declared.send.SendFault.{SendFault}
use Rattle.warc_frame.proofs.EffectLemmas.{fails_as, fails_more}
use Rattle.warc_frame.proofs.LawLemmas.{same_out, same_staged}
use Rattle.warc_pieces.specs.Laws.{is_damage, offset_of, salvaged}
use Rattle.warc_pieces.specs.Pieces.{piece_len}
use Rattle.warc_pieces.specs.declared.piece.Piece.{Piece}
use Rattle.warc_pieces.specs.declared.piece.Piece.TheVariants.{Records, Damage}
use Rattle.warc_arguments.specs.declared.status.Status.{Status}
use Rattle.warc_arguments.specs.declared.status.Status.TheVariants.{Failed}
use Rattle.warc_commands.specs.Devices.{devices}
use Rattle.warc_commands.specs.Pieces.{AreSalvaged, AreSalvagedInPart, ReportsEach, damage_line, damage_lines, pieces_status, salvaged_line, stop_lines}
use Rattle.warc_commands.specs.Program.{Reports, reported_line}
use Rattle.warc_commands.specs.Reads.{AsksNear}
use Rattle.warc_commands.specs.Walking.{CopiesPieces, CopiesRuns, HasCopied, HasEnded, HasWalked, IsGoodOf, IsTallyOf, ReadsGood, SendsRuns}
use Rattle.warc_commands.specs.declared.walk.Found.{Found}
use Rattle.warc_commands.specs.declared.walk.Tally.{Tally}
use Rattle.warc_commands.proofs.PiecesLemmas.{reports_as}
use Rattle.warc_commands.proofs.ProgramLemmas.{has_failed, may_have_failed}
use Rattle.warc_commands.proofs.WalkLemmas.{asks_both, last_within, walk_on}

-- ---- lines on damage

pub reports_both : (lines more : List (List ℕ)) (old mid new : Seen) → ReportsEach lines old mid → ReportsEach more mid new → ReportsEach (lines ++ more) old new
reports_both [] more old mid new none second =
    let P : Seen → Type 0 = λ s. ReportsEach more s new in
    subst P none second
reports_both (line ∷ lines) more old mid new (next, one, rest) second = (next, one, reports_both lines more next mid new rest second)

reports_in_turn : (lines more : List (List ℕ)) (last : List ℕ) (old mid new : Seen) → ReportsEach lines old mid → ReportsEach (more ++ last ∷ []) mid new → ReportsEach (lines ++ more ++ last ∷ []) old new
reports_in_turn lines more last old mid new first second =
    reports_as (lines ++ (more ++ last ∷ [])) (lines ++ more ++ last ∷ []) old new (sym (append_assoc lines more (last ∷ []))) (reports_both lines (more ++ last ∷ []) old mid new first second)

damage_both : (pieces others : List Piece) → damage_lines (pieces ++ others) ≡ damage_lines pieces ++ damage_lines others
damage_both [] others = refl
damage_both (Records offset len count ∷ pieces) others = damage_both pieces others
damage_both (Damage offset len fault ∷ pieces) others = ap (λ ls. damage_line offset len fault ∷ ls) (damage_both pieces others)

pub reports_more : (pieces : List Piece) (piece : Piece) (old mid new : Seen) → ReportsEach (damage_lines pieces) old mid → ReportsEach (damage_lines (piece ∷ [])) mid new → ReportsEach (damage_lines (pieces ++ piece ∷ [])) old new
reports_more pieces piece old mid new first second =
    reports_as (damage_lines pieces ++ damage_lines (piece ∷ [])) (damage_lines (pieces ++ piece ∷ [])) old new (sym (damage_both pieces (piece ∷ []))) (reports_both (damage_lines pieces) (damage_lines (piece ∷ [])) old mid new first second)

-- a run has no line
run_line : (piece : Piece) → is_damage piece ≡ false → damage_lines (piece ∷ []) ≡ []
run_line (Records offset len count) is = refl
run_line (Damage offset len fault) is = absurd (cc is)

pub reports_run : (pieces : List Piece) (piece : Piece) (old new : Seen) → is_damage piece ≡ false → ReportsEach (damage_lines pieces) old new → ReportsEach (damage_lines (pieces ++ piece ∷ [])) old new
reports_run pieces piece old new is reported =
    reports_more pieces piece old new new reported (reports_as [] (damage_lines (piece ∷ [])) new new (sym (run_line piece is)) refl)

-- ---- the bytes of runs

-- the bytes of a piece's good records
abbrev good_text : List ℕ → Piece → List ℕ
good_text bytes (Records offset len count) = take len (drop offset bytes)
good_text bytes (Damage offset len fault) = []

salvaged_more : (bytes : List ℕ) (pieces : List Piece) (piece : Piece) → salvaged bytes (pieces ++ piece ∷ []) ≡ salvaged bytes pieces ++ good_text bytes piece
salvaged_more bytes [] (Records offset len count) = append-nil (take len (drop offset bytes))
salvaged_more bytes [] (Damage offset len fault) = refl
salvaged_more bytes (Records offset len count ∷ pieces) piece =
    let front = take len (drop offset bytes) in
    ap (λ t. front ++ t) (salvaged_more bytes pieces piece) ∙ sym (append_assoc front (salvaged bytes pieces) (good_text bytes piece))
salvaged_more bytes (Damage offset len fault ∷ pieces) piece = salvaged_more bytes pieces piece

good_of : (bytes : List ℕ) (piece : Piece) → offset_of piece + piece_len piece ≤ length bytes → length bytes < 2 ^ 64 → IsGoodOf piece bytes (good_text bytes piece)
good_of bytes (Records offset len count) within few = ((within, few), refl)
good_of bytes (Damage offset len fault) within few = refl

-- no byte is added before the walk
copies_none : (holds : Option (List ℕ)) (before : Seen) (waits : Staged) → CopiesRuns {X = Unit {0}} holds [] before before waits waits (Ok tt)
copies_none holds before waits = record {
  out = λ bytes held few start output is. same_staged (sym (append-nil output)) is;
  cut = λ bytes held few start output is. tt;
  cause = refl;
}

pub copy_none : (begun now : SeenSource) (at : ℕ) (failure : Option Fault) (tally : Tally) (before : Seen) (waits : Staged) (err : Seen) → HasWalked begun now at failure tally []
    → HasCopied begun now at failure tally before before waits waits err err
copy_none begun now at failure tally before waits err walked = record { pieces = []; walked = walked; copies = copies_none begun.holds before waits; damages = refl }

-- the bytes of one more piece
module _ {X Y : Type 0} (holds : Option (List ℕ)) (pieces : List Piece) (piece : Piece) (source last : SeenSource) (before mid after : Seen) (waits waited waiting : Staged) (x : X) (answer : Result Y OutFault)
    (has : CopiesRuns holds pieces before mid waits waited (Ok x)) (emits : Emits (IsGoodOf piece) source last mid after waited waiting answer) (kept : source.holds ≡ holds)
    (within : IfHeld holds (λ bytes. offset_of piece + piece_len piece ≤ length bytes)) where
  copies_more : CopiesRuns holds (pieces ++ piece ∷ []) before after waits waiting answer
  copies_more = record {
    out = λ bytes held few start output is.
        let good = good_of bytes piece (within bytes held) few in
        let whole : (output ++ salvaged bytes pieces) ++ good_text bytes piece ≡ output ++ salvaged bytes (pieces ++ piece ∷ []) =
        append_assoc output (salvaged bytes pieces) (good_text bytes piece) ∙ ap (λ t. output ++ t) (sym (salvaged_more bytes pieces piece)) in
        on_ok_weaker answer (same_staged whole) (emits.out bytes (good_text bytes piece) (kept ∙ held) good start (output ++ salvaged bytes pieces) (has.out bytes held few start output is));
    cut = λ bytes held few start output is.
        let good = good_of bytes piece (within bytes held) few in
        let whole : (output ++ salvaged bytes pieces) ++ good_text bytes piece ≡ output ++ salvaged bytes (pieces ++ piece ∷ []) =
        append_assoc output (salvaged bytes pieces) (good_text bytes piece) ∙ ap (λ t. output ++ t) (sym (salvaged_more bytes pieces piece)) in
        IfErr-weaker answer _ _ (λ e. same_out whole) (emits.cut bytes (good_text bytes piece) (kept ∙ held) good start (output ++ salvaged bytes pieces) (has.out bytes held few start output is));
    cause = emits.cause ∙ ap (failed_by answer) has.cause;
  }

-- the reads of one more piece
reads_near : (piece : Piece) (old new : SeenSource) → offset_of piece + piece_len piece ≤ max_archive → ReadsGood piece old new → AsksNear old new
reads_near (Records offset len count) old new low reads = λ off. reads.near (λ q in_. off q (omega (arith, in_.1, low)))
reads_near (Damage offset len fault) old new low same = λ off. ap (λ (s : SeenSource). s.watched_reads) same

reads_watched : (piece : Piece) (old new : SeenSource) → ReadsGood piece old new → new.watches ≡ old.watches
reads_watched (Records offset len count) old new reads = reads.watched
reads_watched (Damage offset len fault) old new same = ap (λ (s : SeenSource). s.watches) same

-- ---- a step of the walk

module _ (begun was mid now : SeenSource) (place after_ : ℕ) (failure stop : Option Fault) (old tally : Tally) (before between after : Seen) (waits waited waiting : Staged) (err reported : Seen)
    (has : HasCopied begun was place failure old before between waits waited err reported)
    (piece : Piece) (walked : HasWalked begun mid after_ stop tally (has.pieces ++ piece ∷ [])) (low : offset_of piece + piece_len piece ≤ max_archive) (reads : ReadsGood piece mid now) where
  inside : IfHeld begun.holds (λ bytes. offset_of piece + piece_len piece ≤ length bytes)
  inside bytes held = last_within bytes after_ stop has.pieces piece (walked.given bytes held)

  -- the piece was copied, and reported if it is damage
  pub copy_more : {X : Type 0} (x : X) (there : ℕ) (kept_ : Option Fault) (new : Seen) → Emits (IsGoodOf piece) mid now between after waited waiting (Ok x) → there ≡ after_ → kept_ ≡ stop → ReportsEach (damage_lines (piece ∷ [])) reported new
      → HasCopied begun now there kept_ tally before after waits waiting err new
  copy_more {X} x there kept_ new emits same_at same_stop printed =
      let P : ℕ → Type 0 = λ n. HasCopied begun now n kept_ tally before after waits waiting err new in
      let Q : Option Fault → Type 0 = λ f. HasCopied begun now after_ f tally before after waits waiting err new in
      let copies = copies_more begun.holds has.pieces piece mid now before between after waits waited waiting tt (Ok x) has.copies emits walked.kept.kept inside in
      subst P (sym same_at) (subst Q (sym same_stop) (record {
        pieces = has.pieces ++ piece ∷ [];
        walked = walk_on begun mid now after_ stop tally (has.pieces ++ piece ∷ []) walked emits.kept (reads_watched piece mid now reads) (reads_near piece mid now low reads) emits.fails.may;
        copies = record { out = copies.out; cut = λ bytes held few start output is. tt; cause = copies.cause };
        damages = reports_more has.pieces piece err reported new has.damages printed;
      }))

  -- a failed read or write of a run
  pub copy_cut : {X : Type 0} (e : OutFault) → Emits {X = X} (IsGoodOf piece) mid now between after waited waiting (Err e) → IsOfDevice e → is_damage piece ≡ false
      → CopiesPieces begun now before after waits waiting err reported (Err e)
  copy_cut {X} e emits device run =
      let copies = copies_more begun.holds has.pieces piece mid now before between after waits waited waiting tt (Err e) has.copies emits walked.kept.kept inside in
      record {
        pieces = has.pieces ++ piece ∷ [];
        stop = stop;
        at = after_;
        tally = tally;
        mid = mid;
        walked = walked;
        copies = record { out = λ bytes held few start output is. tt; cut = copies.cut; cause = copies.cause };
        device = device;
        fails = fails_as X Found (fails_more (λ bytes held few. (good_text bytes piece, good_of bytes piece (inside bytes (sym walked.kept.kept ∙ held)) few)) emits.fails);
        kept = emits.kept ∙ walked.kept.kept;
        near = asks_both begun mid now walked.kept.watched walked.near (reads_near piece mid now low reads);
        damages = reports_run has.pieces piece err reported run has.damages;
        ended = tt;
      }

-- the end of the walk
pub copy_all : (begun was now : SeenSource) (place at : ℕ) (failure stop : Option Fault) (old tally : Tally) (before after : Seen) (waits waiting : Staged) (err reported : Seen)
    (has : HasCopied begun was place failure old before after waits waiting err reported) → HasEnded begun now at stop tally has.pieces
    → CopiesPieces begun now before after waits waiting err reported (Ok (record { tally = tally; stop = stop }))
copy_all begun was now place at failure stop old tally before after waits waiting err reported has ended = record {
  pieces = has.pieces;
  stop = stop;
  at = at;
  tally = tally;
  mid = now;
  walked = ended.walked;
  copies = record { out = has.copies.out; cut = λ bytes held few start output is. tt; cause = has.copies.cause };
  device = tt;
  fails = record { may = refl; failed = λ bytes held few. refl };
  kept = ended.walked.kept.kept;
  near = ended.walked.near;
  damages = has.damages;
  ended = (refl, refl, ended.are);
}

-- ---- what went out

module _ (begun now : SeenSource) (before between after : Seen) (waits waited waiting : Staged) (err reported : Seen) (begins : IsStaged before.reports [] before.reports waits) where
  pub runs_all : {X : Type 0} (x : X) (found : Found) → CopiesPieces begun now before between waits waited err reported (Ok found) → Flushes between after waited waiting (Ok x) → SendsRuns begun now before after err reported (Ok found)
  runs_all {X} x found copies flush = record {
    pieces = copies.pieces;
    stop = copies.stop;
    at = copies.at;
    tally = copies.tally;
    mid = copies.mid;
    walked = copies.walked;
    out = λ bytes held few. flush.reported before.reports (salvaged bytes copies.pieces) (copies.copies.out bytes held few before.reports [] begins);
    cut = λ bytes held few. tt;
    device = tt;
    cause = flush.cause ∙ copies.copies.cause;
    fails = copies.fails;
    kept = copies.kept;
    near = copies.near;
    damages = copies.damages;
    ended = copies.ended;
  }

  pub runs_part : {X : Type 0} (e : SendFault) (found : Found) → CopiesPieces begun now before between waits waited err reported (Ok found) → Flushes {X = X} between after waited waiting (Err e)
      → SendsRuns begun now before after err reported (Err (Write e.sent))
  runs_part {X} e found copies flush = record {
    pieces = copies.pieces;
    stop = copies.stop;
    at = copies.at;
    tally = copies.tally;
    mid = copies.mid;
    walked = copies.walked;
    out = λ bytes held few. tt;
    cut = λ bytes held few. flush.cut before.reports (salvaged bytes copies.pieces) (copies.copies.out bytes held few before.reports [] begins);
    device = tt;
    cause = flush.cause ∙ ap raised copies.copies.cause;
    fails = record { may = copies.fails.may; failed = λ bytes held few. copies.fails.may };
    kept = copies.kept;
    near = copies.near;
    damages = copies.damages;
    ended = tt;
  }

pub runs_cut : (begun now : SeenSource) (before between : Seen) (waits waited : Staged) (err reported : Seen) (begins : IsStaged before.reports [] before.reports waits) (e : OutFault)
    → CopiesPieces begun now before between waits waited err reported (Err e) → SendsRuns begun now before between err reported (Err e)
runs_cut begun now before between waits waited err reported begins e copies = record {
  pieces = copies.pieces;
  stop = copies.stop;
  at = copies.at;
  tally = copies.tally;
  mid = copies.mid;
  walked = copies.walked;
  out = λ bytes held few. tt;
  cut = λ bytes held few. copies.copies.cut bytes held few before.reports [] begins;
  device = copies.device;
  cause = copies.copies.cause;
  fails = copies.fails;
  kept = copies.kept;
  near = copies.near;
  damages = copies.damages;
  ended = tt;
}

-- ---- the end

module _ (begun now : SeenSource) (before after err mid reported : Seen) (status : Status) where
  pub all_salvaged : (found : Found) → SendsRuns begun now before after err mid (Ok found)
      → ((pieces : List Piece) → IsTallyOf found.tally pieces → ReportsEach (stop_lines found.stop ++ salvaged_line found.stop pieces ∷ []) mid reported)
      → ((pieces : List Piece) → IsTallyOf found.tally pieces → status ≡ pieces_status found.stop pieces) → AreSalvaged (devices begun before err) (devices now after reported) status
  all_salvaged found sends reports is =
      let (stop, same, are) = sends.ended in
      let pieces = sends.pieces in
      let P : Tally → Type 0 = λ t. IsTallyOf t pieces in
      let counted : IsTallyOf found.tally pieces = subst P (sym same) sends.walked.counted in
      let Q : Option Fault → Type 0 = λ f. ReportsEach (stop_lines f ++ salvaged_line f pieces ∷ []) mid reported in
      record {
        pieces = pieces;
        stop = sends.stop;
        are = are;
        reported = sends.out;
        unfailed = sends.cause;
        source = sends.fails.may ∙ sends.walked.cause;
        err = reports_in_turn (damage_lines pieces) (stop_lines sends.stop) (salvaged_line sends.stop pieces) err mid reported sends.damages (subst Q stop (reports pieces counted));
        status_is = is pieces counted ∙ ap (λ x. pieces_status x pieces) stop;
      }

  pub salvaged_in_part : (e : OutFault) → SendsRuns begun now before after err mid (Err e) → Reports (reported_line (out_fault_text e)) mid reported → status ≡ Failed
      → AreSalvagedInPart (devices begun before err) (devices now after reported) status
  salvaged_in_part e sends reports is = record {
    pieces = sends.pieces;
    stop = sends.stop;
    at = sends.at;
    are = sends.walked.given;
    fault = e;
    device = sends.device;
    front = sends.cut;
    source = λ bytes held few. has_failed e _ _ _ _ sends.walked.cause refl ((fails_as Found ℕ sends.fails).failed bytes (sends.walked.kept.kept ∙ held) few);
    may = may_have_failed e _ _ _ _ sends.walked.cause refl ((fails_as Found ℕ sends.fails).may);
    failed = sends.cause;
    err = reports_both (damage_lines sends.pieces) (reported_line (out_fault_text e) ∷ []) err mid reported sends.damages (reported, reports, refl);
    status_is = is;
  }
