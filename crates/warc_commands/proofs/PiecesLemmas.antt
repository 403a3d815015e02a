-- The lines of the pieces of a source.
use Rattle.std.proofs.Common.{◌≡◌, ℕ, List, [], ◌∷◌, ◌++◌, append_assoc, Option, Result, Ok, Err, refl, sym, ap, subst, ◌∙◌}
use Rattle.std.specs.Prelude.{is_err, if◌then◌else◌}
use Rattle.std.proofs.lemmas.List.{append-nil}
use Rattle.std.proofs.lemmas.Result.{IfErr-weaker, on_ok_weaker}
use Rattle.warc_frame.specs.Count.{raised}
use Rattle.warc_frame.specs.Device.{Staged}
use Rattle.warc_frame.specs.Effects.{Flushes, Puts}
use Rattle.warc_frame.specs.FaultText.{out_fault_text}
use Rattle.warc_frame.specs.Seen.{Seen, SeenSource}
use Rattle.warc_frame.specs.Send.{IsStaged}
use Rattle.warc_frame.specs.declared.fault.Fault.{Fault}
use Rattle.warc_frame.specs.declared.fault.OutFault.TheVariants.{Write}
use Rattle.warc_frame.specs.declared.send.SendFault.{SendFault}
use Rattle.warc_frame.proofs.LawLemmas.{same_out, same_staged}
use Rattle.warc_pieces.specs.declared.piece.Piece.{Piece}
use Rattle.warc_arguments.specs.declared.status.Status.{Status}
use Rattle.warc_arguments.specs.declared.status.Status.TheVariants.{Failed}
use Rattle.warc_commands.specs.Devices.{devices}
use Rattle.warc_commands.specs.Pieces.{ArePrinted, ArePrintedInPart, ReportsEach, has_damage, piece_line, pieces_status, pieces_text, stop_lines}
use Rattle.warc_commands.specs.Program.{Reports, reported_line}
use Rattle.warc_commands.specs.Walking.{HasEnded, HasPut, HasWalked, PutsPieces, SendsPieces}
use Rattle.warc_commands.specs.declared.walk.Found.{Found}
use Rattle.warc_commands.specs.declared.walk.Tally.{Tally}

-- the line of one more piece
pub text_more : (pieces : List Piece) (piece : Piece) → pieces_text (pieces ++ piece ∷ []) ≡ pieces_text pieces ++ piece_line piece
text_more [] piece = append-nil (piece_line piece)
text_more (first ∷ pieces) piece =
    ap (λ t. piece_line first ++ t) (text_more pieces piece) ∙ sym (append_assoc (piece_line first) (pieces_text pieces) (piece_line piece))

-- one text, and then another
pub puts_both : {X Y : Type 0} {x : X} {answer : Result Y SendFault} {before mid after : Seen} {waits waited waiting : Staged} {one two all : List ℕ}
    → Puts before mid waits waited (Ok x) one → Puts mid after waited waiting answer two → all ≡ one ++ two → Puts before after waits waiting answer all
puts_both {X} {Y} {x} {answer} {before} {mid} {after} {waits} {waited} {waiting} {one} {two} {all} first second whole =
    let P : List ℕ → Type 0 = λ t. Puts before after waits waiting answer t in
    subst P (sym whole) (record {
      out = λ start output is. on_ok_weaker answer (same_staged (append_assoc output one two)) (second.out start (output ++ one) (first.out start output is));
      cut = λ start output is. IfErr-weaker answer _ _ (λ e. same_out (append_assoc output one two)) (second.cut start (output ++ one) (first.out start output is));
      cause = second.cause ∙ ap (λ n. if is_err answer then raised n else n) first.cause;
      left = second.left;
    })

pub puts_none : {before : Seen} {waits : Staged} → Puts {X = Unit {0}} before before waits waits (Ok tt) []
puts_none {before} {waits} = record {
  out = λ start output is. same_staged (sym (append-nil output)) is;
  cut = λ start output is. tt;
  cause = refl;
  left = tt;
}

-- ---- the walk

-- no line is put before the walk
pub put_none : (begun now : SeenSource) (before : Seen) (waits : Staged) (at : ℕ) (failure : Option Fault) (tally : Tally) → HasWalked begun now at failure tally [] → HasPut begun now at failure tally before before waits waits
put_none begun now before waits at failure tally walked = record { pieces = []; walked = walked; puts = puts_none }

module _ (begun now : SeenSource) (before after : Seen) (waits waiting : Staged) where
  -- the end of the walk
  pub put_all_pieces : (was : SeenSource) (place at : ℕ) (failure stop : Option Fault) (old tally : Tally) (has : HasPut begun was place failure old before after waits waiting) → HasEnded begun now at stop tally has.pieces
      → PutsPieces begun now before after waits waiting (Ok (record { tally = tally; stop = stop }))
  put_all_pieces was place at failure stop old tally has ended = record {
    pieces = has.pieces;
    stop = stop;
    at = at;
    tally = tally;
    walked = ended.walked;
    puts = record { out = has.puts.out; cut = λ start output is. tt; cause = has.puts.cause; left = tt };
    ended = (refl, refl, ended.are);
  }

module _ (begun was now : SeenSource) (place at : ℕ) (failure stop : Option Fault) (old tally : Tally) (before mid after : Seen) (waits waited waiting : Staged) (has : HasPut begun was place failure old before mid waits waited)
    (piece : Piece) (walked : HasWalked begun now at stop tally (has.pieces ++ piece ∷ [])) where
  -- one more line
  pub put_more : {X : Type 0} (x : X) → Puts mid after waited waiting (Ok x) (piece_line piece) → HasPut begun now at stop tally before after waits waiting
  put_more {X} x puts = record {
    pieces = has.pieces ++ piece ∷ [];
    walked = walked;
    puts =
        let more = puts_both has.puts puts (text_more has.pieces piece) in
        record { out = more.out; cut = λ start output is. tt; cause = more.cause; left = tt };
  }

  -- a failed write
  pub put_cut : {X : Type 0} (e : SendFault) → Puts {X = X} mid after waited waiting (Err e) (piece_line piece) → PutsPieces begun now before after waits waiting (Err e)
  put_cut {X} e puts =
      let more = puts_both has.puts puts (text_more has.pieces piece) in
      record {
        pieces = has.pieces ++ piece ∷ [];
        stop = stop;
        at = at;
        tally = tally;
        walked = walked;
        puts = record { out = λ start output is. tt; cut = more.cut; cause = more.cause; left = more.left };
        ended = tt;
      }

-- ---- what went out

module _ (begun now : SeenSource) (before mid after : Seen) (waits waited waiting : Staged) (begins : IsStaged before.reports [] before.reports waits) where
  pub sent_all : {X : Type 0} (x : X) (found : Found) → PutsPieces begun now before mid waits waited (Ok found) → Flushes mid after waited waiting (Ok x) → SendsPieces begun now before after (Ok found)
  sent_all {X} x found puts flush = record {
    pieces = puts.pieces;
    stop = puts.stop;
    at = puts.at;
    tally = puts.tally;
    walked = puts.walked;
    reported = flush.reported before.reports (pieces_text puts.pieces) (puts.puts.out before.reports [] begins);
    cut = tt;
    cause = flush.cause ∙ puts.puts.cause;
    ended = puts.ended;
  }

  pub sent_part : {X : Type 0} (e : SendFault) (found : Found) → PutsPieces begun now before mid waits waited (Ok found) → Flushes {X = X} mid after waited waiting (Err e) → SendsPieces begun now before after (Err e)
  sent_part {X} e found puts flush = record {
    pieces = puts.pieces;
    stop = puts.stop;
    at = puts.at;
    tally = puts.tally;
    walked = puts.walked;
    reported = tt;
    cut = flush.cut before.reports (pieces_text puts.pieces) (puts.puts.out before.reports [] begins);
    cause = flush.cause ∙ ap raised puts.puts.cause;
    ended = tt;
  }

  pub sent_cut : (e : SendFault) → PutsPieces begun now before mid waits waited (Err e) → SendsPieces begun now before mid (Err e)
  sent_cut e puts = record {
    pieces = puts.pieces;
    stop = puts.stop;
    at = puts.at;
    tally = puts.tally;
    walked = puts.walked;
    reported = tt;
    cut = puts.puts.cut before.reports [] begins;
    cause = puts.puts.cause;
    ended = tt;
  }

-- ---- the end

pub reports_as : (lines others : List (List ℕ)) (old new : Seen) → lines ≡ others → ReportsEach lines old new → ReportsEach others old new
reports_as lines others old new same reported = let P : List (List ℕ) → Type 0 = λ ls. ReportsEach ls old new in subst P same reported

module _ (begun now : SeenSource) (before after err reported : Seen) (status : Status) where
  pub printed : (found : Found) → SendsPieces begun now before after (Ok found) → ReportsEach (stop_lines found.stop) err reported
      → ((pieces : List Piece) → found.tally.is_damaged ≡ has_damage pieces → status ≡ pieces_status found.stop pieces) → ArePrinted (devices begun before err) (devices now after reported) status
  printed found sends reports is =
      let (stop, tally, are) = sends.ended in
      record {
        pieces = sends.pieces;
        stop = sends.stop;
        are = are;
        reported = sends.reported;
        unfailed = sends.cause;
        source = sends.walked.cause;
        err = reports_as (stop_lines found.stop) (stop_lines sends.stop) err reported (ap stop_lines stop) reports;
        status_is = is sends.pieces (ap (λ (t : Tally). t.is_damaged) tally ∙ sends.walked.counted.damage_is) ∙ ap (λ x. pieces_status x sends.pieces) stop;
      }

  pub printed_in_part : (e : SendFault) → SendsPieces begun now before after (Err e) → Reports (reported_line (out_fault_text (Write e.sent))) err reported → status ≡ Failed
      → ArePrintedInPart (devices begun before err) (devices now after reported) status
  printed_in_part e sends reports is = record {
    pieces = sends.pieces;
    stop = sends.stop;
    at = sends.at;
    are = sends.walked.given;
    sent = e.sent;
    front = sends.cut;
    failed = sends.cause;
    source = sends.walked.cause;
    reported = reports;
    status_is = is;
  }
