-- A replay is refused for a loop exactly where the chain of the chosen capture comes back.
use Rattle.std.proofs.Common.{◌≡◌, ℕ, ◌<◌, Bool, true, false, ◌&&◌, List, length, map, Option, Some, None, Result, Ok, Err, MatchBool, slice_get, refl, sym, ◌∙◌, ap, subst, if◌then◌else◌}
use Rattle.std.specs.Prelude.{ok_or}
use Rattle.std.specs.List.{list_any}
use Rattle.warc_value.specs.Dates.{Instant}
use Rattle.warc_frame.specs.Record.{Record}
use Rattle.warc_index.specs.Captures.{ChosenIsLatest, Indexed, chosen_of, is_by, is_capture_of, latest}
use Rattle.warc_index.specs.Referents.{ChainLoops, next_of, ok_then, origin_of}
use Rattle.warc_index.specs.Walks.{ComesBack}
use Rattle.warc_index.specs.declared.unfound.Unfound.{Unfound}
use Rattle.warc_index.specs.declared.unfound.Unfound.TheVariants.{Loop, NotYet, NoCapture}
use Rattle.warc_segment.specs.Joined.{ReadRecord, joined_records}
use Rattle.warc_segment.specs.declared.gap.Gap.{Gap}
use Rattle.warc_answer.specs.Answers.{Given, IsAnswerOn, IsGivenAt, IsGivenOn, given_by, index_of, is_truncated, path_for}
use Rattle.warc_answer.specs.Laws.{ChosenLoops, IsOfLoop, LoopsAreAnswered, LoopsAreReplayed}
use Rattle.warc_answer.specs.Payloads.{IsAfterHead, IsPayload, Payload, has_bad_block, is_http_response, read_record, whole_block}
use Rattle.warc_answer.specs.Replays.{IsReplay}
use Rattle.warc_answer.specs.declared.answer.Answer.{Answer}
use Rattle.warc_answer.specs.declared.answer.Path.{Path}
use Rattle.warc_answer.specs.declared.answer.Reason.{Reason as Why}
use Rattle.warc_answer.specs.declared.answer.Reason.TheVariants.{NotFound, Segments, BadDigest, BadHead, Coded}
use Rattle.warc_answer.specs.declared.answer.ReplayFault.{ReplayFault}
use Rattle.warc_answer.specs.declared.answer.ReplayFault.TheVariants.{Reason, Out}
use Rattle.warc_answer.proofs.AnswerLemmas.{below_is_present}
use Rattle.warc_answer.proofs.ReasonLemmas.{reasons_are_answers}

-- ---- an origin that is found gives no reason why none is found

abbrev unfound : Unfound → Result Payload Why
unfound u = Err (NotFound u)

not_whole : (bad http : Bool) (block : List ℕ) (whole : Result Payload Why) (u : Unfound) → (whole ≡ unfound u → ⊥)
    → MatchBool bad (unfound u ≡ Err BadDigest) (MatchBool http (IsAfterHead block (unfound u)) (unfound u ≡ whole)) → ⊥
not_whole true http block whole u other is = absurd (cc)
not_whole false true block whole u other is = is
not_whole false false block whole u other is = other (sym is)

not_payload : (origin : ReadRecord) (joined : Result (List ReadRecord) Gap) (u : Unfound) → IsPayload origin joined (Err (NotFound u)) → ⊥
not_payload origin (Err gap) u is = absurd (cc)
not_payload origin (Ok rs) u is =
    not_whole (list_any has_bad_block rs) (is_http_response origin.head) (whole_block rs) (Ok (record { status = None; bytes = whole_block rs })) u (λ e. absurd (cc)) is

not_given : (path : Path) (mark : Bool) (origin : ReadRecord) (joined : Result (List ReadRecord) Gap) (u : Unfound) (payload : Result Payload Why) → IsPayload origin joined payload
    → ◌≡◌ {A = Result Given Why} (Err (NotFound u)) (given_by path mark payload) → ⊥
not_given path mark origin joined u (Ok p) is e = absurd (cc)
not_given path mark origin joined u (Err (NotFound v)) is e = not_payload origin joined v is
not_given path mark origin joined u (Err (Segments gap)) is e = absurd (cc)
not_given path mark origin joined u (Err BadDigest) is e = absurd (cc)
not_given path mark origin joined u (Err BadHead) is e = absurd (cc)
not_given path mark origin joined u (Err Coded) is e = absurd (cc)

not_at : (all : List ReadRecord) (path : Path) (u : Unfound) (o : Option ReadRecord) → IsGivenAt all path o (Err (NotFound u)) → ⊥
not_at all path u None is = is
not_at all path u (Some origin) is = not_given path (is_truncated (joined_records all origin)) origin (joined_records all origin) u is.0 is.1 is.2

no_path : (all : List ReadRecord) (way : Result Path Unfound) (u : Unfound) → IsGivenOn all way (Err (NotFound u)) → way ≡ Err u
no_path all (Err v) u is =
    let e : ◌≡◌ {A = Result Given Why} (Err (NotFound u)) (Err (NotFound v)) = is in
    let same : v ≡ u = (cc) in
    ap Err same
no_path all (Ok path) u is = absurd (not_at all path u (slice_get all path.given) is)

-- ---- a path that loops, and its chain

not_chosen : (o : Option ℕ) (b : Bool) → ok_or o (if b then NotYet else NoCapture) ≡ Err Loop → ⊥
not_chosen (Some p) b e = absurd (cc)
not_chosen None true e = absurd (cc)
not_chosen None false e = absurd (cc)

abbrev way_from : ℕ → Result ℕ Unfound → Result Path Unfound
way_from chosen origin = ok_then (λ given. Ok (record { chosen = chosen; given = given })) origin

origin_loops : (p : ℕ) (o : Result ℕ Unfound) → way_from p o ≡ Err Loop → o ≡ Err Loop
origin_loops p (Ok q) e = absurd (cc)
origin_loops p (Err why) e = (cc)

-- the chosen capture is one of them
chosen_below : ChosenIsLatest → (all : List Indexed) (uri : List ℕ) (moment : Instant) (p : ℕ) → chosen_of all uri moment ≡ Ok p → p < length all
chosen_below late all uri moment p is =
    let chosen = ((late all uri moment).0 p).0 is in below_is_present all p chosen.it chosen.is_present

back_by : ChosenIsLatest → ChainLoops → (all : List Indexed) (uri : List ℕ) (moment : Instant) (c : Result ℕ Unfound) → chosen_of all uri moment ≡ c
    → ok_then (λ p. way_from p (origin_of all p)) c ≡ Err Loop → (p : ℕ) × (chosen_of all uri moment ≡ Ok p) × ComesBack (next_of all) p
back_by late chains all uri moment (Err why) is e =
    let same : why ≡ Loop = (cc) in
    absurd (not_chosen (latest (λ r. is_capture_of uri r && is_by (Some moment) r) all) (list_any (is_capture_of uri) all) (is ∙ ap Err same))
back_by late chains all uri moment (Ok p) is e = (p, is, (chains all p (chosen_below late all uri moment p is)).0 (origin_loops p (origin_of all p) e))

module _ (late : ChosenIsLatest) (chains : ChainLoops) (records : List Record) (uri : List ℕ) (moment : Instant) where
  abbrev all : List Indexed
  all = index_of (map read_record records)

  loops_by_path : path_for records uri moment ≡ Err Loop → ChosenLoops records uri moment
  unfolding path_for
  loops_by_path is =
      let (p, chosen, back) = back_by late chains all uri moment (chosen_of all uri moment) refl is in
      record { chosen = p; is = chosen; back = back }

  path_loops : ChosenLoops records uri moment → path_for records uri moment ≡ Err Loop
  unfolding path_for
  path_loops loops =
      let end : origin_of all loops.chosen ≡ Err Loop = (chains all loops.chosen (chosen_below late all uri moment loops.chosen loops.is)).1 loops.back in
      ap (ok_then (λ p. way_from p (origin_of all p))) loops.is ∙ ap (way_from loops.chosen) end

  loops_by : IsAnswerOn records (path_for records uri moment) (Err (NotFound Loop)) → ChosenLoops records uri moment
  unfolding IsAnswerOn
  loops_by is = loops_by_path (no_path (map read_record records) (path_for records uri moment) Loop is)

  -- where it comes back, nothing else is answered
  only_loop : (outcome : Result Given Why) → ChosenLoops records uri moment → IsAnswerOn records (path_for records uri moment) outcome → outcome ≡ Err (NotFound Loop)
  unfolding IsAnswerOn
  only_loop outcome loops is = subst (λ (way : Result Path Unfound). IsGivenOn (map read_record records) way outcome) (path_loops loops) is

  replayed : (answer : Result Answer ReplayFault) (old new : Option (List ℕ)) → IsReplay records uri moment answer old new → IsOfLoop (ChosenLoops records uri moment) answer
  replayed (Ok answer) old new (body, is, reported) = λ loops. let e = only_loop _ loops is in absurd (cc)
  replayed (Err (Reason why)) old new (is, reported) = (
    λ same. loops_by (subst (λ (w : Why). IsAnswerOn records (path_for records uri moment) (Err w)) same is),
    λ loops. let e : ◌≡◌ {A = Result Given Why} (Err why) (Err (NotFound Loop)) = only_loop _ loops is in (cc),
  )
  replayed (Err (Out e)) old new is = tt

-- ---- the laws

pub loops_are_answered : ChosenIsLatest → ChainLoops → LoopsAreAnswered
loops_are_answered late chains records uri moment = (
  loops_by late chains records uri moment,
  λ loops. (reasons_are_answers records (path_for records uri moment)).0 Loop (path_loops late chains records uri moment loops),
)

pub loops_are_replayed : ChosenIsLatest → ChainLoops → LoopsAreReplayed
loops_are_replayed late chains records uri moment answer old new is = replayed late chains records uri moment answer old new is
