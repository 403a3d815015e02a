-- Blocks that were judged before: the head in their front, and what is stored by a verdict on them.
use Rattle.std.proofs.Common.{◌≡◌, ℕ, Bool, true, false, List, Err, ◌++◌, length, take, drop, sym, ap, subst, ◌∙◌}
use Rattle.std.proofs.lemmas.List.{take-append-drop}
use Rattle.std.proofs.Math.Seq.{drop-append_seam}
use Rattle.httparse.specs.Grammar.{ResponseHead, ReadsResponse, print_response}
use Rattle.httparse.proofs.GrammarLemmas.{ReadsResponse-append}
use Rattle.warc_field.specs.Area.{Pair}
use Rattle.warc_value.specs.declared.hash.Verdict.{Verdict}
use Rattle.warc_value.specs.declared.hash.Verdict.TheVariants.{Good}
use Rattle.warc_payload.specs.Head.{IsInfoOf}
use Rattle.warc_payload.specs.declared.HeadInfo.{HeadInfo}
use Rattle.warc_segment.specs.declared.place.Place.{Place}
use Rattle.warc_answer.specs.Giving.{any_bad_at}
use Rattle.warc_answer.specs.Judging.{IsHeadIn, IsSeenIn}
use Rattle.warc_answer.specs.Known.{Agrees}
use Rattle.warc_answer.specs.Places.{text_at}
use Rattle.warc_answer.specs.declared.answer.ReplayFault.{ReplayFault}
use Rattle.warc_answer.proofs.StoredLemmas.{headless_seen}

-- a head in a front of a text is that of the text
front_has : (n : ℕ) (text : List ℕ) (info : HeadInfo) (head : ResponseHead) → IsInfoOf (take n text) info head → IsInfoOf text info head
front_has n text info head is =
    let P : List ℕ → Type 0 = λ t. ReadsResponse t head (drop info.head_len (take n text) ++ drop n text) in
    let reads = subst P (take-append-drop n text) (ReadsResponse-append (take n text) head (drop info.head_len (take n text)) (drop n text) is.front.reads) in
    let rest : drop info.head_len (take n text) ++ drop n text ≡ drop info.head_len text =
    sym (ap (drop (length (print_response head))) reads.1 ∙ drop-append_seam (print_response head) (drop info.head_len (take n text) ++ drop n text))
    ∙ ap (λ k. drop k text) (sym is.head_len) in
    record {
      front = record {
        reads = (let Q : List ℕ → Type 0 = λ r. ReadsResponse text head r in subst Q rest reads);
        size = is.front.size;
        lines = is.front.lines;
      };
      head_len = is.head_len;
      status = is.status;
      coded = is.coded;
      transfer_coded = is.transfer_coded;
    }

pub head_of_front : (n : ℕ) (text front : List ℕ) (info : HeadInfo) (head : ResponseHead) → front ≡ take n text
    → IsInfoOf front info head → IsInfoOf text info head
head_of_front n text front info head same is =
    front_has n text info head (subst (λ (t : List ℕ). IsInfoOf t info head) same is)

-- no block is bad, where they are known to be good
pub none_bad : (known : Verdict) (bad : Bool) → known ≡ Good → Agrees known bad → bad ≡ false
none_bad known bad is agrees = subst (λ (v : Verdict). Agrees v bad) is agrees

-- no head in good blocks, or a failure: nothing is seen
pub headless_good : (A B : Type 0) (bytes : List ℕ) (fields : List Pair) (places : List Place) (fault : ReplayFault)
    → any_bad_at bytes places ≡ false → IsHeadIn {A = A} false (text_at places bytes) (Err fault) → IsSeenIn {A = B} true fields bytes places (Err fault)
headless_good A B bytes fields places fault fine is =
    headless_seen A B bytes fields places fault (subst (λ (b : Bool). IsHeadIn {A = A} b (text_at places bytes) (Err fault)) (sym fine) is)
