-- The laws, each under the name of its function.
use Rattle.std.proofs.Common.{◌≡◌, ℕ, ◌+◌, ◌-◌, ◌≤◌, Bool, List, ◌++◌, length, take, drop, true≢false, refl, sym, ◌∙◌, ap, subst, arith}
use Rattle.std.proofs.lemmas.List.{take-append-drop}
use Rattle.std.proofs.Math.Seq.{take-append-add, drop-append_seam}
use Rattle.httparse.specs.Grammar.{ResponseHead, ReadsResponse, print_response, status_code}
use Rattle.httparse.proofs.GrammarLemmas.{response_unique, ReadsResponse-append}
use Rattle.warc_payload.specs.declared.HeadInfo.{HeadInfo}
use Rattle.warc_payload.specs.Coding.{is_coded, is_transfer_coded}
use Rattle.warc_payload.specs.Head.{IsInfoOf, front_of}
use Rattle.warc_payload.specs.Laws.{AtMostOneHead, AtMostOneInfo, FrontHasHead, FrontHasNoHead, AtMostOneBody, NoBodyWhereCoded}

pub at_most_one_head : AtMostOneHead
at_most_one_head text head other rest more x y = response_unique text head other rest more x.reads y.reads

-- an info by its parts
info_by : ℕ → ℕ → Bool → Bool → HeadInfo
info_by status head_len coded transfer = record { status = status; head_len = head_len; coded = coded; transfer_coded = transfer }

info_parts : (info : HeadInfo) → info ≡ info_by info.status info.head_len info.coded info.transfer_coded
unfolding info_by
info_parts info = refl

-- the info that a head gives
info_of_head : (text : List ℕ) (info : HeadInfo) (head : ResponseHead) → IsInfoOf text info head
    → info ≡ info_by (status_code head) (length (print_response head)) (is_coded head) (is_transfer_coded head)
info_of_head text info head x = info_parts info ∙ rw (x.status, x.head_len, x.coded, x.transfer_coded) refl

pub at_most_one_info : AtMostOneInfo
at_most_one_info text info reported head other x y =
    let same : head ≡ other = (at_most_one_head text head other _ _ x.front y.front).0 in
    info_of_head text info head x
    ∙ (ap (λ h. info_by (status_code h) (length (print_response h)) (is_coded h) (is_transfer_coded h)) same ∙ sym (info_of_head text reported other y))

-- a head of a front is a head of the whole
head_of_whole : (n : ℕ) (block : List ℕ) (head : ResponseHead) (rest : List ℕ)
    → ReadsResponse (take n block) head rest → ReadsResponse block head (rest ++ drop n block)
head_of_whole n block head rest reads =
    let P : List ℕ → Type 0 = λ text. ReadsResponse text head (rest ++ drop n block) in
    subst P (take-append-drop n block) (ReadsResponse-append (take n block) head rest (drop n block) reads)

-- a head of at most n bytes is a head of the first n
head_of_front : (n : ℕ) (block : List ℕ) (head : ResponseHead) (rest : List ℕ)
    → ReadsResponse block head rest → length (print_response head) ≤ n
    → ReadsResponse (take n block) head (take (n - length (print_response head)) rest)
head_of_front n block head rest reads short =
    let split : n ≡ length (print_response head) + (n - length (print_response head)) = omega arith in
    (reads.0, ap (take n) reads.1 ∙ (ap (λ m. take m (print_response head ++ rest)) split ∙ take-append-add (print_response head) rest _))

-- what follows a head is what its length leaves
rest_by_length : (text : List ℕ) (head : ResponseHead) (rest : List ℕ) → ReadsResponse text head rest
    → rest ≡ drop (length (print_response head)) text
rest_by_length text head rest reads =
    sym (ap (drop (length (print_response head))) reads.1 ∙ drop-append_seam (print_response head) rest)

pub front_has_head : FrontHasHead
unfolding front_of
front_has_head block info head x =
    let reads : ReadsResponse block head _ = head_of_whole 65_536 block head _ x.front.reads in
    let rest : _ ≡ drop info.head_len block = rest_by_length block head _ reads ∙ ap (λ n. drop n block) (sym x.head_len) in
    record {
      front = record {
        reads = (let P : List ℕ → Type 0 = λ r. ReadsResponse block head r in subst P rest reads);
        size = x.front.size;
        lines = x.front.lines;
      };
      head_len = x.head_len;
      status = x.status;
      coded = x.coded;
      transfer_coded = x.transfer_coded;
    }

pub front_has_no_head : FrontHasNoHead
unfolding front_of
front_has_no_head block none head rest x =
    none head _ (record { reads = head_of_front 65_536 block head rest x.reads x.size; size = x.size; lines = x.lines })

pub at_most_one_body : AtMostOneBody
at_most_one_body block status code body bytes x y =
    let same = at_most_one_head block x.0 y.0 body bytes x.1 y.1 in
    (x.2 ∙ (ap status_code same.0 ∙ sym y.2), same.1)

pub no_body_where_coded : NoBodyWhereCoded
no_body_where_coded block status body x y =
    let same : x.0 ≡ y.0 = (at_most_one_head block x.0 y.0 body y.1 x.1 y.2).0 in
    true≢false (sym y.3 ∙ (ap is_coded (sym same) ∙ x.3))
