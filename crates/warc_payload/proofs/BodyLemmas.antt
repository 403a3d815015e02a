-- What a block gives after its HTTP head: a body, a coded one, or no head, and one of these alone.
use Rattle.std.proofs.Common.{◌≡◌, ◌⊎◌, inl, inr, ℕ, ◌<◌, ◌≤◌, List, length, refl, subst, arith}
use Rattle.std.proofs.lemmas.Bool.{cases_Bool, cases_lt}
use Rattle.httparse.specs.Grammar.{ResponseHead, ReadsResponse, print_response, status_code}
use Rattle.httparse.proofs.GrammarLemmas.{response_unique}
use Rattle.warc_payload.specs.Coding.{is_coded}
use Rattle.warc_payload.specs.Head.{BeginsWithHead, HasNoHead}
use Rattle.warc_payload.specs.Laws.{OneOfThree}
use Rattle.warc_payload.proofs.HeadDecision.{head_or_none}

-- the head there is too long, or has too many lines
too_large : (block : List ℕ) (head : ResponseHead) (rest : List ℕ) → ReadsResponse block head rest
    → (65_536 < length (print_response head)) ⊎ (256 < length head.fields) → HasNoHead block
too_large block head rest reads (inl long) other more x =
    let same : other ≡ head = (response_unique block other head more rest x.reads reads).0 in
    let fits : length (print_response head) ≤ 65_536 = subst (λ (h : ResponseHead). length (print_response h) ≤ 65_536) same x.size in
    omega arith
too_large block head rest reads (inr many) other more x =
    let same : other ≡ head = (response_unique block other head more rest x.reads reads).0 in
    let fits : length head.fields ≤ 256 = subst (λ (h : ResponseHead). length h.fields ≤ 256) same x.lines in
    omega arith

pub one_of_three : OneOfThree
one_of_three block = elim (head_or_none block) [
  | inr none ↦ inr (inr (λ head rest x. none head rest x.reads))
  | inl w ↦ elim (cases_lt 65_536 (length (print_response w.0))) [
    | inl long ↦ inr (inr (too_large block w.0 w.1 w.2 (inl long)))
    | inr short ↦ elim (cases_lt 256 (length w.0.fields)) [
      | inl many ↦ inr (inr (too_large block w.0 w.1 w.2 (inr many)))
      | inr few ↦
          let begins : BeginsWithHead block w.0 w.1 = record { reads = w.2; size = short; lines = few } in
          elim (cases_Bool (is_coded w.0)) [
            | inl coded ↦ inr (inl (w.0, w.1, begins, coded))
            | inr plain ↦ inl (status_code w.0, w.1, (w.0, begins, refl, plain))
          ]
    ]
  ]
]
