use Rattle.std.proofs.Common.{◌≡◌, ◌∙◌, Bool, true, false, not, ap, sym, List, ℕ, Some, Ok, refl}
use Rattle.std.specs.Prelude.{slice_get}
use Rattle.std.specs.declared.result.Result.{Result}
use Rattle.warc_index.specs.declared.unfound.Unfound.{Unfound}
use Rattle.warc_index.specs.Captures.{Indexed, is_capture}
use Rattle.warc_index.specs.Referents.{is_revisit_at, referent_of, ok_then}
use Rattle.warc_index.specs.Links.{Link, link_at}
use Rattle.warc_index.specs.Linked.{revisit_link}
use Rattle.warc_index.specs.Orders.{ArePlacedOf, step_of}
use Rattle.warc_index.proofs.KeptLemmas.{placed_of}
use Rattle.warc_index.proofs.ChainLemmas.{IsRevisitAt, revisit_at, step_ends, step_goes}
use Rattle.warc_index.proofs.index.RecordIndex+Order+A+A.next.Goals as goal

no_revisit : (b : Bool) → not b ≡ true → b ≡ false
no_revisit true e = cc
no_revisit false e = refl

a_revisit : (b : Bool) → not b ≡ false → b ≡ true
a_revisit true e = refl
a_revisit false e = cc

pub returns-then-ends : goal.returns-then-ends
returns-then-ends g c all kept =
    sym (step_ends all c.args.position (no_revisit (is_revisit_at all c.args.position) (sym (c.ends.ensures all kept)
    ∙ c.if-ends.true)))

-- what the link of a revisit leads to is the step
goes : (all : List Indexed) (p : ℕ) (es : _) (links : List Link) (l : Link) (result : Result ℕ Unfound) →
    ArePlacedOf all es links → is_revisit_at all p ≡ true → l ≡ link_at links p →
    ((r : Indexed) → slice_get all p ≡ Some r → is_capture r.kind ≡ true →
    l ≡ revisit_link r.reference.known_profile r → result ≡ referent_of all r) →
    step_of all p ≡ ok_then (λ (q : ℕ). Ok (Some q)) result
goes all p es links l result placed on is leads =
    let r : IsRevisitAt all p = revisit_at all p on in
    step_goes all p on r.it r.is_present
    ∙ ap (ok_then (λ (q : ℕ). Ok (Some q))) (sym (leads r.it r.is_present r.capture
    (is ∙ (ap (λ ls. link_at ls p) placed.links ∙ r.link))))

pub returns-in-Ok : goal.returns-in-Ok
returns-in-Ok g c all kept =
    sym (goes all c.args.position _ c.self.inside.links _ c.led_to.result (placed_of all _ _ _ _ c.args.self.now
    c.self.view_is kept) (a_revisit (is_revisit_at all c.args.position) (sym (c.ends.ensures all kept)
    ∙ c.if-ends.false)) c.link.ensures (λ r at kind is. c.led_to.ensures all kept r at kind is)
    ∙ ap (ok_then (λ (q : ℕ). Ok (Some q))) c.in-Ok.is)

pub returns-in-Err : goal.returns-in-Err
returns-in-Err g c all kept =
    sym (goes all c.args.position _ c.self.inside.links _ c.led_to.result (placed_of all _ _ _ _ c.args.self.now
    c.self.view_is kept) (a_revisit (is_revisit_at all c.args.position) (sym (c.ends.ensures all kept)
    ∙ c.if-ends.false)) c.link.ensures (λ r at kind is. c.led_to.ensures all kept r at kind is)
    ∙ ap (ok_then (λ (q : ℕ). Ok (Some q))) c.in-Err.is)
