use Rattle.std.proofs.Common.{◌≡◌, ℕ, ◌<◌, List, length, ap, sym, ◌∙◌, arith, get_or, take, drop}
use Rattle.std.proofs.lemmas.List.{get_or_past}
use Rattle.warc_order.specs.declared.mark.Mark.{Mark}
use Rattle.warc_order.specs.Columns.{values}
use Rattle.warc_order.specs.Entries.{Entry, entry_at}
use Rattle.warc_index.specs.declared.link.Role.{Role}
use Rattle.warc_index.specs.declared.link.Role.TheVariants.{Other}
use Rattle.warc_index.specs.Links.{link, bare_link, link_at, reported, at_start, links_in}
use Rattle.warc_index.proofs.LinkLemmas.{length_links, link_in, middle_at}
use Rattle.warc_index.proofs.link.Links.link.Goals as goal

pub returns-then-position-len : goal.returns-then-position-len
returns-then-position-len g c =
    let n : length c.args.self.now ≡ length c.self.inside.roles.items = ap length (sym c.self.view_is)
    ∙ length_links _ _ _ c.self.invariant.as_many_middles c.self.invariant.as_many_entries in
    c.bare.ensures ∙ sym (get_or_past c.args.self.now c.args.position (bare_link Other) (omega (
      arith,
      n,
      c.self.inside.roles.ok.0,
    )))

-- what is read from the parts of a link
read : (roles : List Role) (middles : List ℕ) (es : List Entry) (i middle : ℕ) (role : Role)
    (text first second : List ℕ) (mark : Mark) → length middles ≡ length roles → length es ≡ length roles →
    i < length roles → role ≡ get_or roles i role → text ≡ (entry_at es i).text → middle ≡ get_or middles i 0 →
    first ≡ take middle text → second ≡ drop middle text → mark ≡ (entry_at es i).mark →
    link role first second mark ≡ link_at (links_in roles middles es) i
read roles middles es i middle role text first second mark m t lt r text_is n a b mark_is =
    rw (a, b, mark_is, text_is, n) (ap (λ x. reported x (get_or middles i 0) (entry_at es i)) r ∙ sym (link_in i roles
    middles es role (bare_link Other) m t lt))

pub returns : goal.returns
returns g c =
    read c.self.inside.roles.items (values at_start c.self.inside.middles) c.self.inside.texts c.args.position
    c.unwrap_or-middle.result c.index.result.now c.text.result.now c.cut.result.0.now c.cut.result.1.now c.mark.result
    c.self.invariant.as_many_middles c.self.invariant.as_many_entries (omega (arith, c.self.inside.roles.ok.0))
    c.index.ensures c.text.ensures (c.unwrap_or-middle.ensures ∙ middle_at c.self.inside.middles c.args.position
    c.get.result c.get.ensures.some c.get.ensures.none) c.cut.ensures.first c.cut.ensures.second c.mark.ensures
    ∙ ap (λ ls. link_at ls c.args.position) c.self.view_is
