use Rattle.std.proofs.Common.{◌≡◌, ℕ, List, ◌++◌, ◌∷◌, [], ◌∙◌, ap, length, arith}
use Rattle.std.proofs.lemmas.Bool.Decides.{nat_tests}
use Rattle.warc_order.specs.declared.mark.Mark.{Mark}
use Rattle.warc_order.specs.Columns.{values}
use Rattle.warc_order.specs.Entries.{Entry, entry_of}
use Rattle.warc_index.specs.declared.link.Role.{Role}
use Rattle.warc_index.specs.Links.{link, at_start, links_in}
use Rattle.warc_index.proofs.LinkLemmas.{links_push}
use Rattle.warc_index.proofs.link.Links.add.Goals as goal

-- one more role, middle and entry are one more link
pushed : (roles ready more : List Role) (middles stock next : List ℕ) (es fs : List Entry) (role : Role)
    (first second text bytes : List ℕ) (mark : Mark) (middle position : ℕ) → length middles ≡ length roles →
    length es ≡ length roles → ready ≡ roles → more ≡ ready ++ role ∷ [] → stock ≡ middles →
    next ≡ stock ++ middle ∷ [] → fs ≡ es ++ entry_of bytes mark position ∷ [] → bytes ≡ text →
    text ≡ first ++ second → middle ≡ length first →
    links_in more next fs ≡ links_in roles middles es ++ link role first second mark ∷ []
pushed roles ready more middles stock next es fs role first second text bytes mark middle position m t a b d e f h k n =
    rw (b, a, e, d, f, h, k, n) (links_push roles middles es role first second mark position m t)

pub returns-clause-ok : goal.returns-clause-ok
returns-clause-ok g c =
    pushed c.self.inside.roles.items c.reserve.new.self.items c.push_reserved.new.self.items
    (values at_start c.self.inside.middles) (values at_start c.reserve-2.new.self)
    (values at_start c.push_reserved-2.new.self) c.self.inside.texts c.add.new.self c.args.link.now.role
    c.args.link.now.first.now c.args.link.now.second.now c.in_ok-text.text.items c.deref.result.now
    c.args.link.now.mark c.in_ok-middle.middle c.in_ok-position.position c.self.invariant.as_many_middles
    c.self.invariant.as_many_entries c.reserve.ensures.items c.push_reserved.ensures.items
    (c.reserve-2.ensures.same at_start) (c.push_reserved-2.ensures at_start (λ h. grind (arith, nat_tests, h)))
    c.in_ok-add.ensures.ok c.deref.ensures.value c.in_ok-text.ensures c.in_ok-middle.ensures.same
    ∙ ap (λ ls. ls ++ link c.args.link.now.role c.args.link.now.first.now c.args.link.now.second.now
    c.args.link.now.mark ∷ []) c.self.view_is
