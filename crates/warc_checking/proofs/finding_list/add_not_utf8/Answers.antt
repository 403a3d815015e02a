use Rattle.std.proofs.Common.{rules, ap, length, [], ◌∷◌, ◌++◌, ◌≡◌, ◌∙◌}
use Rattle.warc_checking.specs.OwnFindings.{all_found}
use Rattle.warc_checking.specs.declared.finding_list.ListPart.{ListPart}
use Rattle.warc_checking.specs.declared.finding_list.PackedFinding.TheVariants as packed
use Rattle.warc_checking.proofs.OwnFindingLemmas.{packed_more}
use Rattle.warc_checking.proofs.finding_list.add_not_utf8.Goals as goal

pub returns-clause-ok : goal.returns-clause-ok
returns-clause-ok g c =
    let old = c.args.names.now.items in
    let new = c.extend_from_slice.new.self.items in
    let name = c.args.name.now in
    let ns = c.args.findings.now.items in
    let p : ListPart = record { start = c.len-start.result; end = c.len.result } in
    let names_is : new ≡ old ++ name = search rules in
    let start : p.start ≡ length old = search rules in
    let end : p.end ≡ length new = search rules in
    let items : c.push_reserved.new.self.items ≡ ns ++ packed.NotUtf8 p ∷ [] = search rules in
    ap (all_found new) items ∙ packed_more old new name ns p names_is start end c.requires
