use Rattle.std.proofs.Common.{◌≡◌, drop, find}
use Rattle.std.specs.Str.{str_eq_ignore_ascii_case}
use Rattle.warc_record.proofs.types.kind_among.Given as goal

-- the first that the text names is among those that are left
abbrev pub invariant-loop-name : goal.invariant-loop-name
invariant-loop-name l = record {
  left : find (λ entry. str_eq_ignore_ascii_case l.text entry.0.now) l.types
      ≡ find (λ entry. str_eq_ignore_ascii_case l.text entry.0.now) (drop l.name-index l.types);
}
