use Rattle.std.proofs.Common.{◌≡◌, ◌-◌, ◌≤◌, length, take}
use Rattle.warc_field.specs.Area.{fields_of, with_front}
use Rattle.warc_field.specs.Lines.{lines}
use Rattle.warc_field.proofs.area.read_lines.Given as goal

-- the first fields are those of the lines before the rest
abbrev pub invariant-loop-line : goal.invariant-loop-line
invariant-loop-line g l = record {
  few : l.count ≤ length l.fields;
  counted : l.count ≤ length l.area - length l.rest;
  within : length l.rest ≤ length l.area;
  read : with_front (take l.count l.fields) (fields_of (length l.area - length l.rest) (lines l.rest)) ≡ fields_of 0 (lines l.area);
}

abbrev pub decreases-loop-line : goal.decreases-loop-line
decreases-loop-line g l = length l.rest
