use Rattle.std.proofs.Common.{◌≡◌, drop, find, nat_le}
use Rattle.warc_commands.proofs.lists.first_absent.Given as goal

-- the first is among those that are left
abbrev pub invariant-looking : goal.invariant-looking
invariant-looking l = record { left : find (λ p. nat_le l.count p) l.positions ≡ find (λ p. nat_le l.count p) (drop l.position-index l.positions) }
