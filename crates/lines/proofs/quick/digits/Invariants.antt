-- `lines::quick::digits`: what the rest of the digits gives is what all of them give. Assumes nothing.
use Rattle.std.proofs.Common.{◌≡◌, ◌+◌, ◌-◌, ◌^◌, ◌<◌}
use Rattle.lines.specs.Quick.{digits_at}
use Rattle.lines.proofs.quick.digits.Given as goal

abbrev pub invariant-loop-i : goal.invariant-loop-i
invariant-loop-i l = (l.value < 10 ^ l.i) × (digits_at l.s (13 - l.i) (l.at + l.i) l.value ≡ digits_at l.s 13 l.at 0)
