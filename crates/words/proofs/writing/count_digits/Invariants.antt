-- `words::writing::count_digits`: the digits taken off and those that are left are those of the number. Assumes nothing.
use Rattle.std.proofs.Common.{◌≡◌, ◌+◌, ◌-◌}
use Rattle.words.specs.Writing.{digit_count}
use Rattle.words.proofs.writing.count_digits.Given as goal

abbrev pub invariant-loop-k : goal.invariant-loop-k
invariant-loop-k l = l.k - 1 + digit_count (20 - l.k) l.v ≡ digit_count 19 l.n
