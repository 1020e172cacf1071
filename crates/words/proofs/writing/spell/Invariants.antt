-- `words::writing::spell`: each turn writes the last digit that is left, from the right. Assumes nothing.
use Rattle.std.proofs.Common.{◌-◌}
use Rattle.words.proofs.Spelling.{Spelled}
use Rattle.words.proofs.writing.spell.Given as goal

abbrev pub invariant-loop-i : goal.invariant-loop-i
invariant-loop-i l = Spelled l.at l.k l.n l.fn.out l.out (l.i - l.at) l.v
