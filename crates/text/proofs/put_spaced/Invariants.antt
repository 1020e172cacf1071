-- The loop of `text::put_spaced`: the numbers so far stand there, with a space after each. Assumes nothing.
use Rattle.std.proofs.Common.{take}
use Rattle.text.proofs.Parts.{Spaced}
use Rattle.text.proofs.put_spaced.Given as goal

abbrev pub invariant-loop-n : goal.invariant-loop-n
invariant-loop-n l = Spaced l.at (take l.n-index l.numbers) l.initial.out l.to l.out
