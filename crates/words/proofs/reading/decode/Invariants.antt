-- `words::reading::decode`: each turn puts one byte after those before it. Assumes nothing.
use Rattle.std.proofs.Common.{◌≡◌}
use Rattle.words.specs.Writing.{put}
use Rattle.words.specs.Reading.{pairs}
use Rattle.words.proofs.reading.decode.Given as goal

abbrev pub invariant-loop-i : goal.invariant-loop-i
invariant-loop-i l = l.out ≡ put 0 (pairs l.i (l.s)) l.fn.out
