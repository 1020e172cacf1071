-- `words::writing::spell`: no digit is left. Assumes nothing.
use Rattle.std.proofs.Common.{arith}
use Rattle.words.proofs.Spelling.{spelled_end}
use Rattle.words.proofs.writing.spell.Goals as goal

pub returns : goal.returns
returns c = spelled_end _ _ _ _ _ _ _ (omega arith) c.loop-i.invariant
