-- `words::writing::write_hex`: each turn writes the two digits of a byte after those before it. Assumes nothing.
use Rattle.std.proofs.Common.{take, ◌≡◌}
use Rattle.words.specs.Writing.{hex_text, put}
use Rattle.words.proofs.writing.write_hex.Given as goal

abbrev pub invariant-loop-i : goal.invariant-loop-i
invariant-loop-i l = l.out ≡ put l.at (hex_text (take l.i l.s)) l.fn.out
