-- `words::writing::write_number`: the digits, and the byte after them. Assumes nothing.
use Rattle.words.proofs.Written.{number_puts}
use Rattle.words.proofs.writing.write_number.Goals as goal

pub returns : goal.returns
returns c = number_puts _ _ _ _ _ _ c.requires c.count_digits-k.ensures.0 c.count_digits-k.ensures.1 c.spell.ensures
