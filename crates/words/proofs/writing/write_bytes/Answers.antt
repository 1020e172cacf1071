-- `words::writing::write_bytes`: the digits, and the byte after them. Assumes nothing.
use Rattle.words.proofs.Pairs.{hex_puts}
use Rattle.words.proofs.writing.write_bytes.Goals as goal

pub returns : goal.returns
returns c = hex_puts _ c.args.s.now _ _ _ c.requires c.write_hex.ensures
