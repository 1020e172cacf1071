-- `text::put_line` meets its contract: the last number behind the others. Assumes nothing.
use Rattle.text.proofs.Parts.{line_put}
use Rattle.text.proofs.put_line.Goals as goal

pub returns : goal.returns
returns c = line_put _ _ _ _ _ _ _ _ c.requires c.put_spaced-to.ensures c.put_number.ensures
