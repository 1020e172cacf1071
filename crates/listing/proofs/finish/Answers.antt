-- The input has ended. Assumes nothing.
use Rattle.listing.proofs.Laws.{end_written}
use Rattle.listing.proofs.finish.Goals as goal

pub returns : goal.returns
returns c = end_written _ _ _ _ _ _ _ c.if-out-lt-ENDING_MOST.false c.end_line-p.ensures c.held.ensures c.put_end.ensures
