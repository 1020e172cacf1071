-- What the end writes lies in the buffer, and goes out. Assumes nothing.
use Rattle.std.proofs.Common.{sym}
use Rattle.std.proofs.lemmas.List.{length-take-le}
use Rattle.listing.proofs.Sizes.{ending_small, written_inside}
use Rattle.list_events.proofs.Laws.{written_front}
use Rattle.list_events.proofs.finish.Goals as goal

pub slice_bounds-send-end : goal.slice_bounds-send-end
slice_bounds-send-end g c = written_inside _ _ _ _ _ (ending_small c.args.l) c.finish-n.ensures

pub slice_bounds-send-end-2 : goal.slice_bounds-send-end-2
slice_bounds-send-end-2 g c = sym (length-take-le _ _ (written_inside _ _ _ _ _ (ending_small c.args.l) c.finish-n.ensures))

pub returns : goal.returns
returns g c = rw (← (written_front _ _ _ _ _ c.requires (ending_small c.args.l) c.finish-n.ensures)) c.send.ensures
