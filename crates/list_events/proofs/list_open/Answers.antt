-- The header lies in the buffer and goes out, and the listing after it. Assumes nothing.
use Rattle.std.proofs.Common.{sym, arith}
use Rattle.std.proofs.lemmas.List.{length-take-le}
use Rattle.std.proofs.lemmas.Result.{on_ok_weaker}
use Rattle.text.proofs.Laws.{head_small}
use Rattle.listing.proofs.Sizes.{written_inside}
use Rattle.list_events.proofs.Laws.{headed_all, written_front}
use Rattle.list_events.proofs.list_open.Goals as goal

pub slice_bounds-send-end : goal.slice_bounds-send-end
slice_bounds-send-end g c = written_inside _ _ _ _ _ head_small c.put_head-n.ensures

pub slice_bounds-send-end-2 : goal.slice_bounds-send-end-2
slice_bounds-send-end-2 g c = sym (length-take-le _ _ (written_inside _ _ _ _ _ head_small c.put_head-n.ensures))

pub returns : goal.returns
returns g c =
    λ h. let head = rw (written_front _ _ _ _ _ (omega (arith, c.requires)) head_small c.put_head-n.ensures) at c.in_ok-send.ensures in
    on_ok_weaker c.list_all.result (λ w. headed_all _ _ _ _ _ _ c.in_ok-first.ensures.gave head w) (c.list_all.ensures (c.in_ok-first.ensures.read h))
