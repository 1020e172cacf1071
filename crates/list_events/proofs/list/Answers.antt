-- A part of the input, one buffer after another. Assumes nothing.
use Rattle.std.proofs.Common.{refl, sym, arith}
use Rattle.std.proofs.lemmas.List.{length-take-le}
use Rattle.listing.proofs.Sizes.{part_inside, part_kept}
use Rattle.list_events.proofs.Laws.{reads, sending_first, sending_on, sending_end}
use Rattle.list_events.proofs.list.Goals as goal

pub loop-at-init : goal.loop-at-init
loop-at-init g c = record { room = refl; sending = sending_first _ _ _ }

pub slice_bounds-send-end : goal.slice_bounds-send-end
slice_bounds-send-end g c = part_inside _ _ _ _ _ c.list_part-part.ensures

pub slice_bounds-send-end-in-loop-at : goal.slice_bounds-send-end-in-loop-at
slice_bounds-send-end-in-loop-at g c = sym (length-take-le _ _ (part_inside _ _ _ _ _ c.list_part-part.ensures))

pub overflow_add-at : goal.overflow_add-at
overflow_add-at g c =
    omega (arith, (reads _ _ _ _ _ _ c.loop-at-test.true (omega (arith, c.requires, c.loop-at.invariant.room)) c.list_part-part.ensures).1)

pub loop-at-smaller : goal.loop-at-smaller
loop-at-smaller g c =
    omega (arith, reads _ _ _ _ _ _ c.loop-at-test.true (omega (arith, c.requires, c.loop-at.invariant.room)) c.list_part-part.ensures)

pub loop-at-preserved : goal.loop-at-preserved
loop-at-preserved g c =
    let i = c.loop-at.invariant in
    record {
      room = rw (part_kept _ _ _ _ _ c.list_part-part.ensures) i.room;
      sending = sending_on _ _ _ _ _ _ _ _ _ _ c.loop-at-test.true (omega (arith, c.requires, i.room)) i.sending c.list_part-part.ensures c.in_ok-send.ensures;
    }

pub returns-clause-listed : goal.returns-clause-listed
returns-clause-listed g c = (sending_end _ _ _ _ _ _ c.loop-at-test.false c.loop-at.invariant.sending).0

pub returns-clause-sent : goal.returns-clause-sent
returns-clause-sent g c = (sending_end _ _ _ _ _ _ c.loop-at-test.false c.loop-at.invariant.sending).1
