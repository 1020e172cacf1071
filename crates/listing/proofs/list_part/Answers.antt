-- A part of the input. Assumes nothing.
use Rattle.std.proofs.Common.{length, arith}
use Rattle.listing.proofs.Laws.{going_on, going_end, tests}
use Rattle.listing.proofs.list_part.Goals as goal

pub loop-part-preserved : goal.loop-part-preserved
loop-part-preserved c =
    let l = c.loop-part in
    let t = tests l.part.at (length c.args.s.now) l.part.put c.in-Some.room c.loop-part-test.true in
    going_on _ _ _ _ _ _ _ _ _ _ (omega (arith, c.in-Some.ensures)) t.1 l.invariant c.turn-part.ensures

pub returns : goal.returns
returns c = going_end _ _ _ _ _ _ _ _ c.in-Some.ensures.0 c.in-Some.ensures.1 c.loop-part-test.false c.loop-part.invariant
