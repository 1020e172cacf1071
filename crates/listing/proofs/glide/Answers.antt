-- The lines of bytes that go on with the message held. Assumes nothing.
use Rattle.std.proofs.Common.{◌∙◌, refl, sym, arith}
use Rattle.listing.proofs.Laws.{gliding_start, gliding_on, row_within, run_ahead}
use Rattle.listing.proofs.glide.Goals as goal

pub loop-row-init : goal.loop-row-init
loop-row-init c = (gliding_start _ _ _ _, refl)

pub loop-row-smaller : goal.loop-row-smaller
loop-row-smaller c =
    let f = sym c.byte_line.ensures ∙ c.in-Some.is in
    omega (arith, row_within _ _ _ f, run_ahead _ _ _ f)

pub loop-row-preserved : goal.loop-row-preserved
loop-row-preserved c =
    let y = c.loop-row.y in
    let i = c.loop-row.invariant in
    rw (c.count_byte-y.ensures, c.run_on-y.ensures)
    (gliding_on _ _ _ _ y.link y.counts y.at _ (sym c.byte_line.ensures ∙ c.in-Some.is) (sym c.runs_on.ensures ∙ c.if-not-runs_on.false) i.0, i.1)
