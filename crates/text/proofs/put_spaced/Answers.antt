-- `text::put_spaced` meets its contract: a number more each time. Assumes nothing.
use Rattle.std.proofs.Common.{◌+◌, ◌*◌, ◌≤◌, length, take, length-take-le, arith}
use Rattle.std.proofs.lemmas.List.{take_more}
use Rattle.words.specs.Writing.{number_most}
use Rattle.text.proofs.Parts.{none_spaced, spaced_more}
use Rattle.text.proofs.put_spaced.Goals as goal

pub loop-n-init : goal.loop-n-init
loop-n-init c = none_spaced _ _

pub loop-n-preserved : goal.loop-n-preserved
loop-n-preserved c =
    let room : c.args.at + (length (take c.loop-n.n-index c.args.numbers.now) + 1) * number_most ≤ length c.args.out.now =
    omega (arith, length-take-le c.loop-n.n-index c.args.numbers.now (omega arith)) in
    rw (take_more c.args.numbers.now c.loop-n.n-index 0 c.loop-n-test.true)
    (spaced_more _ _ _ _ _ _ _ _ room c.loop-n.invariant c.put_number-to.ensures)
