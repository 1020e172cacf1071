-- `ask::questions::put_built` is safe: the frame is no longer than the buffer. Assumes nothing.
use Rattle.std.proofs.Common.{rules, sym}
use lib.Seq.{length-take-le}
use Rattle.ask.proofs.Built.{built_inside}
use Rattle.ask.proofs.questions.put_built.Goals as goal

pub slice_bounds-put_bytes-end : goal.slice_bounds-put_bytes-end
slice_bounds-put_bytes-end c = built_inside _ _ _ _ _ (rw c.in-Ok.is at c.build-built.ensures) (search rules)

pub slice_bounds-put_bytes-end-in-Ok : goal.slice_bounds-put_bytes-end-in-Ok
slice_bounds-put_bytes-end-in-Ok c =
    sym (length-take-le _ _ (built_inside _ _ _ _ _ (rw c.in-Ok.is at c.build-built.ensures) (search rules)))
