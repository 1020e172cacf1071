-- One read after another: what they gave before the last was listed, and the last is still to be. Assumes nothing.
use Rattle.std.proofs.Common.{◌≡◌, length, take}
use Rattle.std.specs.Io.KnownBytes.{prepend_known}
use Rattle.list_events.specs.Sending.{HasRead}
use Rattle.list_events.proofs.Laws.{Going}
use Rattle.list_events.proofs.list_all.Given as goal

abbrev pub invariant-loop : goal.invariant-loop
invariant-loop g l = record {
  room : length l.out ≡ length l.initial.out;
  going : HasRead (g.R.Read.remaining l.initial.input) l.fn.first l.initial.buf
      → Going (prepend_known (take l.fn.first l.initial.buf) (g.R.Read.remaining l.initial.input)) (g.R.Read.remaining l.input) l.got l.buf
      (g.W.Write.contents l.initial.to) (g.W.Write.contents l.to) l.l;
}
