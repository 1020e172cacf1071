-- While 20 ms have not passed since the mark, what is open stays as it is. (That they have not while something is still open is `passed_recent` of `link`.)
-- Assumes nothing.
use Prim.Native.Nat.{◌+◌, ◌≤◌}
use mathlib.Core.Bool.{true, false, false≢true}
use mathlib.Core.Path.{◌≡◌}
use native.Mathlib.Omega.{arith}
use borrow.Author.Tests.{ltb-false, le-ltb}
use Rattle.units.specs.Units.{gap_of}
use Rattle.units.specs.declared.Micros.{Micros}
use Rattle.phases.specs.Phases.{is_open}
use Rattle.phases.specs.declared.State.{State}
use Rattle.phases.specs.declared.State.TheVariants.{Down, Starting, Quiet, Held, Damage}
use Rattle.phases.specs.declared.Phase.{Phase}
use Rattle.moves.specs.Moves.{is_silent}
use Rattle.reports.specs.declared.Run.{Run}
use Rattle.link.specs.Handling.{passed}
use Rattle.link.specs.Quick.{calm_in, is_calm}
use Rattle.link.proofs.Ways.{passed_calm}

-- in numbers
pub not_silent : (mark start : Micros) → is_silent (gap_of mark start) ≡ false → start.0 ≤ mark.0 + 20_000
unfolding is_silent
not_silent mark start h = omega (arith, ltb-false 20_000 (gap_of mark start).0 h)

pub in_time : (mark start : Micros) → start.0 ≤ mark.0 + 20_000 → is_silent (gap_of mark start) ≡ false
unfolding is_silent
in_time mark start h = le-ltb 20_000 (gap_of mark start).0 (omega arith)

-- what is open stays
open_calm : (st : State) (p : Phase) (mark start : Micros) → is_open st ≡ true → is_silent (gap_of mark start) ≡ false → calm_in st p mark start ≡ true
unfolding is_open
open_calm Down p mark start o h = absurd (false≢true o)
open_calm Starting p mark start o h = absurd (false≢true o)
open_calm Quiet p mark start o h = absurd (false≢true o)
open_calm Held p mark start o h = rw h
open_calm Damage p mark start o h = rw h

pub open_stays : (r : Run) (mark start : Micros) → is_open r.phase.state ≡ true → is_silent (gap_of mark start) ≡ false → passed r mark start ≡ r
unfolding is_calm
open_stays r mark start o h = passed_calm r mark start (open_calm r.phase.state r.phase mark start o h)
