-- Counting in steps, proved once over the step's size w. The three minima cite it at 500 microseconds.
-- Assumes nothing.
use mathlib.Core.Path.{◌≡◌}
use Prim.Native.Nat.{ℕ, ◌*◌, ◌≤◌, ◌<◌}
use native.Mathlib.Nat.{mul-div_cancel}
use borrow.Author.Tests.{le-leb}
use Rattle.units.specs.Units.{whole_steps}

-- so many steps, turned into microseconds and back, are so many steps
pub steps_back : (w n : ℕ) → 0 < w → n ≤ 4_294_967_295 → whole_steps w (n * w) ≡ n
unfolding whole_steps
steps_back w n pos h = rw (mul-div_cancel n pos, le-leb n 4_294_967_295 h)
