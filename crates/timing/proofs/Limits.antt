-- No limit in comparisons: the number that stands for it is above every number of microseconds, so that a plain comparison is right.
-- Assumes nothing.
use mathlib.Core.Path.{◌≡◌, refl}
use mathlib.Core.Bool.{Bool, true, false, ◌&&◌, not}
use Prim.Native.Nat.{◌≤◌}
use native.Mathlib.Omega.{arith}
use borrow.Author.Tests.{eqb-true, le-ltb}
use Rattle.units.specs.Units.{is_earlier}
use Rattle.units.specs.declared.Micros.{Micros}
use Rattle.timing.specs.Timing.{is_unlimited, is_passed}
use Rattle.timing.specs.declared.Limit.{Limit}

pub plainly_passed : (l : Limit) (gap : Micros) → gap.0 ≤ 18_446_744_073_709_551_615 → is_earlier l.0 gap ≡ is_passed l gap
unfolding is_passed is_unlimited
plainly_passed l gap h = by_limit (is_unlimited l) refl
  where
    by_limit : (b : Bool) → is_unlimited l ≡ b → is_earlier l.0 gap ≡ (not b && is_earlier l.0 gap)
    by_limit true e = le-ltb l.0.0 gap.0 (let m = eqb-true l.0.0 18_446_744_073_709_551_615 e in omega arith)
    by_limit false e = refl
