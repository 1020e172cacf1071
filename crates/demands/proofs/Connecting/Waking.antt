-- What starts an initialization: the link's tests of how long the line was idle before an address or wake-up, and how long a wake-up was low, are document
-- 01's and 02's times. Each test compares a difference of two times, so this is arithmetic.
-- Assumes nothing.
use Prim.Native.Nat.{◌+◌, ◌-◌, ◌≤◌, ◌<◌}
use mathlib.Core.Bool.{true, false, not}
use mathlib.Core.Logic.{◌↔◌}
use mathlib.Core.Path.{◌≡◌, refl, ap}
use native.Mathlib.Omega.{arith}
use lib.Dec.{ltb}
use borrow.Author.Tests.{ltb-true, ltb-false, lt-ltb, le-ltb, not-true, not-false}
use Rattle.base.proofs.Tests.{and_split}
use Rattle.units.specs.declared.Micros.{Micros}
use Rattle.events.specs.declared.Event.{Event}
use Rattle.moves.specs.Moves.{is_idle, is_good_low}
use Rattle.demands.specs.Starts.{Low}

-- ---- idle long enough, for an event that does not start before the mark
module _ (idle mark start : Micros) (order : mark.0 ≤ start.0) where
  pub not_idle_time : (is_idle idle mark start ≡ false) ↔ (start.0 < mark.0 + idle.0)
  unfolding is_idle
  not_idle_time = (
    λ i. let h = ltb-true (start.0 - mark.0) idle.0 (not-false (ltb (start.0 - mark.0) idle.0) i) in omega arith,
    λ h. ap not (lt-ltb (start.0 - mark.0) idle.0 (omega arith)),
  )

  pub idle_time : (is_idle idle mark start ≡ true) ↔ (mark.0 + idle.0 ≤ start.0)
  unfolding is_idle
  idle_time = (
    λ i. let h = ltb-false (start.0 - mark.0) idle.0 (not-true (ltb (start.0 - mark.0) idle.0) i) in omega arith,
    λ h. ap not (le-ltb (start.0 - mark.0) idle.0 (omega arith)),
  )

-- ---- low long enough
pub good_low : (e : Event) → (is_good_low e.start e.end ≡ true) ↔ Low e
unfolding is_good_low
good_low e =
    let d = e.end.0 - e.start.0 in (
      λ g.
          let x = and_split (not (ltb d 24_000)) (not (ltb 26_000 d)) g in
          let a = ltb-false d 24_000 (not-true (ltb d 24_000) x.0) in
          let b = ltb-false 26_000 d (not-true (ltb 26_000 d) x.1) in
          (omega arith, omega arith),
      λ w.
          let a = w.0 in
          let b = w.1 in
          rw (le-ltb d 24_000 (omega arith), le-ltb 26_000 d (omega arith)) refl,
    )
