-- The short way of `is_full`: a number that has the bits of several is at least each of them, so where it is below the most events, nothing is above.
-- Assumes nothing.
use Prim.Native.Nat.{ℕ, ◌≤◌, ◌<◌}
use mathlib.Core.Bool.{false}
use mathlib.Core.Path.{◌≡◌, refl}
use native.Mathlib.Omega.{arith}
use borrow.Author.Tests.{lt-leb, le-ltb}
use lib.Bits.{bit_or, or_add_and, and_le_l, and_le_r}
use Rattle.reports.specs.Counting.{most, is_full}
use Rattle.reports.specs.declared.Counts.{Counts}

or_left : (a b : ℕ) → a ≤ bit_or a b
or_left a b = omega (arith, or_add_and a b, and_le_r a b)

or_right : (a b : ℕ) → b ≤ bit_or a b
or_right a b = omega (arith, or_add_and a b, and_le_l a b)

-- below a bound with the bits of one more number: so are what was there and that number
below : (a b : ℕ) → bit_or a b < most → (a < most) × (b ≤ most)
below a b h =
    let l = or_left a b in
    let r = or_right a b in
    (omega (arith, l, h), omega (arith, r, h))

pub not_full : (n : ℕ) (c : Counts)
    → bit_or (bit_or (bit_or (bit_or (bit_or (bit_or (bit_or n c.heard) c.framed) c.damaged) c.started) c.outside) c.frames) c.damages < most
    → is_full n c ≡ false
unfolding is_full
not_full n c h =
    let h7 = below _ c.damages h in
    let h6 = below _ c.frames h7.0 in
    let h5 = below _ c.outside h6.0 in
    let h4 = below _ c.started h5.0 in
    let h3 = below _ c.damaged h4.0 in
    let h2 = below _ c.framed h3.0 in
    let h1 = below n c.heard h2.0 in
    rw (lt-leb most n h1.0, le-ltb most c.heard h1.1, le-ltb most c.framed h2.1, le-ltb most c.damaged h3.1, le-ltb most c.started h4.1, le-ltb most c.outside h5.1, le-ltb most c.frames h6.1, le-ltb most c.damages h7.1)
    refl
