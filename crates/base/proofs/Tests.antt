-- Laws on tests, for the crates above: a test taken apart, a choice followed both ways, a test computed at each number below a bound.
-- Assumes nothing.
use mathlib.Core.Path.{◌≡◌, refl}
use mathlib.Core.Bool.{Bool, true, false, ◌&&◌, ◌||◌, false≢true}
use mathlib.Core.Logic.{◌⊎◌, inl, inr, ⊎_elim}
use Prim.Native.Nat.{ℕ, zero, suc, ◌<◌}
use native.Mathlib.Nat.{eq-or-lt_of_le, le_of_suc-le-suc}
use native.Mathlib.Omega.{arith}
use Rattle.std.specs.Prelude.{if◌then◌else◌}
use Rattle.base.specs.Numbers.{taken}

-- both tests of a conjunction hold
pub and_split : (a b : Bool) → (a && b) ≡ true → (a ≡ true) × (b ≡ true)
and_split true b e = (refl, e)
and_split false b e = absurd (false≢true e)

-- one test of a disjunction holds
pub or_split : (a b : Bool) → (a || b) ≡ true → (a ≡ true) ⊎ (b ≡ true)
or_split true b e = inl refl
or_split false b e = inr e

-- what holds on both ways of a test holds of what it picks
pub by_test : {A : Type 0} (P : A → Type 0) (b : Bool) {x y : A} → (b ≡ true → P x) → (b ≡ false → P y) → P (if b then x else y)
by_test P true f g = f refl
by_test P false f g = g refl

-- an answer whose number is 0, where the second way gives another number, came by the first
pub taken_by : {A : Type 0} (number : A → ℕ) (b : Bool) (x y : A) → (number y ≡ taken → ⊥) → number (if b then x else y) ≡ taken → b ≡ true
taken_by number true x y h e = refl
taken_by number false x y h e = absurd (h e)

-- a test that antt computes at each number below n, and what it says of one
abbrev pub up_to : (ℕ → Bool) → ℕ → Bool
up_to f zero = true
up_to f (suc n) = f n && up_to f n

pub at_each : (f : ℕ → Bool) (n : ℕ) → up_to f n ≡ true → (k : ℕ) → k < n → f k ≡ true
at_each f zero t k h = absurd (omega arith)
at_each f (suc n) t k h =
    let p = and_split (f n) (up_to f n) t in
    ⊎_elim (λ e. rw e p.0) (λ l. at_each f n p.1 k l) (eq-or-lt_of_le (le_of_suc-le-suc h))
