-- A number is of one reason of a failed initialization alone, so that a promise on the number of an answer fixes the answer. Assumes nothing.
use mathlib.Core.Path.{◌≡◌, refl, sym, ap, ◌∙◌}
use mathlib.Core.Bool.{false}
use native.Mathlib.Omega.{arith}
use Rattle.std.specs.Prelude.{ℕ, Result, Ok, Err, eqb, if◌then◌else◌}
use Rattle.base.specs.Reports.{no_reason}
use Rattle.base.proofs.One.{Only, only}
use Rattle.base.specs.Failures.{failure_number, failure_no}
use Rattle.base.specs.declared.reason.Failure.{Failure}
use Rattle.base.specs.declared.reason.Failure.TheVariants.{WindowOver, Closed, WrongLow, WrongSide, TooEarly, Misfit}

-- the failure of a number
abbrev failure_by : ℕ → Failure
failure_by n =
    if eqb n 1 then WindowOver else
    if eqb n 2 then Closed else
    if eqb n 3 then WrongLow else
    if eqb n 4 then WrongSide else
    if eqb n 5 then TooEarly else Misfit

failure_back : (a : Failure) → failure_by (failure_number a) ≡ a
unfolding failure_number
failure_back WindowOver = refl
failure_back Closed = refl
failure_back WrongLow = refl
failure_back WrongSide = refl
failure_back TooEarly = refl
failure_back Misfit = refl

pub one_failure : (a b : Failure) → failure_number a ≡ failure_number b → a ≡ b
one_failure a b e = sym (failure_back a) ∙ (λ i. failure_by (e i)) ∙ failure_back b

-- a failure has a reason
pub is_some : (why : Failure) → eqb (failure_number why) no_reason ≡ false
unfolding failure_number
is_some WindowOver = refl
is_some Closed = refl
is_some WrongLow = refl
is_some WrongSide = refl
is_some TooEarly = refl
is_some Misfit = refl

not_none : (why : Failure) → failure_number why ≡ no_reason → ⊥
unfolding failure_number
not_none WindowOver e = omega (arith, e)
not_none Closed e = omega (arith, e)
not_none WrongLow e = omega (arith, e)
not_none WrongSide e = omega (arith, e)
not_none TooEarly e = omega (arith, e)
not_none Misfit e = omega (arith, e)

pub one_outcome : (a b : Result Unit Failure) → failure_no a ≡ failure_no b → a ≡ b
unfolding failure_no
one_outcome (Ok a) (Ok b) e = refl
one_outcome (Ok a) (Err why) e = absurd (not_none why (sym e))
one_outcome (Err why) (Ok b) e = absurd (not_none why e)
one_outcome (Err why) (Err other) e = ap Err (one_failure why other e)

-- any two results that meet the promise of `u8::from` are equal
pub failure : (why : Failure) → Only (λ (n : ℕ). n ≡ failure_number why)
failure why = only (failure_number why)
