-- A number is of one reason of damage alone, and of one reason of down, so that a promise on the number of an answer fixes the answer.
-- Assumes nothing.
use mathlib.Core.Path.{◌≡◌, refl, sym, ap, ◌∙◌}
use mathlib.Core.Bool.{false}
use native.Mathlib.Omega.{arith}
use Rattle.std.specs.Prelude.{ℕ, Option, Some, None, eqb, if◌then◌else◌}
use Rattle.base.specs.Reports.{no_reason}
use Rattle.base.proofs.One.{Only, only}
use Rattle.base.specs.Reasons.{damage_number, down_number, why_of}
use Rattle.base.specs.declared.reason.Damage.{Damage}
use Rattle.base.specs.declared.reason.Damage.TheVariants.{BrokenOff, Closed, Early, Stray, ModeOne, WrongForm, OtherSide, WrongLength, WrongSum}
use Rattle.base.specs.declared.reason.Down.{Down}
use Rattle.base.specs.declared.reason.Down.TheVariants.{Stopped, IdleOver, Dropped, Restarted}

-- the reason of damage of a number
abbrev damage_by : ℕ → Damage
damage_by n =
    if eqb n 1 then BrokenOff else
    if eqb n 2 then Closed else
    if eqb n 3 then Early else
    if eqb n 4 then Stray else
    if eqb n 5 then ModeOne else
    if eqb n 6 then WrongForm else
    if eqb n 7 then OtherSide else
    if eqb n 8 then WrongLength else WrongSum

damage_back : (a : Damage) → damage_by (damage_number a) ≡ a
unfolding damage_number
damage_back BrokenOff = refl
damage_back Closed = refl
damage_back Early = refl
damage_back Stray = refl
damage_back ModeOne = refl
damage_back WrongForm = refl
damage_back OtherSide = refl
damage_back WrongLength = refl
damage_back WrongSum = refl

pub one_damage : (a b : Damage) → damage_number a ≡ damage_number b → a ≡ b
one_damage a b e = sym (damage_back a) ∙ (λ i. damage_by (e i)) ∙ damage_back b

-- the reason of down of a number
abbrev down_by : ℕ → Down
down_by n =
    if eqb n 1 then Stopped else
    if eqb n 2 then IdleOver else
    if eqb n 3 then Dropped else Restarted

down_back : (a : Down) → down_by (down_number a) ≡ a
unfolding down_number
down_back Stopped = refl
down_back IdleOver = refl
down_back Dropped = refl
down_back Restarted = refl

pub one_down : (a b : Down) → down_number a ≡ down_number b → a ≡ b
one_down a b e = sym (down_back a) ∙ (λ i. down_by (e i)) ∙ down_back b

-- a reason of damage is a reason
pub is_some : (why : Damage) → eqb (damage_number why) no_reason ≡ false
unfolding damage_number
is_some BrokenOff = refl
is_some Closed = refl
is_some Early = refl
is_some Stray = refl
is_some ModeOne = refl
is_some WrongForm = refl
is_some OtherSide = refl
is_some WrongLength = refl
is_some WrongSum = refl

not_none : (why : Damage) → damage_number why ≡ no_reason → ⊥
unfolding damage_number
not_none BrokenOff e = omega (arith, e)
not_none Closed e = omega (arith, e)
not_none Early e = omega (arith, e)
not_none Stray e = omega (arith, e)
not_none ModeOne e = omega (arith, e)
not_none WrongForm e = omega (arith, e)
not_none OtherSide e = omega (arith, e)
not_none WrongLength e = omega (arith, e)
not_none WrongSum e = omega (arith, e)

pub one_why : (a b : Option Damage) → why_of a ≡ why_of b → a ≡ b
unfolding why_of
one_why None None e = refl
one_why None (Some why) e = absurd (not_none why (sym e))
one_why (Some why) None e = absurd (not_none why e)
one_why (Some why) (Some other) e = ap Some (one_damage why other e)

-- any two results that meet the promise of `u8::from` are equal
pub damage : (why : Damage) → Only (λ (n : ℕ). n ≡ damage_number why)
damage why = only (damage_number why)

pub down : (why : Down) → Only (λ (n : ℕ). n ≡ down_number why)
down why = only (down_number why)
