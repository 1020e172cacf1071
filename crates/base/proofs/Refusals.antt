-- A number is of one refusal alone, and none is the number of what was taken: so a promise on the number of an answer fixes which refusal it is, if any.
-- Assumes nothing.
use mathlib.Core.Path.{◌≡◌, refl, sym, ap, ◌∙◌}
use mathlib.Core.Bool.{false}
use borrow.Author.Tests.{eqb-false}
use Rattle.std.specs.Prelude.{ℕ, Result, Ok, Err, eqb, if◌then◌else◌}
use Rattle.std.specs.Result.{result_unwrap_or}
use Rattle.base.specs.Numbers.{taken}
use Rattle.base.proofs.One.{Only, only}
use Rattle.base.specs.Refusals.{number_of, no_of}
use Rattle.base.specs.declared.Refusal.{Refusal}
use Rattle.base.specs.declared.Refusal.TheVariants.{Unknown, TooLate, OutOfOrder, TooMany, BadKeys, BadForm, BadLength, NoRoom, BadChecksum, BadTiming}

-- the refusal of a number
abbrev by_number : ℕ → Refusal
by_number n =
    if eqb n 1 then Unknown else
    if eqb n 2 then TooLate else
    if eqb n 3 then OutOfOrder else
    if eqb n 4 then TooMany else
    if eqb n 5 then BadKeys else
    if eqb n 6 then BadForm else
    if eqb n 7 then BadLength else
    if eqb n 8 then NoRoom else
    if eqb n 9 then BadChecksum else BadTiming

numbered_back : (a : Refusal) → by_number (number_of a) ≡ a
unfolding number_of
numbered_back Unknown = refl
numbered_back TooLate = refl
numbered_back OutOfOrder = refl
numbered_back TooMany = refl
numbered_back BadKeys = refl
numbered_back BadForm = refl
numbered_back BadLength = refl
numbered_back NoRoom = refl
numbered_back BadChecksum = refl
numbered_back BadTiming = refl

pub one_number : (a b : Refusal) → number_of a ≡ number_of b → a ≡ b
one_number a b e = sym (numbered_back a) ∙ (λ i. by_number (e i)) ∙ numbered_back b

-- no refusal has the number of what was taken
pub refused : (why : Refusal) → eqb (number_of why) taken ≡ false
unfolding number_of
refused Unknown = refl
refused TooLate = refl
refused OutOfOrder = refl
refused TooMany = refl
refused BadKeys = refl
refused BadForm = refl
refused BadLength = refl
refused NoRoom = refl
refused BadChecksum = refl
refused BadTiming = refl

pub not_taken : (why : Refusal) → number_of why ≡ taken → ⊥
not_taken why e = eqb-false (number_of why) taken (refused why) e

-- the number and the value, or what stands beside a refusal, are of one result
pub one_result : {A : Type 0} (beside : A) (r s : Result A Refusal) → no_of r ≡ no_of s → result_unwrap_or r beside ≡ result_unwrap_or s beside → r ≡ s
unfolding no_of
one_result beside (Ok x) (Ok y) n v = ap Ok v
one_result beside (Ok x) (Err why) n v = absurd (not_taken why (sym n))
one_result beside (Err why) (Ok y) n v = absurd (not_taken why n)
one_result beside (Err why) (Err other) n v = ap Err (one_number why other n)

-- of an answer that has no value
pub one_unit : (r s : Result Unit Refusal) → no_of r ≡ no_of s → r ≡ s
unfolding no_of
one_unit (Ok r) (Ok s) n = refl
one_unit (Ok r) (Err why) n = absurd (not_taken why (sym n))
one_unit (Err why) (Ok s) n = absurd (not_taken why n)
one_unit (Err why) (Err other) n = ap Err (one_number why other n)

-- any two results that meet the promise of `u8::from` are equal
pub number : (why : Refusal) → Only (λ (n : ℕ). n ≡ number_of why)
number why = only (number_of why)
