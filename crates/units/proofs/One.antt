-- Any two results that meet a public function's promise are equal. Assumes nothing.
use mathlib.Core.Path.{◌≡◌}
use Prim.Native.Nat.{ℕ}
use Rattle.base.proofs.One.{Only, only}
use Rattle.units.specs.Units.{steps_by, byte_of, micros_of, steps_of, gap_of}
use Rattle.units.specs.declared.Micros.{Micros}
use Rattle.units.specs.declared.Steps.{Steps}

-- over the length w of a step
pub by_code : (w code : ℕ) → Only (λ (r : Steps w). r ≡ steps_by w code)
by_code w code = only (steps_by w code)

pub code : (w : ℕ) (s : Steps w) → Only (λ (r : ℕ). r ≡ byte_of s.0)
code w s = only (byte_of s.0)

pub micros_lem : (w : ℕ) (s : Steps w) → Only (λ (r : Micros). r ≡ micros_of w s)
micros_lem w s = only (micros_of w s)

pub of : (w : ℕ) (m : Micros) → Only (λ (r : Steps w). r ≡ steps_of w m)
of w m = only (steps_of w m)

pub gap : (from to : Micros) → Only (λ (r : Micros). r ≡ gap_of from to)
gap from to = only (gap_of from to)
