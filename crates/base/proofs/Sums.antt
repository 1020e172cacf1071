-- Any two results that meet a public function's promise are equal. Assumes nothing.
use mathlib.Core.Path.{◌≡◌}
use mathlib.Core.Bool.{Bool}
use Prim.Native.Nat.{ℕ}
use Rattle.std.specs.Prelude.{if◌then◌else◌}
use Rattle.base.specs.Sums.{byte_sum, count_sum}
use Rattle.base.proofs.One.{Only, only}

pub either : {A : Type 0} (first : Bool) (a b : A) → Only (λ (r : A). r ≡ (if first then a else b))
either first a b = only (if first then a else b)

pub byte_sum_lem : (a b : ℕ) → Only (λ (r : ℕ). r ≡ byte_sum a b)
byte_sum_lem a b = only (byte_sum a b)

pub count_sum_lem : (a b : ℕ) → Only (λ (r : ℕ). r ≡ count_sum a b)
count_sum_lem a b = only (count_sum a b)
