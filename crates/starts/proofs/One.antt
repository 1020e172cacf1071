-- Any two results that meet a public function's promise are equal. Assumes nothing.
use mathlib.Core.Path.{◌≡◌, sym, ◌∙◌}
use mathlib.Core.Bool.{Bool}
use Prim.Native.Nat.{ℕ}
use Rattle.std.specs.Prelude.{Result}
use Rattle.base.proofs.One.{Only, only}
use Rattle.base.specs.Failures.{failure_no}
use Rattle.base.specs.declared.reason.Failure.{Failure}
use Rattle.base.proofs.Failures.{one_outcome}
use Rattle.units.specs.declared.Micros.{Micros}
use Rattle.events.specs.declared.Side.{Side}
use Rattle.starts.specs.Starts.{origin_of, complement, judged, is_over, is_last, onward, no_start, slow_start, fast_start}
use Rattle.starts.specs.declared.Stage.{Stage}
use Rattle.starts.specs.declared.Start.{Start}

pub origin : (stage : Stage) (fall mark : Micros) → Only (λ (r : Micros). r ≡ origin_of stage fall mark)
origin stage fall mark = only (origin_of stage fall mark)

pub inverse : (x : ℕ) → Only (λ (r : ℕ). r ≡ complement x)
inverse x = only (complement x)

pub judge : (s : Start) (side : Side) (v : ℕ) (gap : Micros) → Only (λ (r : Result Unit Failure). failure_no r ≡ judged s side v gap)
judge s side v gap r other p q = one_outcome r other (p ∙ sym q)

pub is_past : (s : Start) (gap : Micros) → Only (λ (r : Bool). r ≡ is_over s gap)
is_past s gap = only (is_over s gap)

pub is_last_lem : (stage : Stage) → Only (λ (r : Bool). r ≡ is_last stage)
is_last_lem stage = only (is_last stage)

pub go_onward : (s : Start) (v : ℕ) → Only (λ (r : Start). r ≡ onward s v)
go_onward s v = only (onward s v)

pub none : Only (λ (r : Start). r ≡ no_start)
none = only no_start

pub slow : (address : ℕ) → Only (λ (r : Start). r ≡ slow_start address)
slow address = only (slow_start address)

pub fast : Only (λ (r : Start). r ≡ fast_start)
fast = only fast_start
