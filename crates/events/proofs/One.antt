-- Any two results that meet a public function's promise are equal. Assumes nothing.
use mathlib.Core.Path.{◌≡◌, sym, ◌∙◌}
use mathlib.Core.Bool.{Bool}
use Prim.Native.Nat.{ℕ}
use Rattle.std.specs.Prelude.{Result}
use Rattle.base.specs.Refusals.{no_of}
use Rattle.base.specs.declared.Refusal.{Refusal}
use Rattle.base.proofs.Refusals.{one_unit}
use Rattle.base.proofs.One.{Only, only}
use Rattle.units.specs.declared.Micros.{Micros}
use Rattle.events.specs.Events.{kind_by, side_by, is_byte, marks, is_tester, is_unit, same_side, refusal}
use Rattle.events.specs.declared.Kind.{Kind}
use Rattle.events.specs.declared.Side.{Side}
use Rattle.events.specs.declared.Event.{Event}

pub kind_by_lem : (letter : ℕ) → Only (λ (r : Kind). r ≡ kind_by letter)
kind_by_lem letter = only (kind_by letter)

pub side_by_lem : (letter : ℕ) → Only (λ (r : Side). r ≡ side_by letter)
side_by_lem letter = only (side_by letter)

pub is_byte_lem : (kind : Kind) → Only (λ (r : Bool). r ≡ is_byte kind)
is_byte_lem kind = only (is_byte kind)

pub is_marking : (kind : Kind) → Only (λ (r : Bool). r ≡ marks kind)
is_marking kind = only (marks kind)

pub is_tester_lem : (side : Side) → Only (λ (r : Bool). r ≡ is_tester side)
is_tester_lem side = only (is_tester side)

pub is_unit_lem : (side : Side) → Only (λ (r : Bool). r ≡ is_unit side)
is_unit_lem side = only (is_unit side)

pub same_side_lem : (a b : Side) → Only (λ (r : Bool). r ≡ same_side a b)
same_side_lem a b = only (same_side a b)

pub refused : (clock : Micros) (full : Bool) (e : Event) → Only (λ (r : Result Unit Refusal). no_of r ≡ refusal clock full e)
refused clock full e r s p q = one_unit r s (p ∙ sym q)
