-- Any two results that meet a public function's promise are equal. Assumes nothing.
use mathlib.Core.Path.{◌≡◌, sym, ◌∙◌}
use mathlib.Core.Bool.{Bool}
use Prim.Native.Nat.{ℕ}
use Rattle.std.specs.Prelude.{Option}
use Rattle.base.proofs.One.{Only, only}
use Rattle.base.specs.Reasons.{why_of}
use Rattle.base.specs.declared.reason.Damage.{Damage}
use Rattle.base.proofs.Reasons.{one_why}
use Rattle.talk.specs.declared.Message.{Message}
use Rattle.units.specs.declared.Micros.{Micros}
use Rattle.talk.specs.declared.Part.{Part}
use Rattle.talk.specs.declared.Reply.{Reply}
use Rattle.talk.specs.declared.Request.{Request}
use Rattle.keys.specs.declared.Pair.{Pair}
use Rattle.events.specs.declared.Side.{Side}
use Rattle.timing.specs.declared.Windows.{Windows}
use Rattle.talk.specs.Talk.{is_first, frame_reason, first_reason, begun, begun_by, later_reason, is_sum, end_reason, grown, request_of, windows_after, request_after, is_stopped}

pub is_first_lem : (reply : Reply) → Only (λ (r : Bool). r ≡ is_first reply)
is_first_lem reply = only (is_first reply)

pub frame_reason_lem : (kb1 : ℕ) (reply : Reply) (w : Windows) (side : Side) (f : ℕ) (gap : Micros) → Only (λ (r : Option Damage). why_of r ≡ frame_reason kb1 reply w side f gap)
frame_reason_lem kb1 reply w side f gap r s p q = one_why r s (p ∙ sym q)

pub first_reason_lem : (pair : Pair) (reply : Reply) (w : Windows) (side : Side) (f : ℕ) (gap : Micros) → Only (λ (r : Option Damage). why_of r ≡ first_reason pair reply w side f gap)
first_reason_lem pair reply w side f gap r s p q = one_why r s (p ∙ sym q)

pub begin_frame : (side : Side) (f : ℕ) → Only (λ (r : Message). r ≡ begun side f)
begin_frame side f = only (begun side f)

pub begin : (pair : Pair) (side : Side) (f : ℕ) → Only (λ (r : Message). r ≡ begun_by pair side f)
begin pair side f = only (begun_by pair side f)

pub later_reason_lem : (m : Message) (side : Side) (v : ℕ) → Only (λ (r : Option Damage). why_of r ≡ later_reason m side v)
later_reason_lem m side v r s p q = one_why r s (p ∙ sym q)

pub is_sum_lem : (part : Part) → Only (λ (r : Bool). r ≡ is_sum part)
is_sum_lem part = only (is_sum part)

pub end_reason_lem : (m : Message) → Only (λ (r : Option Damage). why_of r ≡ end_reason m)
end_reason_lem m r s p q = one_why r s (p ∙ sym q)

pub grow : (m : Message) (v : ℕ) → Only (λ (r : Message). r ≡ grown m v)
grow m v = only (grown m v)

pub request_of_lem : (m : Message) → Only (λ (r : Request). r ≡ request_of m)
request_of_lem m = only (request_of m)

pub windows_after_lem : (request : Request) (m : Message) (pair : Pair) (seven : ℕ) (w : Windows) → Only (λ (r : Windows). r ≡ windows_after request m pair seven w)
windows_after_lem request m pair seven w = only (windows_after request m pair seven w)

pub request_after_lem : (request : Request) (m : Message) → Only (λ (r : Request). r ≡ request_after request m)
request_after_lem request m = only (request_after request m)

pub is_stopped_lem : (request : Request) → Only (λ (r : Bool). r ≡ is_stopped request)
is_stopped_lem request = only (is_stopped request)
