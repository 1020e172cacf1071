-- Any two results that meet a public function's promise are equal. Assumes nothing.
use mathlib.Core.Path.{◌≡◌}
use mathlib.Core.Bool.{Bool}
use Prim.Native.Nat.{ℕ}
use Rattle.base.proofs.One.{Only, only}
use Rattle.talk.specs.declared.Message.{Message}
use Rattle.units.specs.declared.Micros.{Micros}
use Rattle.phases.specs.declared.Phase.{Phase}
use Rattle.starts.specs.declared.Start.{Start}
use Rattle.phases.specs.declared.State.{State}
use Rattle.phases.specs.Phases.{is_down, is_starting, is_quiet, is_held, is_open, down, off, starting, connected, holding, damaged, settled, framed}

pub is_down_lem : (state : State) → Only (λ (r : Bool). r ≡ is_down state)
is_down_lem state = only (is_down state)

pub is_starting_lem : (state : State) → Only (λ (r : Bool). r ≡ is_starting state)
is_starting_lem state = only (is_starting state)

pub is_quiet_lem : (state : State) → Only (λ (r : Bool). r ≡ is_quiet state)
is_quiet_lem state = only (is_quiet state)

pub is_held_lem : (state : State) → Only (λ (r : Bool). r ≡ is_held state)
is_held_lem state = only (is_held state)

pub is_open_lem : (state : State) → Only (λ (r : Bool). r ≡ is_open state)
is_open_lem state = only (is_open state)

pub go_down : (idle : Micros) → Only (λ (r : Phase). r ≡ down idle)
go_down idle = only (down idle)

pub go_off : Only (λ (r : Phase). r ≡ off)
go_off = only off

pub begin_start : (fall : Micros) (start : Start) → Only (λ (r : Phase). r ≡ starting fall start)
begin_start fall start = only (starting fall start)

pub connect : (start : Start) → Only (λ (r : Phase). r ≡ connected start)
connect start = only (connected start)

pub hold : (p : Phase) (m : Message) → Only (λ (r : Phase). r ≡ holding p m)
hold p m = only (holding p m)

pub damage : (p : Phase) (why : ℕ) → Only (λ (r : Phase). r ≡ damaged p why)
damage p why = only (damaged p why)

pub settle : (p : Phase) → Only (λ (r : Phase). r ≡ settled p)
settle p = only (settled p)

pub end_frame : (p : Phase) → Only (λ (r : Phase). r ≡ framed p)
end_frame p = only (framed p)
