-- An initialization under way, on any link: what it is to complete one (`Completes`), and how an event leads to one (`Leads`), a start from what it finds
-- (`judging`). While its window is open, time leaves it as it is.
-- Assumes nothing.
use Prim.Native.Nat.{ℕ}
use mathlib.Core.Bool.{Bool, true, false, not, false≢true}
use mathlib.Core.Path.{◌≡◌, ◌∙◌, sym, ap}
use mathlib.Core.Logic.{◌⊎◌}
use Rattle.base.specs.Reports.{no_reason, restarted}
use Rattle.units.specs.Units.{micros}
use Rattle.units.specs.declared.Micros.{Micros}
use Rattle.events.specs.declared.Kind.TheVariants.{Address, WakeUp, Byte, Tick, Other}
use Rattle.events.specs.declared.Event.{Event}
use Rattle.starts.specs.Starts.{judged, is_over, is_last, onward, slow_start, fast_start}
use Rattle.phases.specs.Phases.{is_starting, starting}
use Rattle.phases.specs.declared.State.{State}
use Rattle.phases.specs.declared.State.TheVariants.{Down, Starting, Quiet, Held, Damage}
use Rattle.phases.specs.declared.Phase.{Phase}
use Rattle.moves.specs.Moves.{since_origin, is_idle, is_good_low}
use Rattle.reports.specs.declared.Run.{Run}
use Rattle.link.specs.Handling.{passed, shut, begun}
use Rattle.link.specs.Quick.{calm_in, is_calm}
use Rattle.link.specs.declared.Link.{Link}
use Rattle.link.proofs.Ways.{passed_calm}

-- an initialization is under way
abbrev pub In : Phase → Type 0
In p = is_starting p.state ≡ true

pub carried : (p q : Phase) → p ≡ q → In p → In q
carried p q e i = sym (ap (λ (x : Phase). is_starting x.state) e) ∙ i

-- the present window's end has not passed
abbrev pub Open : Phase → Micros → Micros → Type 0
Open p mark time = is_over p.start (since_origin p mark time) ≡ false

-- and while it has not, time leaves an initialization as it is
calm_by : (st : State) (p : Phase) (mark start : Micros) → is_starting st ≡ true → Open p mark start → calm_in st p mark start ≡ true
unfolding is_starting
calm_by Down p mark start i o = absurd (false≢true i)
calm_by Starting p mark start i o = ap not o
calm_by Quiet p mark start i o = absurd (false≢true i)
calm_by Held p mark start i o = absurd (false≢true i)
calm_by Damage p mark start i o = absurd (false≢true i)

pub passed_open : (r : Run) (mark start : Micros) → In r.phase → Open r.phase mark start → passed r mark start ≡ r
unfolding is_calm
passed_open r mark start i o = passed_calm r mark start (calm_by r.phase.state r.phase mark start i o)

module _ (l : Link) (e : Event) where
  -- what the initialization of a phase makes of the event's byte
  abbrev pub judges : Phase → ℕ
  judges p = judged p.start e.side e.value (since_origin p l.mark e.start)

  -- THE BYTE COMPLETES THE INITIALIZATION THAT THE LINK IS IN
  pub record Completes : Type 0 where
    pub byte : e.kind ≡ Byte
    pub was : In l.phase
    pub window : Open l.phase l.mark e.start
    pub right : judges l.phase ≡ no_reason
    pub last : is_last l.phase.start.stage ≡ true

  -- the phase that a start is judged from: time has passed, and what was open is closed
  abbrev pub judging : Phase
  judging = (shut (passed (begun l e) l.mark e.start) restarted).phase

  -- the line was idle long enough for it
  abbrev pub has_idled : Bool
  has_idled = is_idle judging.idle l.mark e.start

  -- THE EVENT LEADS TO AN INITIALIZATION: it starts one, or the link's goes on by a right byte that is not the last, or waits
  pub data Leads : Phase → Type 0 where
    begins_slow : e.kind ≡ Address → has_idled ≡ true → Leads (starting (micros 0) (slow_start e.value))
    begins_fast : e.kind ≡ WakeUp → has_idled ≡ true → is_good_low e.start e.end ≡ true → Leads (starting e.start fast_start)
    grows : e.kind ≡ Byte → In l.phase → Open l.phase l.mark e.start → judges l.phase ≡ no_reason → is_last l.phase.start.stage ≡ false
        → Leads (starting l.phase.fall (onward l.phase.start e.value))
    waits : (e.kind ≡ Tick) ⊎ (e.kind ≡ Other) → In l.phase → Open l.phase l.mark e.start → Leads l.phase
