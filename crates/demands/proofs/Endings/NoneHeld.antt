-- Bytes are held in a session or in an initialization only: a link that is in neither is down, and holds nothing. Assumes nothing.
use mathlib.Core.Bool.{Bool, true, false}
use mathlib.Core.Path.{◌≡◌, refl}
use Rattle.phases.specs.Phases.{is_starting, is_open}
use Rattle.phases.proofs.StateTests.{open_connected}
use Rattle.demands.specs.Logs.{Log, InBytes}
use Rattle.demands.specs.Refusals.{Not}
use Rattle.demands.specs.Histories.{after}
use Rattle.demands.specs.Ours.{ours}
use Rattle.demands.specs.Accounts.{held_in}
use Rattle.demands.specs.Sessions.{SomeSession}
use Rattle.demands.specs.Endings.{Starting}
use Rattle.demands.proofs.Sessions.SessionExactly.{session_exactly}
use Rattle.demands.proofs.Endings.StartingExactly.{starting_exactly}
use Rattle.demands.proofs.Accounts.Accounted.{idle_none}

pub none_held_lem : (es : Log) → InBytes es → Not (SomeSession ours es) → Not (Starting ours es) → held_in ours es ≡ 0
none_held_lem es b out off =
    idle_none es (shut (is_open (after ours es).link.phase.state) refl) (apart (is_starting (after ours es).link.phase.state) refl)
  where
    shut : (c : Bool) → is_open (after ours es).link.phase.state ≡ c → is_open (after ours es).link.phase.state ≡ false
    shut true q = absurd (out ((session_exactly es b).0 (open_connected (after ours es).link.phase.state q)))
    shut false q = q

    apart : (c : Bool) → is_starting (after ours es).link.phase.state ≡ c → is_starting (after ours es).link.phase.state ≡ false
    apart true q = absurd (off ((starting_exactly es b).0 q))
    apart false q = q
