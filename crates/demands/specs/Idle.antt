-- THE IDLE TIME that an address or wake-up needs, told by events and reports (document 01: "A or W needs 300 ms from the old mark to its start"; document 02,
-- "One", has other times for the 300 ms). It goes by the latest report 4, report 7 or drop before the start is judged, those of its own event among them.
-- A log here is one of events taken.
-- Assumes nothing.
use Rattle.std.specs.Prelude.{ℕ, ◌+◌, Bool, true, false, ◌&&◌, eqb, if◌then◌else◌}
use Rattle.base.specs.Reports.{connected_report, failed_report, down_report, wrong_low, stopped, idle_over}
use Rattle.units.specs.Units.{micros}
use Rattle.units.specs.declared.Micros.{Micros}
use Rattle.keys.specs.Keys.{pair_of}
use Rattle.timing.specs.Timing.{idle_at_power_on}
use Rattle.events.specs.declared.Kind.{Kind}
use Rattle.events.specs.declared.Kind.TheVariants.{Address, WakeUp, Byte, Tick, Drop, Other}
use Rattle.events.specs.declared.Event.{Event}
use Rattle.reports.specs.declared.Report.{Report}
use Rattle.demands.specs.Logs.{Log, none, ◌▷◌, mark_of, heard_of}
use Rattle.demands.specs.Histories.{Machine, reports_to, folded}
use Rattle.demands.specs.Accounts.{named_by}
use Rattle.demands.specs.Sessions.{Talk, opening, opened_by, after_report, in_force}

-- ---- THE LATEST SESSION, from the latest report 3 on, also once it is over: its key bytes and its frames. (Before the first, of the key bytes 0 and 0, which
-- are not good.)
unfoldable pub latest_after : Log → Talk → Report → Talk
latest_after log t r = if eqb r.number connected_report then opened_by (named_by (heard_of log) r) else after_report t log r

unfoldable pub latest_talk : Machine → Log → Talk
latest_talk m none = opening (pair_of 0 0)
latest_talk m (log ▷ e) = folded (latest_after (log ▷ e)) (latest_talk m log) (reports_to m log e)

-- "P3 min as it was in force", codes that frames have set among it. (The frame that answers a stop changes no window: 82 is no 83.)
unfoldable pub p3min_in : Machine → Log → Micros
p3min_in m log = (in_force (latest_talk m log)).p3min

-- ---- WHAT A REPORT LEAVES of the idle time. "After a stop answered by the unit the idle time is P3 min as it was in force; after P3 max has run out it is
-- 0." "a failed initialization, a drop (also while down) and a restart keep 300 ms". Any other report leaves it.
abbrev pub idle_down : Micros → ℕ → Micros
idle_down p3min reason = if eqb reason stopped then p3min else if eqb reason idle_over then micros 0 else idle_at_power_on

unfoldable pub idle_after : Micros → Micros → Report → Micros
idle_after p3min idle r =
    if eqb r.number failed_report then idle_at_power_on else
    if eqb r.number down_report then idle_down p3min r.reason else idle

unfoldable pub is_drop : Kind → Bool
is_drop Address = false
is_drop WakeUp = false
is_drop Byte = false
is_drop Tick = false
is_drop Drop = true
is_drop Other = false

-- THE IDLE TIME AFTER EVENTS: 300 ms for "a fresh link", and after a drop, whatever it reports
unfoldable pub idle_in : Machine → Log → Micros
idle_in m none = idle_at_power_on
idle_in m (log ▷ e) = if is_drop e.kind then idle_at_power_on else folded (idle_after (p3min_in m log)) (idle_in m log) (reports_to m log e)

-- THE IDLE TIME ASKED OF A START, by the reports that its own event makes first. "this is judged before the length of the low": a wrong low comes after it.
unfoldable pub asked_after : Micros → Micros → Report → Micros
asked_after p3min idle r = if eqb r.number failed_report && eqb r.reason wrong_low then idle else idle_after p3min idle r

unfoldable pub idle_asked : Machine → Log → Event → Micros
idle_asked m log e = folded (asked_after (p3min_in m log)) (idle_in m log) (reports_to m log e)

-- "from the old mark to its start": the time, in microseconds, from which it may start
abbrev pub idle_until : Machine → Log → Event → ℕ
idle_until m log e = (mark_of log).0 + (idle_asked m log e).0
