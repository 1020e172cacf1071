-- What time, a closing event, a start and a byte do to a link: each rule is a move, a report (none if its number is 0) and the phase after it
-- (document 01, "Events and what the link does"; document 02, "One", on the idle time, and "Five", on cars).
-- Assumes nothing.
use Rattle.std.specs.Prelude.{ℕ, Bool, not, ◌&&◌, eqb, if◌then◌else◌}
use Rattle.base.specs.Reports.{frame_report, damage_report, connected_report, failed_report, outside_report, no_reply_report, down_report, not_idle_report}
use Rattle.base.specs.Reports.{no_reason, closed, window_over, wrong_low, stopped, idle_over, dropped}
use Rattle.units.specs.Units.{micros, is_earlier, gap_of}
use Rattle.units.specs.declared.Micros.{Micros}
use Rattle.keys.specs.Editions.{edition_of, is_quick}
use Rattle.timing.specs.Timing.{is_passed}
use Rattle.events.specs.Events.{is_tester, is_unit}
use Rattle.events.specs.declared.Side.{Side}
use Rattle.starts.specs.Starts.{origin_of, judged, is_over, is_last, onward, slow_start, fast_start}
use Rattle.talk.specs.Talk.{is_first, frame_reason, first_reason, begun, begun_by, later_reason, end_reason, is_sum, grown, is_stopped}
use Rattle.phases.specs.Phases.{is_down, is_starting, is_quiet, is_held, is_open, down, off, starting, connected, holding, damaged, settled, framed}
use Rattle.phases.specs.declared.State.{State}
use Rattle.phases.specs.declared.State.TheVariants.{Down, Starting, Quiet, Held, Damage}
use Rattle.phases.specs.declared.Phase.{Phase}
use Rattle.moves.specs.declared.Move.{Move}

-- no report
abbrev pub still : Phase → Move
still p = record { phase = p; number = 0; reason = no_reason }

-- a report
abbrev pub makes : ℕ → ℕ → Phase → Move
makes number reason p = record { phase = p; number = number; reason = reason }

-- ---- time passes
-- "20 ms passed since the mark with a message held: report 2, reason 1. With damage being skipped: report 2, its reason. After either, no reply is
-- expected." "'Passed' is strict".
abbrev pub byte_gap : Micros
byte_gap = micros 20_000

unfoldable pub is_silent : Micros → Bool
is_silent gap = is_earlier byte_gap gap

-- the reason of a message held, or of damage
unfoldable pub loss_reason : Phase → ℕ → ℕ
loss_reason p reason = if is_held p.state then reason else p.message.why

-- A message held that is right as it stands. Of a 14230 link none is; of a car, "its last byte is the checksum, and report 1 comes then".
unfoldable pub is_right : Phase → Bool
is_right p = is_held p.state && eqb (end_reason p.message) no_reason

-- what is open has ended
unfoldable pub ended : Phase → Move
ended p =
    if is_right p then makes frame_report no_reason (framed p) else
    makes damage_report (loss_reason p (end_reason p.message)) (settled p)

unfoldable pub after_silence : Phase → Micros → Move
after_silence p gap = if is_open p.state && is_silent gap then ended p else still p

-- "First reply awaited and P2 max passed: report 6; no reply is expected." While something is open, this and the next rule rest (DECISIONS 21).
unfoldable pub after_p2 : Phase → Micros → Move
after_p2 p gap =
    if is_quiet p.state && is_first p.reply && is_passed p.windows.p2max gap then makes no_reply_report no_reason (settled p) else still p

-- "Then, connected, no first reply awaited, P3 max passed: report 7 reason 2, down." "after P3 max has run out it is 0" (document 02: the idle time).
unfoldable pub after_p3 : Phase → Micros → Move
after_p3 p gap =
    if is_quiet p.state && not (is_first p.reply) && is_passed p.windows.p3max gap then makes down_report idle_over (down (micros 0)) else still p

-- "In initialization, the present window's end passed: report 4 reason 1, down."
unfoldable pub since_origin : Phase → Micros → Micros → Micros
since_origin p mark time = gap_of (origin_of p.start.stage p.fall mark) time

unfoldable pub after_window : Phase → Micros → Micros → Move
after_window p mark time =
    if is_starting p.state && is_over p.start (since_origin p mark time) then makes failed_report window_over off else still p

-- ---- closing
-- "A, W or D then close what is open: a held message as report 2 reason 2, damage with its reason, initialization as report 4 reason 2"
unfoldable pub closing : Phase → Move
closing p =
    if is_open p.state then makes damage_report (loss_reason p closed) (settled p) else
    if is_starting p.state then makes failed_report closed off else still p

-- "if connected, report 7 (reason 4 for A or W, 3 for D), down": after `closing`, so that a connected link has nothing open. "a drop (also while down) and a
-- restart keep 300 ms".
unfoldable pub leaving : Phase → ℕ → Move
leaving p reason =
    if is_quiet p.state then makes down_report reason off else
    if is_down p.state && eqb reason dropped then still off else still p

-- ---- starts
-- "A or W needs 300 ms from the old mark to its start, else report 8 and down; this is judged before the length of the low." In place of 300 ms document 02 has
-- the idle time of the link that is down, and "a start answered with report 8 keeps the idle time it was judged by".
unfoldable pub is_idle : Micros → Micros → Micros → Bool
is_idle idle mark start = not (is_earlier (gap_of mark start) idle)

unfoldable pub starting_slow : Micros → ℕ → Micros → Micros → Move
starting_slow idle address mark start =
    if is_idle idle mark start then still (starting (micros 0) (slow_start address)) else makes not_idle_report no_reason (down idle)

-- "Low for 24 to 26 ms, else report 4 reason 3 at once."
unfoldable pub is_good_low : Micros → Micros → Bool
is_good_low fall rise = not (is_earlier (gap_of fall rise) (micros 24_000)) && not (is_earlier (micros 26_000) (gap_of fall rise))

unfoldable pub starting_fast : Micros → Micros → Micros → Micros → Move
starting_fast idle mark fall rise =
    if not (is_idle idle mark fall) then makes not_idle_report no_reason (down idle) else
    if is_good_low fall rise then still (starting fall fast_start) else makes failed_report wrong_low off

-- ---- a byte
-- "under 94 94 a unit byte after a held tester message ends it too, judged as after the gap before that byte acts"
unfoldable pub is_cut_in : Phase → Side → Bool
is_cut_in p side = is_held p.state && is_tester p.message.side && is_unit side && is_quick (edition_of p.start.pair)

unfoldable pub before_byte : Phase → Side → Move
before_byte p side = if is_cut_in p side then ended p else still p

-- "A byte that fails joins its initialization: report 4, down." "Success is report 3."
unfoldable pub start_byte : Phase → Side → ℕ → Micros → Move
start_byte p side v gap =
    if not (eqb (judged p.start side v gap) no_reason) then makes failed_report (judged p.start side v gap) off else
    if is_last p.start.stage then makes connected_report no_reason (connected p.start) else
    still (starting p.fall (onward p.start v))

-- "First byte of a message": held, or damage with its reason
unfoldable pub reason_at_first : Phase → Side → ℕ → Micros → ℕ
reason_at_first p side v gap = first_reason p.start.pair p.reply p.windows side v gap

unfoldable pub first_byte : Phase → Side → ℕ → Micros → Phase
first_byte p side v gap =
    if eqb (reason_at_first p side v gap) no_reason then holding p (begun_by p.start.pair side v) else damaged p (reason_at_first p side v gap)

-- the same on a 14230 link, which the code asks for first (no rule of its own: `first_frame` in link/proofs/Ways.antt)
unfoldable pub first_frame_byte : Phase → Side → ℕ → Micros → Phase
first_frame_byte p side v gap =
    let reason = frame_reason p.start.pair.kb1 p.reply p.windows side v gap in
    if eqb reason no_reason then holding p (begun side v) else damaged p reason

-- a later one: damage, the message's end ("A right checksum is report 1"), or one byte more
unfoldable pub later_byte : Phase → Side → ℕ → Move
later_byte p side v =
    if not (eqb (later_reason p.message side v) no_reason) then still (damaged p (later_reason p.message side v)) else
    if is_sum p.message.part then makes frame_report no_reason (framed p) else
    still (holding p (grown p.message v))

-- "Down, as a fresh link is. Each byte is report 5." It leaves the idle time.
abbrev pub byte_in : State → Phase → Side → ℕ → Micros → Micros → Move
byte_in Down p side v mark start = makes outside_report no_reason (down p.idle)
byte_in Starting p side v mark start = start_byte p side v (since_origin p mark start)
byte_in Quiet p side v mark start = still (first_byte p side v (gap_of mark start))
byte_in Held p side v mark start = later_byte p side v
byte_in Damage p side v mark start = still p

unfoldable pub after_byte : Phase → Side → ℕ → Micros → Micros → Move
after_byte p side v mark start = byte_in p.state p side v mark start

-- "a unit frame starting C2 after a tester frame starting 82: report 1, then 7 reason 1, down". "After a stop answered by the unit the idle time is P3 min as
-- it was in force".
unfoldable pub after_stop : Phase → Move
after_stop p = if is_quiet p.state && is_stopped p.request then makes down_report stopped (down p.windows.p3min) else still p
