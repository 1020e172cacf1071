-- Tests that the code takes first, for the common byte. No rule stands here, and a reader may pass it over: that under these tests the answer is
-- the one of `Stepping` is proved in proofs/Ways.antt.
-- Assumes nothing.
use Rattle.std.specs.Prelude.{Bool, true, false, not, ◌&&◌, if◌then◌else◌}
use Rattle.base.specs.Numbers.{taken}
use Rattle.base.specs.Sums.{count_sum}
use Rattle.units.specs.Units.{gap_of}
use Rattle.units.specs.declared.Micros.{Micros}
use Rattle.keys.specs.Editions.{edition_of, is_car}
use Rattle.timing.specs.Timing.{is_passed}
use Rattle.timing.specs.declared.Limit.{Limit}
use Rattle.events.specs.Events.{is_byte, same_side}
use Rattle.events.specs.declared.Kind.{Kind}
use Rattle.events.specs.declared.Kind.TheVariants.{Address, WakeUp, Byte, Tick, Drop, Other}
use Rattle.events.specs.declared.Event.{Event}
use Rattle.starts.specs.Starts.{is_over}
use Rattle.talk.specs.Talk.{is_first}
use Rattle.talk.specs.declared.Part.{Part}
use Rattle.talk.specs.declared.Part.TheVariants.{Target, Source, Length, Data, Sum, Free}
use Rattle.phases.specs.Phases.{is_held, is_quiet}
use Rattle.moves.specs.Moves.{is_silent, ended, is_cut_in, since_origin}
use Rattle.phases.specs.declared.State.{State}
use Rattle.phases.specs.declared.State.TheVariants.{Down, Starting, Quiet, Held, Damage}
use Rattle.phases.specs.declared.Phase.{Phase}
use Rattle.reports.specs.Reporting.{no_reports, moved}
use Rattle.reports.specs.declared.Run.{Run}
use Rattle.link.specs.Handling.{passed, byte_acts, acted_by}
use Rattle.link.specs.declared.Link.{Link}
use Rattle.link.specs.Answers.{Answer}

-- no time runs out up to an event's start
unfoldable pub limit_of : Phase → Limit
limit_of p = if is_first p.reply then p.windows.p2max else p.windows.p3max

abbrev pub calm_in : State → Phase → Micros → Micros → Bool
calm_in Down p mark start = true
calm_in Starting p mark start = not (is_over p.start (since_origin p mark start))
calm_in Quiet p mark start = not (is_passed (limit_of p) (gap_of mark start))
calm_in Held p mark start = not (is_silent (gap_of mark start))
calm_in Damage p mark start = not (is_silent (gap_of mark start))

unfoldable pub is_calm : Phase → Micros → Micros → Bool
is_calm p mark start = calm_in p.state p mark start

-- A byte may end what is held, before it acts (`before_byte`). What comes before any event acts, and what it does then: together `acted` after `passed`.
unfoldable pub cuts_by : Phase → Event → Bool
cuts_by p e = is_cut_in p e.side && is_byte e.kind

unfoldable pub cut_by : Run → Event → Run
cut_by r e = if cuts_by r.phase e then moved r (ended r.phase) else r

unfoldable pub approached : Run → Event → Micros → Run
approached r e mark = cut_by (passed r mark e.start) e

abbrev pub acts_by : Kind → Run → Event → Micros → Run
acts_by Address r e mark = acted_by Address r e mark
acts_by WakeUp r e mark = acted_by WakeUp r e mark
acts_by Byte r e mark = byte_acts r e mark
acts_by Tick r e mark = r
acts_by Drop r e mark = acted_by Drop r e mark
acts_by Other r e mark = r

-- the answer to a byte before which no time runs out and which makes no report
unfoldable pub went_on : Link → Event → Phase → Answer
went_on l e p = record {
  link = record {
    clock = e.end;
    mark = e.end;
    taken = count_sum l.taken 1;
    heard = count_sum l.heard 1;
    named = l.named;
    phase = p;
  };
  reports = no_reports;
  no = taken;
}

-- a byte goes on with the message held: its side's, neither the length byte nor the checksum, so that any value will do
unfoldable pub is_inside : Part → Bool
is_inside Target = true
is_inside Source = true
is_inside Length = false
is_inside Data = true
is_inside Sum = false
is_inside Free = true

unfoldable pub goes_on : Link → Event → Bool
goes_on l e =
    is_byte e.kind
    && is_held l.phase.state
    && not (is_silent (gap_of l.mark e.start))
    && (same_side e.side l.phase.message.side && is_inside l.phase.message.part)

-- a byte is the first of a message, on a 14230 link
unfoldable pub is_first_byte : Link → Event → Bool
is_first_byte l e =
    is_byte e.kind
    && is_quiet l.phase.state
    && not (is_passed (limit_of l.phase) (gap_of l.mark e.start))
    && not (is_car (edition_of l.phase.start.pair))
