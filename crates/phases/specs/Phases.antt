-- What a link is at: its state by name, beside what each state uses. What a state of a connected link does not use is carried along.
-- (document 01, "Events and what the link does"; document 02, "One", on the idle time)
-- Assumes nothing.
use Rattle.std.specs.Prelude.{ℕ, Bool, true, false, if◌then◌else◌}
use Rattle.base.specs.Reports.{no_reason}
use Rattle.units.specs.Units.{micros}
use Rattle.units.specs.declared.Micros.{Micros}
use Rattle.timing.specs.Timing.{idle_at_power_on, until_time, set_of}
use Rattle.timing.specs.declared.Windows.{Windows}
use Rattle.events.specs.Events.{is_tester}
use Rattle.events.specs.declared.Side.TheVariants.{Nobody}
use Rattle.starts.specs.Starts.{no_start}
use Rattle.starts.specs.declared.Start.{Start}
use Rattle.talk.specs.Talk.{request_of, windows_after, request_after}
use Rattle.talk.specs.declared.Reply.{Reply}
use Rattle.talk.specs.declared.Reply.TheVariants.{Never, First, Further}
use Rattle.talk.specs.declared.Request.{Request}
use Rattle.talk.specs.declared.Request.TheVariants.{Ordinary}
use Rattle.talk.specs.declared.Part.TheVariants.{Target}
use Rattle.talk.specs.declared.Message.{Message}
use Rattle.phases.specs.declared.State.{State}
use Rattle.phases.specs.declared.State.TheVariants.{Down, Starting, Quiet, Held, Damage}
use Rattle.phases.specs.declared.Phase.{Phase}

-- Down; in an initialization; connected with nothing open, with a message held, with damage being skipped. "Only a connected link holds a message".
unfoldable pub is_down : State → Bool
is_down Down = true
is_down Starting = false
is_down Quiet = false
is_down Held = false
is_down Damage = false

unfoldable pub is_starting : State → Bool
is_starting Down = false
is_starting Starting = true
is_starting Quiet = false
is_starting Held = false
is_starting Damage = false

unfoldable pub is_quiet : State → Bool
is_quiet Down = false
is_quiet Starting = false
is_quiet Quiet = true
is_quiet Held = false
is_quiet Damage = false

unfoldable pub is_held : State → Bool
is_held Down = false
is_held Starting = false
is_held Quiet = false
is_held Held = true
is_held Damage = false

-- a message held or damage being skipped; an initialization is asked for by `is_starting`
unfoldable pub is_open : State → Bool
is_open Down = false
is_open Starting = false
is_open Quiet = false
is_open Held = true
is_open Damage = true

-- connected, whatever is open
unfoldable pub is_connected : State → Bool
is_connected Down = false
is_connected Starting = false
is_connected Quiet = true
is_connected Held = true
is_connected Damage = true

-- ---- not connected
abbrev pub no_message : Message
no_message = record {
  seven = 0;
  side = Nobody;
  part = Target;
  extra = false;
  length = 0;
  at = 0;
  sum = 0;
  first = 0;
  why = no_reason;
}

abbrev pub no_windows : Windows
no_windows = record {
  p2min = micros 0;
  p2max = until_time (micros 0);
  p3min = micros 0;
  p3max = until_time (micros 0);
  p4min = micros 0;
}

abbrev pub unconnected : State → Micros → Micros → Start → Phase
unconnected state idle fall start = record {
  windows = no_windows;
  message = no_message;
  idle = idle;
  fall = fall;
  asked = 0;
  state = state;
  reply = Never;
  request = Ordinary;
  start = start;
}

-- "Down, as a fresh link is", with the idle time that the next address or wake-up needs
unfoldable pub down : Micros → Phase
down idle = unconnected Down idle (micros 0) no_start

-- "a fresh link, a failed initialization, a drop (also while down) and a restart keep 300 ms"
abbrev pub off : Phase
off = down idle_at_power_on

-- an initialization; a fast one has the fall of its wake-up
unfoldable pub starting : Micros → Start → Phase
starting fall start = unconnected Starting (micros 0) fall start

-- ---- connected
-- "Timing starts at the set KB1 names.", or at a car's (`set_of`). No reply is expected yet.
unfoldable pub connected : Start → Phase
connected start = record {
  windows = set_of start.pair;
  message = no_message;
  idle = micros 0;
  fall = micros 0;
  asked = 0;
  state = Quiet;
  reply = Never;
  request = Ordinary;
  start = start;
}

-- what is open, and the reply that may come
unfoldable pub talking : Phase → State → Reply → Message → Phase
talking p state reply message = record {
  windows = p.windows;
  message = message;
  idle = p.idle;
  fall = p.fall;
  asked = p.asked;
  state = state;
  reply = reply;
  request = p.request;
  start = p.start;
}

-- a message held
unfoldable pub holding : Phase → Message → Phase
holding p m = talking p Held p.reply m

-- "The failing byte joins; bytes are skipped until 20 ms pass."
abbrev pub with_why : Message → ℕ → Message
with_why m why = record {
  seven = m.seven;
  side = m.side;
  part = m.part;
  extra = m.extra;
  length = m.length;
  at = m.at;
  sum = m.sum;
  first = m.first;
  why = why;
}

unfoldable pub damaged : Phase → ℕ → Phase
damaged p why = talking p Damage p.reply (with_why p.message why)

-- nothing open, and "no reply is expected"
unfoldable pub settled : Phase → Phase
settled p = talking p Quiet Never p.message

-- other windows, and another latest request with its first seven data bytes
unfoldable pub timed : Phase → Windows → ℕ → Request → Phase
timed p windows seven request = record {
  windows = windows;
  message = p.message;
  idle = p.idle;
  fall = p.fall;
  asked = seven;
  state = p.state;
  reply = p.reply;
  request = request;
  start = p.start;
}

-- "A tester frame awaits a first reply": it is the latest request from now on, and the windows stay
unfoldable pub asked : Phase → Phase
asked p = timed (talking p Quiet First p.message) p.windows p.message.seven (request_of p.message)

-- "a unit frame allows further ones": it may make the latest request take effect, "from this frame's end"
unfoldable pub answered : Phase → Phase
answered p =
    timed (talking p Quiet Further p.message) (windows_after p.request p.message p.start.pair p.asked p.windows) p.asked
    (request_after p.request p.message)

unfoldable pub framed : Phase → Phase
framed p = if is_tester p.message.side then asked p else answered p
