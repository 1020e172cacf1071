-- What stands beside the demands: theorems about our own link, inside, and about our listing program. Proved in proofs/Beside.antt. Assumes nothing.
use Rattle.std.specs.Prelude.{ℕ, ◌≤◌, ◌<◌, true, false, List, [], ◌∷◌, ◌++◌, ◌↔◌, ◌≡◌, eqb, get_or}
use Rattle.keys.specs.Keys.{good_pair}
use Rattle.frame.specs.Read.{read_of}
use Rattle.events.specs.declared.Side.{Side}
use Rattle.talk.specs.Cars.{car_reason, car_begun}
use Rattle.talk.specs.Talk.{grown}
use Rattle.talk.specs.declared.Message.{Message}
use Rattle.talk.specs.Messages.{is_message}
use Rattle.timing.specs.Timing.{set_of}
use Rattle.talk.specs.declared.Reply.TheVariants.{Never}
use Rattle.talk.specs.declared.Request.TheVariants.{Ordinary}
use Rattle.phases.specs.Phases.{is_starting, is_open, is_connected}
use Rattle.phases.specs.declared.State.TheVariants.{Down, Quiet}
use Rattle.reports.specs.Reporting.{places, no_reports, listed}
use Rattle.events.specs.declared.Event.{Event}
use Rattle.link.specs.declared.Link.{Link}
use Rattle.link.specs.Answers.{Answer}
use Rattle.reports.specs.declared.Counts.{Counts}
use Rattle.base.specs.Numbers.{taken}
use Rattle.link.specs.Stepping.{step_of}
use Rattle.link.specs.Telling.{handled_tells}
use Rattle.text.specs.Text.{head_text, end_text}
use Rattle.listing.specs.Listing.{listing_of}
use Rattle.demands.specs.Logs.{Log, ◌▷◌, InBytes, heard_in, number_after, taken_of}
use Rattle.demands.specs.Refusals.{Not, Numbered}
use Rattle.demands.specs.Editions.{is_link_pair, car_fault, of_car}
use Rattle.demands.specs.Histories.{after, reports_of}
use Rattle.demands.specs.Ours.{ours, our_answer}
use Rattle.demands.specs.Accounts.{counts_of, held_in}
use Rattle.demands.specs.Inputs.{history_of, said_for}
use Rattle.demands.specs.Connecting.{ConnectsBy, Connects, Connected}
use Rattle.demands.specs.Sessions.{Talk, in_force, Session, SomeSession}
use Rattle.demands.specs.Idle.{idle_in}
use Rattle.demands.specs.Endings.{Starting}

-- what a session says of our link
pub record IsIn (t : Talk) (l : Link) : Type 0 where
  pub connected : is_connected l.phase.state ≡ true
  pub good : is_link_pair t.pair ≡ true
  pub pair : l.phase.start.pair ≡ t.pair
  pub windows : l.phase.windows ≡ in_force t
  pub reply : l.phase.reply ≡ t.reply

-- what our link is after the event that completes an initialization: connected, with nothing open, by its key bytes. "Timing starts at the set KB1 names",
-- and nothing is expected yet.
pub record ConnectedLink {until : Log → Event → ℕ} (log : Log) (e : Event) (c : ConnectsBy until log e) (a : Answer) : Type 0 where
  pub answer : Connected log e c (listed a.reports)
  pub state : a.link.phase.state ≡ Quiet
  pub pair : a.link.phase.start.pair ≡ c.pair
  pub windows : a.link.phase.windows ≡ set_of c.pair
  pub reply : a.link.phase.reply ≡ Never
  pub request : a.link.phase.request ≡ Ordinary

-- a message after more bytes, by our rules
unfoldable pub grown_by : Message → List ℕ → Message
grown_by m [] = m
grown_by m (v ∷ vs) = grown_by (grown m v) vs

-- OF OUR OWN LINK AND PROGRAM. These theorems look inside, or quote our own rules: no other link has to meet them, and no demand needs them.
pub record Beside : Type 0 where
  -- ---- beside demand 1
  -- The number of an event, for any link, also for such as no history gives: by its own clock and the number of events that it has taken.
  pub numbered : (l : Link) (c : Counts) (e : Event) → Numbered l.clock l.taken c e (step_of l c e).answer.no
  -- Beside a refusal all four places of an answer are at 0, for any link: "every other number is 0".
  pub refused_zeros : (l : Link) (c : Counts) (e : Event) → Not ((step_of l c e).answer.no ≡ 0) → (step_of l c e).answer.reports ≡ no_reports
  -- ---- beside demand 2
  -- The link was not connected, and is connected after the event, exactly if the event is taken and completes an initialization.
  pub becomes_connected_exactly : (es : Log) (e : Event) → InBytes es
      → ((is_connected (after ours es).link.phase.state ≡ false) × (is_connected (after ours (es ▷ e)).link.phase.state ≡ true))
      ↔ ((number_after (taken_of es) e ≡ taken) × Connects ours (taken_of es) e)
  -- It then has the initialization's key bytes, and the windows of the set that they name.
  pub connects_link : (es : Log) (e : Event) → InBytes es → number_after (taken_of es) e ≡ taken → (c : Connects ours (taken_of es) e)
      → ConnectedLink (taken_of es) e c (our_answer es e)
  -- Our rules on messages, byte by byte, end one in a frame exactly if `read` takes its bytes under the same key bytes.
  pub messages : (kb1 kb2 : ℕ) (side : Side) (s : List ℕ) → good_pair kb1 kb2 ≡ true → ((i : ℕ) → get_or s i 0 < 256)
      → is_message kb1 side s ≡ eqb (read_of kb1 kb2 s).no taken
  -- A car's message is judged by what the link keeps of it (its last byte, how many there are, the sum of those before, whether the head is wrong): the
  -- reason that it is damage for, if it ends with its last byte so far, is the fault of its bytes.
  pub car_messages : (side : Side) (v : ℕ) (vs : List ℕ) → car_reason (grown_by (car_begun side v) vs) ≡ car_fault side (v ∷ vs)
  -- The windows of a car's link are its set's and never change, and no frame asks for more than a reply: 82 and 83 mean nothing there.
  pub car_links : (es : Log) → is_connected (after ours es).link.phase.state ≡ true → of_car (after ours es).link.phase.start.pair ≡ true
      → ((after ours es).link.phase.windows ≡ set_of (after ours es).link.phase.start.pair) × ((after ours es).link.phase.request ≡ Ordinary)
  -- Our link is connected exactly while a session of the history lasts, ..
  pub session_exactly : (es : Log) → InBytes es → (is_connected (after ours es).link.phase.state ≡ true) ↔ SomeSession ours es
  -- .. and then its key bytes, its windows and the reply that may come are the session's. ..
  pub session_link : (es : Log) (t : Talk) → InBytes es → Session ours es t → IsIn t (after ours es).link
  -- .. It is in an initialization exactly while one of the history lasts.
  pub starting_exactly : (es : Log) → InBytes es → (is_starting (after ours es).link.phase.state ≡ true) ↔ Starting ours es
  -- While it is down, the idle time that it keeps for the next start is the one that the history says.
  pub idle_link : (es : Log) → InBytes es → (after ours es).link.phase.state ≡ Down → (after ours es).link.phase.idle ≡ idle_in ours (taken_of es)
  -- ---- beside demand 3
  -- No byte is held while neither a message, nor damage, nor an initialization is open.
  pub idle : (es : Log) → is_open (after ours es).link.phase.state ≡ false → is_starting (after ours es).link.phase.state ≡ false → held_in ours es ≡ 0
  -- An answer never says that more than its four places are filled, for any link; and ..
  pub four_places : (l : Link) (c : Counts) (e : Event) → (step_of l c e).answer.reports.n ≤ places
  -- .. NO REPORT IS LOST: those in the four places of an answer to an event that was taken are the reports of all its moves, in order.
  pub none_lost : (es : Log) (e : Event) → (our_answer es e).no ≡ 0 → listed (our_answer es e).reports ≡ handled_tells (after ours es).link e
  -- UP TO THE TEXT, for every input, whatever bytes it is of: its listing is the header, what is written for the events of its lines, in order, and an end
  -- line that shows the seven counts worked out from the history of these events, and how many bytes are held after it.
  pub listing_shows : (input : List ℕ)
      → let es = history_of input in
      listing_of input ≡ head_text ++ (said_for es ++ end_text (counts_of (heard_in es) (reports_of ours es)) (held_in ours es))
