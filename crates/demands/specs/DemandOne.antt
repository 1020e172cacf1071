-- DEMAND 1: "The link takes any event at all and always comes back. Bad times, unknown kinds, wrong key bytes, short buffers, unannounced forms each get
-- their number. After a refusal the link, its counts and the lent buffers hold what they held before." An event gets the number whose condition holds and none
-- smaller, after any history and with any counts lent; one that is refused changes nothing. The same is said of frames built and read and of timing codes. A
-- link that refused everything would break it.
-- Assumes nothing.
use Rattle.std.specs.Prelude.{ℕ, ◌≤◌, List, ◌↔◌, ◌≡◌, length}
use Rattle.units.specs.Units.{micros}
use Rattle.timing.specs.Timing.{windows_by, not_decoded, decoded_of, not_encoded, encoded_of}
use Rattle.timing.specs.declared.Windows.{Windows}
use Rattle.timing.specs.declared.Codes.{Codes}
use Rattle.timing.specs.Coded.{HasCodes}
use Rattle.frame.specs.Build.{planned, size_of, Builds}
use Rattle.frame.specs.Read.{not_read, read_of}
use Rattle.frame.specs.declared.Plan.{Plan}
use Rattle.frame.specs.Answers.{Built}
use Rattle.events.specs.declared.Kind.TheVariants.{Byte}
use Rattle.events.specs.declared.Side.TheVariants.{Tester}
use Rattle.events.specs.declared.Event.{Event}
use Rattle.reports.specs.Counting.{zero_counts}
use Rattle.reports.specs.declared.Counts.{Counts}
use Rattle.demands.specs.Logs.{Log, clock_of, count_of, number_after, taken_of}
use Rattle.demands.specs.Refusals.{Not, Unknown, TooLate, Above, Numbered}
use Rattle.demands.specs.Frames.{BuildNumbered, ReadNumbered, Allowed}
use Rattle.demands.specs.Histories.{Machine, after, answer_with, answer_to, AsBefore}

-- an event: a byte 55 from the tester at the very beginning
abbrev pub some_event : Event
some_event = record { start = micros 0; end = micros 960; kind = Byte; side = Tester; value = 0x55 }

-- DEMAND 1, of any link
pub record DemandOne (m : Machine) : Type 0 where
  -- THE NUMBER OF AN EVENT, after any events from a fresh link, with any lent counts: 1, 2, 3 or 4 exactly when its condition holds and that of no
  -- smaller number does, and 0 exactly when none of the four holds. There is no other number.
  pub numbered : (es : Log) (c : Counts) (e : Event)
      → Numbered (clock_of (taken_of es)) (count_of (taken_of es)) c e (answer_with m es c e).no
  -- A REFUSED EVENT CHANGES NOTHING, for any inner state, any counts, any event: with a number other than 0, the link and the counts are as they were,
  -- and there is no report.
  pub refused_as_before : (l : m.Inner) (c : Counts) (e : Event) → Not ((m.step l c e).no ≡ 0) → AsBefore l c (m.step l c e)
  -- A FRESH LINK TAKES EVENTS: with zero counts, every one whose kind and side are known, whose times are not too late, and which starts no later than
  -- it ends; such as this one.
  pub fresh_takes : (e : Event) → Not (Unknown e) → Not (TooLate e) → e.start.0 ≤ e.end.0 → (m.step m.fresh zero_counts e).no ≡ 0
  pub some_event_taken : (m.step m.fresh zero_counts some_event).no ≡ 0
  -- THE NUMBERS OF A HISTORY, after any events from a fresh link with zero counts that only the link changes: the number of the next event is the one
  -- that the events taken before it give, ..
  pub history_numbers : (es : Log) (e : Event) → (answer_to m es e).no ≡ number_after (taken_of es) e
  -- .. which is 1, 2, 3 or 4 exactly when its condition holds, at the end of the last event taken and the number of them, and 0 exactly when none does:
  -- the counts can be left out, ..
  pub history_numbered : (es : Log) (e : Event)
      → Numbered (clock_of (taken_of es)) (count_of (taken_of es)) zero_counts e (answer_to m es e).no
  -- .. since none of them ever comes to be above 4,000,000,000.
  pub never_above : (es : Log) → Not (Above (after m es).counts)
  -- ---- FRAMES AND TIMING CODES. (These speak of `build`, `read` and the codes by their definitions, and of no link.)
  -- Building gets 5, 6, 7 or 8 exactly when its condition holds and that of no smaller number does, and 0 exactly when none does: for every plan, with any
  -- choice of the length's place, data and buffer. Where it is refused, the buffer is as it was, and the length is 0.
  pub building_numbered : (p : Plan) (bytes out : List ℕ) (r : Built) (after : List ℕ) → Builds p bytes out r after
      → BuildNumbered p (length bytes) (length out) r.no
  pub building_as_before : (p : Plan) (bytes out : List ℕ) (r : Built) (after : List ℕ) → Builds p bytes out r after → Not (r.no ≡ 0)
      → (after ≡ out) × (r.len ≡ 0)
  -- The room that 8 asks for is the length of the frame as chosen.
  pub frame_size : (p : Plan) (bytes : List ℕ) → length (planned p bytes) ≡ size_of p (length bytes)
  -- Reading gets 5, 6, 7 or 9 exactly so, for every slice. Where it is refused, every other number is 0.
  pub reading_numbered : (kb1 kb2 : ℕ) (s : List ℕ) → ReadNumbered kb1 kb2 s (read_of kb1 kb2 s).no
  pub reading_zeros : (kb1 kb2 : ℕ) (s : List ℕ) → Not ((read_of kb1 kb2 s).no ≡ 0) → read_of kb1 kb2 s ≡ not_read (read_of kb1 kb2 s).no
  -- Codes get 10 exactly if the windows that they count are not allowed, and windows exactly if no allowed codes stand for them; each gets 0 otherwise.
  -- Beside 10 every other number is 0.
  pub codes_numbered : (c : Codes) → (((decoded_of c).no ≡ 10) ↔ Not (Allowed (windows_by c))) × (((decoded_of c).no ≡ 0) ↔ Allowed (windows_by c))
  pub windows_numbered : (w : Windows) → (((encoded_of w).no ≡ 10) ↔ Not (HasCodes w)) × (((encoded_of w).no ≡ 0) ↔ HasCodes w)
  pub codes_zeros : (c : Codes) → Not ((decoded_of c).no ≡ 0) → decoded_of c ≡ not_decoded
  pub windows_zeros : (w : Windows) → Not ((encoded_of w).no ≡ 0) → encoded_of w ≡ not_encoded
