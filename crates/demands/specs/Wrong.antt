-- The wrong programs that document 01 wants shut out ("What a caller can rely on"), the accident that must not come again, wrong links that a single field
-- of a demand is there for, and our link with another idle time than document 02 says. That each breaks a demand is proved in proofs/WrongLinks/ShutOut.antt.
-- Assumes nothing.
use Rattle.std.specs.Prelude.{ℕ, ◌+◌, ◌-◌, Bool, true, false, not, ◌&&◌, ◌||◌, List, [], ◌∷◌, ◌++◌, eqb, get_or, if◌then◌else◌}
use Rattle.base.specs.Numbers.{taken, too_many}
use Rattle.base.specs.Sums.{count_sum}
use Rattle.base.specs.Reports.{failed_report, outside_report, down_report, not_idle_report, no_reason, stopped, idle_over, restarted}
use Rattle.units.specs.declared.Micros.{Micros}
use Rattle.timing.specs.Timing.{idle_at_power_on, set_of, same_windows}
use Rattle.events.specs.Events.{is_byte}
use Rattle.events.specs.declared.Event.{Event}
use Rattle.phases.specs.Phases.{is_down, is_quiet, is_held, down, off}
use Rattle.phases.specs.declared.Phase.{Phase}
use Rattle.reports.specs.Reporting.{in_places, no_report, no_reports, appended, listed}
use Rattle.reports.specs.Counting.{zero_counts, counted_event}
use Rattle.reports.specs.declared.Report.{Report}
use Rattle.reports.specs.declared.Reports.{Reports}
use Rattle.reports.specs.declared.Counts.{Counts}
use Rattle.link.specs.Handling.{fresh_link, mark_after}
use Rattle.link.specs.Stepping.{number_of, refused_by, step_of}
use Rattle.link.specs.declared.Link.{Link}
use Rattle.link.specs.Answers.{Stepped}
use Rattle.listing.specs.Listing.{held_of}
use Rattle.demands.specs.Histories.{Machine, Host, is_among}
use Rattle.demands.specs.Idle.{is_drop}
use Rattle.demands.specs.Ours.{machine_of}

-- other reports than the right ones, with the counts that fit them; other counts
abbrev with_reports : Counts → Stepped → Reports → Stepped
with_reports c s rs = record {
  answer = record { link = s.answer.link; reports = rs; no = s.answer.no };
  counts = counted_event c true rs;
}

abbrev with_frames : Stepped → ℕ → Stepped
with_frames s frames = record {
  answer = s.answer;
  counts = record {
    heard = s.counts.heard;
    framed = s.counts.framed;
    damaged = s.counts.damaged;
    started = s.counts.started;
    outside = s.counts.outside;
    frames = frames;
    damages = s.counts.damages;
  };
}

-- "a link refusing everything"
abbrev pub refusing : Machine
refusing = machine_of (λ l c e. record { answer = refused_by l too_many; counts = c })

-- "one reporting each byte as outside": it takes what is to be taken, and names and counts each byte
abbrev pub outside_only : Bool → Link → Event → Reports
outside_only byte l e =
    if byte
    then appended no_reports (record { first = l.heard; bytes = 1; time = e.end; number = outside_report; reason = no_reason })
    else no_reports

abbrev pub heard_with : Bool → Link → ℕ
heard_with byte l = if byte then count_sum l.heard 1 else l.heard

abbrev pub outside_link : Link → Event → Link
outside_link l e = record {
  clock = e.end;
  mark = mark_after l e;
  taken = count_sum l.taken 1;
  heard = heard_with (is_byte e.kind) l;
  named = heard_with (is_byte e.kind) l;
  phase = off;
}

abbrev pub outside_step : Link → Counts → Event → Stepped
outside_step l c e =
    let byte = is_byte e.kind in
    let rs = outside_only byte l e in
    if eqb (number_of l c e) taken then record { answer = record { link = outside_link l e; reports = rs; no = taken }; counts = counted_event c byte rs } else
    step_of l c e

abbrev pub outside : Machine
outside = machine_of outside_step

-- "a step that leaves the link unchanged"
abbrev pub unchanged : Machine
unchanged = machine_of (λ l c e.
    let s = step_of l c e in
    record { answer = record { link = l; reports = s.answer.reports; no = s.answer.no }; counts = s.counts })

-- "a link that finishes on its first event and idles later"
abbrev pub idling : Machine
idling = machine_of (λ l c e. if eqb l.taken 0 then step_of l c e else record { answer = record { link = l; reports = no_reports; no = taken }; counts = c })

-- one that "shows invented counts"
abbrev pub inventing : Machine
inventing = machine_of (λ l c e. record {
  answer = (step_of l c e).answer;
  counts = record { heard = 7; framed = 7; damaged = 0; started = 0; outside = 0; frames = 1; damages = 0 };
})

-- what stands in the first place for a report
abbrev first_of : Reports → Report
first_of rs = get_or (in_places rs) 0 no_report

-- THE ACCIDENT: at a timing change, ..
abbrev retimed : Link → Stepped → Bool
retimed l s = is_held l.phase.state && is_quiet s.answer.link.phase.state && not (same_windows l.phase.windows s.answer.link.phase.windows)

-- .. the frame count stays one behind; ..
abbrev pub behind : Machine
behind = machine_of (λ l c e. let s = step_of l c e in if retimed l s then with_frames s c.frames else s)

-- .. the reply is listed twice
abbrev pub twice : Machine
twice = machine_of (λ l c e.
    let s = step_of l c e in
    if retimed l s then with_reports c s (appended s.answer.reports (first_of s.answer.reports)) else s)

-- ---- what a history with the link's own counts does not show
-- one that a refused event makes fresh again
abbrev pub forgetting : Machine
forgetting = machine_of (λ l c e. if eqb (number_of l c e) taken then step_of l c e else record { answer = refused_by fresh_link (number_of l c e); counts = c })

-- one that knows its own counts, and reports and counts nothing while others are lent
abbrev are_same : Counts → Counts → Bool
are_same c d =
    eqb c.heard d.heard
    && eqb c.framed d.framed
    && eqb c.damaged d.damaged
    && eqb c.started d.started
    && eqb c.outside d.outside
    && eqb c.frames d.frames
    && eqb c.damages d.damages

abbrev pub possessive : Machine
possessive = record {
  Inner = Host Link;
  fresh = record { link = fresh_link; counts = zero_counts };
  step = λ h c e.
      let s = step_of h.link c e in
      let own = are_same c h.counts in
      record {
        link = record { link = s.answer.link; counts = if own then s.counts else h.counts };
        no = s.answer.no;
        reports = if own then listed s.answer.reports else [];
        counts = if own then s.counts else c;
      };
  held = λ h. held_of h.link;
}

-- ---- OUR LINK WITH ITS REPORTS CHANGED, and the counts that fit them: whatever can be seen of it beside them is as it should be
-- each report's first index is the number of bytes named before it
abbrev indexed : ℕ → List Report → List Report
indexed n [] = []
indexed n (r ∷ rs) =
    record { first = n; bytes = r.bytes; time = r.time; number = r.number; reason = r.reason } ∷ indexed (n + r.bytes) rs

abbrev changing : (List Report → List Report) → (List Report → Counts → Counts) → Machine
changing f g = record {
  Inner = Link;
  fresh = fresh_link;
  step = λ l c e.
      let s = step_of l c e in
      let rs = listed s.answer.reports in
      record { link = s.answer.link; no = s.answer.no; reports = indexed l.named (f rs); counts = g rs s.counts };
  held = held_of;
}

abbrev same_counts : List Report → Counts → Counts
same_counts rs c = c

abbrev with_bytes : ℕ → Report → Report
with_bytes n r = record { first = r.first; bytes = n; time = r.time; number = r.number; reason = r.reason }

-- one that gives an event's reports in another order, the last one first: 8, 7, 2
abbrev backwards : List Report → List Report
backwards [] = []
backwards (r ∷ rs) = backwards rs ++ (r ∷ [])

abbrev pub disordered : Machine
disordered = changing backwards same_counts

-- one that repeats a report without bytes: 6, 6
abbrev again : List Report → List Report
again [] = []
again (r ∷ []) = if eqb r.bytes 0 then r ∷ r ∷ [] else r ∷ []
again (r ∷ s ∷ rs) = r ∷ s ∷ rs

abbrev pub repeating : Machine
repeating = changing again same_counts

-- one that moves the byte of a report 4 to a report 5 after it
abbrev moves_byte : List Report → Bool
moves_byte [] = false
moves_byte (r ∷ []) = false
moves_byte (r ∷ s ∷ []) = eqb r.number failed_report && eqb r.bytes 1 && eqb s.number outside_report
moves_byte (r ∷ s ∷ t ∷ rs) = false

abbrev outside_later : List Report → List Report
outside_later [] = []
outside_later (r ∷ rs) = if moves_byte (r ∷ rs) then with_bytes 0 r ∷ (rs ++ rs) else r ∷ rs

abbrev outside_counted : List Report → Counts → Counts
outside_counted rs c =
    if moves_byte rs then record {
      heard = c.heard;
      framed = c.framed;
      damaged = c.damaged;
      started = c.started - 1;
      outside = c.outside + 1;
      frames = c.frames;
      damages = c.damages;
    } else c

abbrev pub moving : Machine
moving = changing outside_later outside_counted

-- one that moves the bytes of a report 4 to another report 4 of the same event
abbrev swapped : List Report → List Report
swapped [] = []
swapped (r ∷ []) = r ∷ []
swapped (r ∷ s ∷ rs) =
    if eqb r.number failed_report && eqb s.number failed_report then with_bytes s.bytes r ∷ with_bytes r.bytes s ∷ rs else r ∷ s ∷ rs

abbrev pub shifting : Machine
shifting = changing swapped same_counts

-- ---- OUR LINK WITH ANOTHER IDLE TIME than document 02 says
abbrev idled_for : Micros → Phase → Phase
idled_for idle p = record {
  windows = p.windows;
  message = p.message;
  idle = idle;
  fall = p.fall;
  asked = p.asked;
  state = p.state;
  reply = p.reply;
  request = p.request;
  start = p.start;
}

abbrev at_phase : Link → Phase → Link
at_phase l p = record { clock = l.clock; mark = l.mark; taken = l.taken; heard = l.heard; named = l.named; phase = p }

abbrev is_told : ℕ → ℕ → List Report → Bool
is_told number reason [] = false
is_told number reason (r ∷ rs) = (eqb r.number number && eqb r.reason reason) || is_told number reason rs

-- our link, but for its idle time after an event wherever `When` says so of the link before it, the event and its reports
abbrev idling_else : (Link → Event → List Report → Bool) → (Link → Micros) → Machine
idling_else When idle = machine_of (λ l c e.
    let s = step_of l c e in
    let a = s.answer in
    if When l e (listed a.reports)
    then record {
      answer = record { link = at_phase a.link (idled_for (idle l) a.link.phase); reports = a.reports; no = a.no };
      counts = s.counts;
    } else s)

-- one that keeps 300 ms after a stop; ..
abbrev pub patient : Machine
patient = idling_else (λ l e rs. is_told down_report stopped rs) (λ l. idle_at_power_on)

-- .. one that keeps P3 min of KB1's set then, whatever is in force; ..
abbrev pub unaware : Machine
unaware = idling_else (λ l e rs. is_told down_report stopped rs) (λ l. (set_of l.phase.start.pair).p3min)

-- .. one that keeps 300 ms after P3 max has run out; ..
abbrev pub waiting : Machine
waiting = idling_else (λ l e rs. is_told down_report idle_over rs) (λ l. idle_at_power_on)

-- .. one that a start that fails leaves the shorter time; ..
abbrev pub forgiving : Machine
forgiving = idling_else (λ l e rs. is_among failed_report rs) (λ l. l.phase.idle)

-- .. one that a drop while down leaves it; ..
abbrev pub unmoved : Machine
unmoved = idling_else (λ l e rs. is_drop e.kind && is_down l.phase.state) (λ l. l.phase.idle)

-- .. one that goes back to 300 ms at a start answered with 8; ..
abbrev pub strict : Machine
strict = idling_else (λ l e rs. is_among not_idle_report rs) (λ l. idle_at_power_on)

-- .. and one that judges a restart by P3 min: it goes down with reason 4, and then does what a link does that is down with that idle time
abbrev both : Reports → Reports → Reports
both first more =
    if eqb more.n 0 then appended no_reports (first_of first) else appended (appended no_reports (first_of first)) (first_of more)

abbrev pub hasty : Machine
hasty = machine_of (λ l c e.
    let s = step_of l c e in
    let a = s.answer in
    let later = (step_of (at_phase l (down l.phase.windows.p3min)) c e).answer in
    if eqb (first_of a.reports).number down_report && eqb (first_of a.reports).reason restarted
    then record { answer = record { link = later.link; reports = both a.reports later.reports; no = a.no }; counts = s.counts } else s)
