-- The short ways of the code are the rules' own: where no time runs out, passing time changes nothing; and a byte that makes no report is answered
-- with the link gone on. An event that runs on is such a byte. Assumes nothing.
use Prim.Native.Nat.{ℕ}
use mathlib.Core.Bool.{Bool, true, false, not, ◌&&◌, false≢true}
use mathlib.Core.Path.{◌≡◌, ◌∙◌, refl, sym, ap}
use lib.Dec.{eqb}
use borrow.Author.Tests.{eq-eqb, eqb-true, not-true}
use Rattle.std.specs.Prelude.{if◌then◌else◌}
use Rattle.base.specs.Numbers.{taken}
use Rattle.base.specs.Reports.{no_reason}
use Rattle.base.proofs.Tests.{and_split, by_test}
use Rattle.units.specs.Units.{gap_of}
use Rattle.units.specs.declared.Micros.{Micros}
use Rattle.keys.specs.Editions.{edition_of, is_car, is_quick}
use Rattle.timing.specs.Timing.{is_passed}
use Rattle.timing.specs.declared.Limit.{Limit}
use Rattle.events.specs.Events.{is_byte, marks, is_tester, is_unit, is_nobody, same_side}
use Rattle.events.specs.declared.Kind.{Kind}
use Rattle.events.specs.declared.Kind.TheVariants.{Address, WakeUp, Byte, Tick, Drop, Other}
use Rattle.events.specs.declared.Side.{Side}
use Rattle.events.specs.declared.Side.TheVariants.{Tester, Unit, Nobody}
use Rattle.events.specs.declared.Event.{Event}
use Rattle.starts.specs.Starts.{is_over}
use Rattle.talk.specs.Talk.{is_first, frame_reason, first_reason, is_sum, part_reason, later_reason, begun, begun_by, grown}
use Rattle.talk.specs.declared.Part.{Part}
use Rattle.talk.specs.declared.Part.TheVariants.{Target, Source, Length, Data, Sum, Free}
use Rattle.talk.specs.declared.Message.{Message}
use Rattle.phases.specs.Phases.{is_starting, is_quiet, is_held, is_open, talking, holding, damaged}
use Rattle.moves.specs.Moves.{still, is_silent, ended, after_silence, is_cut_in, before_byte, after_p2, after_p3, since_origin, after_window}
use Rattle.moves.specs.Moves.{reason_at_first, first_byte, first_frame_byte, later_byte, byte_in, after_byte, after_stop}
use Rattle.phases.specs.declared.State.{State}
use Rattle.phases.specs.declared.State.TheVariants.{Down, Starting, Quiet, Held, Damage}
use Rattle.phases.specs.declared.Phase.{Phase}
use Rattle.reports.specs.Reporting.{moved, no_reports}
use Rattle.reports.specs.Counting.{counted_event}
use Rattle.link.specs.Handling.{passed, byte_heard, acted_by, acted, handled, mark_after, link_after}
use Rattle.link.specs.Handling.{begun as begins}
use Rattle.link.specs.Stepping.{number_of, taken_by, answer_of, counts_after, step_of}
use Rattle.link.specs.Quick.{limit_of, calm_in, is_calm, cuts_by, cut_by, approached, acts_by, went_on, is_inside, goes_on, is_first_byte}
use Rattle.link.specs.Running.{runs_on, ran_on}
use Rattle.link.specs.declared.Link.{Link}
use Rattle.reports.specs.declared.Counts.{Counts}
use Rattle.reports.specs.declared.Run.{Run}

-- ---- tests that fail
off : {A : Type 0} (b : Bool) (x y : A) → b ≡ false → (if b then x else y) ≡ y
off true x y e = absurd (false≢true (sym e))
off false x y e = refl

off_left : (a b : Bool) → a ≡ false → (a && b) ≡ false
off_left true b e = absurd (false≢true (sym e))
off_left false b e = refl

pub off_right : (a b : Bool) → b ≡ false → (a && b) ≡ false
off_right true b e = e
off_right false b e = refl

off_three : (a b c : Bool) → (b && c) ≡ false → (a && b && c) ≡ false
off_three true b c e = e
off_three false b c e = refl

-- the one limit that is looked at serves both rules
by_first : (f : Bool) (a b : Limit) (gap : Micros) → is_passed (if f then a else b) gap ≡ false → (f && is_passed a gap) ≡ false
by_first true a b gap h = h
by_first false a b gap h = refl

by_other : (f : Bool) (a b : Limit) (gap : Micros) → is_passed (if f then a else b) gap ≡ false → (not f && is_passed b gap) ≡ false
by_other true a b gap h = refl
by_other false a b gap h = h

-- ---- no time runs out: the tests of the four rules all fail
record Calm (p : Phase) (mark start : Micros) : Type 0 where
  silent : (is_open p.state && is_silent (gap_of mark start)) ≡ false
  replied : (is_quiet p.state && is_first p.reply && is_passed p.windows.p2max (gap_of mark start)) ≡ false
  busy : (is_quiet p.state && not (is_first p.reply) && is_passed p.windows.p3max (gap_of mark start)) ≡ false
  within : (is_starting p.state && is_over p.start (since_origin p mark start)) ≡ false

calm_in_lem : (st : State) (p : Phase) (mark start : Micros) → p.state ≡ st → calm_in st p mark start ≡ true → Calm p mark start
unfolding is_open is_quiet is_starting limit_of
calm_in_lem Down p mark start e h = record {
  silent = off_left (is_open p.state) _ (ap is_open e);
  replied = off_left _ _ (off_left (is_quiet p.state) _ (ap is_quiet e));
  busy = off_left _ _ (off_left (is_quiet p.state) _ (ap is_quiet e));
  within = off_left (is_starting p.state) _ (ap is_starting e);
}
calm_in_lem Starting p mark start e h = record {
  silent = off_left (is_open p.state) _ (ap is_open e);
  replied = off_left _ _ (off_left (is_quiet p.state) _ (ap is_quiet e));
  busy = off_left _ _ (off_left (is_quiet p.state) _ (ap is_quiet e));
  within = off_right (is_starting p.state) _ (not-true (is_over p.start (since_origin p mark start)) h);
}
calm_in_lem Quiet p mark start e h =
    let x = not-true (is_passed (if is_first p.reply then p.windows.p2max else p.windows.p3max) (gap_of mark start)) h in
    record {
      silent = off_left (is_open p.state) _ (ap is_open e);
      replied = off_three (is_quiet p.state) _ _ (by_first (is_first p.reply) p.windows.p2max p.windows.p3max (gap_of mark start) x);
      busy = off_three (is_quiet p.state) _ _ (by_other (is_first p.reply) p.windows.p2max p.windows.p3max (gap_of mark start) x);
      within = off_left (is_starting p.state) _ (ap is_starting e);
    }
calm_in_lem Held p mark start e h = record {
  silent = off_right (is_open p.state) _ (not-true (is_silent (gap_of mark start)) h);
  replied = off_left _ _ (off_left (is_quiet p.state) _ (ap is_quiet e));
  busy = off_left _ _ (off_left (is_quiet p.state) _ (ap is_quiet e));
  within = off_left (is_starting p.state) _ (ap is_starting e);
}
calm_in_lem Damage p mark start e h = record {
  silent = off_right (is_open p.state) _ (not-true (is_silent (gap_of mark start)) h);
  replied = off_left _ _ (off_left (is_quiet p.state) _ (ap is_quiet e));
  busy = off_left _ _ (off_left (is_quiet p.state) _ (ap is_quiet e));
  within = off_left (is_starting p.state) _ (ap is_starting e);
}

calm : (p : Phase) (mark start : Micros) → is_calm p mark start ≡ true → Calm p mark start
unfolding is_calm
calm p mark start h = calm_in_lem p.state p mark start refl h

moved_still : (r : Run) → moved r (still r.phase) ≡ r
unfolding moved
moved_still r = refl

pub passed_calm : (r : Run) (mark start : Micros) → is_calm r.phase mark start ≡ true → passed r mark start ≡ r
unfolding passed after_silence after_p2 after_p3 after_window
passed_calm r mark start h =
    let c = calm r.phase mark start h in
    rw (c.silent, moved_still r, c.replied, moved_still r, c.busy, moved_still r, c.within) (moved_still r)

-- ---- a byte that ends what is held does so before it acts: the code looks for it with the time that passes
cut_is : (b : Bool) (r : Run) → (if b && true then moved r (ended r.phase) else r) ≡ moved r (if b then ended r.phase else still r.phase)
cut_is true r = refl
cut_is false r = sym (moved_still r)

cut_none : (b : Bool) (r : Run) → (if b && false then moved r (ended r.phase) else r) ≡ r
cut_none true r = refl
cut_none false r = refl

acts_after : (k : Kind) (r : Run) (e : Event) (mark : Micros) → e.kind ≡ k → acts_by k (cut_by r e) e mark ≡ acted_by k r e mark
unfolding cut_by cuts_by is_byte byte_heard before_byte
acts_after Byte r e mark k = rw k (ap (λ (x : Run). acts_by Byte x e mark) (cut_is (is_cut_in r.phase e.side) r))
acts_after Address r e mark k = rw k (ap (λ (x : Run). acted_by Address x e mark) (cut_none (is_cut_in r.phase e.side) r))
acts_after WakeUp r e mark k = rw k (ap (λ (x : Run). acted_by WakeUp x e mark) (cut_none (is_cut_in r.phase e.side) r))
acts_after Tick r e mark k = rw k (cut_none (is_cut_in r.phase e.side) r)
acts_after Drop r e mark k = rw k (ap (λ (x : Run). acted_by Drop x e mark) (cut_none (is_cut_in r.phase e.side) r))
acts_after Other r e mark k = rw k (cut_none (is_cut_in r.phase e.side) r)

pub acts_handled : (l : Link) (e : Event) → acts_by e.kind (approached (begins l e) e l.mark) e l.mark ≡ handled l e
unfolding approached handled acted
acts_handled l e = acts_after e.kind (passed (begins l e) l.mark e.start) e l.mark refl

-- where no time runs out and nothing is ended, nothing comes before an event
pub approached_calm : (r : Run) (e : Event) (mark : Micros) → (is_calm r.phase mark e.start && not (cuts_by r.phase e)) ≡ true → approached r e mark ≡ r
unfolding approached cut_by
approached_calm r e mark h =
    let x = and_split (is_calm r.phase mark e.start) _ h in
    rw (passed_calm r mark e.start x.0, not-true (cuts_by r.phase e) x.1) refl

-- ---- a byte before which no time runs out, and which makes no report
byte_acts : (k : Kind) (r : Run) (e : Event) (mark : Micros) → is_byte k ≡ true → acted_by k r e mark ≡ byte_heard r e mark
unfolding is_byte
byte_acts Byte r e mark h = refl
byte_acts Address r e mark h = absurd (false≢true h)
byte_acts WakeUp r e mark h = absurd (false≢true h)
byte_acts Tick r e mark h = absurd (false≢true h)
byte_acts Drop r e mark h = absurd (false≢true h)
byte_acts Other r e mark h = absurd (false≢true h)

byte_marks : (k : Kind) → is_byte k ≡ true → marks k ≡ true
unfolding is_byte marks
byte_marks Byte h = refl
byte_marks Address h = refl
byte_marks WakeUp h = refl
byte_marks Tick h = h
byte_marks Drop h = h
byte_marks Other h = h

-- THE LAW that each short way is a case of
pub byte_step : (l : Link) (c : Counts) (e : Event) (p : Phase) → number_of l c e ≡ taken → is_byte e.kind ≡ true
    → is_calm l.phase l.mark e.start ≡ true → is_cut_in l.phase e.side ≡ false → after_byte l.phase e.side e.value l.mark e.start ≡ still p → after_stop p ≡ still p
    → went_on l e p ≡ answer_of l c e
unfolding answer_of taken_by handled acted begins byte_heard moved before_byte link_after mark_after went_on
byte_step l c e p t k q n b s =
    rw (eq-eqb _ _ t, passed_calm (begins l e) l.mark e.start q, byte_acts e.kind (begins l e) e l.mark k, n, b, s, byte_marks e.kind k) refl

-- a byte cuts in only where a message is held, and only from the other side
not_cut : (p : Phase) (side : Side) → is_held p.state ≡ false → is_cut_in p side ≡ false
unfolding is_cut_in
not_cut p side h = off_left _ _ (off_left _ _ (off_left (is_held p.state) _ h))

same_cut : (a b : Side) → same_side a b ≡ true → (is_tester b && is_unit a) ≡ false
unfolding same_side is_tester is_unit is_nobody
same_cut Tester Tester h = refl
same_cut Unit Unit h = refl
same_cut Nobody Nobody h = refl
same_cut Tester Unit h = absurd (false≢true h)
same_cut Tester Nobody h = absurd (false≢true h)
same_cut Unit Tester h = absurd (false≢true h)
same_cut Unit Nobody h = absurd (false≢true h)
same_cut Nobody Tester h = absurd (false≢true h)
same_cut Nobody Unit h = absurd (false≢true h)

three_off : (a b c d : Bool) → (b && c) ≡ false → (a && b && c && d) ≡ false
three_off true true true d h = absurd (false≢true (sym h))
three_off true true false d h = refl
three_off true false c d h = refl
three_off false b c d h = refl

same_side_cut : (p : Phase) (side : Side) → same_side side p.message.side ≡ true → is_cut_in p side ≡ false
unfolding is_cut_in
same_side_cut p side s =
    three_off (is_held p.state) (is_tester p.message.side) (is_unit side) (is_quick (edition_of p.start.pair)) (same_cut side p.message.side s)

-- a link that is not quiet was not stopped
not_stopped : (p : Phase) → is_quiet p.state ≡ false → after_stop p ≡ still p
unfolding after_stop
not_stopped p h = off _ _ _ (off_left (is_quiet p.state) _ h)

-- ---- the first byte of a message
quiet_calm : (st : State) (p : Phase) (mark start : Micros) → is_quiet st ≡ true → not (is_passed (limit_of p) (gap_of mark start)) ≡ true
    → calm_in st p mark start ≡ true
unfolding is_quiet
quiet_calm Quiet p mark start h g = g
quiet_calm Down p mark start h g = refl
quiet_calm Starting p mark start h g = absurd (false≢true h)
quiet_calm Held p mark start h g = absurd (false≢true h)
quiet_calm Damage p mark start h g = absurd (false≢true h)

quiet_byte : (st : State) (p : Phase) (side : Side) (v : ℕ) (mark start : Micros) → is_quiet st ≡ true
    → byte_in st p side v mark start ≡ still (first_byte p side v (gap_of mark start))
unfolding is_quiet
quiet_byte Quiet p side v mark start h = refl
quiet_byte Down p side v mark start h = absurd (false≢true h)
quiet_byte Starting p side v mark start h = absurd (false≢true h)
quiet_byte Held p side v mark start h = absurd (false≢true h)
quiet_byte Damage p side v mark start h = absurd (false≢true h)

quiet_held : (st : State) → is_quiet st ≡ true → is_held st ≡ false
unfolding is_quiet is_held
quiet_held Quiet h = refl
quiet_held Down h = refl
quiet_held Starting h = refl
quiet_held Held h = absurd (false≢true h)
quiet_held Damage h = refl

-- on a 14230 link
first_frame : (p : Phase) (side : Side) (v : ℕ) (gap : Micros) → is_car (edition_of p.start.pair) ≡ false → first_byte p side v gap ≡ first_frame_byte p side v gap
unfolding first_byte first_frame_byte reason_at_first first_reason begun_by
first_frame p side v gap n = rw n refl

first_opens : (p : Phase) (side : Side) (v : ℕ) (gap : Micros) → is_quiet (first_frame_byte p side v gap).state ≡ false
unfolding first_frame_byte holding damaged talking is_quiet
first_opens p side v gap =
    let reason = frame_reason p.start.pair.kb1 p.reply p.windows side v gap in
    by_test (λ (x : Phase). is_quiet x.state ≡ false) (eqb reason no_reason) {x = holding p (begun side v)} {y = damaged p reason} (λ _. refl) (λ _. refl)

pub first_step : (l : Link) (c : Counts) (e : Event) → number_of l c e ≡ taken → is_first_byte l e ≡ true
    → went_on l e (first_frame_byte l.phase e.side e.value (gap_of l.mark e.start)) ≡ answer_of l c e
unfolding is_first_byte is_calm after_byte
first_step l c e t h =
    let gap = gap_of l.mark e.start in
    let w = and_split (is_byte e.kind && is_quiet l.phase.state && not (is_passed (limit_of l.phase) gap)) _ h in
    let x = and_split (is_byte e.kind && is_quiet l.phase.state) _ w.0 in
    let y = and_split (is_byte e.kind) _ x.0 in
    let n = not-true (is_car (edition_of l.phase.start.pair)) w.1 in
    byte_step l c e _ t y.0 (quiet_calm l.phase.state l.phase l.mark e.start y.1 x.1)
    (not_cut l.phase e.side (quiet_held l.phase.state y.1))
    (quiet_byte l.phase.state l.phase e.side e.value l.mark e.start y.1 ∙ ap still (first_frame l.phase e.side e.value gap n))
    (not_stopped _ (first_opens l.phase e.side e.value (gap_of l.mark e.start)))

-- ---- a byte that goes on with its message
held_calm : (st : State) (p : Phase) (mark start : Micros) → is_held st ≡ true → not (is_silent (gap_of mark start)) ≡ true → calm_in st p mark start ≡ true
unfolding is_held
held_calm Held p mark start h g = g
held_calm Down p mark start h g = refl
held_calm Starting p mark start h g = absurd (false≢true h)
held_calm Quiet p mark start h g = absurd (false≢true h)
held_calm Damage p mark start h g = g

inside_right : (part : Part) (m : Message) (v : ℕ) → is_inside part ≡ true → part_reason part m v ≡ no_reason
unfolding is_inside
inside_right Target m v h = refl
inside_right Source m v h = refl
inside_right Length m v h = absurd (false≢true h)
inside_right Data m v h = refl
inside_right Sum m v h = absurd (false≢true h)
inside_right Free m v h = refl

inside_more : (part : Part) → is_inside part ≡ true → is_sum part ≡ false
unfolding is_inside is_sum
inside_more Target h = refl
inside_more Source h = refl
inside_more Length h = refl
inside_more Data h = refl
inside_more Sum h = absurd (false≢true h)
inside_more Free h = refl

later_on : (p : Phase) (side : Side) (v : ℕ) → same_side side p.message.side ≡ true → is_inside p.message.part ≡ true
    → later_byte p side v ≡ still (holding p (grown p.message v))
unfolding later_byte later_reason
later_on p side v s i = rw (s, inside_right p.message.part p.message v i, inside_more p.message.part i) refl

held_byte : (st : State) (p : Phase) (side : Side) (v : ℕ) (mark start : Micros) → is_held st ≡ true → byte_in st p side v mark start ≡ later_byte p side v
unfolding is_held
held_byte Held p side v mark start h = refl
held_byte Down p side v mark start h = absurd (false≢true h)
held_byte Starting p side v mark start h = absurd (false≢true h)
held_byte Quiet p side v mark start h = absurd (false≢true h)
held_byte Damage p side v mark start h = absurd (false≢true h)

holding_open : (p : Phase) (m : Message) → is_quiet (holding p m).state ≡ false
unfolding holding talking is_quiet
holding_open p m = refl

pub on_step : (l : Link) (c : Counts) (e : Event) → number_of l c e ≡ taken → goes_on l e ≡ true
    → went_on l e (holding l.phase (grown l.phase.message e.value)) ≡ answer_of l c e
unfolding goes_on is_calm after_byte
on_step l c e t h =
    let x = and_split (is_byte e.kind && is_held l.phase.state && not (is_silent (gap_of l.mark e.start))) _ h in
    let y = and_split (is_byte e.kind && is_held l.phase.state) _ x.0 in
    let z = and_split (is_byte e.kind) _ y.0 in
    let s = and_split (same_side e.side l.phase.message.side) _ x.1 in
    byte_step l c e _ t z.0 (held_calm l.phase.state l.phase l.mark e.start z.1 y.1)
    (same_side_cut l.phase e.side s.0)
    (held_byte l.phase.state l.phase e.side e.value l.mark e.start z.1 ∙ later_on l.phase e.side e.value s.0 s.1)
    (not_stopped _ (holding_open l.phase (grown l.phase.message e.value)))

-- ---- an event that runs on: it is a byte, and this is its whole step
pub runs_byte : (l : Link) (c : Counts) (e : Event) → runs_on l c e ≡ true → is_byte e.kind ≡ true
unfolding runs_on goes_on
runs_byte l c e h =
    let x = and_split (eqb (number_of l c e) taken) _ h in
    let y = and_split (is_byte e.kind && is_held l.phase.state && not (is_silent (gap_of l.mark e.start))) _ x.1 in
    let z = and_split (is_byte e.kind && is_held l.phase.state) _ y.0 in
    (and_split (is_byte e.kind) _ z.0).0

pub runs_on_lem : (l : Link) (c : Counts) (e : Event) → runs_on l c e ≡ true
    → step_of l c e ≡ record { answer = record { link = ran_on l e; reports = no_reports; no = taken }; counts = counted_event c true no_reports }
unfolding runs_on step_of counts_after went_on ran_on
runs_on_lem l c e h =
    let x = and_split (eqb (number_of l c e) taken) (goes_on l e) h in
    rw (← (on_step l c e (eqb-true _ _ x.0) x.1), runs_byte l c e h) refl
