-- An initialization over a log: from a good start, each byte after it is right and not the last. While such a log's window is open the link is at
-- what its bytes lead to, and a link in an initialization has such a log after it; every event that is taken keeps both.
-- Assumes nothing.
use Prim.Native.Nat.{ℕ, ◌+◌, ◌-◌, ◌≤◌}
use mathlib.Core.Bool.{Bool, true, false, false≢true}
use mathlib.Core.Path.{◌≡◌, ◌∙◌, refl, sym, ap, ap₂, subst}
use mathlib.Core.Logic.{◌↔◌, inl, inr}
use native.Mathlib.Omega.{arith}
use borrow.Author.Tests.{ltb-false, le-ltb}
use Rattle.base.specs.Reports.{no_reason, restarted}
use Rattle.units.specs.Units.{micros}
use Rattle.units.specs.declared.Micros.{Micros}
use Rattle.events.specs.Events.{marks}
use Rattle.events.specs.declared.Kind.{Kind}
use Rattle.events.specs.declared.Kind.TheVariants.{Address, WakeUp, Byte, Tick, Drop, Other}
use Rattle.events.specs.declared.Event.{Event}
use Rattle.starts.specs.Starts.{due_at, origin_of, judged, is_over, is_last, onward, no_start, slow_start, fast_start}
use Rattle.starts.specs.declared.Start.{Start}
use Rattle.phases.specs.Phases.{is_starting, down, starting}
use Rattle.phases.specs.declared.Phase.{Phase}
use Rattle.moves.specs.Moves.{since_origin, is_good_low}
use Rattle.reports.specs.Reporting.{with_phase}
use Rattle.reports.specs.declared.Run.{Run}
use Rattle.link.specs.Handling.{fresh_link, passed, shut, hearing, begun, handled, link_after}
use Rattle.link.specs.declared.Link.{Link}
use Rattle.demands.specs.Logs.{Log, none, ◌▷◌, mark_of}
use Rattle.demands.specs.Histories.{after}
use Rattle.demands.specs.Connecting.{Since, here, tick, byte}
use Rattle.demands.specs.Ours.{ours}
use Rattle.demands.proofs.Moves.Entering.{In, Open, carried, Completes, judging, has_idled, Leads, begins_slow, begins_fast, grows, waits}
use Rattle.demands.proofs.Moves.Causes.{leads}
use Rattle.demands.proofs.Moves.Completing.{slow_run, fast_run, wait_run, right_run}
use Rattle.demands.proofs.Connecting.Waking.{idle_time}

-- ---- the initialization that an event starts, and how far the bytes after it bring it
abbrev pub first_by : Kind → ℕ → Start
first_by Address v = slow_start v
first_by WakeUp v = fast_start
first_by Byte v = no_start
first_by Tick v = no_start
first_by Drop v = no_start
first_by Other v = no_start

abbrev pub fall_by : Kind → Micros → Micros
fall_by Address t = micros 0
fall_by WakeUp t = t
fall_by Byte t = micros 0
fall_by Tick t = micros 0
fall_by Drop t = micros 0
fall_by Other t = micros 0

unfoldable pub start_on : Event → Log → Start
start_on a none = first_by a.kind a.value
start_on a (bs ▷ b) = onward (start_on a bs) b.value

abbrev pub phase_on : Event → Log → Phase
phase_on a bs = starting (fall_by a.kind a.start) (start_on a bs)

-- the mark after them
abbrev pub last_end : Event → Log → Micros
last_end a none = a.end
last_end a (bs ▷ b) = b.end

-- ---- a good start, no sooner than at the time m, and bytes that are right
abbrev pub Starts : Kind → ℕ → Event → Type 0
Starts Address m a = m ≤ a.start.0
Starts WakeUp m a = (m ≤ a.start.0) × (is_good_low a.start a.end ≡ true)
Starts Byte m a = ⊥
Starts Tick m a = ⊥
Starts Drop m a = ⊥
Starts Other m a = ⊥

-- the time from which our link, as it is after these events, lets this one start an initialization. (That it is the history's: IdleTimes/.)
abbrev pub own_until : Log → Event → ℕ
own_until log a = (mark_of log).0 + (judging (after ours log).link a).idle.0

-- a byte comes after the last one, finds the window open, and is right
pub record Hears (a : Event) (bs : Log) (b : Event) : Type 0 where
  pub later : (last_end a bs).0 ≤ b.start.0
  pub window : Open (phase_on a bs) (last_end a bs) b.start
  pub right : judged (phase_on a bs).start b.side b.value (since_origin (phase_on a bs) (last_end a bs) b.start) ≡ no_reason

abbrev pub is_last_on : Event → Log → Bool
is_last_on a bs = is_last (phase_on a bs).start.stage

abbrev pub Runs : ℕ → Event → Log → Type 0
Runs m a none = Starts a.kind m a
Runs m a (bs ▷ b) = Runs m a bs × Hears a bs b × (is_last_on a bs ≡ false)

-- and one that completes it
abbrev pub Done : ℕ → Event → Log → Event → Type 0
Done m a bs b = Runs m a bs × Hears a bs b × (is_last_on a bs ≡ true)

starts_mark : (k : Kind) (m : ℕ) (a : Event) → Starts k m a → marks k ≡ true
unfolding marks
starts_mark Address m a s = refl
starts_mark WakeUp m a s = refl
starts_mark Byte m a s = refl
starts_mark Tick m a s = absurd s
starts_mark Drop m a s = absurd s
starts_mark Other m a s = absurd s

-- a run has a good start
pub runs_starts : (m : ℕ) (a : Event) (bs : Log) → Runs m a bs → Starts a.kind m a
runs_starts m a none r = r
runs_starts m a (bs ▷ b) r = runs_starts m a bs r.0

starts_idle : (k : Kind) (m : ℕ) (a : Event) → Starts k m a → m ≤ a.start.0
starts_idle Address m a s = s
starts_idle WakeUp m a s = s.0
starts_idle Byte m a s = absurd s
starts_idle Tick m a s = absurd s
starts_idle Drop m a s = absurd s
starts_idle Other m a s = absurd s

pub runs_idle : (m : ℕ) (a : Event) (bs : Log) → Runs m a bs → m ≤ a.start.0
runs_idle m a bs r = starts_idle a.kind m a (runs_starts m a bs r)

pub runs_mark : (m : ℕ) (a : Event) (bs : Log) → Runs m a bs → marks a.kind ≡ true
runs_mark m a bs r = starts_mark a.kind m a (runs_starts m a bs r)

-- the mark of a log is the end of the last byte, or of the start
pub since_mark : {a : Event} {before log bs : Log} → marks a.kind ≡ true → Since a before log bs → mark_of log ≡ last_end a bs
unfolding mark_of marks
since_mark h here = rw h
since_mark h (tick {e = e} k s) = rw (ap marks k) (since_mark h s)
since_mark h (byte {e = e} k s) = rw (ap marks k)

-- a window that is open is open earlier
pub open_early : (p : Phase) (mark s t : Micros) → s.0 ≤ t.0 → Open p mark t → Open p mark s
unfolding is_over since_origin
open_early p mark s t h o =
    let from = origin_of p.start.stage p.fall mark in
    let late = (due_at p.start.stage).latest in
    let k = ltb-false late.0 (t.0 - from.0) o in
    le-ltb late.0 (s.0 - from.0) (omega arith)

on_in : (a : Event) (bs : Log) → In (phase_on a bs)
unfolding starting is_starting
on_in a bs = refl

-- a phase and a mark that are those of a log ask the next byte the same
module _ (p : Phase) (mark : Micros) (a : Event) (bs : Log) (b : Event) (at : p ≡ phase_on a bs) (end : mark ≡ last_end a bs) where
  pub over_same : is_over p.start (since_origin p mark b.start) ≡ is_over (phase_on a bs).start (since_origin (phase_on a bs) (last_end a bs) b.start)
  over_same = ap₂ (λ (x : Phase) (y : Micros). is_over x.start (since_origin x y b.start)) at end

  pub judged_same : judged p.start b.side b.value (since_origin p mark b.start)
      ≡ judged (phase_on a bs).start b.side b.value (since_origin (phase_on a bs) (last_end a bs) b.start)
  judged_same = ap₂ (λ (x : Phase) (y : Micros). judged x.start b.side b.value (since_origin x y b.start)) at end

  pub last_same : is_last p.start.stage ≡ is_last_on a bs
  last_same = ap (λ (x : Phase). is_last x.start.stage) at

  -- one byte more
  pub next_same : starting p.fall (onward p.start b.value) ≡ phase_on a (bs ▷ b)
  unfolding starting start_on
  next_same = ap (λ (x : Phase). starting x.fall (onward x.start b.value)) at

-- ---- the link is at what its log leads to
pub record Going (p : Phase) (log : Log) : Type 0 where
  pub start : Event
  pub before : Log
  pub bytes : Log
  pub since : Since start before log bytes
  pub runs : Runs (own_until before start) start bytes
  pub phase : p ≡ phase_on start bytes

-- THE INVARIANT
pub record Inv (l : Link) (log : Log) : Type 0 where
  pub forth : In l.phase → Going l.phase log
  pub back : (a : Event) (before bs : Log) → Since a before log bs → Runs (own_until before a) a bs → Open (phase_on a bs) (last_end a bs) l.clock
      → l.phase ≡ phase_on a bs

-- the link is the one after its log, and the event, of a known kind, comes after its clock
pub record Behind (l : Link) (log : Log) (e : Event) : Type 0 where
  pub mark : l.mark ≡ mark_of log
  pub own : own_until log e ≡ l.mark.0 + (judging l e).idle.0
  pub order : l.mark.0 ≤ l.clock.0
  pub later : l.clock.0 ≤ e.start.0
  pub ordered : e.start.0 ≤ e.end.0
  pub known : e.kind ≡ Other → ⊥

-- the initialization that a good start leads to
slow_first : (e : Event) → e.kind ≡ Address → starting (micros 0) (slow_start e.value) ≡ phase_on e none
unfolding start_on
slow_first e k = sym (ap (λ (x : Kind). starting (fall_by x e.start) (first_by x e.value)) k)

fast_first : (e : Event) → e.kind ≡ WakeUp → starting e.start fast_start ≡ phase_on e none
unfolding start_on
fast_first e k = sym (ap (λ (x : Kind). starting (fall_by x e.start) (first_by x e.value)) k)

module _ (l : Link) (log : Log) (e : Event) (t : Behind l log e) (inv : Inv l log) where
  abbrev r : Run
  r = passed (begun l e) l.mark e.start

  on_mark : {p : Phase} (g : Going p log) → l.mark ≡ last_end g.start g.bytes
  on_mark g = t.mark ∙ since_mark (runs_mark (own_until g.before g.start) g.start g.bytes g.runs) g.since

  -- the link's test of the idle time
  idled : (has_idled l e ≡ true) ↔ (own_until log e ≤ e.start.0)
  idled =
      let x = idle_time (judging l e).idle l.mark e.start (omega (arith, t.order, t.later)) in
      (λ i. omega (arith, t.own, x.0 i), λ h. x.1 (omega (arith, t.own, h)))

  -- ---- forth
  forth_start : (q : Phase) → Starts e.kind (own_until log e) e → q ≡ phase_on e none → Going q (log ▷ e)
  forth_start q s h = record {
    start = e;
    before = log;
    bytes = none;
    since = here;
    runs = s;
    phase = h;
  }

  forth_by : (q : Phase) → Leads l e q → Going q (log ▷ e)
  forth_by q (begins_slow k i) = forth_start q (subst (λ (x : Kind). Starts x (own_until log e) e) (sym k) (idled.0 i)) (slow_first e k)
  forth_by q (begins_fast k i g) = forth_start q (subst (λ (x : Kind). Starts x (own_until log e) e) (sym k) (idled.0 i, g)) (fast_first e k)
  forth_by q (grows k i o v z) =
      let g = inv.forth i in
      let m = on_mark g in
      record {
        start = g.start;
        before = g.before;
        bytes = g.bytes ▷ e;
        since = byte k g.since;
        runs = (
          g.runs,
          record {
            later = omega (arith, ap (λ (x : Micros). x.0) m, t.order, t.later);
            window = sym (over_same l.phase l.mark g.start g.bytes e g.phase m) ∙ o;
            right = sym (judged_same l.phase l.mark g.start g.bytes e g.phase m) ∙ v;
          },
          sym (last_same l.phase l.mark g.start g.bytes e g.phase m) ∙ z,
        );
        phase = next_same l.phase l.mark g.start g.bytes e g.phase m;
      }
  forth_by q (waits (inl k) i o) =
      let g = inv.forth i in
      record { start = g.start; before = g.before; bytes = g.bytes; since = tick k g.since; runs = g.runs; phase = g.phase }
  forth_by q (waits (inr k) i o) = absurd (t.known k)

  -- ---- and back: what the event makes of the run
  -- a good start
  start_by : (k : Kind) → e.kind ≡ k → Starts k (own_until log e) e → handled l e ≡ with_phase (shut r restarted) (phase_on e none)
  start_by Address k s = slow_run l e k (idled.1 s) ∙ ap (with_phase (shut r restarted)) (slow_first e k)
  start_by WakeUp k s = fast_run l e k (idled.1 s.0) s.1 ∙ ap (with_phase (shut r restarted)) (fast_first e k)
  start_by Byte k s = absurd s
  start_by Tick k s = absurd s
  start_by Drop k s = absurd s
  start_by Other k s = absurd s

  pub back_start : Starts e.kind (own_until log e) e → handled l e ≡ with_phase (shut r restarted) (phase_on e none)
  back_start s = start_by e.kind refl s

  -- with its window open at the event's start, the link is at what the log leads to
  pub record At (a : Event) (bs : Log) : Type 0 where
    pub phase : l.phase ≡ phase_on a bs
    pub mark : l.mark ≡ last_end a bs
    pub was : In l.phase
    pub window : Open l.phase l.mark e.start

  pub back_open : (a : Event) (before bs : Log) → Since a before log bs → Runs (own_until before a) a bs
      → Open (phase_on a bs) (last_end a bs) e.start → At a bs
  back_open a before bs s u o =
      let p = inv.back a before bs s u (open_early (phase_on a bs) (last_end a bs) l.clock e.start t.later o) in
      let m = t.mark ∙ since_mark (runs_mark (own_until before a) a bs u) s in
      record {
        phase = p;
        mark = m;
        was = carried _ _ (sym p) (on_in a bs);
        window = over_same l.phase l.mark a bs e p m ∙ o;
      }

  -- a tick
  pub back_tick : {a : Event} {bs : Log} → At a bs → e.kind ≡ Tick → handled l e ≡ begun l e
  back_tick w k = wait_run l e w.was w.window (inl k)

  -- a byte that is right and not the last
  pub back_byte : (a : Event) (bs : Log) → At a bs → e.kind ≡ Byte → Hears a bs e → is_last_on a bs ≡ false
      → handled l e ≡ with_phase (hearing (begun l e)) (phase_on a (bs ▷ e))
  back_byte a bs w k h z =
      right_run l e w.was w.window k (judged_same l.phase l.mark a bs e w.phase w.mark ∙ h.right)
      (last_same l.phase l.mark a bs e w.phase w.mark ∙ z)
      ∙ ap (with_phase (hearing (begun l e))) (next_same l.phase l.mark a bs e w.phase w.mark)

back_by : (l : Link) (log : Log) (e : Event) → Behind l log e → Inv l log → (a : Event) (before bs : Log) → Since a before (log ▷ e) bs
    → Runs (own_until before a) a bs → Open (phase_on a bs) (last_end a bs) e.end → (handled l e).phase ≡ phase_on a bs
unfolding begun
back_by l log e t inv a before bs here u o = ap (λ (x : Run). x.phase) (back_start l log e t inv u)
back_by l log e t inv a before bs (tick k s) u o =
    let w = back_open l log e t inv a before bs s u (open_early (phase_on a bs) (last_end a bs) e.start e.end t.ordered o) in
    ap (λ (x : Run). x.phase) (back_tick l log e t inv w k) ∙ w.phase
back_by l log e t inv a before (bs ▷ b) (byte k s) u o =
    let w = back_open l log e t inv a before bs s u.0 u.1.window in
    ap (λ (x : Run). x.phase) (back_byte l log e t inv a bs w k u.1 u.2)

-- ---- an event that is taken keeps it
pub inv_on : (l : Link) (log : Log) (e : Event) → Behind l log e → Inv l log → Inv (link_after l e (handled l e)) (log ▷ e)
unfolding link_after
inv_on l log e t inv = record { forth = λ i. forth_by l log e t inv (handled l e).phase (leads l e i); back = back_by l log e t inv }

pub no_since : (a : Event) (before bs : Log) → Since a before none bs → ⊥
no_since a before bs s = elim s [ ]

pub inv_fresh : Inv fresh_link none
unfolding fresh_link down is_starting
inv_fresh = record { forth = λ i. absurd (false≢true i); back = λ a before bs s. absurd (no_since a before bs s) }

-- ---- A BYTE COMPLETES THE LINK'S INITIALIZATION EXACTLY IF IT COMPLETES ONE ON THE LOG
pub record Ends (log : Log) (e : Event) : Type 0 where
  pub start : Event
  pub before : Log
  pub bytes : Log
  pub since : Since start before log bytes
  pub done : Done (own_until before start) start bytes e
  pub last : e.kind ≡ Byte

pub ends_of : (l : Link) (log : Log) (e : Event) → Behind l log e → Inv l log → Completes l e → Ends log e
ends_of l log e t inv c =
    let g = inv.forth c.was in
    let m = on_mark l log e t inv g in
    record {
      start = g.start;
      before = g.before;
      bytes = g.bytes;
      since = g.since;
      done = (
        g.runs,
        record {
          later = omega (arith, ap (λ (x : Micros). x.0) m, t.order, t.later);
          window = sym (over_same l.phase l.mark g.start g.bytes e g.phase m) ∙ c.window;
          right = sym (judged_same l.phase l.mark g.start g.bytes e g.phase m) ∙ c.right;
        },
        sym (last_same l.phase l.mark g.start g.bytes e g.phase m) ∙ c.last,
      );
      last = c.byte;
    }

-- the other way round, and the link is then at what the bytes lead to
pub completes_of : (l : Link) (log : Log) (e : Event) → Behind l log e → Inv l log → (x : Ends log e)
    → Completes l e × (l.phase ≡ phase_on x.start x.bytes)
completes_of l log e t inv x =
    let d = x.done in
    let w = back_open l log e t inv x.start x.before x.bytes x.since d.0 d.1.window in (
      record {
        byte = x.last;
        was = w.was;
        window = w.window;
        right = judged_same l.phase l.mark x.start x.bytes e w.phase w.mark ∙ d.1.right;
        last = last_same l.phase l.mark x.start x.bytes e w.phase w.mark ∙ d.2;
      },
      w.phase,
    )
