-- DEMAND 2: the link connects exactly when every byte, complement and window of an initialization holds, and its start has kept the idle time that the history asks.
-- It is what ConnectsExactly.antt and its neighbours say by our own link's idle time, which is the history's (`asked_link`): the start of an initialization on
-- the events taken was itself taken after those before it.
-- Assumes nothing.
use Prim.Native.Nat.{ℕ, ◌+◌, ◌≤◌, ◌<◌}
use mathlib.Core.Bool.{Bool, true, false}
use mathlib.Core.Logic.{◌↔◌}
use mathlib.Core.Path.{◌≡◌, refl, sym, ap, ◌∙◌, subst}
use borrow.Author.Tests.{eqb-true, eq-eqb}
use lib.Dec.{eqb}
use Rattle.base.specs.Numbers.{taken}
use Rattle.base.specs.Reports.{connected_report}
use Rattle.units.specs.declared.Micros.{Micros}
use Rattle.events.specs.declared.Event.{Event}
use Rattle.phases.specs.Phases.{is_connected}
use Rattle.demands.specs.Logs.{Log, none, ◌▷◌, mark_of, number_after, taken_of, InBytes}
use Rattle.demands.specs.Histories.{after, reports_to, Says}
use Rattle.demands.specs.Idle.{idle_asked, idle_until}
use Rattle.demands.specs.Connecting.{Since, here, tick, byte, ConnectsBy, Connects, Connected}
use Rattle.demands.specs.Endings.{Starter}
use Rattle.demands.specs.Beside.{ConnectedLink}
use Rattle.demands.specs.Ours.{ours, our_answer}
use Rattle.demands.proofs.Connecting.Running.{own_until}
use Rattle.demands.proofs.Connecting.ConnectsExactly.{own_connects_exactly}
use Rattle.demands.proofs.Connecting.ConnectedReport.{own_connects_link}
use Rattle.demands.proofs.Connecting.BecomesConnected.{own_becomes_exactly}
use Rattle.demands.proofs.Connecting.KeyBytes.{starter}
use Rattle.demands.proofs.IdleTimes.IdleLink.{asked_link}

-- ---- a log of which every event is taken
data Whole : Log → Type 0 where
  empty : Whole none
  more : {log : Log} {e : Event} → Whole log → number_after (taken_of log) e ≡ taken → taken_of log ≡ log → Whole (log ▷ e)

whole_same : {log : Log} → Whole log → taken_of log ≡ log
unfolding taken_of
whole_same empty = refl
whole_same (more {log = log} {e = e} w q s) = rw (eq-eqb _ _ q) (ap (λ (x : Log). x ▷ e) s)

whole_by : (b : Bool) (es : Log) (e : Event) → eqb (number_after (taken_of es) e) taken ≡ b → Whole (taken_of es) → Whole (taken_of (es ▷ e))
unfolding taken_of
whole_by true es e q w =
    let s = whole_same w in
    rw q (more w (subst (λ (log : Log). number_after log e ≡ taken) (sym s) (eqb-true _ _ q)) s)
whole_by false es e q w = rw q w

whole_of : (es : Log) → Whole (taken_of es)
unfolding taken_of
whole_of none = empty
whole_of (es ▷ e) = whole_by (eqb (number_after (taken_of es) e) taken) es e refl (whole_of es)

bytes_by : (b : Bool) (es : Log) (e : Event) → eqb (number_after (taken_of es) e) taken ≡ b → e.value < 256 → InBytes (taken_of es) → InBytes (taken_of (es ▷ e))
unfolding taken_of InBytes
bytes_by true es e q v i = rw q (i, v)
bytes_by false es e q v i = rw q i

bytes_taken : (es : Log) → InBytes es → InBytes (taken_of es)
unfolding taken_of InBytes
bytes_taken none i = i
bytes_taken (es ▷ e) i = bytes_by (eqb (number_after (taken_of es) e) taken) es e refl i.1 (bytes_taken es i.0)

-- ---- the start of an initialization in it
record Started (a : Event) (before : Log) : Type 0 where
  number : number_after (taken_of before) a ≡ taken
  whole : taken_of before ≡ before
  bytes : InBytes before

start_at : {a : Event} {before log bs : Log} → Whole log → InBytes log → Since a before log bs → Started a before
unfolding InBytes
start_at {a = a} {before = before} {bs = bs} empty i x = elim x [ ]
start_at (more w q s) i here = record { number = q; whole = s; bytes = i.0 }
start_at (more w q s) i (tick k z) = start_at w i.0 z
start_at (more w q s) i (byte k z) = start_at w i.0 z

-- OUR LINK'S TIME IS THE HISTORY'S
own_asked : (es : Log) {a : Event} {before bs : Log} → InBytes es → Since a before (taken_of es) bs → Starter a → own_until before a ≡ idle_until ours before a
own_asked es {a = a} {before = before} i s k =
    let x = start_at (whole_of es) (bytes_taken es i) s in
    let t = asked_link before a x.bytes x.number k ∙ ap (λ (log : Log). idle_asked ours log a) x.whole in
    ap (λ (m : Micros). (mark_of before).0 + m.0) t

-- what completes an initialization by one time from which a start may come does so by another that is the same for its start
abbrev pub timed : {t u : Log → Event → ℕ} (log : Log) (e : Event) (c : ConnectsBy t log e) → t c.before c.start ≡ u c.before c.start → ConnectsBy u log e
timed log e c q = record {
  start = c.start;
  before = c.before;
  bytes = c.bytes;
  pair = c.pair;
  since = c.since;
  idle = subst (λ (k : ℕ). k ≤ c.start.start.0) q c.idle;
  last = c.last;
  good = c.good;
}

module _ (es : Log) (e : Event) (i : InBytes es) where
  abbrev asked_of : ConnectsBy own_until (taken_of es) e → Connects ours (taken_of es) e
  asked_of c = timed (taken_of es) e c (own_asked es i c.since (starter c.good))

  abbrev own_of : Connects ours (taken_of es) e → ConnectsBy own_until (taken_of es) e
  own_of c = timed (taken_of es) e c (sym (own_asked es i c.since (starter c.good)))

  -- THE THEOREMS
  pub connects_exactly : Says connected_report (reports_to ours es e) ↔ ((number_after (taken_of es) e ≡ taken) × Connects ours (taken_of es) e)
  connects_exactly =
      let x = own_connects_exactly es e in
      (λ s. let c = x.0 s in (c.0, asked_of c.1), λ c. x.1 (c.0, own_of c.1))

  pub becomes_connected_exactly : ((is_connected (after ours es).link.phase.state ≡ false) × (is_connected (after ours (es ▷ e)).link.phase.state ≡ true))
      ↔ ((number_after (taken_of es) e ≡ taken) × Connects ours (taken_of es) e)
  becomes_connected_exactly =
      let x = own_becomes_exactly es e in
      (λ s. let c = x.0 s in (c.0, asked_of c.1), λ c. x.1 (c.0, own_of c.1))

  pub connects_link : number_after (taken_of es) e ≡ taken → (c : Connects ours (taken_of es) e) → ConnectedLink (taken_of es) e c (our_answer es e)
  connects_link q c =
      let x = own_connects_link es e q (own_of c) in
      record {
        answer = record { reports = x.answer.reports; good = x.answer.good };
        state = x.state;
        pair = x.pair;
        windows = x.windows;
        reply = x.reply;
        request = x.request;
      }

  pub connects_names : number_after (taken_of es) e ≡ taken → (c : Connects ours (taken_of es) e) → Connected (taken_of es) e c (reports_to ours es e)
  connects_names q c = (connects_link q c).answer
