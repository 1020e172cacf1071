-- After any events from a fresh link, an event is answered with report 3 exactly if it is taken and completes a good initialization. What is asked of the idle
-- time before its start goes by our own link here (`own_until`); that this is what the history asks, and so demand 2, is in IdleTimes/.
-- Assumes nothing.
use Prim.Native.Nat.{ℕ, ◌+◌, ◌≤◌}
use mathlib.Core.Bool.{Bool, true, false, false≢true}
use mathlib.Core.Logic.{◌↔◌, ◌⊎◌, inl, inr}
use mathlib.Core.Path.{◌≡◌, ◌∙◌, refl, sym, ap}
use native.Mathlib.Omega.{arith}
use lib.Dec.{eqb}
use borrow.Author.Tests.{eqb-true, eqb-false, eq-eqb}
use Rattle.base.specs.Numbers.{taken}
use Rattle.base.specs.Reports.{connected_report}
use Rattle.units.specs.declared.Micros.{Micros}
use Rattle.keys.specs.declared.Pair.{Pair}
use Rattle.events.specs.declared.Kind.{Kind}
use Rattle.events.specs.declared.Kind.TheVariants.{Address, WakeUp, Byte, Tick, Drop, Other}
use Rattle.events.specs.declared.Event.{Event}
use Rattle.reports.specs.Reporting.{listed}
use Rattle.link.specs.Handling.{handled, link_after}
use Rattle.link.specs.Stepping.{refused_by, taken_by}
use Rattle.link.specs.declared.Link.{Link}
use Rattle.link.specs.Answers.{Answer}
use Rattle.starts.specs.declared.Start.{Start}
use Rattle.demands.specs.Logs.{Log, none, ◌▷◌, number_after, taken_of}
use Rattle.demands.specs.Histories.{Host, after, reports_to, is_among, Says}
use Rattle.demands.specs.Starts.{SlowStart, FastStart}
use Rattle.demands.specs.Connecting.{ConnectsBy}
use Rattle.demands.proofs.Numbers.Numbering.{log_numbered}
use Rattle.demands.proofs.Histories.Invariant.{timely}
use Rattle.demands.proofs.Histories.Basics.{basics, answer_taken, answer_refused}
use Rattle.demands.proofs.Histories.TakenOnly.{ours_passes, taken_same}
use Rattle.demands.proofs.Moves.Entering.{Completes, judging}
use Rattle.demands.proofs.Moves.Completing.{says_completes, completes_says}
use Rattle.demands.proofs.Connecting.Running.{start_on, Starts, own_until, Done, runs_starts, runs_idle, Behind, Inv, inv_on, inv_fresh, Ends, ends_of, completes_of}
use Rattle.demands.proofs.Connecting.SlowStart.{slow_done, done_slow}
use Rattle.demands.proofs.Connecting.FastStart.{fast_done, done_fast}
use Rattle.demands.specs.Ours.{ours}
use Rattle.demands.specs.Editions.{is_link_pair}

-- ---- an initialization that ends on the log is a good one, and the other way round
module _ (log : Log) (e : Event) (x : Ends log e) where
  abbrev m : ℕ
  m = own_until x.before x.start

  abbrev made : Start
  made = start_on x.start x.bytes

  connects_with : SlowStart x.start made.pair (x.bytes ▷ e) ⊎ FastStart x.start made.pair (x.bytes ▷ e) → ConnectsBy own_until log e
  connects_with g = record {
    start = x.start;
    before = x.before;
    bytes = x.bytes;
    pair = made.pair;
    since = x.since;
    idle = runs_idle m x.start x.bytes x.done.0;
    last = x.last;
    good = g;
  }

  connects_by : (k : Kind) → x.start.kind ≡ k → Starts k m x.start → ConnectsBy own_until log e
  connects_by Address k s = connects_with (inl (slow_done m x.start x.bytes e k x.done))
  connects_by WakeUp k s = connects_with (inr (fast_done m x.start x.bytes e k x.done))
  connects_by Byte k s = absurd s
  connects_by Tick k s = absurd s
  connects_by Drop k s = absurd s
  connects_by Other k s = absurd s

  connects_of : ConnectsBy own_until log e
  connects_of = connects_by x.start.kind refl (runs_starts m x.start x.bytes x.done.0)

pub done_of : (m : ℕ) (a : Event) (pair : Pair) (bs : Log) (e : Event) → m ≤ a.start.0
    → SlowStart a pair (bs ▷ e) ⊎ FastStart a pair (bs ▷ e)
    → Done m a bs e × ((start_on a bs).pair ≡ pair) × (is_link_pair pair ≡ true)
done_of m a pair bs e i (inl s) = done_slow m a pair bs e i s
done_of m a pair bs e i (inr s) = done_fast m a pair bs e i s

abbrev pub ended_by : (log : Log) (e : Event) → ConnectsBy own_until log e → Ends log e
ended_by log e c = record {
  start = c.start;
  before = c.before;
  bytes = c.bytes;
  since = c.since;
  done = (done_of (own_until c.before c.start) c.start c.pair c.bytes e c.idle c.good).0;
  last = c.last;
}

-- ---- after events
-- refused events change nothing of what a start finds
own_until_lem : (es : Log) (e : Event) → own_until (taken_of es) e ≡ (after ours es).link.mark.0 + (judging (after ours es).link e).idle.0
own_until_lem es e =
    let l = ap (λ (h : Host Link). (judging h.link e).idle.0) (taken_same ours ours_passes es) in
    omega (arith, l, ap (λ (x : Micros). x.0) (basics es).mark)

pub behind : (es : Log) (e : Event) → number_after (taken_of es) e ≡ taken → Behind (after ours es).link (taken_of es) e
behind es e q =
    let b = basics es in
    let t = timely (taken_of es) e q in
    record {
      mark = b.mark;
      own = own_until_lem es e;
      order = omega (arith, ap (λ (x : Micros). x.0) b.mark, ap (λ (x : Micros). x.0) b.clock, b.order);
      later = omega (arith, ap (λ (x : Micros). x.0) b.clock, t.after);
      ordered = t.forward;
      known = λ k. ((log_numbered (taken_of es) e).taken.0 q).0 (inl k);
    }

-- the link and the events taken, after one event more
module _ (es : Log) (e : Event) where
  abbrev l : Link
  l = (after ours es).link

  pub link_taken : number_after (taken_of es) e ≡ taken → (after ours (es ▷ e)).link ≡ link_after l e (handled l e)
  unfolding after taken_by
  link_taken q = ap (λ (a : Answer). a.link) (answer_taken es e q)

  pub link_refused : (number_after (taken_of es) e ≡ taken → ⊥) → (after ours (es ▷ e)).link ≡ l
  unfolding after refused_by
  link_refused q = ap (λ (a : Answer). a.link) (answer_refused es e q)

  pub log_taken : number_after (taken_of es) e ≡ taken → taken_of (es ▷ e) ≡ taken_of es ▷ e
  unfolding taken_of
  log_taken q = rw (eq-eqb _ _ q)

  pub log_refused : eqb (number_after (taken_of es) e) taken ≡ false → taken_of (es ▷ e) ≡ taken_of es
  unfolding taken_of
  log_refused q = rw q

  inv_by : (b : Bool) → eqb (number_after (taken_of es) e) taken ≡ b → Inv l (taken_of es) → Inv (after ours (es ▷ e)).link (taken_of (es ▷ e))
  inv_by true q inv =
      let t = eqb-true _ _ q in
      rw (link_taken t, log_taken t) (inv_on l (taken_of es) e (behind es e t) inv)
  inv_by false q inv = rw (link_refused (eqb-false _ _ q), log_refused q) inv

pub inv_of : (es : Log) → Inv (after ours es).link (taken_of es)
unfolding after taken_of
inv_of none = inv_fresh
inv_of (es ▷ e) = inv_by es e (eqb (number_after (taken_of es) e) taken) refl (inv_of es)

-- an event that is taken completes the link's initialization exactly if it completes one on the events taken
pub completes_connects : (es : Log) (e : Event) → number_after (taken_of es) e ≡ taken → Completes (after ours es).link e ↔ ConnectsBy own_until (taken_of es) e
completes_connects es e q =
    let b = behind es e q in (
      (λ c. connects_of (taken_of es) e (ends_of (after ours es).link (taken_of es) e b (inv_of es) c)),
      (λ c. (completes_of (after ours es).link (taken_of es) e b (inv_of es) (ended_by (taken_of es) e c)).0),
    )

-- ---- the reports of an event that is taken, and of one that is refused
pub reports_taken : (es : Log) (e : Event) → number_after (taken_of es) e ≡ taken
    → reports_to ours es e ≡ listed (handled (after ours es).link e).reports
unfolding taken_by
reports_taken es e q = ap (λ (a : Answer). listed a.reports) (answer_taken es e q)

refused_none : (es : Log) (e : Event) → (number_after (taken_of es) e ≡ taken → ⊥) → is_among connected_report (reports_to ours es e) ≡ false
unfolding refused_by listed is_among
refused_none es e q = ap (λ (a : Answer). is_among connected_report (listed a.reports)) (answer_refused es e q)

forward_by : (b : Bool) (es : Log) (e : Event) → eqb (number_after (taken_of es) e) taken ≡ b → Says connected_report (reports_to ours es e)
    → (number_after (taken_of es) e ≡ taken) × ConnectsBy own_until (taken_of es) e
forward_by true es e q s =
    let t = eqb-true _ _ q in
    (t, (completes_connects es e t).0 (says_completes (after ours es).link e (sym (ap (is_among connected_report) (reports_taken es e t)) ∙ s)))
forward_by false es e q s = absurd (false≢true (sym (refused_none es e (eqb-false _ _ q)) ∙ s))

-- BY OUR OWN LINK'S IDLE TIME
pub own_connects_exactly : (es : Log) (e : Event)
    → Says connected_report (reports_to ours es e) ↔ ((number_after (taken_of es) e ≡ taken) × ConnectsBy own_until (taken_of es) e)
own_connects_exactly es e = (
  forward_by (eqb (number_after (taken_of es) e) taken) es e refl,
  (λ c. ap (is_among connected_report) (reports_taken es e c.0) ∙ completes_says (after ours es).link e ((completes_connects es e c.0).1 c.1)),
)
