-- What holds after any events from a fresh link with zero counts: the link's clock, mark and numbers are those of the events taken, its reports name
-- bytes one after another, and its counts are those worked out from the reports. So a lent count is never above 4,000,000,000, and an event's
-- number follows from the events taken before it.
-- Assumes nothing.
use Prim.Native.Nat.{ℕ, ◌+◌, ◌≤◌, ◌<◌}
use mathlib.Core.Bool.{Bool, true, false}
use mathlib.Core.List.{List, [], ◌∷◌, ◌++◌, append-nil}
use mathlib.Core.Logic.{inl, inr}
use mathlib.Core.Path.{◌≡◌, refl, sym, ap, subst, ◌∙◌}
use native.Mathlib.Omega.{arith}
use borrow.Author.Tests.{eqb-true}
use lib.Dec.{eqb, leb}
use lib.ListN.{length, length-append}
use Rattle.std.specs.Prelude.{if◌then◌else◌}
use Rattle.base.specs.Numbers.{taken}
use Rattle.units.specs.declared.Micros.{Micros}
use Rattle.events.specs.Events.{is_byte, marks}
use Rattle.events.specs.declared.Event.{Event}
use Rattle.reports.specs.Reporting.{listed}
use Rattle.reports.specs.Counting.{zero_counts, most, is_full, counted_event}
use Rattle.reports.specs.declared.Report.{Report}
use Rattle.reports.specs.declared.Counts.{Counts}
use Rattle.phases.specs.Phases.{down}
use Rattle.link.specs.Handling.{fresh_link, handled, mark_after, link_after}
use Rattle.link.specs.Stepping.{number_of, refused_by, taken_by, answer_of, counts_after, step_of}
use Rattle.link.specs.declared.Link.{Link}
use Rattle.link.proofs.Four.{four_enough}
use Rattle.demands.specs.Logs.{Log, none, ◌▷◌, clock_of, mark_of, count_of, heard_of, number_after, taken_of}
use Rattle.demands.specs.Histories.{Host, after, reports_of}
use Rattle.demands.specs.Accounts.{counts_of, bytes_in, reports_in}
use Rattle.demands.proofs.Numbers.Numbering.{Small, small_full, log_numbered}
use Rattle.demands.proofs.Histories.Holding.{Holds, holds_order}
use Rattle.demands.proofs.Histories.Tiling.{Tiled, end, tiled_append, sum_is, handles}
use Rattle.demands.proofs.Histories.Counting.{tiled_sums, counted_event_lem}
use Rattle.demands.specs.Ours.{ours}

-- of a host, the events taken and the reports made
pub record Kept (h : Host Link) (log : Log) (xs : List Report) : Type 0 where
  pub clock : h.link.clock ≡ clock_of log
  pub mark : h.link.mark ≡ mark_of log
  pub order : (mark_of log).0 ≤ (clock_of log).0
  pub events : h.link.taken ≡ count_of log
  pub heard : h.link.heard ≡ length (heard_of log)
  pub few : length (heard_of log) ≤ count_of log
  pub bound : count_of log ≤ 4_000_000_000
  pub tiled : Tiled 0 xs h.link.named
  pub holds : Holds h.link.phase.state h.link.named h.link.heard
  pub counts : h.counts ≡ counts_of (heard_of log) xs

-- ---- the number of an event: no count is above 4,000,000,000
counts_small : (heard : List ℕ) (xs : List Report) (m : ℕ) → Tiled 0 xs m → m ≤ most → length heard ≤ most → Small (counts_of heard xs)
unfolding counts_of
counts_small heard xs m t h k =
    let s = tiled_sums t in
    record {
      heard = k;
      framed = omega arith;
      damaged = omega arith;
      started = omega arith;
      outside = omega arith;
      frames = omega arith;
      damages = omega arith;
    }

pub kept_small : (h : Host Link) (log : Log) (xs : List Report) → Kept h log xs → Small h.counts
kept_small h log xs k =
    let o = holds_order h.link.phase.state h.link.named h.link.heard k.holds in
    subst Small (sym k.counts)
    (counts_small (heard_of log) xs h.link.named k.tiled (omega (arith, o, k.heard, k.few, k.bound)) (omega (arith, k.few, k.bound)))

not_full : (h : Host Link) (log : Log) (xs : List Report) → Kept h log xs → is_full h.link.taken h.counts ≡ leb most (count_of log)
not_full h log xs k = small_full h.link.taken h.counts (kept_small h log xs k) ∙ ap (leb most) k.events

pub number_is : (h : Host Link) (log : Log) (xs : List Report) (e : Event) → Kept h log xs → number_of h.link h.counts e ≡ number_after log e
unfolding number_of number_after
number_is h log xs e k = rw (k.clock, not_full h log xs k)

-- ---- an event that is taken
-- it starts no earlier than the clock, and ends no earlier than it starts; fewer than 4,000,000,000 were taken before it
pub record Timely (log : Log) (e : Event) : Type 0 where
  pub after : (clock_of log).0 ≤ e.start.0
  pub forward : e.start.0 ≤ e.end.0
  pub room : count_of log < 4_000_000_000

pub timely : (log : Log) (e : Event) → number_after log e ≡ taken → Timely log e
timely log e q =
    let t = (log_numbered log e).taken.0 q in
    let a : e.start.0 < (clock_of log).0 → ⊥ = λ p. t.2 (inr p) in
    let f : e.end.0 < e.start.0 → ⊥ = λ p. t.2 (inl p) in
    let m : 4_000_000_000 ≤ count_of log → ⊥ = λ p. t.3 (inl p) in
    record { after = omega arith; forward = omega arith; room = omega arith }

pub mark_order : (b : Bool) (to mark : Micros) → mark.0 ≤ to.0 → (if b then to else mark).0 ≤ to.0
mark_order true to mark h = omega arith
mark_order false to mark h = h

pub mark_more : (b : Bool) (to mark mark' : Micros) → mark ≡ mark' → (if b then to else mark) ≡ (if b then to else mark')
mark_more true to mark mark' e = refl
mark_more false to mark mark' e = e

pub heard_more : (b : Bool) (v n : ℕ) (heard : List ℕ) → n ≡ length heard → (if b then n + 1 else n) ≡ length (heard ++ (if b then v ∷ [] else []))
heard_more true v n heard e = omega (arith, length-append heard (v ∷ []))
heard_more false v n heard e = omega (arith, length-append heard [])

pub few_more : (b : Bool) (v n : ℕ) (heard : List ℕ) → length heard ≤ n → length (heard ++ (if b then v ∷ [] else [])) ≤ n + 1
few_more true v n heard e = omega (arith, length-append heard (v ∷ []))
few_more false v n heard e = omega (arith, length-append heard [])

-- the host after it, and its reports
abbrev taken_host : Host Link → Event → Host Link
taken_host h e = record {
  link = link_after h.link e (handled h.link e);
  counts = counted_event h.counts (is_byte e.kind) (handled h.link e).reports;
}

-- its reports name bytes from the first one on that none named before, and these are few
pub record Tiles (l : Link) (e : Event) : Type 0 where
  pub tiled : Tiled l.named (listed (handled l e).reports) (handled l e).named
  pub few : (handled l e).named ≤ most

pub handled_tiles : (h : Host Link) (log : Log) (xs : List Report) (e : Event) → Kept h log xs → number_after log e ≡ taken → Tiles h.link e
handled_tiles h log xs e k q =
    let t = timely log e q in
    let l = h.link in
    let b = is_byte e.kind in
    let a = handles l e (omega (arith, t.room, k.heard, k.few)) k.holds in
    let heards = a.heard ∙ heard_more b e.value l.heard (heard_of log) k.heard in
    let fews = few_more b e.value (count_of log) (heard_of log) k.few in
    let inside = holds_order (handled l e).phase.state (handled l e).named (handled l e).heard a.holds in
    record { tiled = rw (four_enough l e) a.tiled; few = omega (arith, inside, heards, fews, t.room) }

kept_taken : (h : Host Link) (log : Log) (xs : List Report) (e : Event) → Kept h log xs → number_after log e ≡ taken
    → Kept (taken_host h e) (log ▷ e) (xs ++ listed (handled h.link e).reports)
unfolding link_after mark_after clock_of mark_of count_of heard_of
kept_taken h log xs e k q =
    let t = timely log e q in
    let o = k.order in
    let n = k.heard in
    let f = k.few in
    let l = h.link in
    let b = is_byte e.kind in
    let a = handles l e (omega (arith, t.room)) k.holds in
    let tiles = handled_tiles h log xs e k q in
    let heards = a.heard ∙ heard_more b e.value l.heard (heard_of log) k.heard in
    let fews = few_more b e.value (count_of log) (heard_of log) k.few in
    record {
      clock = refl;
      mark = mark_more (marks e.kind) e.end l.mark (mark_of log) k.mark;
      order = mark_order (marks e.kind) e.end (mark_of log) (omega (arith, t.after, t.forward));
      events = sum_is l.taken 1 (omega (arith, k.events, t.room)) ∙ ap (λ (j : ℕ). j + 1) k.events;
      heard = heards;
      few = fews;
      bound = omega (arith, t.room);
      tiled = tiled_append k.tiled tiles.tiled;
      holds = a.holds;
      counts =
          counted_event_lem h.counts (heard_of log) xs b e.value (handled l e).reports l.named (handled l e).named k.counts (kept_small h log xs k)
          tiles.tiled tiles.few;
    }

-- ---- from a fresh link with zero counts, event by event
abbrev pub KeptOf : Log → Type 0
KeptOf es = Kept (after ours es) (taken_of es) (reports_of ours es)

fresh_kept : KeptOf none
unfolding after taken_of reports_of fresh_link zero_counts clock_of mark_of count_of heard_of counts_of bytes_in reports_in down
fresh_kept = record {
  clock = refl;
  mark = refl;
  order = omega arith;
  events = refl;
  heard = refl;
  few = omega arith;
  bound = omega arith;
  tiled = end;
  holds = refl;
  counts = refl;
}

-- the answer to an event, by its number
module _ (l : Link) (c : Counts) (e : Event) where
  pub taken_answer : eqb (number_of l c e) taken ≡ true → answer_of l c e ≡ taken_by l e
  unfolding answer_of
  taken_answer q = rw q

  pub refused_answer : eqb (number_of l c e) taken ≡ false → answer_of l c e ≡ refused_by l (number_of l c e)
  unfolding answer_of
  refused_answer q = rw q

  number_by_lem : (b : Bool) → eqb (number_of l c e) taken ≡ b → (answer_of l c e).no ≡ number_of l c e
  unfolding answer_of taken_by refused_by
  number_by_lem true q = rw q (sym (eqb-true (number_of l c e) taken q))
  number_by_lem false q = rw q refl

  pub number_answered : (answer_of l c e).no ≡ number_of l c e
  number_answered = number_by_lem (eqb (number_of l c e) taken) refl

kept_by : (b : Bool) (es : Log) (e : Event) → eqb (number_after (taken_of es) e) taken ≡ b → KeptOf es → KeptOf (es ▷ e)
unfolding after taken_of reports_of step_of taken_by refused_by counts_after listed
kept_by true es e q k =
    let l = (after ours es).link in
    let c = (after ours es).counts in
    let n = number_is (after ours es) (taken_of es) (reports_of ours es) e k in
    let p : eqb (number_of l c e) taken ≡ true = rw n q in
    rw (q, taken_answer l c e p)
    (kept_taken (after ours es) (taken_of es) (reports_of ours es) e k (eqb-true (number_after (taken_of es) e) taken q))
kept_by false es e q k =
    let l = (after ours es).link in
    let c = (after ours es).counts in
    let n = number_is (after ours es) (taken_of es) (reports_of ours es) e k in
    let p : eqb (number_of l c e) taken ≡ false = rw n q in
    rw (q, refused_answer l c e p, p, append-nil (reports_of ours es)) k

pub kept_of : (es : Log) → KeptOf es
kept_of none = fresh_kept
kept_of (es ▷ e) = kept_by (eqb (number_after (taken_of es) e) taken) es e refl (kept_of es)
