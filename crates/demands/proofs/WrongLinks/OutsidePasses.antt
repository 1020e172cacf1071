-- DEMAND 3 PASSES the link that reports each byte as outside ("though demand 3 would pass it"): after every history each byte heard is named at once, so that
-- nothing is held, and each count is that of the reports. What holds of our link after any events holds of this one too.
-- Assumes nothing.
use Prim.Native.Nat.{ℕ, ◌+◌, ◌≤◌, ◌<◌}
use mathlib.Core.Bool.{Bool, true, false}
use mathlib.Core.List.{List, [], ◌∷◌, ◌++◌, append-nil}
use mathlib.Core.Logic.{inl, inr}
use mathlib.Core.Path.{◌≡◌, refl, sym, ap, subst, ◌∙◌}
use native.Mathlib.Omega.{arith}
use borrow.Author.Tests.{eqb-true, eq-eqb}
use lib.Dec.{eqb}
use lib.ListN.{length}
use Rattle.std.specs.Prelude.{if◌then◌else◌}
use Rattle.base.specs.Numbers.{taken}
use Rattle.base.specs.Sums.{greatest}
use Rattle.base.specs.Reports.{outside_report, no_reason}
use Rattle.events.specs.Events.{is_byte, marks}
use Rattle.events.specs.declared.Event.{Event}
use Rattle.phases.specs.Phases.{down}
use Rattle.reports.specs.Reporting.{appended, listed}
use Rattle.reports.specs.Counting.{counted_event}
use Rattle.reports.proofs.Places.{listed_few}
use Rattle.reports.specs.declared.Report.{Report}
use Rattle.reports.specs.declared.Counts.{Counts}
use Rattle.link.specs.Handling.{fresh_link, mark_after}
use Rattle.link.specs.Stepping.{number_of, refused_by, counts_after, step_of}
use Rattle.link.specs.declared.Link.{Link}
use Rattle.link.specs.Answers.{Stepped}
use Rattle.listing.specs.Listing.{held_of}
use Rattle.demands.specs.Logs.{Log, none, ◌▷◌, clock_of, mark_of, count_of, heard_of, heard_in, number_after, taken_of}
use Rattle.demands.specs.Histories.{Host, kept, after, answer_with, reports_of}
use Rattle.demands.specs.Accounts.{all_named, last_of, counts_of, added, held_in, Accounted}
use Rattle.demands.specs.Wrong.{outside_only, heard_with, outside_link, outside_step, outside}
use Rattle.demands.specs.Ours.{told_by}
use Rattle.demands.specs.DemandThree.{DemandThree}
use Rattle.demands.proofs.Histories.Tiling.{Tiled, end, next, tiled_append, sum_is}
use Rattle.demands.proofs.Numbers.Numbering.{number_numbered, not_above_small}
use Rattle.demands.proofs.Histories.Counting.{tiled_sums, counted_lent, counted_event_lem}
use Rattle.demands.proofs.Histories.NamedInTurn.{tiled_turns, tiled_named}
use Rattle.demands.proofs.Histories.Invariant.{Kept, kept_small, kept_of, number_is, timely, mark_order, mark_more, heard_more, few_more, refused_answer}
use Rattle.demands.proofs.Accounts.Accounted.{all_heard}

-- what a host keeps after an event that it takes
abbrev next_host : Host Link → Event → Host Link
next_host h e = record { link = outside_link h.link e; counts = counted_event h.counts (is_byte e.kind) (outside_only (is_byte e.kind) h.link e) }

-- after any events: what holds of our link, and every byte heard is named
record All (h : Host Link) (log : Log) (xs : List Report) : Type 0 where
  pub kept : Kept h log xs
  pub named : h.link.named ≡ h.link.heard

tiles : (b : Bool) (l : Link) (e : Event) → l.named ≡ l.heard → l.heard < greatest → Tiled l.named (listed (outside_only b l e)) (heard_with b l)
unfolding listed appended
tiles true l e n f =
    let x : Report = record { first = l.heard; bytes = 1; time = e.end; number = outside_report; reason = no_reason } in
    let one = next {x = x} (sym n) (record { parts = omega arith; frame = omega arith; damage = omega arith }) end in
    subst (λ (k : ℕ). Tiled l.named (x ∷ []) k) (omega (arith, n, sum_is l.heard 1 (omega arith))) one
tiles false l e n f = subst (λ (k : ℕ). Tiled l.named [] k) n end

hears_is : (b : Bool) (l : Link) → l.heard < greatest → heard_with b l ≡ (if b then l.heard + 1 else l.heard)
hears_is true l f = sum_is l.heard 1 (omega arith)
hears_is false l f = refl

hears_most : (b : Bool) (l : Link) → l.heard < 4_000_000_000 → heard_with b l ≤ 4_000_000_000
hears_most true l f = omega (arith, sum_is l.heard 1 (omega arith))
hears_most false l f = omega arith

all_taken : (h : Host Link) (log : Log) (xs : List Report) (e : Event) → All h log xs → number_after log e ≡ taken
    → All (next_host h e) (log ▷ e) (xs ++ listed (outside_only (is_byte e.kind) h.link e))
unfolding mark_after clock_of mark_of count_of heard_of down
all_taken h log xs e a q =
    let k = a.kept in
    let t = timely log e q in
    let l = h.link in
    let b = is_byte e.kind in
    let room : l.heard < greatest = omega (arith, k.heard, k.few, t.room) in
    let ts = tiles b l e a.named room in
    let heards = hears_is b l room ∙ heard_more b e.value l.heard (heard_of log) k.heard in
    let fews = few_more b e.value (count_of log) (heard_of log) k.few in
    record {
      kept = record {
        clock = refl;
        mark = mark_more (marks e.kind) e.end l.mark (mark_of log) k.mark;
        order = mark_order (marks e.kind) e.end (mark_of log) (omega (arith, t.after, t.forward, k.order));
        events = sum_is l.taken 1 (omega (arith, k.events, t.room)) ∙ ap (λ (j : ℕ). j + 1) k.events;
        heard = heards;
        few = fews;
        bound = omega (arith, t.room);
        tiled = tiled_append k.tiled ts;
        holds = refl;
        counts =
            counted_event_lem h.counts (heard_of log) xs b e.value (outside_only b l e) l.named (heard_with b l) k.counts (kept_small h log xs k) ts
            (omega (arith, heards, fews, t.room));
      };
      named = refl;
    }

abbrev AllOf : Log → Type 0
AllOf es = All (after outside es) (taken_of es) (reports_of outside es)

fresh_all : AllOf none
unfolding after reports_of fresh_link
fresh_all = record { kept = kept_of none; named = refl }

outside_refused : (l : Link) (c : Counts) (e : Event) → eqb (number_of l c e) taken ≡ false
    → outside_step l c e ≡ record { answer = refused_by l (number_of l c e); counts = c }
unfolding step_of counts_after refused_by
outside_refused l c e p = rw (p, refused_answer l c e p, p) refl

outside_taken : (l : Link) (c : Counts) (e : Event) → eqb (number_of l c e) taken ≡ true
    → outside_step l c e ≡ record {
      answer = record { link = outside_link l e; reports = outside_only (is_byte e.kind) l e; no = taken };
      counts = counted_event c (is_byte e.kind) (outside_only (is_byte e.kind) l e);
    }
outside_taken l c e p = rw p refl

all_by : (b : Bool) (es : Log) (e : Event) → eqb (number_after (taken_of es) e) taken ≡ b → AllOf es → AllOf (es ▷ e)
unfolding after taken_of reports_of refused_by listed
all_by true es e q a =
    let l = (after outside es).link in
    let c = (after outside es).counts in
    let n = number_is (after outside es) (taken_of es) (reports_of outside es) e a.kept in
    let p : eqb (number_of l c e) taken ≡ true = rw n q in
    let z = all_taken (after outside es) (taken_of es) (reports_of outside es) e a (eqb-true (number_after (taken_of es) e) taken q) in
    rw q (subst (λ (s : Stepped). All (kept (told_by s)) (taken_of es ▷ e) (reports_of outside es ++ listed s.answer.reports)) (sym (outside_taken l c e p)) z)
all_by false es e q a =
    let l = (after outside es).link in
    let c = (after outside es).counts in
    let n = number_is (after outside es) (taken_of es) (reports_of outside es) e a.kept in
    let p : eqb (number_of l c e) taken ≡ false = rw n q in
    let z : All (after outside es) (taken_of es) (reports_of outside es ++ []) = rw (append-nil (reports_of outside es)) a in
    rw q (subst (λ (s : Stepped). All (kept (told_by s)) (taken_of es) (reports_of outside es ++ listed s.answer.reports)) (sym (outside_refused l c e p)) z)

all_of : (es : Log) → AllOf es
all_of none = fresh_all
all_of (es ▷ e) = all_by (eqb (number_after (taken_of es) e) taken) es e refl (all_of es)

held_nothing : (es : Log) → held_in outside es ≡ 0
unfolding held_in
held_nothing es = let a = all_of es in omega (arith, tiled_named a.kept.tiled, a.kept.heard, a.named)

held_none : (es : Log) → held_of (after outside es).link ≡ 0
unfolding held_of
held_none es = omega (arith, (all_of es).named)

-- EVERY BYTE IS ACCOUNTED FOR
pub outside_accounted : (es : Log) → Accounted outside es
outside_accounted es =
    let a = all_of es in
    let l = (after outside es).link in
    record {
      bytes =
          subst (λ (n : ℕ). all_named (heard_in es) (reports_of outside es) ++ last_of n (heard_in es) ≡ heard_in es) (held_none es ∙ sym (held_nothing es))
          (all_heard (heard_in es) (reports_of outside es) l a.kept.tiled (omega (arith, a.named)) a.kept.heard);
      heard = omega (arith, tiled_named a.kept.tiled, a.named, a.kept.heard);
      indexes = tiled_turns a.kept.tiled;
      counts = a.kept.counts;
      held = held_none es ∙ sym (held_nothing es);
      four = λ e. listed_few (outside_step l (after outside es).counts e).answer.reports;
    }

-- NO BYTE IS MISSING FROM THE COUNTS
pub outside_all_counted : (es : Log) → length (heard_in es)
    ≡ (after outside es).counts.framed + (after outside es).counts.damaged + (after outside es).counts.started + (after outside es).counts.outside
    + held_in outside es
unfolding counts_of
outside_all_counted es =
    let a = all_of es in
    let s = tiled_sums a.kept.tiled in
    rw (a.kept.counts, held_nothing es) (omega (arith, s.all, a.kept.heard, a.named))

-- THE COUNTS ARE BROUGHT UP TO DATE WHERE THEY ARE LENT
module _ (es : Log) (c : Counts) (e : Event) (q : (answer_with outside es c e).no ≡ taken) where
  abbrev l : Link
  l = (after outside es).link

  lent_number : number_of l c e ≡ taken
  unfolding step_of refused_by
  lent_number = by_number (eqb (number_of l c e) taken) refl
    where
      by_number : (b : Bool) → eqb (number_of l c e) taken ≡ b → number_of l c e ≡ taken
      by_number true n = eqb-true (number_of l c e) taken n
      by_number false n = sym (ap (λ (s : Stepped). s.answer.no) (outside_refused l c e n)) ∙ q

  pub outside_lent : (answer_with outside es c e).counts ≡ added c (counts_of (heard_of (none ▷ e)) (answer_with outside es c e).reports)
  unfolding heard_of
  outside_lent =
      let b = is_byte e.kind in
      let k = all_of es in
      let n = (number_numbered l c e).taken.0 lent_number in
      let few : 4_000_000_000 ≤ l.taken → ⊥ = λ h. n.3 (inl h) in
      let room : l.heard < 4_000_000_000 = omega (arith, k.kept.heard, k.kept.few, k.kept.events, few) in
      let s = outside_taken l c e (eq-eqb (number_of l c e) taken lent_number) in
      let brings : List Report → Counts = λ rs. added c (counts_of (if b then e.value ∷ [] else []) rs) in
      ap (λ (x : Stepped). x.counts) s
      ∙ counted_lent c b e.value (outside_only b l e) l.named (heard_with b l) (not_above_small c (λ h. n.3 (inr h))) (tiles b l e k.named (omega arith))
      (hears_most b l room)
      ∙ ap (λ (x : Stepped). brings (listed x.answer.reports)) (sym s)

-- DEMAND 3 PASSES IT
pub outside_three : DemandThree outside
outside_three = record { accounted = outside_accounted; lent_counts = outside_lent; all_counted = outside_all_counted }
