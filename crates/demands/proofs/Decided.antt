-- THE DEMANDS DECIDE EVERY ANSWER. Its statement is in specs/Deciding.antt. After events that two links have reported alike, each report of one has its like
-- among the reports of the other (`has`), by its number: Decides*.antt. Both lists are in order and in turn, so they are the same list; numbers, counts
-- and bytes held follow from events and reports. With other counts lent an event that is taken is reported alike and leaves the same link, and one that is
-- refused changes nothing; so whatever is lent, both links are as they are after the events that were taken. Assumes nothing.
use Prim.Native.Nat.{ℕ, ◌+◌, ◌≤◌, zero, suc}
use mathlib.Core.List.{List}
use mathlib.Core.Logic.{⊎_elim}
use mathlib.Core.Path.{◌≡◌, refl, sym, ap, ◌∙◌, subst}
use native.Mathlib.Omega.{arith}
use Rattle.base.specs.Numbers.{taken}
use Rattle.events.specs.declared.Event.{Event}
use Rattle.reports.specs.declared.Report.{Report}
use Rattle.reports.specs.declared.Counts.{Counts}
use Rattle.units.specs.declared.Micros.{Micros}
use Rattle.demands.specs.Logs.{Log, none, ◌▷◌, heard_of, heard_in, InBytes}
use Rattle.demands.specs.Refusals.{Not, Numbered}
use Rattle.demands.specs.Histories.{Machine, after, answer_with, answer_to, Lendings, nothing, lend, lent_events, lent_link, reports_to, reports_of, held_by, Among}
use Rattle.demands.specs.Accounts.{counts_of, added, InTurn, named_in}
use Rattle.demands.specs.OurLink.{our_link}
use Rattle.demands.specs.Deciding.{Meets, Same, DemandsDecide, LentDecide, OursDecides}
use Rattle.demands.proofs.Deciding.Agree.{Agree, reports_same, held_same}
use Rattle.demands.proofs.Deciding.SameList.{Has, same_list}
use Rattle.demands.proofs.Deciding.Fixed.{turn_behind, equal}
use Rattle.demands.proofs.Deciding.Sharing.{Both, turned, here, there, formed_here}
use Rattle.demands.proofs.Deciding.Starts.{three}
use Rattle.demands.proofs.Deciding.Messages.{one, two}
use Rattle.demands.proofs.Deciding.Ends.{five, six, seven}
use Rattle.demands.proofs.Deciding.IdleAsked.{four, eight}
use Rattle.demands.proofs.DemandOne.{demand_one}
use Rattle.demands.proofs.DemandTwo.{demand_two}
use Rattle.demands.proofs.DemandThree.{demand_three}

has : (B : Both) (r : Report) → Among r (here B) → Has r (there B)
has B r i = by_number r.number refl (formed_here B r i).number
  where
    by_number : (n : ℕ) → r.number ≡ n → (1 ≤ n) × (n ≤ 8) → Has r (there B)
    by_number zero n h = absurd (omega arith)
    by_number (suc zero) n h = one B r i n
    by_number (suc (suc zero)) n h = two B r i n
    by_number (suc (suc (suc zero))) n h = three B r i n
    by_number (suc (suc (suc (suc zero)))) n h = four B r i n
    by_number (suc (suc (suc (suc (suc zero))))) n h = five B r i n
    by_number (suc (suc (suc (suc (suc (suc zero)))))) n h = six B r i n
    by_number (suc (suc (suc (suc (suc (suc (suc zero))))))) n h = seven B r i n
    by_number (suc (suc (suc (suc (suc (suc (suc (suc zero)))))))) n h = eight B r i n
    by_number (suc (suc (suc (suc (suc (suc (suc (suc (suc k))))))))) n h = absurd (omega arith)

-- one number to an event: each has its condition, and they are all
one_number : {clock : Micros} {events : ℕ} {c : Counts} {e : Event} {x y : ℕ} → Numbered clock events c e x → Numbered clock events c e y → x ≡ y
one_number {x = x} {y = y} p q = by_number x refl p.no_other
  where
    by_number : (n : ℕ) → x ≡ n → n ≤ 4 → x ≡ y
    by_number zero h o = h ∙ sym (q.taken.1 (p.taken.0 h))
    by_number (suc zero) h o = h ∙ sym (q.one.1 (p.one.0 h))
    by_number (suc (suc zero)) h o = h ∙ sym (q.two.1 (p.two.0 h))
    by_number (suc (suc (suc zero))) h o = h ∙ sym (q.three.1 (p.three.0 h))
    by_number (suc (suc (suc (suc zero)))) h o = h ∙ sym (q.four.1 (p.four.0 h))
    by_number (suc (suc (suc (suc (suc n))))) h o = absurd (omega arith)

module _ (s t : Machine) (D : Meets s) (E : Meets t) where
  same_reports : (es : Log) (e : Event) → InBytes (es ▷ e) → Agree s t es → reports_to s es e ≡ reports_to t es e
  unfolding reports_of
  same_reports es e b a =
      let B : Both = record { s = s; t = t; D = D; E = E; es = es; e = e; in_bytes = b; agree = a } in
      let is = turn_behind 0 (reports_of s es) (reports_to s es e) (D.three.accounted (es ▷ e)).indexes in
      let it = turn_behind 0 (reports_of t es) (reports_to t es e) (E.three.accounted (es ▷ e)).indexes in
      same_list (0 + named_in (reports_of s es)) 0 (reports_to s es e) (reports_to t es e) (D.two.in_order es e) (E.two.in_order es e) is
      (subst (λ (rs : List Report). InTurn (0 + named_in rs) (reports_to t es e)) (sym (reports_same s t es a)) it) (has B) (has (turned B))

  agree : (es : Log) → InBytes es → Agree s t es
  unfolding Agree InBytes
  agree none b = tt
  agree (es ▷ e) b = let a = agree es b.0 in (a, same_reports es e b a)

  -- ---- an answer with any counts lent
  held_alike : (es : Log) → InBytes es → held_by s es ≡ held_by t es
  held_alike es b = (D.three.accounted es).held ∙ held_same s t es (agree es b) ∙ sym (E.three.accounted es).held

  module _ (es : Log) (e : Event) (b : InBytes (es ▷ e)) where
    front : InBytes es
    unfolding InBytes
    front = b.0

    own_reports : reports_to s es e ≡ reports_to t es e
    own_reports = same_reports es e b (agree es front)

    own : Same s t (answer_to s es e) (answer_to t es e)
    unfolding after
    own =
        let a = agree (es ▷ e) b in
        let x = D.three.accounted (es ▷ e) in
        let y = E.three.accounted (es ▷ e) in
        record {
          number = D.one.history_numbers es e ∙ sym (E.one.history_numbers es e);
          reports = own_reports;
          counts = x.counts ∙ ap (counts_of (heard_in (es ▷ e))) (reports_same s t (es ▷ e) a) ∙ sym y.counts;
          held = held_alike (es ▷ e) b;
        }

    module _ (c : Counts) where
      number_alike : (answer_with s es c e).no ≡ (answer_with t es c e).no
      number_alike = one_number (D.one.numbered es c e) (E.one.numbered es c e)

      -- taken, it is reported as with the history's own counts, and leaves the same link; refused, it leaves everything as it was
      lent_taken : (answer_with s es c e).no ≡ taken → Same s t (answer_with s es c e) (answer_with t es c e)
      lent_taken q =
          let p = sym number_alike ∙ q in
          let x = D.two.lent_alike es c e q in
          let y = E.two.lent_alike es c e p in
          let rs : (answer_with s es c e).reports ≡ (answer_with t es c e).reports = x.0 ∙ own_reports ∙ sym y.0 in
          record {
            number = number_alike;
            reports = rs;
            counts = D.three.lent_counts es c e q ∙ ap (λ (l : List Report). added c (counts_of (heard_of (none ▷ e)) l)) rs
                ∙ sym (E.three.lent_counts es c e p);
            held = ap s.held x.1 ∙ held_alike (es ▷ e) b ∙ sym (ap t.held y.1);
          }

      lent_refused : Not ((answer_with s es c e).no ≡ taken) → Same s t (answer_with s es c e) (answer_with t es c e)
      lent_refused q =
          let x = D.one.refused_as_before (after s es).link c e q in
          let y = E.one.refused_as_before (after t es).link c e (λ p. q (number_alike ∙ p)) in
          record {
            number = number_alike;
            reports = x.reports ∙ sym y.reports;
            counts = x.counts ∙ sym y.counts;
            held = ap s.held x.link ∙ held_alike es front ∙ sym (ap t.held y.link);
          }

      lent : Same s t (answer_with s es c e) (answer_with t es c e)
      lent = ⊎_elim lent_taken lent_refused (equal (answer_with s es c e).no taken)

  -- ---- whatever counts are lent with each event: both links are as they are after the events that were taken
  record Reached (h : Lendings) : Type 0 where
    pub log : Log
    pub bytes : InBytes log
    pub here : lent_link s h ≡ (after s log).link
    pub there : lent_link t h ≡ (after t log).link

  reached : (h : Lendings) → InBytes (lent_events h) → Reached h
  unfolding InBytes lent_events lent_link after
  reached nothing b = record { log = none; bytes = tt; here = refl; there = refl }
  reached (lend h c e) b = by_number (reached h b.0)
    where
      by_number : Reached h → Reached (lend h c e)
      by_number r =
          let es = r.log in
          let n = number_alike es e (r.bytes, b.1) c in
          let x = ap (λ (l : s.Inner). (s.step l c e).link) r.here in
          let y = ap (λ (l : t.Inner). (t.step l c e).link) r.there in
          ⊎_elim
          (λ q. record {
            log = es ▷ e;
            bytes = (r.bytes, b.1);
            here = x ∙ (D.two.lent_alike es c e q).1;
            there = y ∙ (E.two.lent_alike es c e (sym n ∙ q)).1;
          })
          (λ q. record {
            log = es;
            bytes = r.bytes;
            here = x ∙ (D.one.refused_as_before (after s es).link c e q).link;
            there = y ∙ (E.one.refused_as_before (after t es).link c e (λ p. q (n ∙ p))).link;
          })
          (equal (answer_with s es c e).no taken)

  lent_behind : (h : Lendings) (c : Counts) (e : Event) → InBytes (lent_events h ▷ e) → Same s t (s.step (lent_link s h) c e) (t.step (lent_link t h) c e)
  unfolding InBytes
  lent_behind h c e b =
      let r = reached h b.0 in
      subst (λ (l : s.Inner). Same s t (s.step l c e) (t.step (lent_link t h) c e)) (sym r.here)
      (subst (λ (l : t.Inner). Same s t (answer_with s r.log c e) (t.step l c e)) (sym r.there) (lent r.log e (r.bytes, b.1) c))

-- ANY TWO LINKS THAT MEET THEM ANSWER ALIKE
pub demands_decide : DemandsDecide
demands_decide s t D E es e b = record { own = own s t D E es e b; lent = lent s t D E es e b }

-- WHATEVER COUNTS ARE LENT
pub lent_decide : LentDecide
lent_decide s t D E h c e b = lent_behind s t D E h c e b

-- AND SO OURS DECIDES
pub ours_decides : OursDecides
ours_decides =
    let ours_meets : Meets our_link = record { one = demand_one; two = demand_two; three = demand_three } in
    record { meets = ours_meets; decides = λ m d. demands_decide m our_link d ours_meets }
