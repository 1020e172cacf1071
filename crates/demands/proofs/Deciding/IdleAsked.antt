-- Reports 8 and 4 of a link that meets the demands are those of any other, after events that both have reported alike: both ask the same idle time of a start
-- (`until_there`). The earlier events give it alike, and of the event's own reports only 4 and 7 count, of which each but a wrong low has its like already
-- (Starts.antt, Ends.antt); taken out of their lists in order, they are alike one by one.
-- Assumes nothing.
use Prim.Native.Nat.{ℕ, ◌+◌, ◌≤◌, ◌<◌, zero, suc}
use mathlib.Core.Bool.{Bool, true, false, not, ◌&&◌, ◌||◌, false≢true}
use mathlib.Core.List.{List, [], ◌∷◌}
use mathlib.Core.Logic.{inl, inr, ⊎_elim}
use mathlib.Core.Path.{◌≡◌, refl, sym, ap, ap₂, ◌∙◌, subst}
use native.Mathlib.Omega.{arith}
use borrow.Author.Tests.{eqb-true, eqb-false, not-true}
use lib.Dec.{eqb}
use Rattle.std.specs.Prelude.{if◌then◌else◌}
use Rattle.base.specs.Reports.{failed_report, down_report, not_idle_report, wrong_low}
use Rattle.base.proofs.Tests.{and_split, or_split, by_test}
use Rattle.units.specs.declared.Micros.{Micros}
use Rattle.reports.specs.declared.Report.{Report}
use Rattle.demands.specs.Logs.{mark_of, taken_of}
use Rattle.demands.specs.Histories.{Among, first, later, folded, Tells}
use Rattle.demands.specs.Accounts.{held_in}
use Rattle.demands.specs.Idle.{p3min_in, idle_after, idle_in, asked_after, idle_asked, idle_until}
use Rattle.demands.specs.Orders.{rule_of, InOrder, next, NamesFailed}
use Rattle.demands.proofs.Histories.TakenOnly.{next_same}
use Rattle.demands.proofs.Moves.ReportsInList.{not_among, says_speaks, among_says}
use Rattle.demands.proofs.Deciding.Agree.{held_same, p3min_same, idle_same, agree_taken}
use Rattle.demands.proofs.Deciding.SameList.{rule, split, HasLike, Alike, none, more, alike, Has}
use Rattle.demands.proofs.Deciding.Fixed.{equal}
use Rattle.demands.proofs.Deciding.Sharing.{Both, turned, before, passes_here, passes_there, here, there, formed_here, formed_there, like, like_plain}
use Rattle.demands.proofs.Deciding.Starts.{fails_too}
use Rattle.demands.proofs.Deciding.Ends.{downs_too}

-- ---- THE REPORTS THAT COUNT for the idle time asked of a start: 7, and 4 but for a wrong low
abbrev counts : Report → Bool
counts r = eqb r.number down_report || (eqb r.number failed_report && not (eqb r.reason wrong_low))

unfoldable counted : List Report → List Report
counted [] = []
counted (r ∷ rs) = if counts r then r ∷ counted rs else counted rs

abbrev Kept : Report → List Report → List Report → Type 0
Kept x xs ys = Among x ys → Among x xs × (counts x ≡ true)

-- those that count are among all
counted_among : (xs : List Report) (x : Report) → Kept x xs (counted xs)
unfolding counted
counted_among [] x = λ i. absurd (not_among i)
counted_among (y ∷ ys) x =
    by_test (Kept x (y ∷ ys)) (counts y) {x = y ∷ counted ys} {y = counted ys}
    (λ c i. ⊎_elim (λ e. (subst (λ (z : Report). Among z (y ∷ ys)) (sym e) first, ap counts e ∙ c)) (λ j. let k = counted_among ys x j in (later k.0, k.1)) (split i))
    (λ _ i. let k = counted_among ys x i in (later k.0, k.1))

among_counted : (xs : List Report) (x : Report) → Among x xs → counts x ≡ true → Among x (counted xs)
unfolding counted
among_counted [] x i c = elim i [ ]
among_counted (y ∷ ys) x first c = rw c first
among_counted (y ∷ ys) x (later i) c =
    by_test (Among x) (counts y) {x = y ∷ counted ys} {y = counted ys} (λ _. later (among_counted ys x i c)) (λ _. among_counted ys x i c)

-- they are in order too
lower : {a b : ℕ} (xs : List Report) → a ≤ b → InOrder b xs → InOrder a xs
lower [] h InOrder.none = InOrder.none
lower {a} (x ∷ xs) h (next k u) = next {before = a} {r = x} (omega (arith, h, k)) u

counted_order : (a : ℕ) (xs : List Report) → InOrder a xs → InOrder a (counted xs)
unfolding counted
counted_order a [] u = InOrder.none
counted_order a (x ∷ xs) (next k u) =
    by_test (InOrder a) (counts x) {x = x ∷ counted xs} {y = counted xs} (λ _. next k (counted_order (rule x) xs u))
    (λ _. lower (counted xs) (omega arith) (counted_order (rule x) xs u))

-- and no other leaves another idle time
leaves : (p3min idle : Micros) (x : Report) → counts x ≡ false → asked_after p3min idle x ≡ idle
unfolding asked_after idle_after
leaves p3min idle x c = by_number (eqb x.number down_report) (eqb x.number failed_report) (eqb x.reason wrong_low) refl refl refl
  where
    by_number : (d f w : Bool) → eqb x.number down_report ≡ d → eqb x.number failed_report ≡ f → eqb x.reason wrong_low ≡ w → asked_after p3min idle x ≡ idle
    by_number true f w d g h = absurd (false≢true (sym c ∙ rw d refl))
    by_number false true true d g h = rw (g, h) refl
    by_number false true false d g h = absurd (false≢true (sym c ∙ rw (d, g, h) refl))
    by_number false false w d g h = rw (g, d) refl

folded_counted : (p3min idle : Micros) (xs : List Report) → folded (asked_after p3min) idle xs ≡ folded (asked_after p3min) idle (counted xs)
unfolding folded counted
folded_counted p3min idle [] = refl
folded_counted p3min idle (x ∷ xs) =
    by_test (λ (ys : List Report). folded (asked_after p3min) (asked_after p3min idle x) xs ≡ folded (asked_after p3min) idle ys) (counts x)
    {x = x ∷ counted xs} {y = counted xs} (λ _. folded_counted p3min (asked_after p3min idle x) xs)
    (λ c. ap (λ (i : Micros). folded (asked_after p3min) i xs) (leaves p3min idle x c) ∙ folded_counted p3min idle xs)

-- ---- alike by number and reason
record Kin (x y : Report) : Type 0 where
  number : x.number ≡ y.number
  reason : x.reason ≡ y.reason

kin_rule : (x y : Report) → Kin x y → rule x ≡ rule y
kin_rule x y k = ap₂ rule_of k.number k.reason

kin_counts : (x y : Report) → Kin x y → counts x ≡ true → counts y ≡ true
kin_counts x y k c =
    sym (ap₂ (λ (n s : ℕ). eqb n down_report || (eqb n failed_report && not (eqb s wrong_low))) k.number k.reason) ∙ c

kin_asked : (p3min idle : Micros) (x y : Report) → Kin x y → asked_after p3min idle x ≡ asked_after p3min idle y
unfolding asked_after idle_after
kin_asked p3min idle x y k =
    ap₂ (λ (n s : ℕ). asked_after p3min idle (record { first = 0; bytes = 0; time = p3min; number = n; reason = s })) k.number k.reason

folded_kin : (p3min idle : Micros) (xs ys : List Report) → Alike Kin kin_rule xs ys → folded (asked_after p3min) idle xs ≡ folded (asked_after p3min) idle ys
unfolding folded
folded_kin p3min idle [] [] none = refl
folded_kin p3min idle [] (y ∷ ys) l = elim l [ ]
folded_kin p3min idle (x ∷ xs) [] l = elim l [ ]
folded_kin p3min idle (x ∷ xs) (y ∷ ys) (more k r) =
    ap (λ (i : Micros). folded (asked_after p3min) i xs) (kin_asked p3min idle x y k) ∙ folded_kin p3min (asked_after p3min idle y) xs ys r

module _ (B : Both) where
  -- each report that counts has its kin
  told : (x : Report) → Among x (here B) → counts x ≡ true → Tells x.number x.reason (there B)
  told x i c = ⊎_elim downs fails (or_split _ _ c)
    where
      it : Tells x.number x.reason (here B)
      it = record { report = x; made = i; number_is = refl; reason_is = refl }

      downs : eqb x.number down_report ≡ true → Tells x.number x.reason (there B)
      downs d =
          let n = eqb-true x.number down_report d in
          subst (λ (k : ℕ). Tells k x.reason (there B)) (sym n)
          (downs_too B x.reason ((formed_here B x i).down n) (subst (λ (k : ℕ). Tells k x.reason (here B)) n it))

      fails : (eqb x.number failed_report && not (eqb x.reason wrong_low)) ≡ true → Tells x.number x.reason (there B)
      fails f =
          let y = and_split _ _ f in
          let n = eqb-true x.number failed_report y.0 in
          let w = eqb-false x.reason wrong_low (not-true (eqb x.reason wrong_low) y.1) in
          subst (λ (k : ℕ). Tells k x.reason (there B)) (sym n)
          (fails_too B x.reason ((formed_here B x i).failed n) w (subst (λ (k : ℕ). Tells k x.reason (here B)) n it))

  kin : (x : Report) → Among x (counted (here B)) → HasLike Kin kin_rule x (counted (there B))
  kin x i =
      let y = counted_among (here B) x i in
      let z = told x y.0 y.1 in
      let k : Kin x z.report = record { number = sym z.number_is; reason = sym z.reason_is } in
      record { report = z.report; made = among_counted (there B) z.report z.made (kin_counts x z.report k y.1); like = k }

-- the reason fixes how many bytes a report 4 names
same_failed : (held : ℕ) (r q : Report) (k : ℕ) → r.reason ≡ k → q.reason ≡ k → (1 ≤ k) × (k ≤ 6) → NamesFailed held r → NamesFailed held q
    → r.bytes ≡ q.bytes
same_failed held r q zero x y h f g = absurd (omega arith)
same_failed held r q (suc zero) x y h f g = f.ended (inl x) ∙ sym (g.ended (inl y))
same_failed held r q (suc (suc zero)) x y h f g = f.ended (inr x) ∙ sym (g.ended (inr y))
same_failed held r q (suc (suc (suc zero))) x y h f g = f.low x ∙ sym (g.low y)
same_failed held r q (suc (suc (suc (suc zero)))) x y h f g = f.joined (inl x) ∙ sym (g.joined (inl y))
same_failed held r q (suc (suc (suc (suc (suc zero))))) x y h f g = f.joined (inr (inl x)) ∙ sym (g.joined (inr (inl y)))
same_failed held r q (suc (suc (suc (suc (suc (suc zero)))))) x y h f g = f.joined (inr (inr x)) ∙ sym (g.joined (inr (inr y)))
same_failed held r q (suc (suc (suc (suc (suc (suc (suc k))))))) x y h f g = absurd (omega arith)

module _ (B : Both) where
  -- THE SAME IDLE TIME IS ASKED
  folded_there : (p3min idle : Micros) → folded (asked_after p3min) idle (here B) ≡ folded (asked_after p3min) idle (there B)
  folded_there p3min idle =
      folded_counted p3min idle (here B)
      ∙ folded_kin p3min idle (counted (here B)) (counted (there B))
      (alike Kin kin_rule 0 (counted (here B)) (counted (there B)) (counted_order 0 (here B) (B.D.two.in_order B.es B.e))
      (counted_order 0 (there B) (B.E.two.in_order B.es B.e)) (kin B) (kin (turned B)))
      ∙ sym (folded_counted p3min idle (there B))

  until_there : idle_until B.s (taken_of B.es) B.e ≡ idle_until B.t (taken_of B.es) B.e
  unfolding idle_asked
  until_there =
      let log = taken_of B.es in
      let a = agree_taken B.s B.t (passes_here B) (passes_there B) B.es B.agree in
      let asked : Micros → Micros → List Report → ℕ = λ p i rs. (mark_of log).0 + (folded (asked_after p) i rs).0 in
      ap (asked (p3min_in B.s log) (idle_in B.s log)) (next_same B.s (passes_here B) B.es B.e)
      ∙ ap (λ (p : Micros). asked p (idle_in B.s log) (here B)) (p3min_same B.s B.t log a)
      ∙ ap (λ (i : Micros). asked (p3min_in B.t log) i (here B)) (idle_same B.s B.t log a)
      ∙ ap (λ (i : Micros). (mark_of log).0 + i.0) (folded_there (p3min_in B.t log) (idle_in B.t log))
      ∙ ap (asked (p3min_in B.t log) (idle_in B.t log)) (sym (next_same B.t (passes_there B) B.es B.e))

  -- ---- 8
  pub eight : (r : Report) → Among r (here B) → r.number ≡ not_idle_report → Has r (there B)
  eight r i n =
      let y = (B.D.two.not_idle_exactly B.es B.e (before B)).0 (among_says not_idle_report i n) in
      let h = subst (λ (k : ℕ). B.e.start.0 < k) until_there y.1.1 in
      let x = says_speaks not_idle_report (there B) ((B.E.two.not_idle_exactly B.es B.e (before B)).1 (y.0, (y.1.0, h))) in
      like_plain B r x.report i x.made (x.number_is ∙ sym n) (inr (inr (inr (inr n)))) (inr (inr (inr (inr x.number_is))))
      ((formed_here B r i).none (inr (inr n)) ∙ sym ((formed_there B x.report x.made).none (inr (inr x.number_is))))

  -- ---- 4, a wrong low among them
  low : Tells failed_report wrong_low (here B) → Tells failed_report wrong_low (there B)
  low x =
      let y = (B.D.two.wrong_low_exactly B.es B.e (before B)).0 x in
      (B.E.two.wrong_low_exactly B.es B.e (before B)).1 (y.0, (y.1.0, subst (λ (k : ℕ). k ≤ B.e.start.0) until_there y.1.1, y.1.2))

  any_fails : (k : ℕ) → (1 ≤ k) × (k ≤ 6) → Tells failed_report k (here B) → Tells failed_report k (there B)
  any_fails k h x =
      ⊎_elim (λ e. subst (λ (j : ℕ). Tells failed_report j (there B)) (sym e) (low (subst (λ (j : ℕ). Tells failed_report j (here B)) e x)))
      (λ n. fails_too B k h n x) (equal k wrong_low)

  pub four : (r : Report) → Among r (here B) → r.number ≡ failed_report → Has r (there B)
  four r i n =
      let k = (formed_here B r i).failed n in
      let y = any_fails r.reason k (record { report = r; made = i; number_is = n; reason_is = refl }) in
      let held = held_same B.s B.t B.es B.agree in
      like B r i (record { report = y.report; made = y.made; number_is = y.number_is ∙ sym n; reason_is = y.reason_is })
      (same_failed (held_in B.t B.es) r y.report r.reason refl y.reason_is k
      (subst (λ (h : ℕ). NamesFailed h r) held (B.D.two.failed_names_lem B.es B.e r i n))
      (B.E.two.failed_names_lem B.es B.e y.report y.made y.number_is))
