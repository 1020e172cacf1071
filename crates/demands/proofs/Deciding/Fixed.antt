-- What is seen from outside fixes what the demands speak of: whether an initialization goes on is decided by events and reports, and a history has at
-- most one session so far (`Talk`). In place of `starting_exactly` and `session_link`, which looked into our link.
use Prim.Native.Nat.{ℕ, ◌+◌, ◌≤◌, ◌<◌}
use mathlib.Core.Bool.{Bool, true, false, false≢true}
use mathlib.Core.List.{List, [], ◌∷◌, ◌++◌}
use mathlib.Core.Logic.{◌⊎◌, inl, inr, ⊎_elim}
use mathlib.Core.Path.{◌≡◌, refl, sym, ap, ◌∙◌, subst}
use native.Mathlib.Omega.{arith}
use borrow.Author.Tests.{eqb-true, eqb-false, ltb-true, ltb-false, leb-true, leb-false}
use lib.Dec.{eqb, ltb, leb}
use lib.ListN.{length, length-append}
use Rattle.std.specs.Prelude.{if◌then◌else◌}
use Rattle.base.specs.Numbers.{taken}
use Rattle.base.specs.Reports.{connected_report, failed_report, down_report, idle_over, restarted}
use Rattle.events.specs.Events.{is_byte}
use Rattle.events.specs.declared.Kind.{Kind}
use Rattle.events.specs.declared.Kind.TheVariants.{Address, WakeUp, Byte, Tick, Drop, Other}
use Rattle.events.specs.declared.Event.{Event}
use Rattle.reports.specs.declared.Report.{Report}
use Rattle.demands.specs.Logs.{Log, none, ◌▷◌, heard_of, heard_in, number_after, taken_of, InBytes}
use Rattle.demands.specs.Idle.{idle_until}
use Rattle.demands.specs.Refusals.{Not}
use Rattle.demands.specs.Histories.{Machine, reports_to, reports_of, is_among, Says, Among}
use Rattle.demands.specs.Accounts.{InTurn, named_by, named_in}
use Rattle.demands.specs.Starts.{Low}
use Rattle.demands.specs.Connecting.{Since, here, tick, byte, Connects}
use Rattle.demands.specs.Sessions.{Talk, opened_by, talk_after, Session, opens, lasts, IdleOver}
use Rattle.demands.specs.Endings.{Starter, NotIdle, WrongLow, Starting, starts, goes_on}
use Rattle.demands.specs.Deciding.{Meets}
use Rattle.demands.proofs.Connecting.ConnectsExactly.{log_taken, log_refused}
use Rattle.demands.proofs.Connecting.ConnectedReport.{since_heard}
use Rattle.demands.proofs.Moves.ReportsInList.{only_one, tells_says}
use Rattle.demands.proofs.Connecting.KeyBytes.{starter, not_byte, OpenedBy, report_opens}

-- ---- AN INITIALIZATION GOES ON, OR NOT: by events and reports
abbrev pub Decided : Type 0 → Type 0
Decided A = A ⊎ Not A

unfoldable wakes : Kind → Bool
wakes Address = false
wakes WakeUp = true
wakes Byte = false
wakes Tick = false
wakes Drop = false
wakes Other = false

unfoldable begins : Kind → Bool
begins Address = true
begins WakeUp = true
begins Byte = false
begins Tick = false
begins Drop = false
begins Other = false

no_start : (k : Kind) → begins k ≡ false → (k ≡ Address) ⊎ (k ≡ WakeUp) → ⊥
unfolding begins
no_start k h (inl e) = false≢true (sym h ∙ ap begins e)
no_start k h (inr e) = false≢true (sym h ∙ ap begins e)

kind_starts : (k : Kind) → Decided ((k ≡ Address) ⊎ (k ≡ WakeUp))
unfolding begins
kind_starts Address = inl (inl refl)
kind_starts WakeUp = inl (inr refl)
kind_starts Byte = inr (no_start Byte refl)
kind_starts Tick = inr (no_start Tick refl)
kind_starts Drop = inr (no_start Drop refl)
kind_starts Other = inr (no_start Other refl)

not_wake : (k : Kind) → wakes k ≡ false → Decided (k ≡ WakeUp)
unfolding wakes
not_wake k h = inr (λ e. false≢true (sym h ∙ ap wakes e))

kind_wakes : (k : Kind) → Decided (k ≡ WakeUp)
unfolding wakes
kind_wakes Address = not_wake Address refl
kind_wakes WakeUp = inl refl
kind_wakes Byte = not_wake Byte refl
kind_wakes Tick = not_wake Tick refl
kind_wakes Drop = not_wake Drop refl
kind_wakes Other = not_wake Other refl

less : (a b : ℕ) → Decided (a < b)
less a b = by (ltb a b) refl
  where
    by : (c : Bool) → ltb a b ≡ c → Decided (a < b)
    by true c = inl (ltb-true a b c)
    by false c = inr (λ h. let k = ltb-false a b c in omega arith)

at_most : (a b : ℕ) → Decided (a ≤ b)
at_most a b = by (leb a b) refl
  where
    by : (c : Bool) → leb a b ≡ c → Decided (a ≤ b)
    by true c = inl (leb-true a b c)
    by false c = inr (λ h. let k = leb-false a b c in omega arith)

pub equal : (a b : ℕ) → Decided (a ≡ b)
equal a b = by (eqb a b) refl
  where
    by : (c : Bool) → eqb a b ≡ c → Decided (a ≡ b)
    by true c = inl (eqb-true a b c)
    by false c = inr (eqb-false a b c)

both : {A B : Type 0} → Decided A → Decided B → Decided (A × B)
both (inl a) (inl b) = inl (a, b)
both (inl a) (inr b) = inr (λ p. b p.1)
both (inr a) d = inr (λ p. a p.0)

all_three : {A B C : Type 0} → Decided A → Decided B → Decided C → Decided (A × B × C)
all_three (inl a) (inl b) (inl c) = inl (a, b, c)
all_three (inl a) (inl b) (inr c) = inr (λ p. c p.2)
all_three (inl a) (inr b) d = inr (λ p. b p.1)
all_three (inr a) d e = inr (λ p. a p.0)

never : {A : Type 0} → Decided A → Decided (Not A)
never (inl a) = inr (λ n. n a)
never (inr n) = inl n

says : (number : ℕ) (rs : List Report) → Decided (Says number rs)
says number rs = by (is_among number rs) refl
  where
    by : (c : Bool) → is_among number rs ≡ c → Decided (Says number rs)
    by true c = inl c
    by false c = inr (λ h. false≢true (sym c ∙ h))

low : (e : Event) → Decided (Low e)
low e = both (at_most (e.start.0 + 24_000) e.end.0) (at_most e.end.0 (e.start.0 + 26_000))

module _ (m : Machine) where
  record New (es : Log) (e : Event) : Type 0 where
    pub number : number_after (taken_of es) e ≡ taken
    pub starter : Starter e
    pub idle : Not (NotIdle m (taken_of es) e)
    pub low : Not (WrongLow m (taken_of es) e)

  new : (es : Log) (e : Event) → Decided (New es e)
  new es e = all (equal (number_after (taken_of es) e) taken) (kind_starts e.kind)
      (never (both (kind_starts e.kind) (less e.start.0 (idle_until m (taken_of es) e))))
      (never (all_three (kind_wakes e.kind) (at_most (idle_until m (taken_of es) e) e.start.0) (never (low e))))
    where
      all : Decided (number_after (taken_of es) e ≡ taken) → Decided (Starter e) → Decided (Not (NotIdle m (taken_of es) e))
          → Decided (Not (WrongLow m (taken_of es) e)) → Decided (New es e)
      all (inr n) b c d = inr (λ x. n x.number)
      all (inl a) (inr n) c d = inr (λ x. n x.starter)
      all (inl a) (inl b) (inr n) d = inr (λ x. n x.idle)
      all (inl a) (inl b) (inl c) (inr n) = inr (λ x. n x.low)
      all (inl a) (inl b) (inl c) (inl d) = inl (record { number = a; starter = b; idle = c; low = d })

  not_fresh : Starting m none → ⊥
  not_fresh z = elim z [ ]

  record Goes (es : Log) (e : Event) : Type 0 where
    pub before : Starting m es
    pub connected : Not (Says connected_report (reports_to m es e))
    pub failed : Not (Says failed_report (reports_to m es e))

  either : (es : Log) (e : Event) → Starting m (es ▷ e) → New es e ⊎ Goes es e
  either es e (starts n x i w) = inl (record { number = n; starter = x; idle = i; low = w })
  either es e (goes_on z c f) = inr (record { before = z; connected = c; failed = f })

  goes : (es : Log) (e : Event) → Decided (Starting m es) → Decided (Not (Says connected_report (reports_to m es e))) → Decided (Not (Says failed_report (reports_to m es e)))
      → Decided (Goes es e)
  goes es e (inr n) c f = inr (λ x. n x.before)
  goes es e (inl z) (inr n) f = inr (λ x. n x.connected)
  goes es e (inl z) (inl c) (inr n) = inr (λ x. n x.failed)
  goes es e (inl z) (inl c) (inl f) = inl (record { before = z; connected = c; failed = f })

  next : (es : Log) (e : Event) → Decided (New es e) → Decided (Goes es e) → Decided (Starting m (es ▷ e))
  next es e (inl x) d = inl (starts x.number x.starter x.idle x.low)
  next es e (inr a) (inl x) = inl (goes_on x.before x.connected x.failed)
  next es e (inr a) (inr b) = inr (λ z. ⊎_elim a b (either es e z))

  pub starting_decided : (es : Log) → Decided (Starting m es)
  starting_decided none = inr not_fresh
  starting_decided (es ▷ e) =
      next es e (new es e)
      (goes es e (starting_decided es) (never (says connected_report (reports_to m es e))) (never (says failed_report (reports_to m es e))))

-- ---- A HISTORY FIXES ITS SESSION
-- what was heard before a start is no more than what was heard after it
heard_more : (log : Log) (e : Event) → length (heard_of log) ≤ length (heard_of (log ▷ e))
unfolding heard_of
heard_more log e = omega (arith, length-append (heard_of log) (if is_byte e.kind then e.value ∷ [] else []))

since_order : {s : Event} {before log bs : Log} → Since s before log bs → length (heard_of before) ≤ length (heard_of log)
since_order {s = s} {before = before} here = heard_more before s
since_order (tick {log = log} {e = e} k z) = omega (arith, since_order z, heard_more log e)
since_order (byte {log = log} {e = e} k z) = omega (arith, since_order z, heard_more log e)

record Earlier (s : Event) (before log : Log) : Type 0 where
  pub bytes : Log
  pub since : Since s before log bytes

since_last : {s e : Event} {before log bs : Log} → Since s before (log ▷ e) bs → ((s ≡ e) × (before ≡ log)) ⊎ Earlier s before log
since_last here = inl (refl, refl)
since_last (tick k z) = inr (record { bytes = _; since = z })
since_last (byte {bs = bs} k z) = inr (record { bytes = bs; since = z })

since_before : {s e : Event} {before log bs : Log} → Since s before (log ▷ e) bs → length (heard_of before) ≤ length (heard_of log)
since_before z = ⊎_elim (λ x. omega (arith, ap (λ (l : Log). length (heard_of l)) x.1)) (λ x. since_order x.since) (since_last z)

-- how many bytes reports name
pub named_append : (xs ys : List Report) → named_in (xs ++ ys) ≡ named_in xs + named_in ys
unfolding named_in
named_append [] ys = omega arith
named_append (x ∷ xs) ys = omega (arith, named_append xs ys)

pub turn_behind : (n : ℕ) (xs ys : List Report) → InTurn n (xs ++ ys) → InTurn (n + named_in xs) ys
unfolding named_in
turn_behind n [] ys t = subst (λ (k : ℕ). InTurn k ys) (omega arith) t
turn_behind n (x ∷ xs) ys (InTurn.behind p t) = subst (λ (k : ℕ). InTurn k ys) (omega arith) (turn_behind (n + x.bytes) xs ys t)

turn_first : {n : ℕ} {r : Report} {rs : List Report} → InTurn n (r ∷ rs) → r.first ≡ n
turn_first (InTurn.behind p t) = p

module _ (m : Machine) (D : Meets m) where
  grown : (es : Log) (e : Event) → named_in (reports_of m es) ≤ named_in (reports_of m (es ▷ e))
  unfolding reports_of
  grown es e = omega (arith, named_append (reports_of m es) (reports_to m es e))

  -- where an initialization is completed, no byte was named since its start, and all are named then
  module _ (es : Log) (e : Event) (b : InBytes es) (n : number_after (taken_of es) e ≡ taken) (c : Connects m (taken_of es) e) where
    none_named : named_in (reports_of m es) ≡ length (heard_of c.before)
    unfolding reports_of
    none_named =
        let i = turn_behind 0 (reports_of m es) (reports_to m es e) (D.three.accounted (es ▷ e)).indexes in
        let j = turn_first (subst (InTurn (0 + named_in (reports_of m es))) (D.two.connects_names es e b n c).reports i) in
        omega (arith, j)

    all_named : named_in (reports_of m (es ▷ e)) ≡ length (heard_of (taken_of es)) + 1
    unfolding reports_of named_in
    all_named =
        let r = ap named_in (D.two.connects_names es e b n c).reports in
        omega (arith, named_append (reports_of m es) (reports_to m es e), r, none_named, since_heard (not_byte c.start (starter c.good)) c.since)

  -- a report 3 is made where an initialization is completed
  opened : (es : Log) (e : Event) (r : Report) → InBytes es → Among r (reports_to m es e) → r.number ≡ connected_report → OpenedBy (idle_until m) es e r
  opened es e r b = report_opens (idle_until m) m es e (D.two.connects_exactly es e b) (D.two.connects_names es e b) r

  -- no session lasts over a start of which no byte is named yet
  no_session : (es : Log) (t : Talk) (s : Event) (before bs : Log) → InBytes es → Session m es t → Starter s → Since s before (taken_of es) bs
      → named_in (reports_of m es) ≤ length (heard_of before) → ⊥
  unfolding InBytes
  no_session es t s before bs b (opens {es = es1} {e = e} {r = r} a q) st z h =
      let x = opened es1 e r b.0 a q in
      let y = subst (λ (l : Log). Since s before l bs) (log_taken es1 e x.number) z in
      omega (arith, since_before y, all_named es1 e b.0 x.number x.connects, h)
  no_session es t s before bs b (lasts {es = es1} {e = e} {t = t1} x d) st z h =
      by_number (eqb (number_after (taken_of es1) e) taken) refl (λ cs y k. no_session es1 t1 s before cs b.0 x st y k)
    where
      at_start : number_after (taken_of es1) e ≡ taken → Starter e → ⊥
      at_start n k =
          let y = D.two.downs_exactly es1 e t1 b.0 x in
          let no : Not (IdleOver m es1 e t1) = λ i. d (tells_says down_report idle_over (reports_to m es1 e) (y.idle.1 (n, i))) in
          d (tells_says down_report restarted (reports_to m es1 e) (y.restarted.1 (n, k, no)))

      by_number : (c : Bool) → eqb (number_after (taken_of es1) e) taken ≡ c
          → ((cs : Log) → Since s before (taken_of es1) cs → named_in (reports_of m es1) ≤ length (heard_of before) → ⊥) → ⊥
      by_number false n f = f bs (subst (λ (l : Log). Since s before l bs) (log_refused es1 e n) z) (omega (arith, grown es1 e, h))
      by_number true n f =
          let q = eqb-true (number_after (taken_of es1) e) taken n in
          ⊎_elim (λ y. at_start q (subst Starter y.0 st)) (λ y. f y.bytes y.since (omega (arith, grown es1 e, h)))
          (since_last (subst (λ (l : Log). Since s before l bs) (log_taken es1 e q) z))

  not_both : (es : Log) (e : Event) (r : Report) (t : Talk) → InBytes es → OpenedBy (idle_until m) es e r → Session m es t → ⊥
  not_both es e r t b o x =
      let c = o.connects in
      no_session es t c.start c.before c.bytes b x (starter c.good) c.since (omega (arith, none_named es e b o.number c))

  -- A HISTORY FIXES ITS TALK
  pub session_fixed : (es : Log) (j k : Talk) → InBytes es → Session m es j → Session m es k → j ≡ k
  unfolding InBytes
  session_fixed es j k b (opens {es = es1} {e = e} {r = r} i n) (opens {r = s} o d) =
      let x = opened es1 e r b.0 i n in
      let same : r ≡ s = x.only ∙ sym (only_one (subst (Among s) (D.two.connects_names es1 e b.0 x.number x.connects).reports o)) in
      ap (λ (q : Report). opened_by (named_by (heard_in (es1 ▷ e)) q)) same
  session_fixed es j k b (opens {es = es1} {e = e} {r = r} i n) (lasts {t = t} y z) = absurd (not_both es1 e r t b.0 (opened es1 e r b.0 i n) y)
  session_fixed es j k b (lasts {es = es1} {e = e} {t = t} x w) (opens {r = s} o d) = absurd (not_both es1 e s t b.0 (opened es1 e s b.0 o d) x)
  session_fixed es j k b (lasts {es = es1} {e = e} {t = t} x w) (lasts {t = u} y z) =
      ap (λ (v : Talk). talk_after v (taken_of (es1 ▷ e)) (reports_to m es1 e)) (session_fixed es1 t u b.0 x y)
