-- Time passes, on any link: what it finds run out, and which phase it leaves, told by the phase p that it found (`Left`). The four rules are asked one after
-- another; what each leaves (`First` .. `Left`) says which of its conditions did not hold, and so what the next ones can do. All but the first go by what silence
-- leaves of p (`quieted`): p itself, with what is open settled, or with its frame.
-- Assumes nothing.
use Prim.Native.Nat.{ℕ, ◌≤◌}
use mathlib.Core.Bool.{Bool, true, false, not, ◌&&◌, false≢true}
use mathlib.Core.Path.{◌≡◌, refl, sym, ap, ◌∙◌, subst}
use mathlib.Core.Logic.{◌⊎◌, inl, inr}
use native.Mathlib.Omega.{arith}
use borrow.Author.Tests.{ltb-true, lt-ltb}
use lib.Dec.{eqb}
use Rattle.base.specs.Reports.{frame_report, damage_report, failed_report, no_reply_report, down_report, no_reason, window_over, idle_over}
use Rattle.base.proofs.Tests.{and_split}
use Rattle.units.specs.Units.{gap_of, is_earlier, micros}
use Rattle.units.specs.declared.Micros.{Micros}
use Rattle.timing.specs.Timing.{is_unlimited, is_passed}
use Rattle.timing.specs.declared.Limit.{Limit}
use Rattle.events.specs.declared.Event.{Event}
use Rattle.starts.specs.Starts.{is_over}
use Rattle.talk.specs.Talk.{is_first, end_reason}
use Rattle.phases.specs.Phases.{is_starting, is_quiet, is_open, is_connected, down, off, talking, settled, framed}
use Rattle.phases.specs.declared.State.{State}
use Rattle.phases.specs.declared.State.TheVariants.{Down, Quiet, Held}
use Rattle.phases.specs.declared.Phase.{Phase}
use Rattle.phases.proofs.StateTests.{is_starting_lem, is_quiet_lem, open_connected, quiet_connected, open_or, never_starting, open_unquiet, quiet_is, held_is, starting_is}
use Rattle.moves.specs.Moves.{still, makes, is_silent, is_right, after_silence, since_origin}
use Rattle.moves.specs.declared.Move.{Move}
use Rattle.moves.proofs.Rules.{Moment, at_silence, at_p2, at_p3, at_window, Rule, rests, ends_right, breaks_off, waited, idled, expires, by_silence, is_move, one_move}
use Rattle.link.proofs.Long.{Long}
use Rattle.demands.proofs.Histories.Holding.{framed_quiet}
use Rattle.demands.proofs.Moves.ReportsInList.{Makes, silent}

-- ---- what runs out as time passes
-- what 20 ms of silence leave of a phase
abbrev pub silenced : Phase → Micros → Phase
silenced p gap = (after_silence p gap).phase

-- then a first reply is awaited with nothing open, and P2 max has passed
abbrev pub Waiting : Phase → Micros → Type 0
Waiting q gap = (is_quiet q.state ≡ true) × (is_first q.reply ≡ true) × (is_passed q.windows.p2max gap ≡ true)

abbrev pub Waited : Phase → Micros → Type 0
Waited p gap = Waiting (silenced p gap) gap

-- connected, and P3 max has passed; and P2 max, where a first reply is awaited with nothing open
abbrev pub Idling : Phase → Micros → Type 0
Idling q gap =
    (is_connected q.state ≡ true)
    × (is_passed q.windows.p3max gap ≡ true)
    × (is_quiet q.state ≡ true → is_first q.reply ≡ true → is_passed q.windows.p2max gap ≡ true)

abbrev pub Idled : Phase → Micros → Type 0
Idled p gap = Idling (silenced p gap) gap

-- in an initialization, and its present window's end has passed
abbrev pub Over : Phase → Micros → Micros → Type 0
Over p mark start = (is_starting p.state ≡ true) × (is_over p.start (since_origin p mark start) ≡ true)

-- where a limit of 20 ms or more has passed, so have 20 ms
pub long_silent : (l : Limit) (gap : Micros) → 20_000 ≤ l.0.0 → is_passed l gap ≡ true → is_silent gap ≡ true
unfolding is_passed is_silent
long_silent l gap h p =
    let k = ltb-true l.0.0 gap.0 (and_split (not (is_unlimited l)) (is_earlier l.0 gap) p).1 in
    lt-ltb 20_000 gap.0 (omega arith)

pub off_second : (a b : Bool) → (a && b) ≡ false → a ≡ true → b ≡ false
off_second true b e t = e
off_second false b e t = absurd (false≢true t)

module _ (mark : Micros) (e : Event) (p : Phase) where
  abbrev gap : Micros
  gap = gap_of mark e.start

  -- ---- what silence leaves
  abbrev pub quieted : Phase
  quieted = silenced p gap

  pub data Silence : Phase → Type 0 where
    in_time : (is_open p.state ≡ true → is_silent gap ≡ false) → Silence p
    broken_off : is_open p.state ≡ true → is_silent gap ≡ true → is_right p ≡ false → Silence (settled p)
    framed_then : p.state ≡ Held → is_silent gap ≡ true → eqb (end_reason p.message) no_reason ≡ true → Silence (framed p)

  silence_by : {m : Move} → Rule mark e p at_silence m → Silence m.phase
  silence_by (rests u) = in_time (off_second (is_open p.state) (is_silent gap) u)
  silence_by (ends_right h s r) = framed_then h s r
  silence_by (breaks_off o s r) = broken_off o s r

  pub silence : Silence quieted
  silence = silence_by (by_silence mark e p)

  -- it is told by what there was
  held_up : p.state ≡ Held → is_connected p.state ≡ true
  held_up h = open_connected p.state (held_is h).1

  framed_is : (P : State → Type 0) → P Quiet → P (framed p).state
  framed_is P x = subst P (sym (framed_quiet p)) x

  pub same_up : {q : Phase} → Silence q → is_connected q.state ≡ is_connected p.state
  unfolding settled talking is_connected
  same_up (in_time t) = refl
  same_up (broken_off o s r) = sym (open_connected p.state o)
  same_up (framed_then h s r) = framed_is (λ (st : State). is_connected st ≡ is_connected p.state) (sym (held_up h))

  pub open_same : {q : Phase} → Silence q → is_open q.state ≡ true → (q ≡ p) × (is_silent gap ≡ false)
  unfolding settled talking is_open
  open_same (in_time t) o = (refl, t o)
  open_same (broken_off x s r) o = absurd (false≢true o)
  open_same (framed_then h s r) o = absurd (framed_is (λ (st : State). is_open st ≡ true → ⊥) false≢true o)

  pub starting_same : {q : Phase} → Silence q → is_starting q.state ≡ true → q ≡ p
  unfolding settled talking is_starting
  starting_same (in_time t) i = refl
  starting_same (broken_off x s r) i = absurd (false≢true i)
  starting_same (framed_then h s r) i = absurd (framed_is (λ (st : State). is_starting st ≡ true → ⊥) false≢true i)

  pub down_same : {q : Phase} → Silence q → q.state ≡ Down → p.state ≡ Down
  unfolding settled talking is_connected
  down_same (in_time t) d = d
  down_same (broken_off x s r) d = absurd (false≢true (sym (ap is_connected d)))
  down_same (framed_then h s r) d = absurd (framed_is (λ (st : State). st ≡ Down → ⊥) (λ z. false≢true (sym (ap is_connected z))) d)

  -- what was not open, or was so in time, is as it was; what was open and is not in time is quiet
  pub still_same : {q : Phase} → Silence q → (is_open p.state ≡ true → is_silent gap ≡ false) → q ≡ p
  still_same (in_time t) n = refl
  still_same (broken_off o s r) n = absurd (false≢true (sym (n o) ∙ s))
  still_same (framed_then h s r) n = absurd (false≢true (sym (n (held_is h).1) ∙ s))

  pub ended_quiet : {q : Phase} → Silence q → is_open p.state ≡ true → is_silent gap ≡ true → is_quiet q.state ≡ true
  unfolding settled talking is_quiet
  ended_quiet (in_time t) o s = absurd (false≢true (sym (t o) ∙ s))
  ended_quiet (broken_off x y r) o s = refl
  ended_quiet (framed_then h y r) o s = framed_is (λ (st : State). is_quiet st ≡ true) refl

  -- ---- what the rules leave
  -- where windows are long enough, P3 max has not passed
  abbrev pub Lasts : Type 0
  Lasts = Long p → Idled p gap → ⊥

  pub data First : Phase → Type 0 where
    found : First p

  pub data Second : Phase → Type 0 where
    silent_now : Second quieted

  pub data Third : Phase → Type 0 where
    awaits : (Waited p gap → ⊥) → Third quieted
    settles : Waited p gap → Third (settled quieted)

  pub data Fourth : Phase → Type 0 where
    stays : (Waited p gap → ⊥) → Lasts → Fourth quieted
    stays_settled : Waited p gap → Lasts → Fourth (settled quieted)
    fallen : Idled p gap → Fourth (down (micros 0))

  -- THE PHASE THAT TIME LEAVES
  pub data Left : Phase → Type 0 where
    same : (Waited p gap → ⊥) → Lasts → (Over p mark e.start → ⊥) → Left quieted
    ended : Waited p gap → Lasts → Left (settled quieted)
    idle : Idled p gap → Left (down (micros 0))
    over : Over p mark e.start → Left off

  pub waited_up : Waited p gap → is_connected p.state ≡ true
  waited_up w = sym (same_up silence) ∙ quiet_connected quieted.state w.0

  pub idled_up : Idled p gap → is_connected p.state ≡ true
  idled_up i = sym (same_up silence) ∙ i.0

  -- an initialization is as it was
  starting_stays : is_starting p.state ≡ true → quieted ≡ p
  starting_stays i = still_same silence (λ o. absurd (never_starting p.state (open_connected p.state o) i))

  -- ---- each rule makes its report where what runs out in p says so ..
  pub due_second : {q : Phase} → Second q → Waited p gap → Rule mark e q at_p2 (makes no_reply_report no_reason (settled q))
  due_second silent_now w = waited (is_quiet_lem quieted.state w.0) w.1 w.2

  -- what is open is so in time, and so P3 max has not passed
  not_open : Long p → Idled p gap → is_open quieted.state ≡ true → ⊥
  not_open g i o =
      let x = open_same silence o in
      let long = subst Long (sym x.0) g in
      false≢true (sym x.1 ∙ long_silent quieted.windows.p3max gap (omega (arith, (long i.0).p3max_long)) i.1)

  pub due_third : {q : Phase} → Third q → Long p → Idled p gap → Rule mark e q at_p3 (makes down_report idle_over (down (micros 0)))
  unfolding settled talking is_first
  due_third (awaits w) g i =
      open_or (Rule mark e quieted at_p3 (makes down_report idle_over (down (micros 0)))) quieted.state i.0 (λ o. absurd (not_open g i o))
      (λ q. by_first q (is_first quieted.reply) refl)
    where
      by_first : is_quiet quieted.state ≡ true → (b : Bool) → is_first quieted.reply ≡ b
          → Rule mark e quieted at_p3 (makes down_report idle_over (down (micros 0)))
      by_first q true k = absurd (w (q, k, i.2 q k))
      by_first q false k = idled (is_quiet_lem quieted.state q) k i.1
  due_third (settles x) g i = idled refl refl i.1

  pub due_fourth : {q : Phase} → Fourth q → Over p mark e.start → Rule mark e q at_window (makes failed_report window_over off)
  due_fourth (stays w n) o =
      subst (λ (q : Phase). Rule mark e q at_window (makes failed_report window_over off)) (sym (starting_stays o.0)) (expires (is_starting_lem p.state o.0) o.1)
  due_fourth (stays_settled x n) o = absurd (never_starting p.state (waited_up x) o.0)
  due_fourth (fallen i) o = absurd (never_starting p.state (idled_up i) o.0)

  -- .. and so, where a rule rests, that does not hold
  none_due : {q q' : Phase} {k : Moment} {n s : ℕ} → eqb n 0 ≡ false → Rule mark e q k (still q) → Rule mark e q k (makes n s q') → ⊥
  none_due {q = q} z u v = false≢true (sym z ∙ sym (ap (λ (m : Move). eqb m.number 0) (one_move mark e q u v)))

  -- ---- THE RULES, one after another: what each leaves, and what is so where it makes its report
  module _ (C : ℕ → ℕ → Type 0) where
    module _ (f : is_open p.state ≡ true → (k : ℕ) → C damage_report k)
        (g : p.state ≡ Held → is_silent gap ≡ true → eqb (end_reason p.message) no_reason ≡ true → C frame_report no_reason) where
      first_made : {m : Move} → Rule mark e p at_silence m → Makes C m
      first_made (rests u) = silent C p
      first_made (ends_right h s r) = λ _. g h s r
      first_made (breaks_off o s r) = λ _. f o _

      pub first_rule : (q : Phase) (m : Move) → First q → Rule mark e q at_silence m → Second m.phase × Makes C m
      first_rule q m found u = (subst Second (sym (ap (λ (x : Move). x.phase) (is_move mark e p u))) silent_now, first_made u)

    pub second_rule : (Waited p gap → C no_reply_report no_reason) → (q : Phase) (m : Move) → Second q → Rule mark e q at_p2 m → Third m.phase × Makes C m
    second_rule f q m silent_now (rests u) = (awaits (λ w. none_due refl (rests u) (due_second silent_now w)), silent C quieted)
    second_rule f q m silent_now (waited k r x) = (settles (quiet_is k, r, x), λ _. f (quiet_is k, r, x))

    pub third_rule : (Idled p gap → C down_report idle_over) → (q : Phase) (m : Move) → Third q → Rule mark e q at_p3 m → Fourth m.phase × Makes C m
    unfolding settled talking
    third_rule f q m (awaits w) (rests u) = (stays w (λ g i. none_due refl (rests u) (due_third (awaits w) g i)), silent C quieted)
    third_rule f q m (awaits w) (idled k r x) =
        let i : Idled p gap = (quiet_connected quieted.state (quiet_is k), x, λ _ y. absurd (false≢true (sym r ∙ y))) in
        (fallen i, λ _. f i)
    third_rule f q m (settles x) (rests u) = (stays_settled x (λ g i. none_due refl (rests u) (due_third (settles x) g i)), silent C (settled quieted))
    third_rule f q m (settles x) (idled k r y) =
        let i : Idled p gap = (quiet_connected quieted.state x.0, y, λ _ _. x.2) in
        (fallen i, λ _. f i)

    pub fourth_rule : (Over p mark e.start → C failed_report window_over) → (q : Phase) (m : Move) → Fourth q → Rule mark e q at_window m
        → Left m.phase × Makes C m
    unfolding settled talking down is_starting
    fourth_rule f q m (stays w n) (rests u) = (same w n (λ o. none_due refl (rests u) (due_fourth (stays w n) o)), silent C quieted)
    fourth_rule f q m (stays w n) (expires s o) =
        let x : Over p mark e.start = subst (λ (y : Phase). Over y mark e.start) (starting_same silence (starting_is s)) (starting_is s, o) in
        (over x, λ _. f x)
    fourth_rule f q m (stays_settled x n) (rests u) = (ended x n, silent C (settled quieted))
    fourth_rule f q m (stays_settled x n) (expires s o) = absurd (false≢true (ap is_starting s))
    fourth_rule f q m (fallen i) (rests u) = (idle i, silent C (down (micros 0)))
    fourth_rule f q m (fallen i) (expires s o) = absurd (false≢true (ap is_starting s))

  -- ---- the phase that time leaves, told by the one that it found
  pub in_left : {q : Phase} → Left q → is_starting q.state ≡ true → (q ≡ p) × (is_starting p.state ≡ true) × (Over p mark e.start → ⊥)
  unfolding settled talking down is_starting
  in_left (same w n o) i = let x = starting_same silence i in (x, sym (ap (λ (y : Phase). is_starting y.state) x) ∙ i, o)
  in_left (ended x n) i = absurd (false≢true i)
  in_left (idle x) i = absurd (false≢true i)
  in_left (over x) i = absurd (false≢true i)

  pub still_in : {q : Phase} → Left q → is_starting p.state ≡ true → (Over p mark e.start → ⊥) → q ≡ p
  still_in (same w n o) i f = starting_stays i
  still_in (ended x n) i f = absurd (never_starting p.state (waited_up x) i)
  still_in (idle x) i f = absurd (never_starting p.state (idled_up x) i)
  still_in (over x) i f = absurd (f x)

  pub up_left : {q : Phase} → Left q → is_connected q.state ≡ true → (is_connected p.state ≡ true) × Lasts
  unfolding down is_connected
  up_left (same w n o) c = (sym (same_up silence) ∙ c, n)
  up_left (ended x n) c = (waited_up x, n)
  up_left (idle x) c = absurd (false≢true c)
  up_left (over x) c = absurd (false≢true c)

  pub still_up : {q : Phase} → Left q → is_connected p.state ≡ true → (Idled p gap → ⊥) → is_connected q.state ≡ true
  unfolding settled talking is_connected
  still_up (same w n o) c f = same_up silence ∙ c
  still_up (ended x n) c f = refl
  still_up (idle x) c f = absurd (f x)
  still_up (over x) c f = absurd (never_starting p.state c x.0)

  -- down already, or by time
  abbrev pub IsDown : Type 0
  IsDown = (p.state ≡ Down) ⊎ Over p mark e.start ⊎ Idled p gap

  pub down_left : {q : Phase} → Left q → q.state ≡ Down → IsDown
  unfolding settled talking is_connected
  down_left (same w n o) d = inl (down_same silence d)
  down_left (ended x n) d = absurd (false≢true (sym (ap is_connected d)))
  down_left (idle x) d = inr (inr x)
  down_left (over x) d = inr (inl x)

  pub is_down_lem : {q : Phase} → Left q → Long p → IsDown → q.state ≡ Down
  unfolding down is_connected
  is_down_lem (same w n o) g (inl d) = ap (λ (y : Phase). y.state) (still_same silence (λ k. absurd (false≢true (sym (ap is_connected d) ∙ open_connected p.state k)))) ∙ d
  is_down_lem (same w n o) g (inr (inl x)) = absurd (o x)
  is_down_lem (same w n o) g (inr (inr x)) = absurd (n g x)
  is_down_lem (ended x n) g (inl d) = absurd (false≢true (sym (ap is_connected d) ∙ waited_up x))
  is_down_lem (ended x n) g (inr (inl o)) = absurd (never_starting p.state (waited_up x) o.0)
  is_down_lem (ended x n) g (inr (inr i)) = absurd (n g i)
  is_down_lem (idle x) g d = refl
  is_down_lem (over x) g d = refl

  -- what is open is as it was
  pub open_left : {q : Phase} → Left q → is_open q.state ≡ true → (q ≡ p) × (is_silent gap ≡ false)
  unfolding settled talking down is_open
  open_left (same w n o) k = open_same silence k
  open_left (ended x n) k = absurd (false≢true k)
  open_left (idle x) k = absurd (false≢true k)
  open_left (over x) k = absurd (false≢true k)

  pub still_open : {q : Phase} → Left q → Long p → is_open p.state ≡ true → is_silent gap ≡ false → q ≡ p
  still_open (same w n o) g k s = still_same silence (λ _. s)
  still_open (ended w n) g k s =
      absurd (open_unquiet p.state k (sym (ap (λ (y : Phase). is_quiet y.state) (still_same silence (λ _. s))) ∙ w.0))
  still_open (idle x) g k s = absurd (not_open g x (ap (λ (y : Phase). is_open y.state) (still_same silence (λ _. s)) ∙ k))
  still_open (over x) g k s = absurd (never_starting p.state (open_connected p.state k) x.0)

  -- silence has left nothing open: then a first reply stayed out or did not
  pub quiet_left : {q : Phase} → Left q → is_quiet quieted.state ≡ true → (Idled p gap → ⊥)
      → (Waited p gap × (q ≡ settled quieted)) ⊎ ((Waited p gap → ⊥) × (q ≡ quieted))
  quiet_left (same w n o) k f = inr (w, refl)
  quiet_left (ended w n) k f = inl (w, refl)
  quiet_left (idle x) k f = absurd (f x)
  quiet_left (over x) k f = absurd (never_starting p.state (sym (same_up silence) ∙ quiet_connected quieted.state k) x.0)

  -- ---- A BYTE COMES, and may end the message that is held: then nothing is open
  pub data Come : Phase → Type 0 where
    uncut : {q : Phase} → Left q → Come q
    cut : {q : Phase} → is_connected p.state ≡ true → Lasts → is_quiet q.state ≡ true → Come q

  pub up_come : {q : Phase} → Come q → is_connected q.state ≡ true → (is_connected p.state ≡ true) × Lasts
  up_come (uncut j) c = up_left j c
  up_come (cut u n k) c = (u, n)

  pub in_come : {q : Phase} → Come q → is_starting q.state ≡ true → (q ≡ p) × (is_starting p.state ≡ true) × (Over p mark e.start → ⊥)
  in_come (uncut j) i = in_left j i
  in_come {q = q} (cut u n k) i = absurd (never_starting q.state (quiet_connected q.state k) i)

  pub down_come : {q : Phase} → Come q → q.state ≡ Down → IsDown
  unfolding is_quiet
  down_come (uncut j) d = down_left j d
  down_come (cut u n k) d = absurd (false≢true (sym (ap is_quiet d) ∙ k))

  -- what is open is as it was
  pub open_come : {q : Phase} → Come q → is_open q.state ≡ true → (q ≡ p) × (is_silent gap ≡ false)
  open_come (uncut j) o = open_left j o
  open_come {q = q} (cut u n k) o = absurd (open_unquiet q.state o k)

  -- an initialization and a link that is down are as time has left them
  pub still_in_come : {q : Phase} → Come q → is_starting p.state ≡ true → (Over p mark e.start → ⊥) → q ≡ p
  still_in_come (uncut j) i f = still_in j i f
  still_in_come (cut u n k) i f = absurd (never_starting p.state u i)

  pub is_down_come : {q : Phase} → Come q → Long p → IsDown → q.state ≡ Down
  unfolding is_connected
  is_down_come (uncut j) g d = is_down_lem j g d
  is_down_come (cut u n k) g (inl d) = absurd (false≢true (sym (ap is_connected d) ∙ u))
  is_down_come (cut u n k) g (inr (inl x)) = absurd (never_starting p.state u x.0)
  is_down_come (cut u n k) g (inr (inr x)) = absurd (n g x)
