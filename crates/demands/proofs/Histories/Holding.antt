-- Which bytes each state of a link holds, those heard and not yet named: none while it is down or connected with nothing open, at least one while a
-- message is held or damage is skipped, any number in an initialization. Every rule keeps this (`rule_goes`): one that makes no report leaves a state that
-- holds the same bytes; a report 1 to 5 names all that are held; a report 6, 7 or 8 comes while none is.
-- Assumes nothing.
use Prim.Native.Nat.{ℕ, ◌+◌, ◌≤◌, ◌<◌}
use mathlib.Core.Bool.{Bool, true, false, false≢true}
use mathlib.Core.Path.{◌≡◌, refl, sym, subst}
use native.Mathlib.Omega.{arith}
use lib.Dec.{eqb}
use Rattle.std.specs.Prelude.{if◌then◌else◌}
use Rattle.base.specs.Reports.{frame_report, damage_report, connected_report, failed_report, outside_report, no_reply_report, down_report, not_idle_report}
use Rattle.base.proofs.Tests.{by_test}
use Rattle.units.specs.declared.Micros.{Micros}
use Rattle.events.specs.Events.{is_tester}
use Rattle.events.specs.declared.Event.{Event}
use Rattle.phases.specs.Phases.{is_starting, is_open, down, starting, connected, talking, holding, damaged, settled, timed, asked, answered, framed}
use Rattle.phases.specs.declared.State.{State}
use Rattle.phases.specs.declared.State.TheVariants.{Down, Starting, Quiet, Held, Damage}
use Rattle.phases.specs.declared.Phase.{Phase}
use Rattle.moves.specs.Moves.{still, makes}
use Rattle.moves.specs.declared.Move.{Move}
use Rattle.phases.proofs.StateTests.{held_is}
use Rattle.moves.proofs.Rules.{Moment, at_silence, at_p2, at_p3, at_window, at_closing, at_leaving, at_start, at_cut, at_hearing, at_byte, at_stop, at_end_lem, next, Unmoved, Rule}
use Rattle.moves.proofs.Rules.{rests, ends_right, breaks_off, waited, idled, expires, cuts_off, aborts, leaves, starts_slow, starts_fast, hurries, low, drops}
use Rattle.moves.proofs.Rules.{cut_right, cut_wrong, cut_held, strays, misses, connects, goes_on, opens, errs, breaks, frames, grows, stops}
use Rattle.reports.specs.Reporting.{names_bytes}

-- with n bytes named of h heard
abbrev pub Holds : State → ℕ → ℕ → Type 0
Holds Down n h = n ≡ h
Holds Starting n h = n ≤ h
Holds Quiet n h = n ≡ h
Holds Held n h = n < h
Holds Damage n h = n < h

pub holds_order : (st : State) (n h : ℕ) → Holds st n h → n ≤ h
holds_order Down n h g = omega arith
holds_order Starting n h g = g
holds_order Quiet n h g = omega arith
holds_order Held n h g = omega arith
holds_order Damage n h g = omega arith

pub holds_none : (st : State) (n h : ℕ) → is_open st ≡ false → is_starting st ≡ false → Holds st n h → n ≡ h
unfolding is_open is_starting
holds_none Down n h o s g = g
holds_none Starting n h o s g = absurd (false≢true (sym s))
holds_none Quiet n h o s g = g
holds_none Held n h o s g = absurd (false≢true (sym o))
holds_none Damage n h o s g = absurd (false≢true (sym o))

pub holds_some : (st : State) (n h : ℕ) → is_open st ≡ true → Holds st n h → n < h
unfolding is_open
holds_some Down n h o g = absurd (false≢true o)
holds_some Starting n h o g = absurd (false≢true o)
holds_some Quiet n h o g = absurd (false≢true o)
holds_some Held n h o g = g
holds_some Damage n h o g = g

-- ---- a report that may be made with n bytes named of h heard
pub data Names (n h : ℕ) : ℕ → Type 0 where
  frame : n < h → Names n h frame_report
  damage : n < h → Names n h damage_report
  success : n < h → Names n h connected_report
  failure : n ≤ h → Names n h failed_report
  outside : h ≡ n + 1 → Names n h outside_report
  no_reply : n ≡ h → Names n h no_reply_report
  left : n ≡ h → Names n h down_report
  not_idle : n ≡ h → Names n h not_idle_report

pub framed_quiet : (p : Phase) → (framed p).state ≡ Quiet
unfolding framed asked answered timed talking
framed_quiet p = by_test (λ (q : Phase). q.state ≡ Quiet) (is_tester p.message.side) (λ _. refl) (λ _. refl)

-- ---- at each moment of an event that finds n0 bytes named of h0 heard
-- in an initialization, none has been named since
abbrev pub Same : ℕ → Bool → ℕ → Type 0
Same n0 true n = n ≡ n0
Same n0 false n = Unit {0}

module _ (n0 h0 : ℕ) where
  abbrev pub HoldsAt : Moment → State → ℕ → ℕ → Type 0
  HoldsAt at_silence st n h = Holds st n h × (h ≡ h0) × Same n0 (is_starting st) n
  HoldsAt at_p2 st n h = Holds st n h × (h ≡ h0) × Same n0 (is_starting st) n
  HoldsAt at_p3 st n h = Holds st n h × (h ≡ h0) × Same n0 (is_starting st) n
  HoldsAt at_window st n h = Holds st n h × (h ≡ h0) × Same n0 (is_starting st) n
  HoldsAt at_closing st n h = Holds st n h × (h ≡ h0) × Same n0 (is_starting st) n
  -- what was open is closed
  HoldsAt at_leaving st n h = Holds st n h × (h ≡ h0) × (n ≡ h)
  HoldsAt at_start st n h = Holds st n h × (h ≡ h0) × (n ≡ h)
  -- a byte comes; it has been heard, and its rule is yet to come
  HoldsAt at_cut st n h = Holds st n h × (h ≡ h0) × Same n0 (is_starting st) n
  HoldsAt at_hearing st n h = Holds st n h × (h ≡ h0) × Same n0 (is_starting st) n
  HoldsAt at_byte st n h = Holds st n h0 × (h ≡ h0 + 1) × Same n0 (is_starting st) n
  HoldsAt at_stop st n h = Holds st n h
  HoldsAt at_end_lem st n h = Holds st n h

  -- A MOVE THAT MAY BE MADE at the moment k with n bytes named of h heard
  pub data Goes (k : Moment) (n h : ℕ) : Move → Type 0 where
    stays : {p : Phase} → HoldsAt (next k) p.state n h → Goes k n h (still p)
    reports : {number reason : ℕ} {p : Phase} → eqb number 0 ≡ false → Names n h number → HoldsAt (next k) p.state (if names_bytes number then h else n) h
        → Goes k n h (makes number reason p)

  pub goes_names : (k : Moment) (n h : ℕ) (m : Move) → Goes k n h m → eqb m.number 0 ≡ false → Names n h m.number
  goes_names k n h m (stays g) z = absurd (false≢true (sym z))
  goes_names k n h m (reports z w g) y = w

  module _ (mark : Micros) (e : Event) (p : Phase) (n h : ℕ) where
    -- in the state that a rule names
    abbrev In : (st : State) (a : ℕ) → p.state ≡ st → Holds p.state n a → Holds st n a
    In st a q g = subst (λ (x : State). Holds x n a) q g

    rest_holds : (k : Moment) → Unmoved mark e p k → HoldsAt k p.state n h → HoldsAt (next k) p.state n h
    unfolding next
    rest_holds at_silence u g = g
    rest_holds at_p2 u g = g
    rest_holds at_p3 u g = g
    rest_holds at_window u g = g
    rest_holds at_closing u g = (g.0, g.1, holds_none p.state n h u.0 u.1 g.0)
    rest_holds at_leaving u g = g
    rest_holds at_start u g = absurd u
    rest_holds at_cut u g = g
    rest_holds at_hearing u g = absurd u
    rest_holds at_byte u g = subst (λ (x : State). Holds x n h) (sym u) (let x = In Damage h0 u g.0 in omega (arith, x, g.1))
    rest_holds at_stop u g = g
    rest_holds at_end_lem u g = absurd u

    -- nothing is held after a frame
    framed_holds : h ≡ h0 → Holds (framed p).state h h × (h ≡ h0) × Same n0 (is_starting (framed p).state) h
    unfolding is_starting
    framed_holds z = subst (λ (x : State). Holds x h h × (h ≡ h0) × Same n0 (is_starting x) h) (sym (framed_quiet p)) (refl, z, tt)

    pub rule_goes : (k : Moment) (m : Move) → Rule mark e p k m → HoldsAt k p.state n h → Goes k n h m
    unfolding next names_bytes down starting connected settled holding damaged talking is_starting
    rule_goes k m (rests u) g = stays (rest_holds k u g)
    rule_goes k m (ends_right x s r) g =
        reports refl (frame (holds_some p.state n h (held_is x).1 g.0)) (framed_holds g.1)
    rule_goes k m (breaks_off o s r) g = reports refl (damage (holds_some p.state n h o g.0)) (refl, g.1, tt)
    rule_goes k m (waited q f t) g = reports refl (no_reply (In Quiet h q g.0)) (In Quiet h q g.0, g.1, tt)
    rule_goes k m (idled q f t) g = reports refl (left (In Quiet h q g.0)) (In Quiet h q g.0, g.1, tt)
    rule_goes k m (expires s o) g = reports refl (failure (In Starting h s g.0)) (refl, g.1, tt)
    rule_goes k m (cuts_off o) g = reports refl (damage (holds_some p.state n h o g.0)) (refl, g.1, refl)
    rule_goes k m (aborts s) g = reports refl (failure (In Starting h s g.0)) (refl, g.1, refl)
    rule_goes k m (leaves c q) g = reports refl (left g.2) (g.2, g.1, g.2)
    rule_goes k m (drops d x) g = stays (g.2, g.1, g.2)
    rule_goes k m (starts_slow a i) g = let x : n ≤ h = omega (arith, g.2) in stays x
    rule_goes k m (starts_fast w i l) g = let x : n ≤ h = omega (arith, g.2) in stays x
    rule_goes k m (hurries s i) g = reports refl (not_idle g.2) g.2
    rule_goes k m (low w i l) g = reports refl (failure (omega (arith, g.2))) refl
    rule_goes k m (cut_right c r) g =
        reports refl (frame (holds_some p.state n h (held_is (cut_held mark e p c)).1 g.0)) (framed_holds g.1)
    rule_goes k m (cut_wrong c r) g = reports refl (damage (holds_some p.state n h (held_is (cut_held mark e p c)).1 g.0)) (refl, g.1, tt)
    rule_goes k m (strays d) g = reports refl (outside (let x = In Down h0 d g.0 in omega (arith, x, g.1))) refl
    rule_goes k m (misses s v) g = reports refl (failure (let x = In Starting h0 s g.0 in omega (arith, x, g.1))) refl
    rule_goes k m (connects s v l) g = reports refl (success (let x = In Starting h0 s g.0 in omega (arith, x, g.1))) refl
    rule_goes k m (goes_on s v l) g = let x : n ≤ h = (let y = In Starting h0 s g.0 in omega (arith, y, g.1)) in stays x
    rule_goes k m (opens q r) g = let x : n < h = (let y = In Quiet h0 q g.0 in omega (arith, y, g.1)) in stays x
    rule_goes k m (errs q r) g = let x : n < h = (let y = In Quiet h0 q g.0 in omega (arith, y, g.1)) in stays x
    rule_goes k m (breaks b r) g = let x : n < h = (let y = In Held h0 b g.0 in omega (arith, y, g.1)) in stays x
    rule_goes k m (frames b r s) g =
        reports refl (frame (let x = In Held h0 b g.0 in omega (arith, x, g.1))) (subst (λ (x : State). Holds x h h) (sym (framed_quiet p)) refl)
    rule_goes k m (grows b r s) g = let x : n < h = (let y = In Held h0 b g.0 in omega (arith, y, g.1)) in stays x
    rule_goes k m (stops q r) g = reports refl (left (In Quiet h q g)) (In Quiet h q g)
