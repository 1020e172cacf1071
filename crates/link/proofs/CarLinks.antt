-- A CAR'S LINK (document 02, "Five"). A message of a car is heard only on a connected link with a car's key bytes, and there no other is; its windows never change;
-- and 82 and 83 mean nothing there: what its frames ask for is nothing but a reply. All of it holds after any events.
-- Assumes nothing.
use Prim.Native.Nat.{ℕ}
use mathlib.Core.Bool.{Bool, true, false, false≢true}
use mathlib.Core.Path.{◌≡◌, refl, sym, ap, ◌∙◌}
use lib.Dec.{eqb, ltb}
use Rattle.std.specs.Prelude.{if◌then◌else◌}
use Rattle.base.specs.Reports.{no_reason}
use Rattle.base.specs.Sums.{byte_sum}
use Rattle.base.proofs.Tests.{by_test}
use Rattle.units.specs.declared.Micros.{Micros}
use Rattle.keys.specs.Editions.{edition_of, is_car}
use Rattle.keys.specs.declared.Form.{Form}
use Rattle.keys.specs.declared.Form.TheVariants.{Plain, Physical, Functional, Foreign}
use Rattle.keys.specs.declared.Pair.{Pair}
use Rattle.timing.specs.Timing.{set_of}
use Rattle.events.specs.Events.{is_tester}
use Rattle.events.specs.declared.Side.{Side}
use Rattle.events.specs.declared.Event.{Event}
use Rattle.starts.specs.declared.Start.{Start}
use Rattle.talk.specs.Cars.{car_reason, car_grown, car_begun}
use Rattle.talk.specs.Talk.{has_extra, after_addresses, part_after_format, begun, begun_by, is_free, end_reason, after_data, with_data, grown_at, grown, is_exactly, asks_codes}
use Rattle.talk.specs.Talk.{request_of, is_effective, windows_after, request_after}
use Rattle.talk.specs.declared.Part.{Part}
use Rattle.talk.specs.declared.Part.TheVariants.{Target, Source, Length, Data, Sum, Free}
use Rattle.talk.specs.declared.Request.TheVariants.{Ordinary}
use Rattle.talk.specs.declared.Message.{Message}
use Rattle.phases.specs.Phases.{is_held, is_connected, down, starting, connected, talking, holding, damaged, settled, timed, asked, answered, framed}
use Rattle.phases.specs.declared.State.TheVariants.{Held}
use Rattle.phases.specs.declared.Phase.{Phase}
use Rattle.phases.proofs.StateTests.{open_connected, held_is}
use Rattle.moves.specs.declared.Move.{Move}
use Rattle.moves.proofs.Rules.{Moment, Rule, rests, ends_right, breaks_off, waited, idled, expires, cuts_off, aborts, leaves, drops, starts_slow, starts_fast, hurries, low}
use Rattle.moves.proofs.Rules.{cut_right, cut_wrong, cut_held, strays, misses, connects, goes_on, opens, errs, breaks, frames, grows, stops}
use Rattle.reports.specs.declared.Counts.{Counts}
use Rattle.link.specs.Handling.{fresh_link}
use Rattle.link.specs.Stepping.{step_of}
use Rattle.link.specs.declared.Link.{Link}
use Rattle.link.proofs.Ways.{off_right}
use Rattle.link.proofs.Kept.{step_keeps}

-- a message of a car, which keeps nothing of its data
pub record Blank (m : Message) : Type 0 where
  pub part : m.part ≡ Free
  pub first : m.first ≡ 0
  pub seven : m.seven ≡ 0

pub record InCar (p : Phase) : Type 0 where
  pub windows : p.windows ≡ set_of p.start.pair
  pub request : p.request ≡ Ordinary
  pub message : is_held p.state ≡ true → Blank p.message

pub record Fitting (p : Phase) : Type 0 where
  pub free : is_free p.message.part ≡ true → (is_connected p.state ≡ true) × (is_car (edition_of p.start.pair) ≡ true)
  pub car : is_connected p.state ≡ true → is_car (edition_of p.start.pair) ≡ true → InCar p

-- a message that is right as it stands is a car's
pub right_free : (m : Message) → eqb (end_reason m) no_reason ≡ true → is_free m.part ≡ true
unfolding end_reason
right_free m r = by_free (is_free m.part) refl r
  where
    by_free : (b : Bool) → is_free m.part ≡ b → eqb (if b then car_reason m else 1) no_reason ≡ true → b ≡ true
    by_free true f r = refl
    by_free false f r = absurd (false≢true r)

-- ---- parts
not_free : (extra : Bool) → is_free (after_addresses extra) ≡ false
unfolding after_addresses is_free
not_free true = refl
not_free false = refl

form_free : (form : Form) (extra : Bool) → is_free (part_after_format form extra) ≡ false
unfolding part_after_format is_free
form_free Plain extra = not_free extra
form_free Physical extra = refl
form_free Functional extra = refl
form_free Foreign extra = not_free extra

pub begun_free : (side : Side) (f : ℕ) → is_free (begun side f).part ≡ false
unfolding begun
begun_free side f = form_free _ (has_extra f)

data_free : (at length : ℕ) → is_free (after_data at length) ≡ false
unfolding after_data is_free
data_free at length = by_test (λ (x : Part). is_free x ≡ false) (ltb at length) {x = Data} {y = Sum} (λ _. refl) (λ _. refl)

pub grown_free : (part : Part) (m : Message) (v : ℕ) → is_free (grown_at part m v).part ≡ true → is_free part ≡ true
unfolding is_free with_data
grown_free Target m v f = absurd (false≢true f)
grown_free Source m v f = absurd (false≢true (sym (not_free m.extra) ∙ f))
grown_free Length m v f = absurd (false≢true f)
grown_free Data m v f = absurd (false≢true (sym (data_free (byte_sum m.at 1) m.length) ∙ f))
grown_free Sum m v f = absurd (false≢true f)
grown_free Free m v f = refl

pub blank_grown : (m : Message) (v : ℕ) → Blank m → Blank (grown m v)
unfolding grown car_grown
blank_grown m v b = rw b.part (record { part = refl; first = b.first; seven = b.seven })

pub blank_begun : (side : Side) (v : ℕ) → Blank (car_begun side v)
unfolding car_begun car_grown
blank_begun side v = record { part = refl; first = refl; seven = refl }

pub blank_request : (m : Message) → Blank m → request_of m ≡ Ordinary
unfolding request_of is_exactly asks_codes
blank_request m b = rw (b.first, b.seven, off_right (eqb m.length 2) false refl, off_right (eqb m.length 7) false refl) refl

-- ---- phases
settled_fits : (p : Phase) → is_connected p.state ≡ true → Fitting p → Fitting (settled p)
unfolding settled talking is_connected is_held
settled_fits p c f = record {
  free = λ x. (refl, (f.free x).1);
  car = λ _ k. let i = f.car c k in record { windows = i.windows; request = i.request; message = λ h. absurd (false≢true h) };
}

off_fits : (idle : Micros) → Fitting (down idle)
unfolding down is_free is_connected
off_fits idle = record { free = λ x. absurd (false≢true x); car = λ c. absurd (false≢true c) }

starting_fits : (fall : Micros) (s : Start) → Fitting (starting fall s)
unfolding starting is_free is_connected
starting_fits fall s = record { free = λ x. absurd (false≢true x); car = λ c. absurd (false≢true c) }

connected_fits : (s : Start) → Fitting (connected s)
unfolding connected is_free is_held
connected_fits s = record {
  free = λ x. absurd (false≢true x);
  car = λ _ _. record { windows = refl; request = refl; message = λ h. absurd (false≢true h) };
}

damaged_fits : (p : Phase) (why : ℕ) → is_connected p.state ≡ true → Fitting p → Fitting (damaged p why)
unfolding damaged talking is_connected is_held
damaged_fits p why c f = record {
  free = λ x. (refl, (f.free x).1);
  car = λ _ k. let i = f.car c k in record { windows = i.windows; request = i.request; message = λ h. absurd (false≢true h) };
}

-- a message is held: a car's exactly under a car's key bytes
holding_fits : (p : Phase) (m : Message) → is_connected p.state ≡ true → Fitting p → (is_free m.part ≡ true → is_car (edition_of p.start.pair) ≡ true)
    → (is_car (edition_of p.start.pair) ≡ true → Blank m) → Fitting (holding p m)
unfolding holding talking is_connected is_held
holding_fits p m c f k b = record {
  free = λ x. (refl, k x);
  car = λ _ j. let i = f.car c j in record { windows = i.windows; request = i.request; message = λ _. b j };
}

begun_car : (pair : Pair) (side : Side) (v : ℕ) (b : Bool) → is_car (edition_of pair) ≡ b
    → (is_free (begun_by pair side v).part ≡ true → b ≡ true) × (b ≡ true → Blank (begun_by pair side v))
unfolding begun_by
begun_car pair side v true k = (λ _. refl, λ _. rw k (blank_begun side v))
begun_car pair side v false k = (λ x. absurd (false≢true (sym (begun_free side v) ∙ (sym (rw k refl) ∙ x))), λ z. absurd (false≢true z))

opened_fits : (p : Phase) (side : Side) (v : ℕ) → is_connected p.state ≡ true → Fitting p → Fitting (holding p (begun_by p.start.pair side v))
opened_fits p side v c f =
    let x = begun_car p.start.pair side v (is_car (edition_of p.start.pair)) refl in
    holding_fits p _ c f x.0 x.1

grown_fits : (p : Phase) (v : ℕ) → p.state ≡ Held → Fitting p → Fitting (holding p (grown p.message v))
unfolding grown is_connected
grown_fits p v h f =
    holding_fits p _ (ap is_connected h) f (λ x. (f.free (grown_free p.message.part p.message v x)).1)
    (λ k. blank_grown p.message v ((f.car (ap is_connected h) k).message (held_is h).0))

-- a frame of a car changes neither windows nor what is asked
asked_fits : (p : Phase) → p.state ≡ Held → Fitting p → Fitting (asked p)
unfolding asked timed talking is_connected is_held
asked_fits p h f = record {
  free = λ x. (refl, (f.free x).1);
  car = λ _ k.
      let i = f.car (ap is_connected h) k in
      record { windows = i.windows; request = blank_request p.message (i.message (ap is_held h)); message = λ z. absurd (false≢true z) };
}

answered_fits : (p : Phase) → p.state ≡ Held → Fitting p → Fitting (answered p)
unfolding answered timed talking is_connected is_held windows_after request_after is_effective
answered_fits p h f = record {
  free = λ x. (refl, (f.free x).1);
  car = λ _ k.
      let i = f.car (ap is_connected h) k in
      record { windows = rw i.request i.windows; request = rw i.request refl; message = λ z. absurd (false≢true z) };
}

framed_fits : (p : Phase) → p.state ≡ Held → Fitting p → Fitting (framed p)
unfolding framed
framed_fits p h f =
    by_test Fitting (is_tester p.message.side) {x = asked p} {y = answered p} (λ _. asked_fits p h f) (λ _. answered_fits p h f)

-- ---- EACH RULE KEEPS IT
pub rule_fitting : (mark : Micros) (e : Event) (p : Phase) (k : Moment) (m : Move) → Rule mark e p k m → Fitting p → Fitting m.phase
unfolding is_connected
rule_fitting mark e p k m (rests u) f = f
rule_fitting mark e p k m (ends_right h s r) f = framed_fits p h f
rule_fitting mark e p k m (breaks_off o s r) f = settled_fits p (open_connected p.state o) f
rule_fitting mark e p k m (waited q x t) f = settled_fits p (ap is_connected q) f
rule_fitting mark e p k m (idled q x t) f = off_fits _
rule_fitting mark e p k m (expires s o) f = off_fits _
rule_fitting mark e p k m (cuts_off o) f = settled_fits p (open_connected p.state o) f
rule_fitting mark e p k m (aborts s) f = off_fits _
rule_fitting mark e p k m (leaves c q) f = off_fits _
rule_fitting mark e p k m (drops d x) f = off_fits _
rule_fitting mark e p k m (starts_slow a i) f = starting_fits _ _
rule_fitting mark e p k m (starts_fast w i l) f = starting_fits _ _
rule_fitting mark e p k m (hurries s i) f = off_fits _
rule_fitting mark e p k m (low w i l) f = off_fits _
rule_fitting mark e p k m (cut_right c r) f = framed_fits p (cut_held mark e p c) f
rule_fitting mark e p k m (cut_wrong c r) f = settled_fits p (ap is_connected (cut_held mark e p c)) f
rule_fitting mark e p k m (strays d) f = off_fits _
rule_fitting mark e p k m (misses s v) f = off_fits _
rule_fitting mark e p k m (connects s v l) f = connected_fits p.start
rule_fitting mark e p k m (goes_on s v l) f = starting_fits _ _
rule_fitting mark e p k m (opens q r) f = opened_fits p _ _ (ap is_connected q) f
rule_fitting mark e p k m (errs q r) f = damaged_fits p _ (ap is_connected q) f
rule_fitting mark e p k m (breaks h r) f = damaged_fits p _ (ap is_connected h) f
rule_fitting mark e p k m (frames h r s) f = framed_fits p h f
rule_fitting mark e p k m (grows h r s) f = grown_fits p _ h f
rule_fitting mark e p k m (stops q r) f = off_fits _

-- IT HOLDS OF A FRESH LINK, AND EVERY STEP KEEPS IT
pub fresh_fitting : Fitting fresh_link.phase
unfolding fresh_link
fresh_fitting = off_fits _

pub step_fitting : (l : Link) (c : Counts) (e : Event) → Fitting l.phase → Fitting (step_of l c e).answer.link.phase
step_fitting l c e f = step_keeps Fitting rule_fitting l c e f
