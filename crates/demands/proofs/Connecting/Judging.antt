-- How a byte of an initialization is judged: it passes exactly if it is right at the place that the initialization's stage means (Staged.antt). Said once
-- for all stages of both initializations, with what follows for whole runs.
-- Assumes nothing.
use Prim.Native.Nat.{ℕ, ◌-◌, ◌≤◌}
use mathlib.Core.Bool.{Bool, true, false, not, false≢true}
use mathlib.Core.Path.{◌≡◌, ◌∙◌, refl, sym, ap, subst}
use native.Mathlib.Omega.{arith}
use borrow.Author.Tests.{ltb-false, le-ltb}
use lib.Dec.{eqb}
use Rattle.std.specs.Prelude.{if◌then◌else◌}
use Rattle.base.specs.Reports.{no_reason, wrong_side, too_early, misfit}
use Rattle.base.proofs.Tests.{by_test}
use Rattle.units.specs.Units.{gap_of}
use Rattle.units.specs.declared.Micros.{Micros}
use Rattle.events.specs.Events.{is_tester, is_unit, is_nobody, same_side}
use Rattle.events.specs.declared.Kind.{Kind}
use Rattle.events.specs.declared.Side.{Side}
use Rattle.events.specs.declared.Side.TheVariants.{Tester, Unit, Nobody}
use Rattle.events.specs.declared.Event.{Event}
use Rattle.starts.specs.Starts.{due_at, origin_of, fits, is_from, is_early, judged, is_over, is_last, onward}
use Rattle.starts.specs.declared.Start.{Start}
use Rattle.phases.specs.Phases.{starting}
use Rattle.moves.specs.Moves.{since_origin}
use Rattle.demands.specs.Logs.{Log, none, ◌▷◌}
use Rattle.demands.specs.Starts.{Right}
use Rattle.demands.proofs.Connecting.Staged.{place_of, means}
use Rattle.demands.proofs.Connecting.Running.{first_by, fall_by, start_on, last_end, Starts, Hears, is_last_on, Runs, Done}

-- ---- the tests, one by one
pub judged_by : (a b c : Bool) → (if not a then wrong_side else if b then too_early else if c then no_reason else misfit) ≡ no_reason
    → (a ≡ true) × (b ≡ false) × (c ≡ true)
judged_by false b c q = absurd (omega arith)
judged_by true true c q = absurd (omega arith)
judged_by true false false q = absurd (omega arith)
judged_by true false true q = (refl, refl, refl)

-- a byte that fails has one of three reasons: what holds of all three holds of its own
pub misjudged : (P : ℕ → Type 0) → P wrong_side → P too_early → P misfit → (s : Start) (side : Side) (v : ℕ) (gap : Micros)
    → eqb (judged s side v gap) no_reason ≡ false → P (judged s side v gap)
unfolding judged
misjudged P a b c s side v gap =
    let Q : ℕ → Type 0 = λ x. eqb x no_reason ≡ false → P x in
    by_test Q (not (is_from s side)) (λ _ _. a)
    (λ _. by_test Q (is_early s gap) (λ _ _. b) (λ _. by_test Q (fits s v) (λ _ z. absurd (false≢true (sym z))) (λ _ _. c)))

pub side_is : (a b : Side) → same_side a b ≡ true → a ≡ b
unfolding same_side is_tester is_unit is_nobody
side_is Tester Tester h = refl
side_is Tester Unit h = absurd (false≢true h)
side_is Tester Nobody h = absurd (false≢true h)
side_is Unit Tester h = absurd (false≢true h)
side_is Unit Unit h = refl
side_is Unit Nobody h = absurd (false≢true h)
side_is Nobody Tester h = absurd (false≢true h)
side_is Nobody Unit h = absurd (false≢true h)
side_is Nobody Nobody h = refl

pub is_side : (a : Side) → same_side a a ≡ true
unfolding same_side is_tester is_unit is_nobody
is_side Tester = refl
is_side Unit = refl
is_side Nobody = refl

-- ---- a byte passes in the initialization s, whose wake-up fell at `fall`, after the mark
pub record Passes (s : Start) (fall mark : Micros) (b : Event) : Type 0 where
  pub later : mark.0 ≤ b.start.0
  pub window : is_over s (gap_of (origin_of s.stage fall mark) b.start) ≡ false
  pub right : judged s b.side b.value (gap_of (origin_of s.stage fall mark) b.start) ≡ no_reason

-- exactly if it is right at the stage's place
module _ (s : Start) (fall mark : Micros) (b : Event) where
  abbrev pub from : Micros
  from = origin_of s.stage fall mark

  pub comes : Passes s fall mark b → from.0 ≤ b.start.0 → Right (place_of s) from b
  unfolding judged is_from is_early is_over
  comes f o =
      let d = due_at s.stage in
      let m = means s in
      let j = judged_by (is_from s b.side) (is_early s (gap_of from b.start)) (fits s b.value) f.right in
      let lo = ltb-false (b.start.0 - from.0) d.earliest.0 j.1 in
      let hi = ltb-false d.latest.0 (b.start.0 - from.0) f.window in
      (side_is b.side d.side j.0 ∙ m.side, (omega (arith, m.earliest), omega (arith, m.latest)), (m.value b.value).0 j.2)

  pub right_of : mark.0 ≤ b.start.0 → Right (place_of s) from b → Passes s fall mark b
  unfolding judged is_from is_early is_over
  right_of o c =
      let d = due_at s.stage in
      let m = means s in
      let side : same_side b.side d.side ≡ true = ap (same_side b.side) (m.side ∙ sym c.0) ∙ is_side b.side in
      let early = le-ltb (b.start.0 - from.0) d.earliest.0 (omega (arith, c.1.0, m.earliest)) in
      record {
        later = o;
        window = le-ltb d.latest.0 (b.start.0 - from.0) (omega (arith, c.1.1, m.latest));
        right = rw (side, early, (m.value b.value).1 c.2) refl;
      }

-- timed from the mark, as all bytes are but the first of a fast start
module _ {s : Start} {fall mark : Micros} {b : Event} (timed : (due_at s.stage).opening ≡ false) where
  pub comes_next : Passes s fall mark b → Right (place_of s) mark b
  unfolding origin_of
  comes_next f = rw timed at (comes s fall mark b f (rw timed f.later))

  right_next : Right (place_of s) mark b → Passes s fall mark b
  unfolding origin_of
  right_next c = right_of s fall mark b (omega (arith, c.1.0)) (rw timed c)

-- ---- on a log
module _ (a : Event) (bs : Log) (b : Event) where
  pub passes_of : Hears a bs b → Passes (start_on a bs) (fall_by a.kind a.start) (last_end a bs) b
  unfolding starting since_origin
  passes_of h = record { later = h.later; window = h.window; right = h.right }

  pub hears_of : Passes (start_on a bs) (fall_by a.kind a.start) (last_end a bs) b → Hears a bs b
  unfolding starting since_origin
  hears_of f = record { later = f.later; window = f.window; right = f.right }

  pub last_of : is_last_on a bs ≡ is_last (start_on a bs).stage
  unfolding starting
  last_of = refl

-- the bytes run, and lead to s
pub record On (m : ℕ) (a : Event) (bs : Log) (s : Start) : Type 0 where
  pub runs : Runs m a bs
  pub at : start_on a bs ≡ s

-- no bytes yet
pub on_first : (m : ℕ) (a : Event) (k : Kind) → a.kind ≡ k → Starts k m a → On m a none (first_by k a.value)
unfolding start_on
on_first m a k e s = record { runs = subst (λ (x : Kind). Starts x m a) (sym e) s; at = ap (λ (x : Kind). first_by x a.value) e }

module _ (m : ℕ) (a : Event) (bs : Log) (s : Start) (b : Event) (o : On m a bs s) (f : Passes s (fall_by a.kind a.start) (last_end a bs) b) where
  hears_on : Hears a bs b
  hears_on = hears_of a bs b (subst (λ (x : Start). Passes x (fall_by a.kind a.start) (last_end a bs) b) (sym o.at) f)

  last_on : is_last_on a bs ≡ is_last s.stage
  last_on = last_of a bs b ∙ ap (λ (x : Start). is_last x.stage) o.at

  -- one byte more, and the last
  pub on_more : is_last s.stage ≡ false → On m a (bs ▷ b) (onward s b.value)
  unfolding start_on
  on_more z = record { runs = (o.runs, hears_on, last_on ∙ z); at = ap (λ (x : Start). onward x b.value) o.at }

  pub on_done : is_last s.stage ≡ true → Done m a bs b
  on_done z = (o.runs, hears_on, last_on ∙ z)

-- the same of a byte that is right after the mark
module _ (m : ℕ) (a : Event) (bs : Log) (s : Start) (b : Event) (mark : Micros) (end : last_end a bs ≡ mark)
    (timed : (due_at s.stage).opening ≡ false) (o : On m a bs s) (c : Right (place_of s) mark b) where
  passes_next : Passes s (fall_by a.kind a.start) (last_end a bs) b
  passes_next = subst (λ (x : Micros). Passes s (fall_by a.kind a.start) x b) (sym end) (right_next timed c)

  pub on_next : is_last s.stage ≡ false → On m a (bs ▷ b) (onward s b.value)
  on_next z = on_more m a bs s b o passes_next z

  pub on_last : is_last s.stage ≡ true → Done m a bs b
  on_last z = on_done m a bs s b o passes_next z

-- what holds at the start and is kept by each byte that passes holds of every run; ..
module _ (kind : Kind) (SoFar : Event → Log → Start → Type 0)
    (first : (m : ℕ) (a : Event) → a.kind ≡ kind → Starts kind m a → SoFar a none (first_by kind a.value))
    (one_more : (a : Event) (bs : Log) (s : Start) (b : Event) → SoFar a bs s → Passes s (fall_by kind a.start) (last_end a bs) b
    → is_last s.stage ≡ false
    → SoFar a (bs ▷ b) (onward s b.value)) where
  passes_by : (a : Event) (bs : Log) (b : Event) → a.kind ≡ kind → Hears a bs b → Passes (start_on a bs) (fall_by kind a.start) (last_end a bs) b
  passes_by a bs b k h = subst (λ (x : Kind). Passes (start_on a bs) (fall_by x a.start) (last_end a bs) b) k (passes_of a bs b h)

  pub way : (m : ℕ) (a : Event) (bs : Log) → a.kind ≡ kind → Runs m a bs → SoFar a bs (start_on a bs)
  unfolding start_on
  way m a none k r =
      subst (λ (x : Kind). SoFar a none (first_by x a.value)) (sym k) (first m a k (subst (λ (x : Kind). Starts x m a) k r))
  way m a (bs ▷ b) k r =
      one_more a bs (start_on a bs) b (way m a bs k r.0) (passes_by a bs b k r.1) (sym (last_of a bs b) ∙ r.2)

  -- .. and what the last byte makes of it is so of each complete one
  module _ (Good : Event → Log → Start → Event → Type 0)
      (finish : (a : Event) (bs : Log) (s : Start) (b : Event) → SoFar a bs s → Passes s (fall_by kind a.start) (last_end a bs) b
      → is_last s.stage ≡ true
      → Good a bs s b) where
    pub done_good : (m : ℕ) (a : Event) (bs : Log) (b : Event) → a.kind ≡ kind → Done m a bs b → Good a bs (start_on a bs) b
    done_good m a bs b k d = finish a bs (start_on a bs) b (way m a bs k d.0) (passes_by a bs b k d.1) (sym (last_of a bs b) ∙ d.2)
