-- The fast start: a byte completes a run from a wake-up exactly if the wake-up and its bytes are a good fast start with the run's key bytes, and on the way
-- the place that is due is the one that the run's stage means. Both follow byte by byte, as for the slow start; the link keeps its sums modulo 256.
-- Assumes nothing.
use Prim.Native.Nat.{ℕ, ◌+◌, ◌%◌, ◌≤◌}
use mathlib.Core.Bool.{true, false, false≢true}
use mathlib.Core.List.{List, [], ◌∷◌, ◌++◌, append-nil, append_assoc}
use mathlib.Core.Logic.{inl, inr}
use mathlib.Core.Path.{◌≡◌, ◌∙◌, refl, sym, ap, subst}
use native.Mathlib.Omega.{arith}
use native.Mathlib.Nat.{zero-add}
use Rattle.std.specs.Prelude.{if◌then◌else◌}
use Rattle.base.specs.Sums.{byte_sum}
use Rattle.units.specs.declared.Micros.{Micros}
use Rattle.keys.specs.Keys.{pair_of, is_good}
use Rattle.keys.specs.declared.Pair.{Pair}
use Rattle.events.specs.declared.Kind.{Kind}
use Rattle.events.specs.declared.Kind.TheVariants.{WakeUp}
use Rattle.events.specs.declared.Side.TheVariants.{Tester, Unit}
use Rattle.events.specs.declared.Event.{Event}
use Rattle.starts.specs.Starts.{due_at, origin_of, after_format, onward, is_last, fast_start}
use Rattle.starts.specs.declared.Stage.{Stage}
use Rattle.starts.specs.declared.Stage.TheVariants.{AskFormat, AskTarget, AskSource, AskService, AskSum}
use Rattle.starts.specs.declared.Stage.TheVariants.{Format, Target, Source, LongTarget, LongSource, Length, Service, KeyOne, KeyTwo, Sum}
use Rattle.starts.specs.declared.Start.{Start}
use Rattle.demands.specs.Logs.{Log, none, ◌▷◌, events_of}
use Rattle.demands.specs.Starts.{any, only, sum_behind, IsOne, last_place, Right, Low, asks, next, replies, Request, request}
use Rattle.demands.specs.Starts.{Header, plain, plain_long, addressed, addressed_long, FastStart, fast}
use Rattle.demands.specs.Starts.{due_data, due_length, due_addresses, due_reply, due_fast, due_slow, is_address, due}
use Rattle.demands.proofs.Connecting.Running.{fall_by, start_on, last_end, Starts, Runs, Done}
use Rattle.demands.proofs.Connecting.Waking.{good_low}
use Rattle.demands.proofs.Connecting.Staged.{at, place_of}
use Rattle.demands.proofs.Connecting.Judging.{Passes, comes, right_of, comes_next, On, on_first, on_more, on_next, on_last, way, done_good}
use Rattle.demands.specs.Editions.{is_link_pair}

-- a byte with any value after another: the tester's, and the unit's
abbrev TesterNext : Event → Event → Type 0
TesterNext a b = Right (next Tester any) a.end b

abbrev UnitNext : Event → Event → Type 0
UnitNext a b = Right (next Unit any) a.end b

-- ---- the stages on the way, each with the bytes that lead to it, and x the sum of the request or of the reply so far
data SoFar (w : Event) : Log → Start → Type 0 where
  q0 : w.kind ≡ WakeUp → Low w → SoFar w none (at 0 AskFormat 0 0 0)
  q1 : {f : Event} {x : ℕ} → w.kind ≡ WakeUp → Low w → Right asks w.start f → x ≡ f.value % 256 → SoFar w (none ▷ f) (at 0 AskTarget x 0 0)
  q2 : {f t : Event} {x : ℕ} → w.kind ≡ WakeUp → Low w → Right asks w.start f → TesterNext f t → x ≡ (f.value + t.value) % 256
      → SoFar w (none ▷ f ▷ t) (at 0 AskSource x 0 0)
  q3 : {f t s : Event} {x : ℕ} → w.kind ≡ WakeUp → Low w → Right asks w.start f → TesterNext f t → TesterNext t s
      → x ≡ (f.value + t.value + s.value) % 256 → SoFar w (none ▷ f ▷ t ▷ s) (at 0 AskService x 0 0)
  q4 : {f t s d : Event} {x : ℕ} → w.kind ≡ WakeUp → Low w → Right asks w.start f → TesterNext f t → TesterNext t s
      → Right (next Tester (only 0x81)) s.end d → x ≡ (f.value + t.value + s.value + d.value) % 256
      → SoFar w (none ▷ f ▷ t ▷ s ▷ d) (at 0 AskSum x 0 0)
  q5 : {bs : Log} {c : Event} → Request w bs c → SoFar w bs (at 0 Format 0 0 0)
  t6 : {bs : Log} {c f : Event} {x : ℕ} → Request w bs c → Right replies c.end f → f.value ≡ 0x83 → x ≡ f.value % 256
      → SoFar w (bs ▷ f) (at 0 Target x 0 0)
  t7 : {bs : Log} {c f t : Event} {x : ℕ} → Request w bs c → Right replies c.end f → f.value ≡ 0x83 → UnitNext f t
      → x ≡ (f.value + t.value) % 256 → SoFar w (bs ▷ f ▷ t) (at 0 Source x 0 0)
  u6 : {bs : Log} {c f : Event} {x : ℕ} → Request w bs c → Right replies c.end f → f.value ≡ 0x80 → x ≡ f.value % 256
      → SoFar w (bs ▷ f) (at 0 LongTarget x 0 0)
  u7 : {bs : Log} {c f t : Event} {x : ℕ} → Request w bs c → Right replies c.end f → f.value ≡ 0x80 → UnitNext f t
      → x ≡ (f.value + t.value) % 256 → SoFar w (bs ▷ f ▷ t) (at 0 LongSource x 0 0)
  l8 : {bs : Log} {c f : Event} {x : ℕ} → Request w bs c → Right replies c.end f → f.value ≡ 0x00 → x ≡ f.value % 256
      → SoFar w (bs ▷ f) (at 0 Length x 0 0)
  u8 : {bs : Log} {c f t s : Event} {x : ℕ} → Request w bs c → Right replies c.end f → f.value ≡ 0x80 → UnitNext f t → UnitNext t s
      → x ≡ (f.value + t.value + s.value) % 256 → SoFar w (bs ▷ f ▷ t ▷ s) (at 0 Length x 0 0)
  d9 : {bs : Log} {h : Event} {n x : ℕ} → Header w bs h n → x ≡ n % 256 → SoFar w bs (at 0 Service x 0 0)
  d10 : {bs : Log} {h service : Event} {n x : ℕ} → Header w bs h n → Right (next Unit (only 0xC1)) h.end service → x ≡ (n + service.value) % 256
      → SoFar w (bs ▷ service) (at 0 KeyOne x 0 0)
  d11 : {bs : Log} {h service one : Event} {n x : ℕ} → Header w bs h n → Right (next Unit (only 0xC1)) h.end service → UnitNext service one
      → x ≡ (n + service.value + one.value) % 256 → SoFar w (bs ▷ service ▷ one) (at 0 KeyTwo x one.value 0)
  d12 : {bs : Log} {h service one two : Event} {n x : ℕ} → Header w bs h n → Right (next Unit (only 0xC1)) h.end service → UnitNext service one
      → UnitNext one two → x ≡ (n + service.value + one.value + two.value) % 256
      → SoFar w (bs ▷ service ▷ one ▷ two) (at 0 Sum x one.value two.value)

-- the mark after the request, and after the header
request_end : {w c : Event} {bs : Log} → Request w bs c → last_end w bs ≡ c.end
request_end (request k l p1 p2 p3 p4 p5) = refl

header_end : {w h : Event} {bs : Log} {n : ℕ} → Header w bs h n → last_end w bs ≡ h.end
header_end (plain r p v) = refl
header_end (plain_long r p v p2) = refl
header_end (addressed r p v p2 p3) = refl
header_end (addressed_long r p v p2 p3 p4) = refl

passes_behind : {s : Start} {fall m n : Micros} {b : Event} → m ≡ n → Passes s fall m b → Passes s fall n b
passes_behind {s} {fall} {m} {n} {b} e f = subst (λ (x : Micros). Passes s fall x b) e f

-- ---- a sum with one byte more
more : (x n v : ℕ) → x ≡ n % 256 → (x + v) % 256 ≡ (n + v) % 256
more x n v e = omega arith

from_zero : (v : ℕ) → (0 + v) % 256 ≡ v % 256
from_zero v = ap (λ (y : ℕ). y % 256) (zero-add v)

-- ---- the format byte of the reply: what follows it
module _ (w : Event) (bs : Log) (c b : Event) (r : Request w bs c) (p : Right replies c.end b) where
  abbrev Formatted : Stage → Type 0
  Formatted stage = SoFar w (bs ▷ b) (at 0 stage ((0 + b.value) % 256) 0 0)

  format_is : (stage : Stage) → after_format b.value ≡ stage → Formatted stage → Formatted (after_format b.value)
  format_is stage e s = subst Formatted (sym e) s

  format_by : IsOne (0x03 ∷ 0x00 ∷ 0x83 ∷ 0x80 ∷ []) b.value → Formatted (after_format b.value)
  unfolding IsOne after_format
  format_by (inl e) = format_is Service (ap after_format e) (d9 (plain r p e) (from_zero b.value))
  format_by (inr (inl e)) = format_is Length (ap after_format e) (l8 r p e (from_zero b.value))
  format_by (inr (inr (inl e))) = format_is Target (ap after_format e) (t6 r p e (from_zero b.value))
  format_by (inr (inr (inr (inl e)))) = format_is LongTarget (ap after_format e) (u6 r p e (from_zero b.value))
  format_by (inr (inr (inr (inr n)))) = absurd n

-- ---- from the run to the bytes
first : (m : ℕ) (w : Event) → w.kind ≡ WakeUp → Starts WakeUp m w → SoFar w none fast_start
unfolding fast_start
first m w k s = q0 k ((good_low w).0 s.1)

one_more : (w : Event) (bs : Log) (s : Start) (b : Event) → SoFar w bs s → Passes s (fall_by WakeUp w.start) (last_end w bs) b
    → is_last s.stage ≡ false
    → SoFar w (bs ▷ b) (onward s b.value)
unfolding origin_of due_at onward is_last byte_sum
one_more w bs s b (q0 k l) g z = q1 {f = b} k l (comes s w.start w.end b g (omega (arith, g.later, l.0))) (from_zero b.value)
one_more w bs s b (q1 {f = f} {x = x} k l p1 e) g z = q2 {t = b} k l p1 (comes_next refl g) (more x f.value b.value e)
one_more w bs s b (q2 {f = f} {t = t} {x = x} k l p1 p2 e) g z = q3 {s = b} k l p1 p2 (comes_next refl g) (more x (f.value + t.value) b.value e)
one_more w bs s b (q3 {f = f} {t = t} {s = u} {x = x} k l p1 p2 p3 e) g z =
    q4 {d = b} k l p1 p2 p3 (comes_next refl g) (more x (f.value + t.value + u.value) b.value e)
one_more w bs s b (q4 {x = x} k l p1 p2 p3 p4 e) g z =
    let c = comes_next refl g in q5 (request {c = b} k l p1 p2 p3 p4 (c.0, c.1, c.2 ∙ e))
one_more w bs s b (q5 {c = c} r) g z = let p = comes_next refl (passes_behind (request_end r) g) in format_by w bs c b r p p.2
one_more w bs s b (t6 {f = f} {x = x} r p v e) g z = t7 {t = b} r p v (comes_next refl g) (more x f.value b.value e)
one_more w bs s b (t7 {f = f} {t = t} {x = x} r p v p2 e) g z =
    d9 (addressed {s = b} r p v p2 (comes_next refl g)) (more x (f.value + t.value) b.value e)
one_more w bs s b (u6 {f = f} {x = x} r p v e) g z = u7 {t = b} r p v (comes_next refl g) (more x f.value b.value e)
one_more w bs s b (u7 {f = f} {t = t} {x = x} r p v p2 e) g z = u8 {s = b} r p v p2 (comes_next refl g) (more x (f.value + t.value) b.value e)
one_more w bs s b (l8 {f = f} {x = x} r p v e) g z = d9 (plain_long {len = b} r p v (comes_next refl g)) (more x f.value b.value e)
one_more w bs s b (u8 {f = f} {t = t} {s = u} {x = x} r p v p2 p3 e) g z =
    d9 (addressed_long {len = b} r p v p2 p3 (comes_next refl g)) (more x (f.value + t.value + u.value) b.value e)
one_more w bs s b (d9 {n = n} {x = x} h e) g z = d10 {service = b} h (comes_next refl (passes_behind (header_end h) g)) (more x n b.value e)
one_more w bs s b (d10 {service = y} {n = n} {x = x} h p1 e) g z = d11 {one = b} h p1 (comes_next refl g) (more x (n + y.value) b.value e)
one_more w bs s b (d11 {service = y} {one = one} {n = n} {x = x} h p1 p2 e) g z =
    d12 {two = b} h p1 p2 (comes_next refl g) (more x (n + y.value + one.value) b.value e)
one_more w bs s b (d12 h p1 p2 p3 e) g z = absurd (false≢true (sym z))

abbrev Good : Event → Log → Start → Event → Type 0
Good w bs s b = FastStart w s.pair (bs ▷ b)

finish : (w : Event) (bs : Log) (s : Start) (b : Event) → SoFar w bs s → Passes s (fall_by WakeUp w.start) (last_end w bs) b → is_last s.stage ≡ true
    → Good w bs s b
unfolding due_at is_last
finish w bs s b (q0 k l) g z = absurd (false≢true z)
finish w bs s b (q1 k l p1 e) g z = absurd (false≢true z)
finish w bs s b (q2 k l p1 p2 e) g z = absurd (false≢true z)
finish w bs s b (q3 k l p1 p2 p3 e) g z = absurd (false≢true z)
finish w bs s b (q4 k l p1 p2 p3 p4 e) g z = absurd (false≢true z)
finish w bs s b (q5 r) g z = absurd (false≢true z)
finish w bs s b (t6 r p v e) g z = absurd (false≢true z)
finish w bs s b (t7 r p v p2 e) g z = absurd (false≢true z)
finish w bs s b (u6 r p v e) g z = absurd (false≢true z)
finish w bs s b (u7 r p v p2 e) g z = absurd (false≢true z)
finish w bs s b (l8 r p v e) g z = absurd (false≢true z)
finish w bs s b (u8 r p v p2 p3 e) g z = absurd (false≢true z)
finish w bs s b (d9 h e) g z = absurd (false≢true z)
finish w bs s b (d10 h p1 e) g z = absurd (false≢true z)
finish w bs s b (d11 h p1 p2 e) g z = absurd (false≢true z)
finish w bs s b (d12 {one = one} {two = two} h p1 p2 p3 e) g z =
    let c = comes_next refl g in fast {one = one} {two = two} {sum = b} h p1 p2 p3 (c.0, c.1, (c.2.0 ∙ e, c.2.1))

pub fast_done : (m : ℕ) (w : Event) (bs : Log) (b : Event) → w.kind ≡ WakeUp → Done m w bs b
    → FastStart w (start_on w bs).pair (bs ▷ b)
fast_done m w bs b k d = done_good WakeUp SoFar first one_more Good finish m w bs b k d

-- ---- the place that is due is the stage's
-- after a header of this sum, data
header_due : {w h : Event} {bs : Log} {n : ℕ} → Header w bs h n → (xs : List Event) → due_fast (events_of bs ++ xs) ≡ due_data n xs
unfolding due_fast due_reply due_addresses due_length events_of
header_due (plain (request k l p1 p2 p3 p4 p5) p v) xs = rw v
header_due (plain_long (request k l p1 p2 p3 p4 p5) p v a1) xs = rw v
header_due (addressed (request k l p1 p2 p3 p4 p5) p v a1 a2) xs = rw v
header_due (addressed_long (request k l p1 p2 p3 p4 p5) p v a1 a2 a3) xs = rw v

place_by : (w : Event) (bs : Log) (s : Start) → SoFar w bs s → due_fast (events_of bs) ≡ place_of s
unfolding due_fast due_reply due_addresses due_length due_data events_of
place_by w bs s (q0 k l) = refl
place_by w bs s (q1 k l p1 e) = refl
place_by w bs s (q2 k l p1 p2 e) = refl
place_by w bs s (q3 k l p1 p2 p3 e) = refl
place_by w bs s (q4 k l p1 p2 p3 p4 e) = ap (λ (y : ℕ). next Tester (only y)) (sym e)
place_by w bs s (q5 (request k l p1 p2 p3 p4 p5)) = refl
place_by w bs s (t6 (request k l p1 p2 p3 p4 p5) p v e) = rw v
place_by w bs s (t7 (request k l p1 p2 p3 p4 p5) p v a1 e) = rw v
place_by w bs s (u6 (request k l p1 p2 p3 p4 p5) p v e) = rw v
place_by w bs s (u7 (request k l p1 p2 p3 p4 p5) p v a1 e) = rw v
place_by w bs s (l8 (request k l p1 p2 p3 p4 p5) p v e) = rw v
place_by w bs s (u8 (request k l p1 p2 p3 p4 p5) p v a1 a2 e) = rw v
place_by w bs s (d9 h e) = ap due_fast (sym (append-nil (events_of bs))) ∙ header_due h []
place_by w bs s (d10 {service = y} h p1 e) = header_due h (y ∷ [])
place_by w bs s (d11 {bs = hs} {service = y} {one = one} h p1 p2 e) =
    ap due_fast (append_assoc (events_of hs) (y ∷ []) (one ∷ [])) ∙ header_due h (y ∷ one ∷ [])
place_by w bs s (d12 {bs = hs} {service = y} {one = one} {two = two} {x = x} h p1 p2 p3 e) =
    ap (λ (es : List Event). due_fast (es ++ (two ∷ []))) (append_assoc (events_of hs) (y ∷ []) (one ∷ []))
    ∙ ap due_fast (append_assoc (events_of hs) (y ∷ one ∷ []) (two ∷ []))
    ∙ header_due h (y ∷ one ∷ two ∷ [])
    ∙ ap (λ (v : ℕ). last_place Unit 0 20_000 (sum_behind v (pair_of one.value two.value))) (sym e)

pub fast_place : (m : ℕ) (w : Event) (bs : Log) → w.kind ≡ WakeUp → Runs m w bs → due w (events_of bs) ≡ place_of (start_on w bs)
unfolding due is_address
fast_place m w bs k r =
    ap (λ (x : Kind). if is_address x then due_slow w.value (events_of bs) else due_fast (events_of bs)) k
    ∙ place_by w bs (start_on w bs) (way WakeUp SoFar first one_more m w bs k r)

-- ---- and from the bytes to the run
-- the tester's first byte, which is timed from the fall
opens_passes : (w f : Event) → w.kind ≡ WakeUp → Low w → Right asks w.start f → Passes fast_start (fall_by w.kind w.start) w.end f
unfolding origin_of due_at fast_start
opens_passes w f k l p =
    subst (λ (x : Kind). Passes fast_start (fall_by x w.start) w.end f) (sym k)
    (right_of fast_start w.start w.end f (omega (arith, l.1, p.1.0)) p)

-- the request
on_request : (m : ℕ) (w : Event) (bs : Log) (c : Event) → m ≤ w.start.0 → Request w bs c → On m w bs (at 0 Format 0 0 0)
unfolding due_at onward is_last fast_start byte_sum
on_request m w bs c i (request {f = f} {t = t} {s = s} {d = d} k l p1 p2 p3 p4 p5) =
    let b1 = none ▷ f in
    let b2 = b1 ▷ t in
    let b3 = b2 ▷ s in
    let x1 : ℕ = (0 + f.value) % 256 in
    let x2 : ℕ = (x1 + t.value) % 256 in
    let x3 : ℕ = (x2 + s.value) % 256 in
    let x4 : ℕ = (x3 + d.value) % 256 in
    let sum : c.value ≡ x4 =
    p5.2 ∙ sym (more x3 (f.value + t.value + s.value) d.value (more x2 (f.value + t.value) s.value (more x1 f.value t.value (from_zero f.value)))) in
    let o0 = on_first m w WakeUp k (i, (good_low w).1 l) in
    let o1 = on_more m w none fast_start f o0 (opens_passes w f k l p1) refl in
    let o2 = on_next m w b1 (at 0 AskTarget x1 0 0) t f.end refl refl o1 p2 refl in
    let o3 = on_next m w b2 (at 0 AskSource x2 0 0) s t.end refl refl o2 p3 refl in
    let o4 = on_next m w b3 (at 0 AskService x3 0 0) d s.end refl refl o3 p4 refl in
    on_next m w (b3 ▷ d) (at 0 AskSum x4 0 0) c d.end refl refl o4 (p5.0, p5.1, sum) refl

-- the header of the reply: it leads to the stage after it, with the sum of its bytes
record Headed (m : ℕ) (w : Event) (bs : Log) (n : ℕ) : Type 0 where
  sum : ℕ
  on : On m w bs (at 0 Service sum 0 0)
  sums : sum ≡ n % 256

module _ (m : ℕ) (w : Event) (bs : Log) (c f : Event) (i : m ≤ w.start.0) (r : Request w bs c) (p : Right replies c.end f) where
  abbrev x1 : ℕ
  x1 = (0 + f.value) % 256

  on_format : (stage : Stage) → after_format f.value ≡ stage → On m w (bs ▷ f) (at 0 stage x1 0 0)
  unfolding due_at onward is_last byte_sum
  on_format stage e =
      subst (λ (j : Stage). On m w (bs ▷ f) (at 0 j x1 0 0)) e
      (on_next m w bs (at 0 Format 0 0 0) f c.end (request_end r) refl (on_request m w bs c i r) p refl)

  module _ (t s : Event) (p2 : UnitNext f t) (p3 : UnitNext t s) where
    abbrev x2 : ℕ
    x2 = (x1 + t.value) % 256

    abbrev x3 : ℕ
    x3 = (x2 + s.value) % 256

    sum3 : x3 ≡ (f.value + t.value + s.value) % 256
    sum3 = more x2 (f.value + t.value) s.value (more x1 f.value t.value (from_zero f.value))

    on_addresses : On m w (bs ▷ f) (at 0 Target x1 0 0) → On m w (bs ▷ f ▷ t ▷ s) (at 0 Service x3 0 0)
    unfolding due_at onward is_last byte_sum
    on_addresses o =
        on_next m w (bs ▷ f ▷ t) (at 0 Source x2 0 0) s t.end refl refl (on_next m w (bs ▷ f) (at 0 Target x1 0 0) t f.end refl refl o p2 refl) p3 refl

    on_long : On m w (bs ▷ f) (at 0 LongTarget x1 0 0) → On m w (bs ▷ f ▷ t ▷ s) (at 0 Length x3 0 0)
    unfolding due_at onward is_last byte_sum
    on_long o =
        on_next m w (bs ▷ f ▷ t) (at 0 LongSource x2 0 0) s t.end refl refl
        (on_next m w (bs ▷ f) (at 0 LongTarget x1 0 0) t f.end refl refl o p2 refl) p3 refl

-- the length byte
on_length : (m : ℕ) (w : Event) (bs : Log) (y len : Event) (x n : ℕ) → On m w (bs ▷ y) (at 0 Length x 0 0)
    → Right (next Unit (only 3)) y.end len → x ≡ n % 256 → Headed m w (bs ▷ y ▷ len) (n + len.value)
unfolding due_at onward is_last byte_sum
on_length m w bs y len x n o p e = record {
  sum = (x + len.value) % 256;
  on = on_next m w (bs ▷ y) (at 0 Length x 0 0) len y.end refl refl o p refl;
  sums = more x n len.value e;
}

on_header : (m : ℕ) (w : Event) (bs : Log) (h : Event) (n : ℕ) → m ≤ w.start.0 → Header w bs h n → Headed m w bs n
unfolding after_format
on_header m w bs h n i (plain {bs = rq} {c = c} {f = f} r p v) = record {
  sum = (0 + f.value) % 256;
  on = on_format m w rq c f i r p Service (ap after_format v);
  sums = from_zero f.value;
}
on_header m w bs h n i (plain_long {bs = rq} {c = c} {f = f} {len = len} r p v p2) =
    on_length m w rq f len ((0 + f.value) % 256) f.value (on_format m w rq c f i r p Length (ap after_format v)) p2 (from_zero f.value)
on_header m w bs h n i (addressed {bs = rq} {c = c} {f = f} {t = t} {s = s} r p v p2 p3) = record {
  sum = x3 m w rq c f i r p t s p2 p3;
  on = on_addresses m w rq c f i r p t s p2 p3 (on_format m w rq c f i r p Target (ap after_format v));
  sums = sum3 m w rq c f i r p t s p2 p3;
}
on_header m w bs h n i (addressed_long {bs = rq} {c = c} {f = f} {t = t} {s = s} {len = len} r p v p2 p3 p4) =
    on_length m w (rq ▷ f ▷ t) s len (x3 m w rq c f i r p t s p2 p3) (f.value + t.value + s.value)
    (on_long m w rq c f i r p t s p2 p3 (on_format m w rq c f i r p LongTarget (ap after_format v))) p4 (sum3 m w rq c f i r p t s p2 p3)

good_links : (pair : Pair) → is_good pair ≡ true → is_link_pair pair ≡ true
unfolding is_link_pair
good_links pair g = rw g refl

pub done_fast : (m : ℕ) (w : Event) (pair : Pair) (bs : Log) (b : Event) → m ≤ w.start.0 → FastStart w pair (bs ▷ b)
    → Done m w bs b × ((start_on w bs).pair ≡ pair) × (is_link_pair pair ≡ true)
unfolding due_at onward is_last byte_sum
done_fast m w pair bs b i (fast {bs = hs} {h = h} {service = service} {one = one} {two = two} {n = n} hd p1 p2 p3 p4) =
    let H = on_header m w hs h n i hd in
    let x = H.sum in
    let y1 : ℕ = (x + service.value) % 256 in
    let y2 : ℕ = (y1 + one.value) % 256 in
    let y3 : ℕ = (y2 + two.value) % 256 in
    let sum : b.value ≡ y3 =
    p4.2.0 ∙ sym (more y2 (n + service.value + one.value) two.value (more y1 (n + service.value) one.value (more x n service.value H.sums))) in
    let o1 = on_next m w hs (at 0 Service x 0 0) service h.end (header_end hd) refl H.on p1 refl in
    let o2 = on_next m w (hs ▷ service) (at 0 KeyOne y1 0 0) one service.end refl refl o1 p2 refl in
    let o3 = on_next m w (hs ▷ service ▷ one) (at 0 KeyTwo y2 one.value 0) two one.end refl refl o2 p3 refl in (
      on_last m w (hs ▷ service ▷ one ▷ two) (at 0 Sum y3 one.value two.value) b two.end refl refl o3 (p4.0, p4.1, (sum, p4.2.1)) refl,
      ap (λ (s : Start). s.pair) o3.at,
      good_links _ p4.2.1,
    )
