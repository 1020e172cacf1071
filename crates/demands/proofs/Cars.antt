-- What the demands say of a car's session (specs/Cars.antt). Its frames have no data, since `read` refuses its key bytes, and so ask for nothing (CarMessages.antt). A
-- report 2 that is neither early nor stray goes by the bytes it names: of the other side, closed, or with the fault of the message, which is 6, 8 or 9. And two
-- messages that are one have the sum of the first twice in theirs, once as its bytes and once as its checksum.
-- Assumes nothing.
use Prim.Native.Nat.{ℕ, ◌+◌, ◌-◌, ◌%◌, ◌≤◌, ◌<◌}
use mathlib.Core.Bool.{Bool, true, false, not, ◌&&◌, false≢true}
use mathlib.Core.List.{List, [], ◌∷◌, ◌++◌}
use mathlib.Core.Logic.{◌↔◌, ◌⊎◌, inl, inr}
use mathlib.Core.Path.{◌≡◌, ◌∙◌, refl, sym, ap, subst}
use native.Mathlib.Nat.{mod-eq_of_lt, add-mod_left}
use native.Mathlib.Omega.{arith}
use borrow.Author.Tests.{eqb-true, eq-eqb, le-leb, leb-true, ltb-true, ltb-false}
use lib.Dec.{eqb, leb, ltb}
use lib.ListN.{length, length-append}
use Rattle.std.specs.Prelude.{if◌then◌else◌}
use Rattle.base.specs.Reports.{damage_report, no_reason, broken_off, early, stray, mode_one, wrong_form, other_side, wrong_length, wrong_sum}
use Rattle.base.proofs.Tests.{and_split, by_test}
use Rattle.units.specs.declared.Micros.{Micros}
use Rattle.keys.specs.declared.Pair.{Pair}
use Rattle.timing.specs.Timing.{set_of}
use Rattle.frame.specs.Layout.{total}
use Rattle.events.specs.Events.{is_byte, is_tester}
use Rattle.events.specs.declared.Kind.{Kind}
use Rattle.events.specs.declared.Kind.TheVariants.{Address, WakeUp, Byte, Tick, Drop, Other}
use Rattle.events.specs.declared.Side.{Side}
use Rattle.events.specs.declared.Event.{Event}
use Rattle.reports.specs.declared.Report.{Report}
use Rattle.demands.specs.Logs.{Log, bytes_of, values_of, last_side, taken_of}
use Rattle.demands.specs.Refusals.{Not}
use Rattle.demands.specs.Editions.{of_car, head_of, agrees, sums_up, car_fault, reason_at_end}
use Rattle.demands.specs.Histories.{Machine}
use Rattle.demands.specs.Accounts.{bytes_named}
use Rattle.demands.specs.Sessions.{Frames, nothing, ◌▸◌, Talk, gap_before, pending_in, windows_in}
use Rattle.demands.specs.Endings.{AnswersStop}
use Rattle.demands.specs.Damage.{of_one_side, reason_in, GoesBy, Damaged}
use Rattle.demands.specs.Cars.{OfCars}
use Rattle.demands.proofs.Sessions.CarMessages.{car_data, never_stops, car_pending, car_windows}

-- ---- 82 and 83
windows : (pair : Pair) (fs : Frames) → of_car pair ≡ true → windows_in pair fs ≡ set_of pair
unfolding windows_in
windows pair nothing c = refl
windows pair (fs ▸ f) c = car_windows pair fs f c ∙ windows pair fs c

never_stopped : (m : Machine) (t : Talk) (es : Log) (e : Event) → of_car t.pair ≡ true → Not (AnswersStop m t es e)
never_stopped m t es e c x = false≢true (sym (never_stops (pending_in t.pair t.frames)) ∙ (sym (rw (car_data t.pair x.bytes c) refl) ∙ x.stop))

-- ---- the reasons of report 2
abbrev Else : ℕ → Type 0
Else k = Not (k ≡ broken_off) × Not (k ≡ mode_one)

fault_else : (side : Side) (bytes : List ℕ) → Else (car_fault side bytes)
unfolding car_fault
fault_else side bytes =
    by_test Else (not (agrees (head_of side) bytes)) {x = wrong_form} (λ _. (λ z. omega arith, λ z. omega arith))
    (λ _. by_test Else (not (leb 5 (length bytes) && leb (length bytes) 11)) {x = wrong_length} (λ _. (λ z. omega arith, λ z. omega arith))
    (λ _. by_test Else (sums_up 0 bytes) {x = no_reason} {y = wrong_sum} (λ _. (λ z. omega arith, λ z. omega arith)) (λ _. (λ z. omega arith, λ z. omega arith))))

byte_or_not : (k : Kind) → (k ≡ Byte) ⊎ Not (k ≡ Byte)
unfolding is_byte
byte_or_not Byte = inl refl
byte_or_not Address = inr (λ z. false≢true (ap is_byte z))
byte_or_not WakeUp = inr (λ z. false≢true (ap is_byte z))
byte_or_not Tick = inr (λ z. false≢true (ap is_byte z))
byte_or_not Drop = inr (λ z. false≢true (ap is_byte z))
byte_or_not Other = inr (λ z. false≢true (ap is_byte z))

-- a report that goes by its bytes, of a car
goes_else : (k at_end : ℕ) (e : Event) (gap : Micros) (r : Report) → (k ≡ no_reason) ⊎ (k ≡ other_side) → Else at_end → GoesBy k at_end e gap r → Else r.reason
goes_else k at_end e gap r (inr q) f g = subst Else (sym (g.wrong (λ z. omega arith) ∙ q)) (λ z. omega arith, λ z. omega arith)
goes_else k at_end e gap r (inl q) f g = by_gap (ltb 20_000 gap.0) refl
  where
    by_kind : Not (20_000 < gap.0) → (e.kind ≡ Byte) ⊎ Not (e.kind ≡ Byte) → Else r.reason
    by_kind n (inl z) = subst Else (sym (g.ended q (inr z))) f
    by_kind n (inr z) = subst Else (sym (g.closed q n z)) (λ y. omega arith, λ y. omega arith)

    by_gap : (b : Bool) → ltb 20_000 gap.0 ≡ b → Else r.reason
    by_gap true t = subst Else (sym (g.ended q (inl (ltb-true 20_000 gap.0 t)))) f
    by_gap false t = by_kind (λ h. omega (arith, ltb-false 20_000 gap.0 t)) (byte_or_not e.kind)

reason_in_lem : (pair : Pair) (bs : List Event) → of_car pair ≡ true → (reason_in pair bs ≡ no_reason) ⊎ (reason_in pair bs ≡ other_side)
unfolding reason_in
reason_in_lem pair bs c =
    rw c (by_test (λ (k : ℕ). (k ≡ no_reason) ⊎ (k ≡ other_side)) (of_one_side bs) {x = no_reason} {y = other_side} (λ _. inl refl) (λ _. inr refl))

at_end_lem : (pair : Pair) (bs : List Event) → of_car pair ≡ true → Else (reason_at_end pair bs)
unfolding reason_at_end
at_end_lem pair bs c = rw c (fault_else (last_side bs) (values_of bs))

never_so : (m : Machine) (es : Log) (e : Event) (r : Report) → r.number ≡ damage_report → (d : Damaged m es e r) → of_car d.turns.first.talk.pair ≡ true
    → Else r.reason
never_so m es e r n d c = (λ z. (by_bytes (λ q. omega arith) (λ q. omega arith)).0 z, λ z. (by_bytes (λ q. omega arith) (λ q. omega arith)).1 z)
  where
    by_bytes : Not (r.reason ≡ early) → Not (r.reason ≡ stray) → Else r.reason
    by_bytes x y =
        let pair = d.turns.first.talk.pair in
        let bytes = bytes_named (bytes_of (taken_of es)) r in
        goes_else (reason_in pair bytes) (reason_at_end pair bytes) e (gap_before (taken_of es) e) r (reason_in_lem pair bytes c) (at_end_lem pair bytes c)
        (d.otherwise (λ q. x (d.turns.early.1 q).1) (λ q. y (d.turns.stray.1 q).1))

-- ---- two messages taken for one
-- what a message without a fault is, and the other way round
abbrev Sound : Side → List ℕ → Type 0
Sound side s = (agrees (head_of side) s ≡ true) × (5 ≤ length s) × (length s ≤ 11) × (sums_up 0 s ≡ true)

right_sound : (side : Side) (s : List ℕ) → car_fault side s ≡ no_reason → Sound side s
unfolding car_fault
right_sound side s = by_tests (agrees (head_of side) s) (leb 5 (length s)) (leb (length s) 11) (sums_up 0 s) refl refl refl refl
  where
    by_tests : (a b c d : Bool) → agrees (head_of side) s ≡ a → leb 5 (length s) ≡ b → leb (length s) 11 ≡ c → sums_up 0 s ≡ d
        → (if not a then wrong_form else if not (b && c) then wrong_length else if d then no_reason else wrong_sum) ≡ no_reason → Sound side s
    by_tests true true true true p q r t z = (p, leb-true 5 (length s) q, leb-true (length s) 11 r, t)
    by_tests false b c d p q r t z = absurd (omega arith)
    by_tests true false c d p q r t z = absurd (omega arith)
    by_tests true true false d p q r t z = absurd (omega arith)
    by_tests true true true false p q r t z = absurd (omega arith)

sound_right : (side : Side) (s : List ℕ) → Sound side s → car_fault side s ≡ no_reason
unfolding car_fault
sound_right side s x = rw (x.0, le-leb 5 (length s) x.1, le-leb (length s) 11 x.2, x.3) refl

-- its head, with more bytes after it
agrees_on : (h s t : List ℕ) → agrees h s ≡ true → length h ≤ length s → agrees h (s ++ t) ≡ true
unfolding agrees
agrees_on [] s t a l = refl
agrees_on (x ∷ h) [] t a l = absurd (omega arith)
agrees_on (x ∷ h) (y ∷ s) t a l =
    let z = and_split (eqb y x) (agrees h s) a in
    rw z.0 (agrees_on h s t z.1 (omega arith))

head_short : (side : Side) → length (head_of side) ≤ 3
unfolding head_of
head_short side =
    by_test (λ (h : List ℕ). length h ≤ 3) (is_tester side) {x = 0x68 ∷ 0x6A ∷ 0xF1 ∷ []} {y = 0x48 ∷ 0x6B ∷ []} (λ _. omega arith) (λ _. omega arith)

-- its sum, after other bytes
sums_after : (n : ℕ) (s : List ℕ) (x : ℕ) (t : List ℕ) → sums_up n (s ++ (x ∷ t)) ≡ sums_up (n + total s) (x ∷ t)
unfolding sums_up total
sums_after n [] x t = ap (λ (k : ℕ). sums_up k (x ∷ t)) (omega arith)
sums_after n (y ∷ []) x t = ap (λ (k : ℕ). sums_up k (x ∷ t)) (omega arith)
sums_after n (y ∷ z ∷ s) x t = sums_after (n + y) (z ∷ s) x t ∙ ap (λ (k : ℕ). sums_up k (x ∷ t)) (omega arith)

-- bytes that sum up do so after others exactly if those add nothing
sums_too : (n k : ℕ) (x : ℕ) (t : List ℕ) → sums_up k (x ∷ t) ≡ true → (sums_up (n + k) (x ∷ t) ≡ true) ↔ (n % 256 ≡ 0)
unfolding sums_up
sums_too n k x [] h =
    let z = eqb-true x (k % 256) h in
    (λ y. let w = eqb-true x ((n + k) % 256) y in omega arith, λ y. eq-eqb x ((n + k) % 256) (omega arith))
sums_too n k x (y ∷ t) h =
    let z = sums_too n (k + x) y t h in
    let q : n + (k + x) ≡ (n + k) + x = omega arith in
    (λ w. z.0 (ap (λ (j : ℕ). sums_up j (y ∷ t)) q ∙ w), λ w. sym (ap (λ (j : ℕ). sums_up j (y ∷ t)) q) ∙ z.1 w)

-- a checksum, and what it is with the bytes before it
sums_last : (s : List ℕ) (sum : ℕ) → sums_up 0 (s ++ (sum ∷ [])) ≡ true → sum ≡ total s % 256
unfolding sums_up
sums_last s sum h =
    let z : sum ≡ (0 + total s) % 256 = eqb-true sum ((0 + total s) % 256) (sym (sums_after 0 s sum []) ∙ h) in
    omega arith

total_last : (s : List ℕ) (x : ℕ) → total (s ++ (x ∷ [])) ≡ total s + x
unfolding total
total_last [] x = omega arith
total_last (y ∷ s) x =
    let h = total_last s x in
    omega arith

-- a byte that is 0 when doubled is 0 or 80
twice_none : (d : ℕ) → d < 0x80 → (d + d) % 256 ≡ 0 → d ≡ 0
twice_none d l z =
    let s : d + d < 256 = omega arith in
    let e : d + d ≡ 0 = sym (mod-eq_of_lt s) ∙ z in
    omega arith

half : (sum k : ℕ) → sum ≡ k % 256 → ((k + sum) % 256 ≡ 0) ↔ ((sum ≡ 0x00) ⊎ (sum ≡ 0x80))
half sum k h = (λ z. by_size (ltb sum 0x80) refl (omega arith) (twice ∙ z), λ z. from z)
  where
    twice : (sum + sum) % 256 ≡ (k + sum) % 256
    twice = omega arith

    by_size : (b : Bool) → ltb sum 0x80 ≡ b → sum < 256 → (sum + sum) % 256 ≡ 0 → (sum ≡ 0x00) ⊎ (sum ≡ 0x80)
    by_size true t l z = inl (twice_none sum (ltb-true sum 0x80 t) z)
    by_size false t l z =
        let g = ltb-false sum 0x80 t in
        let d = sum - 0x80 in
        let e : 256 + (d + d) ≡ sum + sum = omega arith in
        let n = twice_none d (omega arith) (sym (add-mod_left 256 (d + d)) ∙ (ap (λ (k : ℕ). k % 256) e ∙ z)) in
        inr (omega arith)

    from : (sum ≡ 0x00) ⊎ (sum ≡ 0x80) → (k + sum) % 256 ≡ 0
    from (inl z) = omega arith
    from (inr z) = omega arith

two_as_one : (side : Side) (a b : List ℕ) (sum : ℕ) → car_fault side (a ++ (sum ∷ [])) ≡ no_reason → car_fault side b ≡ no_reason
    → (car_fault side ((a ++ (sum ∷ [])) ++ b) ≡ no_reason) ↔ ((length (a ++ (sum ∷ [])) + length b ≤ 11) × ((sum ≡ 0x00) ⊎ (sum ≡ 0x80)))
two_as_one side a [] sum f g = absurd (omega (arith, (right_sound side [] g).1))
two_as_one side a (x ∷ t) sum f g = (λ z. to (right_sound side (s ++ b) z), λ z. sound_right side (s ++ b) (from z))
  where
    s : List ℕ
    s = a ++ (sum ∷ [])

    b : List ℕ
    b = x ∷ t

    first : Sound side s
    first = right_sound side s f

    second : Sound side b
    second = right_sound side b g

    long : length (s ++ b) ≡ length s + length b
    long = length-append s b

    sums : sums_up 0 (s ++ b) ≡ sums_up (total a + sum + 0) b
    sums = sums_after 0 s x t ∙ ap (λ (k : ℕ). sums_up k b) (omega (arith, total_last a sum))

    doubled : (sums_up (total a + sum + 0) b ≡ true) ↔ ((total a + sum) % 256 ≡ 0)
    doubled = sums_too (total a + sum) 0 x t second.3

    halved : ((total a + sum) % 256 ≡ 0) ↔ ((sum ≡ 0x00) ⊎ (sum ≡ 0x80))
    halved = half sum (total a) (sums_last a sum first.3)

    to : Sound side (s ++ b) → (length s + length b ≤ 11) × ((sum ≡ 0x00) ⊎ (sum ≡ 0x80))
    to z = (omega (arith, long, z.2), halved.0 (doubled.0 (sym sums ∙ z.3)))

    from : (length s + length b ≤ 11) × ((sum ≡ 0x00) ⊎ (sum ≡ 0x80)) → Sound side (s ++ b)
    from z = (
      agrees_on (head_of side) s b first.0 (omega (arith, head_short side, first.1)),
      omega (arith, long, first.1),
      omega (arith, long, z.0),
      sums ∙ doubled.1 (halved.1 z.1),
    )

-- WHAT THE DEMANDS SAY OF A CAR'S SESSION, of any link
pub of_cars : (m : Machine) → OfCars m
of_cars m = record {
  windows = windows;
  asks_nothing = car_pending;
  never_stopped = never_stopped m;
  never_so = never_so m;
  two_as_one = two_as_one;
}
