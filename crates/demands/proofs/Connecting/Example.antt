-- Good initializations, each by its events alone: document 01's fast one, at any time and after any events, and a slow one, with any key bytes that are right after 33. (That
-- our link connects with them: IdleTimes/Examples.antt.)
-- Assumes nothing.
use Prim.Native.Nat.{ℕ, ◌+◌, ◌-◌, ◌≤◌}
use mathlib.Core.Bool.{Bool, true, ◌&&◌}
use mathlib.Core.Logic.{inl, inr}
use mathlib.Core.Path.{◌≡◌, refl}
use native.Mathlib.Omega.{arith}
use borrow.Author.Tests.{ltb-true}
use lib.Dec.{ltb}
use Rattle.base.specs.Numbers.{taken}
use Rattle.base.proofs.Tests.{and_split}
use Rattle.units.specs.Units.{micros}
use Rattle.keys.specs.Keys.{good_pair, pair_of, length_in_format, extra_length, no_addresses, with_addresses}
use Rattle.events.specs.Events.{is_other, is_byte, is_nobody, is_unknown, is_too_late, is_out_of_order, refusal}
use Rattle.events.specs.declared.Kind.TheVariants.{Address, WakeUp, Byte}
use Rattle.events.specs.declared.Side.{Side}
use Rattle.events.specs.declared.Side.TheVariants.{Tester, Unit, Nobody}
use Rattle.events.specs.declared.Event.{Event}
use Rattle.demands.specs.Logs.{Log, none, ◌▷◌, clock_of, count_of, number_after, taken_of, InBytes}
use Rattle.demands.specs.Idle.{idle_until}
use Rattle.demands.specs.Histories.{Machine}
use Rattle.demands.specs.Starts.{IsOne, SlowStart, slow, request, addressed, FastStart, fast}
use Rattle.demands.specs.Connecting.{here, byte, Connects}
use Rattle.keys.specs.Editions.{is_slow_pair}

-- a byte of 960 microseconds
abbrev pub byte_from : Side → ℕ → ℕ → Event
byte_from side v start = record { start = micros start; end = micros (start + 960); kind = Byte; side = side; value = v }

abbrev pub tester : ℕ → ℕ → Event
tester v start = byte_from Tester v start

abbrev pub unit : ℕ → ℕ → Event
unit v start = byte_from Unit v start

-- ---- FAST: "`W 300000 325000`; t bytes 81 11 F1 81 04 from 350000, each 960 long, a gap of 5000 between; e bytes 83 F1 11 C1 EF 8F C4 from 404800,
-- each 960 long, no gap", with any time for 300000, and after any events
abbrev pub wake_at : ℕ → Event
wake_at t = record { start = micros t; end = micros (t + 25_000); kind = WakeUp; side = Nobody; value = 0 }

module _ (t : ℕ) where
  abbrev pub bytes_after : Log → Log
  bytes_after log = log ▷ tester 0x81 (t + 50_000) ▷ tester 0x11 (t + 55_960) ▷ tester 0xF1 (t + 61_920) ▷ tester 0x81 (t + 67_880) ▷ tester 0x04 (t + 73_840)
      ▷ unit 0x83 (t + 104_800) ▷ unit 0xF1 (t + 105_760) ▷ unit 0x11 (t + 106_720) ▷ unit 0xC1 (t + 107_680) ▷ unit 0xEF (t + 108_640) ▷ unit 0x8F (t + 109_600)

  abbrev pub last_after : Event
  last_after = unit 0xC4 (t + 110_560)

  pub fast_good : FastStart (wake_at t) (pair_of 0xEF 0x8F) (bytes_after none ▷ last_after)
  unfolding good_pair length_in_format extra_length no_addresses with_addresses IsOne
  fast_good =
      fast {service = unit 0xC1 (t + 107_680)} {one = unit 0xEF (t + 108_640)} {two = unit 0x8F (t + 109_600)} {sum = last_after}
      (addressed {f = unit 0x83 (t + 104_800)} {t = unit 0xF1 (t + 105_760)} {s = unit 0x11 (t + 106_720)}
      (request {f = tester 0x81 (t + 50_000)} {t = tester 0x11 (t + 55_960)} {s = tester 0xF1 (t + 61_920)} {d = tester 0x81 (t + 67_880)} {c = tester 0x04 (t + 73_840)}
      refl (omega arith, omega arith) (refl, (omega arith, omega arith), inl refl) (refl, (omega arith, omega arith), tt) (refl, (omega arith, omega arith), tt)
      (refl, (omega arith, omega arith), refl) (refl, (omega arith, omega arith), refl))
      (refl, (omega arith, omega arith), inr (inr (inl refl))) refl (refl, (omega arith, omega arith), tt) (refl, (omega arith, omega arith), tt))
      (refl, (omega arith, omega arith), refl) (refl, (omega arith, omega arith), tt) (refl, (omega arith, omega arith), tt)
      (refl, (omega arith, omega arith), (refl, refl))

  -- where the line was idle long enough before the wake-up, the last byte completes it
  abbrev pub fast_connects : (m : Machine) (before : Log) → idle_until m before (wake_at t) ≤ t → Connects m (bytes_after (before ▷ wake_at t)) last_after
  fast_connects m before i = record {
    start = wake_at t;
    before = before;
    bytes = bytes_after none;
    pair = pair_of 0xEF 0x8F;
    since = byte refl (byte refl (byte refl (byte refl (byte refl (byte refl (byte refl (byte refl (byte refl (byte refl (byte refl here))))))))));
    idle = i;
    last = refl;
    good = inr fast_good;
  }

-- document 01's own
abbrev pub fast_events : Log
fast_events = bytes_after 300_000 (none ▷ wake_at 300_000)

abbrev pub fast_last : Event
fast_last = last_after 300_000

pub fast_number : number_after (taken_of fast_events) fast_last ≡ taken
unfolding taken_of number_after clock_of count_of refusal is_unknown is_too_late is_out_of_order is_other is_byte is_nobody
fast_number = refl

-- ---- SLOW: an address that comes to nothing, and 33 from 3000000 to 5000000; 55, KB1, KB2 from the unit, 255 minus KB2 from the tester, CC from the unit. The key
-- bytes may be any that are right after 33: a good pair, or a car's.
abbrev pub address : ℕ → ℕ → ℕ → Event
address v start end = record { start = micros start; end = micros end; kind = Address; side = Nobody; value = v }

abbrev pub slow_address : Event
slow_address = address 0x33 3_000_000 5_000_000

abbrev pub slow_before : Log
slow_before = none ▷ address 0x11 300_000 2_300_000

abbrev pub slow_last : Event
slow_last = unit 0xCC 5_178_840

module _ (kb1 kb2 : ℕ) where
  abbrev pub slow_after : Log → Log
  slow_after log = log ▷ unit 0x55 5_100_000 ▷ unit kb1 5_110_960 ▷ unit kb2 5_116_920 ▷ tester (255 - kb2) 5_147_880

  abbrev pub slow_events : Log
  slow_events = slow_after (slow_before ▷ slow_address)

  pub slow_good : is_slow_pair 0x33 (pair_of kb1 kb2) ≡ true → SlowStart slow_address (pair_of kb1 kb2) (slow_after none ▷ slow_last)
  slow_good g =
      slow {s = unit 0x55 5_100_000} {one = unit kb1 5_110_960} {two = unit kb2 5_116_920} {back = tester (255 - kb2) 5_147_880} {done = slow_last}
      refl (refl, (omega arith, omega arith), refl) (refl, (omega arith, omega arith), tt) (refl, (omega arith, omega arith), g)
      (refl, (omega arith, omega arith), refl) (refl, (omega arith, omega arith), refl)

  abbrev pub slow_connects : (m : Machine) → is_slow_pair 0x33 (pair_of kb1 kb2) ≡ true → idle_until m slow_before slow_address ≤ slow_address.start.0
      → Connects m slow_events slow_last
  slow_connects m g i = record {
    start = slow_address;
    before = slow_before;
    bytes = slow_after none;
    pair = pair_of kb1 kb2;
    since = byte refl (byte refl (byte refl (byte refl here)));
    idle = i;
    last = refl;
    good = inl (slow_good g);
  }

-- ---- values of events that are bytes, as a test
unfoldable pub all_bytes : Log → Bool
all_bytes none = true
all_bytes (es ▷ e) = all_bytes es && ltb e.value 256

pub in_bytes : (es : Log) → all_bytes es ≡ true → InBytes es
unfolding all_bytes InBytes
in_bytes none h = tt
in_bytes (es ▷ e) h =
    let x = and_split _ _ h in
    (in_bytes es x.0, ltb-true e.value 256 x.1)
