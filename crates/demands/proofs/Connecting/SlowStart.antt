-- The slow start: a byte completes a run from an address exactly if the address and its bytes are a good slow start with the run's key bytes, and on the way
-- the place that is due is the one that the run's stage means. Both follow byte by byte: each of the five is right at its place exactly if it passes.
-- Assumes nothing.
use Prim.Native.Nat.{ℕ, ◌≤◌}
use mathlib.Core.Bool.{true, false, false≢true, Bool, ◌||◌, ◌&&◌}
use mathlib.Core.Path.{◌≡◌, ◌∙◌, refl, sym, ap}
use Rattle.std.specs.Prelude.{if◌then◌else◌}
use Rattle.keys.specs.Keys.{is_good}
use Rattle.keys.specs.declared.Pair.{Pair}
use Rattle.events.specs.declared.Kind.{Kind}
use Rattle.events.specs.declared.Kind.TheVariants.{Address}
use Rattle.events.specs.declared.Event.{Event}
use Rattle.starts.specs.Starts.{due_at, onward, is_last, slow_start}
use Rattle.starts.specs.declared.Stage.TheVariants.{Sync, FirstKey, SecondKey, KeyBack, AddressBack}
use Rattle.starts.specs.declared.Start.{Start}
use Rattle.demands.specs.Logs.{Log, none, ◌▷◌, events_of}
use Rattle.demands.specs.Starts.{Right, sync, key_one, key_two, key_back, SlowStart, slow, due_slow, due_fast, is_address, due}
use Rattle.demands.proofs.Connecting.Running.{fall_by, start_on, last_end, Starts, Runs, Done}
use Rattle.demands.proofs.Connecting.Staged.{at, place_of}
use Rattle.demands.proofs.Connecting.Judging.{Passes, comes_next, on_first, on_next, on_last, way, done_good}
use Rattle.keys.specs.Editions.{is_slow_pair, car_address, is_car, edition_of}
use Rattle.demands.specs.Editions.{is_link_pair}
use lib.Dec.{eqb}

-- ---- the stages on the way, each with the bytes that lead to it (what the sum is at does not matter)
data SoFar (a : Event) : Log → Start → Type 0 where
  s0 : {x : ℕ} → SoFar a none (at a.value Sync x 0 0)
  s1 : {x : ℕ} {s : Event} → Right sync a.end s → SoFar a (none ▷ s) (at a.value FirstKey x 0 0)
  s2 : {x : ℕ} {s one : Event} → Right sync a.end s → Right key_one s.end one → SoFar a (none ▷ s ▷ one) (at a.value SecondKey x one.value 0)
  s3 : {x : ℕ} {s one two : Event} → Right sync a.end s → Right key_one s.end one → Right (key_two a.value one.value) one.end two
      → SoFar a (none ▷ s ▷ one ▷ two) (at a.value KeyBack x one.value two.value)
  s4 : {x : ℕ} {s one two back : Event} → Right sync a.end s → Right key_one s.end one → Right (key_two a.value one.value) one.end two
      → Right (key_back two.value) two.end back → SoFar a (none ▷ s ▷ one ▷ two ▷ back) (at a.value AddressBack x one.value two.value)

-- ---- from the run to the bytes
first : (m : ℕ) (a : Event) → a.kind ≡ Address → Starts Address m a → SoFar a none (slow_start a.value)
unfolding slow_start
first m a k s = s0

one_more : (a : Event) (bs : Log) (s : Start) (b : Event) → SoFar a bs s → Passes s (fall_by Address a.start) (last_end a bs) b
    → is_last s.stage ≡ false
    → SoFar a (bs ▷ b) (onward s b.value)
unfolding due_at onward is_last
one_more a bs s b s0 f z = s1 (comes_next refl f)
one_more a bs s b (s1 p1) f z = s2 {one = b} p1 (comes_next refl f)
one_more a bs s b (s2 p1 p2) f z = s3 {two = b} p1 p2 (comes_next refl f)
one_more a bs s b (s3 p1 p2 p3) f z = s4 p1 p2 p3 (comes_next refl f)
one_more a bs s b (s4 p1 p2 p3 p4) f z = absurd (false≢true (sym z))

-- (the kind is no part of the stages on the way: it is put back at the end)
abbrev Good : Event → Log → Start → Event → Type 0
Good a bs s b = a.kind ≡ Address → SlowStart a s.pair (bs ▷ b)

finish : (a : Event) (bs : Log) (s : Start) (b : Event) → SoFar a bs s → Passes s (fall_by Address a.start) (last_end a bs) b → is_last s.stage ≡ true
    → Good a bs s b
unfolding due_at is_last
finish a bs s b s0 f z k = absurd (false≢true z)
finish a bs s b (s1 p1) f z k = absurd (false≢true z)
finish a bs s b (s2 p1 p2) f z k = absurd (false≢true z)
finish a bs s b (s3 p1 p2 p3) f z k = absurd (false≢true z)
finish a bs s b (s4 p1 p2 p3 p4) f z k = slow k p1 p2 p3 p4 (comes_next refl f)

pub slow_done : (m : ℕ) (a : Event) (bs : Log) (b : Event) → a.kind ≡ Address → Done m a bs b
    → SlowStart a (start_on a bs).pair (bs ▷ b)
slow_done m a bs b k d = done_good Address SoFar first one_more Good finish m a bs b k d k

-- ---- the place that is due is the stage's
place_by : (a : Event) (bs : Log) (s : Start) → SoFar a bs s → due_slow a.value (events_of bs) ≡ place_of s
unfolding due_slow events_of
place_by a bs s s0 = refl
place_by a bs s (s1 p1) = refl
place_by a bs s (s2 p1 p2) = refl
place_by a bs s (s3 p1 p2 p3) = refl
place_by a bs s (s4 p1 p2 p3 p4) = refl

pub slow_place : (m : ℕ) (a : Event) (bs : Log) → a.kind ≡ Address → Runs m a bs → due a (events_of bs) ≡ place_of (start_on a bs)
unfolding due is_address
slow_place m a bs k r =
    ap (λ (x : Kind). if is_address x then due_slow a.value (events_of bs) else due_fast (events_of bs)) k
    ∙ place_by a bs (start_on a bs) (way Address SoFar first one_more m a bs k r)

-- a pair that is right in a slow start is one that a link connects with
or_second : (a b c : Bool) → (a || (b && c)) ≡ true → (a || c) ≡ true
or_second true b c h = refl
or_second false true c h = h
or_second false false c h = absurd (false≢true h)

slow_pair : (address : ℕ) (pair : Pair) → is_slow_pair address pair ≡ true → is_link_pair pair ≡ true
unfolding is_slow_pair is_link_pair
slow_pair address pair h = or_second (is_good pair) (eqb address car_address) (is_car (edition_of pair)) h

-- ---- and from the bytes to the run
pub done_slow : (m : ℕ) (a : Event) (pair : Pair) (bs : Log) (b : Event) → m ≤ a.start.0 → SlowStart a pair (bs ▷ b)
    → Done m a bs b × ((start_on a bs).pair ≡ pair) × (is_link_pair pair ≡ true)
unfolding due_at onward is_last slow_start
done_slow m a pair bs b i (slow {s = s} {one = one} {two = two} {back = back} k p1 p2 p3 p4 p5) =
    let b1 = none ▷ s in
    let b2 = b1 ▷ one in
    let b3 = b2 ▷ two in
    let t0 = slow_start a.value in
    let t1 = onward t0 s.value in
    let t2 = onward t1 one.value in
    let t3 = onward t2 two.value in
    let t4 = onward t3 back.value in
    let o0 = on_first m a Address k i in
    let o1 = on_next m a none t0 s a.end refl refl o0 p1 refl in
    let o2 = on_next m a b1 t1 one s.end refl refl o1 p2 refl in
    let o3 = on_next m a b2 t2 two one.end refl refl o2 p3 refl in
    let o4 = on_next m a b3 t3 back two.end refl refl o3 p4 refl in (
      on_last m a (b3 ▷ back) t4 b back.end refl refl o4 p5 refl,
      ap (λ (x : Start). x.pair) o4.at,
      slow_pair a.value _ p3.2,
    )
