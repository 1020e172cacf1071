-- What a good initialization is (document 01, "Slow." and "Fast."): the places that its bytes take in turn, and the place that is due after the bytes so
-- far. All of it is said of sides, values, starts and ends; nothing here speaks of a link.
-- Assumes nothing.
use Rattle.std.specs.Prelude.{ℕ, ◌+◌, ◌-◌, ◌%◌, ◌≤◌, Bool, true, false, List, [], ◌∷◌, ◌≡◌, ◌⊎◌, eqb, if◌then◌else◌}
use Rattle.units.specs.declared.Micros.{Micros}
use Rattle.keys.specs.Keys.{pair_of, is_good}
use Rattle.keys.specs.Editions.{is_slow_pair}
use Rattle.keys.specs.declared.Pair.{Pair}
use Rattle.events.specs.declared.Kind.{Kind}
use Rattle.events.specs.declared.Kind.TheVariants.{Address, WakeUp, Byte, Tick, Drop, Other}
use Rattle.events.specs.declared.Side.{Side}
use Rattle.events.specs.declared.Side.TheVariants.{Tester, Unit}
use Rattle.events.specs.declared.Event.{Event}
use Rattle.demands.specs.Logs.{Log, none, ◌▷◌}
use Rattle.demands.specs.Refusals.{Always}

-- t is lo to hi microseconds after s. "All windows include both ends."
abbrev pub Window : ℕ → ℕ → Micros → Micros → Type 0
Window lo hi s t = (s.0 + lo ≤ t.0) × (t.0 ≤ s.0 + hi)

-- ---- A PLACE of an initialization
-- which values fit there
pub data Value : Type 0 where
  any : Value
  only : ℕ → Value
  one_of : List ℕ → Value
  -- a KB2 that makes a pair with this KB1 which is right in a slow start from this address
  paired_with : ℕ → ℕ → Value
  -- this checksum, after these key bytes, which are a good pair: "checksum and pair both at the checksum byte"
  sum_behind : ℕ → Pair → Value

unfoldable pub IsOne : List ℕ → ℕ → Type 0
IsOne [] v = ⊥
IsOne (x ∷ xs) v = (v ≡ x) ⊎ IsOne xs v

abbrev pub Fits : Value → ℕ → Type 0
Fits any v = Always
Fits (only x) v = v ≡ x
Fits (one_of xs) v = IsOne xs v
Fits (paired_with address kb1) v = is_slow_pair address (pair_of kb1 v) ≡ true
Fits (sum_behind sum pair) v = (v ≡ sum) × (is_good pair ≡ true)

-- whose byte is due there, how early and how late it may start, which values fit, and whether it is the initialization's last
pub record Place : Type 0 where
  pub side : Side
  pub earliest : ℕ
  pub latest : ℕ
  pub value : Value
  pub last : Bool

abbrev pub place : Side → ℕ → ℕ → Value → Place
place side earliest latest value = record { side = side; earliest = earliest; latest = latest; value = value; last = false }

abbrev pub last_place : Side → ℕ → ℕ → Value → Place
last_place side earliest latest value = record { side = side; earliest = earliest; latest = latest; value = value; last = true }

-- A BYTE IS RIGHT at a place whose window runs from this time
abbrev pub Right : Place → Micros → Event → Type 0
Right p from b = (b.side ≡ p.side) × Window p.earliest p.latest from b.start × Fits p.value b.value

-- ---- SLOW
-- "From the address: unit 55 after 60 to 300 ms"
abbrev pub sync : Place
sync = place Unit 60_000 300_000 (only 0x55)

-- "KB1 after 5 to 20"
abbrev pub key_one : Place
key_one = place Unit 5_000 20_000 any

-- "KB2 after 0 to 20, pair good", or, after address 33, 08 08 or 94 94 (document 02, "Five")
abbrev pub key_two : ℕ → ℕ → Place
key_two address kb1 = place Unit 0 20_000 (paired_with address kb1)

-- "tester 255 minus KB2 after 25 to 50"
abbrev pub key_back : ℕ → Place
key_back kb2 = place Tester 25_000 50_000 (only (255 - kb2))

-- "unit 255 minus address after 25 to 50"
abbrev pub address_back : ℕ → Place
address_back address = last_place Unit 25_000 50_000 (only (255 - address))

-- A GOOD SLOW START from the address event a, with its KB1 and KB2: five bytes, each right at its place. "From the address", and then from byte to byte.
pub data SlowStart (a : Event) : Pair → Log → Type 0 where
  slow : {s one two back done : Event} → a.kind ≡ Address → Right sync a.end s → Right key_one s.end one → Right (key_two a.value one.value) one.end two
      → Right (key_back two.value) two.end back → Right (address_back a.value) back.end done
      → SlowStart a (pair_of one.value two.value) (none ▷ s ▷ one ▷ two ▷ back ▷ done)

-- ---- FAST, from the wake-up event w, which falls at its start and rises at its end
-- "Low for 24 to 26 ms"
abbrev pub Low : Event → Type 0
Low w = Window 24_000 26_000 w.start w.end

-- "Tester's first byte starts 49 to 51 ms after the fall." It is "81 or C1".
abbrev pub asks : Place
asks = place Tester 49_000 51_000 (one_of (0x81 ∷ 0xC1 ∷ []))

-- "gaps up to 20 ms"
abbrev pub next : Side → Value → Place
next side value = place side 0 20_000 value

-- "The reply starts 25 to 50 ms later, .. any of the four layouts in mode 00 or 10" of three data bytes: 83 has target and source, 80 these and an extra
-- length byte, 00 an extra length byte, 03 neither
abbrev pub replies : Place
replies = place Unit 25_000 50_000 (one_of (0x03 ∷ 0x00 ∷ 0x83 ∷ 0x80 ∷ []))

-- the checksum of the reply, the last byte of all
abbrev pub reply_sum : ℕ → Pair → Place
reply_sum sum pair = last_place Unit 0 20_000 (sum_behind (sum % 256) pair)

-- "The request is 81 or C1, target, source, 81, checksum": its bytes, and the last of them
pub data Request (w : Event) : Log → Event → Type 0 where
  request : {f t s d c : Event} → w.kind ≡ WakeUp → Low w → Right asks w.start f → Right (next Tester any) f.end t → Right (next Tester any) t.end s
      → Right (next Tester (only 0x81)) s.end d → Right (next Tester (only ((f.value + t.value + s.value + d.value) % 256))) d.end c
      → Request w (none ▷ f ▷ t ▷ s ▷ d ▷ c) c

-- The request and the header of the reply: the bytes, the last of them, and the sum of the header. "the addresses may be any"
pub data Header (w : Event) : Log → Event → ℕ → Type 0 where
  plain : {bs : Log} {c f : Event} → Request w bs c → Right replies c.end f → f.value ≡ 0x03 → Header w (bs ▷ f) f f.value
  plain_long : {bs : Log} {c f len : Event} → Request w bs c → Right replies c.end f → f.value ≡ 0x00 → Right (next Unit (only 3)) f.end len
      → Header w (bs ▷ f ▷ len) len (f.value + len.value)
  addressed : {bs : Log} {c f t s : Event} → Request w bs c → Right replies c.end f → f.value ≡ 0x83 → Right (next Unit any) f.end t
      → Right (next Unit any) t.end s → Header w (bs ▷ f ▷ t ▷ s) s (f.value + t.value + s.value)
  addressed_long : {bs : Log} {c f t s len : Event} → Request w bs c → Right replies c.end f → f.value ≡ 0x80 → Right (next Unit any) f.end t
      → Right (next Unit any) t.end s → Right (next Unit (only 3)) s.end len
      → Header w (bs ▷ f ▷ t ▷ s ▷ len) len (f.value + t.value + s.value + len.value)

-- A GOOD FAST START, with its KB1 and KB2. "data C1 KB1 KB2, pair good", and the checksum
pub data FastStart (w : Event) : Pair → Log → Type 0 where
  fast : {bs : Log} {h service one two sum : Event} {n : ℕ} → Header w bs h n → Right (next Unit (only 0xC1)) h.end service
      → Right (next Unit any) service.end one → Right (next Unit any) one.end two
      → Right (reply_sum (n + service.value + one.value + two.value) (pair_of one.value two.value)) two.end sum
      → FastStart w (pair_of one.value two.value) (bs ▷ service ▷ one ▷ two ▷ sum)

-- ---- THE PLACE THAT IS DUE after an address or wake-up and the bytes so far, which were right
unfoldable pub due_slow : ℕ → List Event → Place
due_slow address [] = sync
due_slow address (s ∷ []) = key_one
due_slow address (s ∷ one ∷ []) = key_two address one.value
due_slow address (s ∷ one ∷ two ∷ []) = key_back two.value
due_slow address (s ∷ one ∷ two ∷ back ∷ bs) = address_back address

-- in the reply, after a header of this sum: C1 KB1 KB2, checksum; ..
unfoldable pub due_data : ℕ → List Event → Place
due_data sum [] = next Unit (only 0xC1)
due_data sum (service ∷ []) = next Unit any
due_data sum (service ∷ one ∷ []) = next Unit any
due_data sum (service ∷ one ∷ two ∷ bs) = reply_sum (sum + service.value + one.value + two.value) (pair_of one.value two.value)

-- .. after what stands before an extra length byte; ..
unfoldable pub due_length : ℕ → List Event → Place
due_length sum [] = next Unit (only 3)
due_length sum (len ∷ bs) = due_data (sum + len.value) bs

-- .. after a format byte with target and source, and whether an extra length byte follows them
unfoldable pub due_addresses : Bool → ℕ → List Event → Place
due_addresses long sum [] = next Unit any
due_addresses long sum (t ∷ []) = next Unit any
due_addresses long sum (t ∷ s ∷ bs) = if long then due_length (sum + t.value + s.value) bs else due_data (sum + t.value + s.value) bs

unfoldable pub due_reply : List Event → Place
due_reply [] = replies
due_reply (f ∷ bs) =
    if eqb f.value 0x83 then due_addresses false f.value bs else
    if eqb f.value 0x80 then due_addresses true f.value bs else
    if eqb f.value 0x00 then due_length f.value bs else due_data f.value bs

unfoldable pub due_fast : List Event → Place
due_fast [] = asks
due_fast (f ∷ []) = next Tester any
due_fast (f ∷ t ∷ []) = next Tester any
due_fast (f ∷ t ∷ s ∷ []) = next Tester (only 0x81)
due_fast (f ∷ t ∷ s ∷ d ∷ []) = next Tester (only ((f.value + t.value + s.value + d.value) % 256))
due_fast (f ∷ t ∷ s ∷ d ∷ c ∷ bs) = due_reply bs

unfoldable pub is_address : Kind → Bool
is_address Address = true
is_address WakeUp = false
is_address Byte = false
is_address Tick = false
is_address Drop = false
is_address Other = false

-- slow from an address, fast from a wake-up
unfoldable pub due : Event → List Event → Place
due a bs = if is_address a.kind then due_slow a.value bs else due_fast bs

-- the time that its window runs from: "From the address", "after the fall", and then the end of the byte before
unfoldable pub due_from : Event → Log → Micros
due_from a none = if is_address a.kind then a.end else a.start
due_from a (bs ▷ b) = b.end
