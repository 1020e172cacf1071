-- WHAT KEY BYTES DECIDE of a link's messages, said of bytes (document 01, "Key bytes" and "Connected."; document 02, "Five"). Which edition a unit speaks
-- goes by its pair of key bytes: ISO 14230, or ISO 9141-2 with 08 08 or 94 94, a car. What the demands ask of a session's pair is asked here and by
-- `is_slow_pair` (Starts.antt: whether it connects), `set_of` (timing/specs/Timing.antt: its windows), `data_of` (frame/specs/Read.antt: the data of its
-- frames, and none of a car's, whose key bytes `read` refuses), `reason_in` (Damage.antt: why its bytes are damage), `IsOver` and `CutsIn` (Messages.antt:
-- when a car's message ends), and `reply_once_ended` and `OpensIn` (Sessions.antt: what that leaves). All else is said of both editions at once.
-- Assumes nothing.
use Rattle.std.specs.Prelude.{ℕ, ◌+◌, ◌%◌, Bool, true, false, not, ◌&&◌, ◌||◌, List, [], ◌∷◌, eqb, leb, length, if◌then◌else◌}
use Rattle.base.specs.Numbers.{taken}
use Rattle.base.specs.Reports.{no_reason, broken_off, wrong_form, wrong_length, wrong_sum}
use Rattle.keys.specs.Keys.{is_good}
use Rattle.keys.specs.Editions.{edition_of, is_car, is_quick}
use Rattle.keys.specs.declared.Pair.{Pair}
use Rattle.frame.specs.Read.{read_of}
use Rattle.events.specs.Events.{is_tester}
use Rattle.events.specs.declared.Side.{Side}
use Rattle.events.specs.declared.Event.{Event}
use Rattle.demands.specs.Logs.{values_of, last_side}

-- a car's session, and one whose unit may answer at once
abbrev pub of_car : Pair → Bool
of_car pair = is_car (edition_of pair)

abbrev pub of_quick_car : Pair → Bool
of_quick_car pair = is_quick (edition_of pair)

-- THE PAIRS THAT A LINK CONNECTS WITH: "pair good", or a car's (from which start: Starts.antt)
unfoldable pub is_link_pair : Pair → Bool
is_link_pair pair = is_good pair || of_car pair

-- ---- A CAR'S MESSAGE
-- "A request is 68 6A F1, ..; a reply is 48 6B, the unit's address, ..": the bytes of the head that are fixed
unfoldable pub head_of : Side → List ℕ
head_of side = if is_tester side then 0x68 ∷ 0x6A ∷ 0xF1 ∷ [] else 0x48 ∷ 0x6B ∷ []

-- bytes begin as a head does, as far as both go
unfoldable pub agrees : List ℕ → List ℕ → Bool
agrees [] bytes = true
agrees (h ∷ hs) [] = true
agrees (h ∷ hs) (b ∷ bs) = eqb b h && agrees hs bs

-- "its last byte is the checksum": the sum of those before it, n of those that stand before these
unfoldable pub sums_up : ℕ → List ℕ → Bool
sums_up n [] = false
sums_up n (b ∷ []) = eqb b (n % 256)
sums_up n (b ∷ c ∷ bs) = sums_up (n + b) (c ∷ bs)

-- "a message of under 5 or over 11 bytes is damage reason 8 and a wrong head byte is 6, head before size before sum (9)"
unfoldable pub car_fault : Side → List ℕ → ℕ
car_fault side bytes =
    if not (agrees (head_of side) bytes) then wrong_form else
    if not (leb 5 (length bytes) && leb (length bytes) 11) then wrong_length else
    if sums_up 0 bytes then no_reason else wrong_sum

-- ---- WHAT A REPORT 1 NAMES: bytes that `read` takes, or a car's of this side without a fault
unfoldable pub is_frame : Pair → Side → List ℕ → Bool
is_frame pair side bytes =
    if of_car pair then eqb (car_fault side bytes) no_reason else eqb (read_of pair.kb1 pair.kb2 bytes).no taken

-- A MESSAGE THAT ENDS WITH ITS LAST BYTE: "A right checksum is report 1.", and so every frame of 14230 does. A car's message never does: "There is no
-- length: a message ends when 20 ms pass".
unfoldable pub ends_itself : Pair → List ℕ → Bool
ends_itself pair bytes = not (of_car pair) && eqb (read_of pair.kb1 pair.kb2 bytes).no taken

-- THE REASON OF A MESSAGE THAT HAS ENDED because 20 ms have passed: "report 2, reason 1"; a car's is its fault, "all judged when the gap has passed"
unfoldable pub reason_at_end : Pair → List Event → ℕ
reason_at_end pair bytes = if of_car pair then car_fault (last_side bytes) (values_of bytes) else broken_off
