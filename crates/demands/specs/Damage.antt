-- Why bytes are reported as damage, told by the values and sides of the bytes that report 2 names, from the first one on, and by the key bytes (document 01,
-- "Connected."; document 02, "Five"). Stated of any link in DemandTwo.antt; that it holds of ours is proved in proofs/Damage/DamageReasons.antt.
-- Assumes nothing.
use Rattle.std.specs.Prelude.{ℕ, ◌+◌, ◌/◌, ◌%◌, ◌<◌, Bool, true, not, ◌&&◌, List, [], ◌∷◌, ◌++◌, ◌≡◌, ◌⊎◌, eqb, leb, length, if◌then◌else◌}
use Rattle.base.specs.Reports.{no_reason, closed, mode_one, wrong_form, other_side, wrong_length, wrong_sum}
use Rattle.units.specs.declared.Micros.{Micros}
use Rattle.keys.specs.Keys.{length_in_format, extra_length, no_addresses, with_addresses, is_extended}
use Rattle.keys.specs.declared.Pair.{Pair}
use Rattle.frame.specs.Layout.{total}
use Rattle.events.specs.Events.{same_side}
use Rattle.events.specs.declared.Side.{Side}
use Rattle.events.specs.declared.Kind.TheVariants.{Byte}
use Rattle.events.specs.declared.Event.{Event}
use Rattle.reports.specs.declared.Report.{Report}
use Rattle.demands.specs.Logs.{Log, ◌▷◌, bytes_of, values_of, taken_of}
use Rattle.demands.specs.Refusals.{Not}
use Rattle.demands.specs.Frames.{low_six, addresses_in, size_said}
use Rattle.demands.specs.Editions.{of_car, reason_at_end}
use Rattle.demands.specs.Histories.{Machine}
use Rattle.demands.specs.Accounts.{bytes_named}
use Rattle.demands.specs.Sessions.{Turns, gap_before, EarlyAt, StrayAt}

-- ---- THE REASON THAT BYTES GIVE, of a message or of what would be one, by their values and sides and by KB1
-- "Then mode 01 (5), form not announced or functional under extended timing (6), a length place KB1 doesn't announce (8).": the first byte, of this value
unfoldable pub first_fault : ℕ → ℕ → ℕ
first_fault kb1 f =
    let mode = f / 64 in
    let low = f % 64 in
    if eqb mode 1 then mode_one else
    if eqb mode 0 && not (no_addresses kb1) then wrong_form else
    if leb 2 mode && not (with_addresses kb1) then wrong_form else
    if leb 3 mode && is_extended kb1 then wrong_form else
    if not (eqb low 0) && not (length_in_format kb1) then wrong_length else
    if eqb low 0 && not (extra_length kb1) then wrong_length else no_reason

-- the byte after these values is the extra length byte, which stands after the addresses; it is the checksum, with which the frame is as long as its
-- header says. (No byte comes after a right checksum.)
unfoldable pub is_length_byte : List ℕ → Bool
is_length_byte s = eqb (low_six s) 0 && eqb (length s) (1 + addresses_in s)

unfoldable pub is_checksum : List ℕ → Bool
is_checksum s = leb (size_said s) (length s + 1)

-- "Later: other side (7), length byte 0 (8), wrong checksum (9).": the byte b after bytes of this side and these values
unfoldable pub later_fault : Side → List ℕ → Event → ℕ
later_fault side s b =
    if not (same_side b.side side) then other_side else
    if is_length_byte s && eqb b.value 0 then wrong_length else
    if is_checksum s && not (eqb b.value (total s % 256)) then wrong_sum else no_reason

-- a byte after those before it, none of which fails
unfoldable pub fault_at : ℕ → List Event → Event → ℕ
fault_at kb1 [] b = first_fault kb1 b.value
fault_at kb1 (f ∷ bs) b = later_fault f.side (values_of (f ∷ bs)) b

-- "The failing byte joins; bytes are skipped": the reason is that of the first byte that fails, and none where no byte does
unfoldable pub reason_behind : ℕ → List Event → List Event → ℕ
reason_behind kb1 before [] = no_reason
reason_behind kb1 before (b ∷ bs) =
    if eqb (fault_at kb1 before b) no_reason then reason_behind kb1 (before ++ (b ∷ [])) bs else fault_at kb1 before b

-- of a car's bytes only one fault is settled as they come: "the other side's byte is still reason 7 at once"
unfoldable pub of_one_side : List Event → Bool
of_one_side [] = true
of_one_side (b ∷ []) = true
of_one_side (b ∷ c ∷ bs) = same_side c.side b.side && of_one_side (c ∷ bs)

unfoldable pub reason_in : Pair → List Event → ℕ
reason_in pair bs =
    if of_car pair then (if of_one_side bs then no_reason else other_side) else
    reason_behind pair.kb1 [] bs

-- a report's reason, where its bytes give the reason k, and the reason atEnd if they end as a message, and from the mark to the start of the report's event e
-- there is such a gap
pub record GoesBy (k at_end : ℕ) (e : Event) (gap : Micros) (r : Report) : Type 0 where
  -- "With damage being skipped: report 2, its reason.", "damage with its reason"
  pub wrong : Not (k ≡ no_reason) → r.reason ≡ k
  -- "20 ms passed since the mark with a message held: report 2, reason 1."; a car's message is judged then, and a unit's byte that ends it has it "judged as
  -- after the gap"
  pub ended : k ≡ no_reason → (20_000 < gap.0) ⊎ (e.kind ≡ Byte) → r.reason ≡ at_end
  -- "A, W or D then close what is open: a held message as report 2 reason 2"
  pub closed : k ≡ no_reason → Not (20_000 < gap.0) → Not (e.kind ≡ Byte) → r.reason ≡ closed

-- A REPORT 2 of the event e after es: its first byte, which was early or stray exactly if the reason is 3 or 4; and where it was neither, the reason goes
-- by the bytes that the report names, under the session's key bytes
pub record Damaged (m : Machine) (es : Log) (e : Event) (r : Report) : Type 0 where
  pub turns : Turns m (es ▷ e) r
  pub otherwise : Not (EarlyAt m turns.first.before turns.first.byte turns.first.talk)
      → Not (StrayAt m turns.first.before turns.first.byte turns.first.talk)
      → let bytes = bytes_named (bytes_of (taken_of es)) r in
      GoesBy (reason_in turns.first.talk.pair bytes) (reason_at_end turns.first.talk.pair bytes) e (gap_before (taken_of es) e) r
