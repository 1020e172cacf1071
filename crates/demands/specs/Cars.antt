-- WHAT THE DEMANDS SAY OF A CAR'S SESSION and no field of theirs says in one sentence (document 02, "Five"; sources: ISO 9141-2). It follows from the words
-- of the demands alone, and so holds of any link that meets them. Proved in proofs/Cars.antt.
-- Assumes nothing.
use Rattle.std.specs.Prelude.{ℕ, ◌+◌, ◌≤◌, true, List, [], ◌∷◌, ◌++◌, ◌↔◌, ◌⊎◌, ◌≡◌, length}
use Rattle.base.specs.Reports.{damage_report, no_reason, broken_off, mode_one}
use Rattle.keys.specs.declared.Pair.{Pair}
use Rattle.timing.specs.Timing.{set_of}
use Rattle.events.specs.declared.Side.{Side}
use Rattle.events.specs.declared.Event.{Event}
use Rattle.reports.specs.declared.Report.{Report}
use Rattle.demands.specs.Logs.{Log}
use Rattle.demands.specs.Refusals.{Not}
use Rattle.demands.specs.Editions.{of_car, car_fault}
use Rattle.demands.specs.Histories.{Machine}
use Rattle.demands.specs.Sessions.{Frames, Talk, pending_in, windows_in}
use Rattle.demands.specs.Endings.{AnswersStop}
use Rattle.demands.specs.Damage.{Damaged}

pub record OfCars (m : Machine) : Type 0 where
  -- ITS WINDOWS NEVER CHANGE: whatever frames there were, they are the set of its key bytes; ..
  pub windows : (pair : Pair) (fs : Frames) → of_car pair ≡ true → windows_in pair fs ≡ set_of pair
  -- .. "The rules on 82, 83 .. are for 14230 links only": no frame asks for anything that a later one could make take effect, ..
  pub asks_nothing : (pair : Pair) (fs : Frames) → of_car pair ≡ true → pending_in pair fs ≡ []
  -- .. and none answers a stop, so that no report 7 has reason 1 (`stops_exactly`).
  pub never_stopped : (t : Talk) (es : Log) (e : Event) → of_car t.pair ≡ true → Not (AnswersStop m t es e)
  -- ".. mode, form and length place ..": no report 2 has reason 5, and none has reason 1, for a message that ends is judged.
  pub never_so : (es : Log) (e : Event) (r : Report) → r.number ≡ damage_report → (d : Damaged m es e r) → of_car d.turns.first.talk.pair ≡ true
      → Not (r.reason ≡ broken_off) × Not (r.reason ≡ mode_one)
  -- TWO MESSAGES TAKEN FOR ONE. "There is no length": where no more than 20 ms lie between two messages of one side, each of them right, they are one
  -- message, and it is right too exactly if it is not too long and the first one's checksum is 00 or 80.
  pub two_as_one : (side : Side) (a b : List ℕ) (sum : ℕ) → car_fault side (a ++ (sum ∷ [])) ≡ no_reason → car_fault side b ≡ no_reason
      → (car_fault side ((a ++ (sum ∷ [])) ++ b) ≡ no_reason) ↔ ((length (a ++ (sum ∷ [])) + length b ≤ 11) × ((sum ≡ 0x00) ⊎ (sum ≡ 0x80)))
