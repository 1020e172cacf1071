-- The order of an event's reports, and which bytes a report 4 names (document 01, "Events and what the link does"). Assumes nothing.
use Rattle.std.specs.Prelude.{ℕ, ◌+◌, ◌<◌, not, ◌&&◌, ◌||◌, List, [], ◌∷◌, ◌⊎◌, ◌≡◌, eqb, if◌then◌else◌}
use Rattle.base.specs.Reports.{frame_report, damage_report, failed_report, no_reply_report, down_report, not_idle_report}
use Rattle.base.specs.Reports.{window_over, closed, wrong_low, wrong_side, too_early, misfit, stopped, idle_over}
use Rattle.reports.specs.declared.Report.{Report}

-- THE PLACE OF A REPORT'S RULE among the rules, by number and reason, in document 01's order. Time passes first: 2, or 1 of a car's message (document 02:
-- "The P2 and P3 rules act after that"); 6, 7 reason 2, 4 reason 1. "A, W or D then close what is open": 2 (at an event it is made once, by passing time, by
-- closing, or as a unit's byte ends a car's message, which then has 1 or 2 before it acts), 4 reason 2, 7 reason 3 or 4. Then a start is judged: 8, 4
-- reason 3. A byte itself makes one report at most: report 1, report 3, report 5, or report 4 with reason 4, 5 or 6; where it is a report 1, a message was
-- held and in time, so that nothing comes before it, and it has the place of a report 2. Last, "report 1, then 7 reason 1".
unfoldable pub rule_of : ℕ → ℕ → ℕ
rule_of number reason =
    if eqb number damage_report || eqb number frame_report then 1 else
    if eqb number no_reply_report then 2 else
    if eqb number down_report && eqb reason idle_over then 3 else
    if eqb number failed_report && eqb reason window_over then 4 else
    if eqb number failed_report && eqb reason closed then 5 else
    if eqb number down_report && not (eqb reason stopped) then 6 else
    if eqb number not_idle_report then 7 else
    if eqb number failed_report && eqb reason wrong_low then 8 else
    if not (eqb number down_report) then 9 else 10

-- REPORTS IN ORDER: the rule of each comes after the rule of the one before it, and so there are no two of one rule. (The rules are numbered from 1 on.)
pub data InOrder : ℕ → List Report → Type 0 where
  none : {before : ℕ} → InOrder before []
  next : {before : ℕ} {r : Report} {rs : List Report} → before < rule_of r.number r.reason → InOrder (rule_of r.number r.reason) rs
      → InOrder before (r ∷ rs)

-- THE BYTES OF A REPORT 4, with so many held before its event. (From which index on is said by demand 3: the number of bytes named before.)
pub record NamesFailed (held : ℕ) (r : Report) : Type 0 where
  -- "the present window's end passed: report 4 reason 1", "initialization as report 4 reason 2": all that were held
  pub ended : (r.reason ≡ window_over) ⊎ (r.reason ≡ closed) → r.bytes ≡ held
  -- "Low for 24 to 26 ms, else report 4 reason 3 at once.": none
  pub low : r.reason ≡ wrong_low → r.bytes ≡ 0
  -- "A byte that fails joins its initialization: report 4": those held, and that byte
  pub joined : (r.reason ≡ wrong_side) ⊎ (r.reason ≡ too_early) ⊎ (r.reason ≡ misfit) → r.bytes ≡ held + 1
