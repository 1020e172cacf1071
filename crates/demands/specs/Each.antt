-- What each report of an event says, whatever the events before it (document 01, "Events and what the link does"). Stated of
-- any link in DemandTwo.antt; that it holds of ours is proved in proofs/Endings/EachFormed.antt.
-- Assumes nothing.
use Rattle.std.specs.Prelude.{◌≤◌, ◌≡◌, ◌⊎◌}
use Rattle.base.specs.Reports.{frame_report, damage_report, connected_report, failed_report, outside_report, no_reply_report, down_report, not_idle_report, no_reason}
use Rattle.events.specs.declared.Event.{Event}
use Rattle.reports.specs.declared.Report.{Report}

-- "Reports: 1 frame, 2 damage, 3 connected, 4 failed, 5 outside byte, 6 no reply, 7 down, 8 not idle; reason 0 where none is named"
pub record Formed (e : Event) (r : Report) : Type 0 where
  -- "event's end time"
  pub time : r.time ≡ e.end
  pub number : (1 ≤ r.number) × (r.number ≤ 8)
  -- 1, 3, 5, 6 and 8 have no reason
  pub no_reason_lem : (r.number ≡ frame_report) ⊎ (r.number ≡ connected_report) ⊎ (r.number ≡ outside_report) ⊎ (r.number ≡ no_reply_report)
      ⊎ (r.number ≡ not_idle_report)
      → r.reason ≡ no_reason
  -- 2 has one of nine, 4 one of six, 7 one of four
  pub damage : r.number ≡ damage_report → (1 ≤ r.reason) × (r.reason ≤ 9)
  pub failed : r.number ≡ failed_report → (1 ≤ r.reason) × (r.reason ≤ 6)
  pub down : r.number ≡ down_report → (1 ≤ r.reason) × (r.reason ≤ 4)
  -- 6, 7 and 8 name no byte; 1, 2 and 3 at least one, 5 exactly one
  pub none : (r.number ≡ no_reply_report) ⊎ (r.number ≡ down_report) ⊎ (r.number ≡ not_idle_report) → r.bytes ≡ 0
  pub some : (r.number ≡ frame_report) ⊎ (r.number ≡ damage_report) ⊎ (r.number ≡ connected_report) → 1 ≤ r.bytes
  pub one : r.number ≡ outside_report → r.bytes ≡ 1
