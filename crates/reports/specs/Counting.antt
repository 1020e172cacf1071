-- The seven counts (document 01, "Counts: bytes heard, bytes in reports 1, 2, 3 with 4, and 5; reports 1; reports 2").
-- Assumes nothing.
use Rattle.std.specs.Prelude.{ℕ, Bool, ◌||◌, List, [], ◌∷◌, eqb, leb, ltb, if◌then◌else◌}
use Rattle.base.specs.Sums.{count_sum}
use Rattle.base.specs.Reports.{frame_report, damage_report, connected_report, failed_report, outside_report}
use Rattle.reports.specs.Reporting.{listed}
use Rattle.reports.specs.declared.Report.{Report}
use Rattle.reports.specs.declared.Reports.{Reports}
use Rattle.reports.specs.declared.Counts.{Counts}

-- "They have 64 bits and start at 0"
unfoldable pub zero_counts : Counts
zero_counts = record { heard = 0; framed = 0; damaged = 0; started = 0; outside = 0; frames = 0; damages = 0 }

-- "4,000,000,000 events already taken, or a lent count above that number"
abbrev pub most : ℕ
most = 4_000_000_000

unfoldable pub is_full : ℕ → Counts → Bool
is_full events c =
    leb most events
    || ltb most c.heard
    || ltb most c.framed
    || ltb most c.damaged
    || ltb most c.started
    || ltb most c.outside
    || ltb most c.frames
    || ltb most c.damages

-- a report's share in a count
abbrev pub share : Bool → ℕ → ℕ
share counts n = if counts then n else 0

-- a report is counted
unfoldable pub counted_one : Counts → Report → Counts
counted_one c x = record {
  heard = c.heard;
  framed = count_sum c.framed (share (eqb x.number frame_report) x.bytes);
  damaged = count_sum c.damaged (share (eqb x.number damage_report) x.bytes);
  started = count_sum c.started (share (eqb x.number connected_report || eqb x.number failed_report) x.bytes);
  outside = count_sum c.outside (share (eqb x.number outside_report) x.bytes);
  frames = count_sum c.frames (share (eqb x.number frame_report) 1);
  damages = count_sum c.damages (share (eqb x.number damage_report) 1);
}

-- reports are counted, one after the other
unfoldable pub counted_all : Counts → List Report → Counts
counted_all c [] = c
counted_all c (x ∷ xs) = counted_all (counted_one c x) xs

-- a byte is heard
unfoldable pub counted_byte : Counts → Bool → Counts
counted_byte c hears = record {
  heard = count_sum c.heard (share hears 1);
  framed = c.framed;
  damaged = c.damaged;
  started = c.started;
  outside = c.outside;
  frames = c.frames;
  damages = c.damages;
}

-- an event that was taken is counted: its byte if it is one, and its reports
unfoldable pub counted_event : Counts → Bool → Reports → Counts
counted_event c hears rs = counted_all (counted_byte c hears) (listed rs)
