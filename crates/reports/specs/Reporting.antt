-- Reports: what one says, and how the move that it comes from is made (document 01, "Events and what the link does"). One definition makes a report, one
-- appends it.
-- Assumes nothing.
use Rattle.std.specs.Prelude.{ℕ, ◌+◌, ◌-◌, Bool, List, [], ◌∷◌, eqb, leb, ltb, take, slice_set, if◌then◌else◌}
use Rattle.std.proofs.Common.{refl, ◌∙◌}
use Rattle.std.proofs.Math.ListN.{length-set}
use Rattle.units.specs.Units.{micros}
use Rattle.phases.specs.declared.Phase.{Phase}
use Rattle.moves.specs.declared.Move.{Move}
use Rattle.reports.specs.declared.Report.{Report}
use Rattle.reports.specs.declared.Reports.{Reports}
use Rattle.reports.specs.declared.Run.{Run}

abbrev pub no_report : Report
no_report = record { first = 0; bytes = 0; time = micros 0; number = 0; reason = 0 }

-- the places for the reports of an event: "At most three per event", and four with document 02's "Five" ("one event may now give four reports")
abbrev pub places : ℕ
places = 4

abbrev pub no_reports : Reports
no_reports = record { places = no_report ∷ no_report ∷ no_report ∷ no_report ∷ []; n = 0; full = refl }

-- Reports 1 to 5 name the bytes held, 6, 7 and 8 none. (0 is no report, and is not asked.)
unfoldable pub names_bytes : ℕ → Bool
names_bytes number = leb number 5

-- "A report names its bytes by the first one's index and their number"; the index is "of the next byte where none"; "indexes come from the link".
-- "Bytes held are those of the open message, damage or initialization that no report has named yet": those from `named` up to `heard`.
unfoldable pub report_of : Run → ℕ → ℕ → Report
report_of r number reason = record {
  first = if names_bytes number then r.named else r.heard;
  bytes = if names_bytes number then r.heard - r.named else 0;
  time = r.time;
  number = number;
  reason = reason;
}

-- after the others, in the next place; where all places are taken, nothing
unfoldable pub appended : Reports → Report → Reports
appended rs r =
    if ltb rs.n places
    then record { places = slice_set rs.places rs.n r; n = rs.n + 1; full = length-set rs.places rs.n r ∙ rs.full }
    else rs

-- the places in order, ..
abbrev pub in_places : Reports → List Report
in_places rs = rs.places

-- .. and the reports, which are those in the first n
unfoldable pub listed : Reports → List Report
listed rs = take rs.n (in_places rs)

-- a move is made: its phase, and its report if it has one
unfoldable pub told : Run → Move → Run
told r m = record {
  phase = m.phase;
  heard = r.heard;
  named = if names_bytes m.number then r.heard else r.named;
  time = r.time;
  reports = appended r.reports (report_of r m.number m.reason);
}

abbrev pub with_phase : Run → Phase → Run
with_phase r p = record { phase = p; heard = r.heard; named = r.named; time = r.time; reports = r.reports }

unfoldable pub moved : Run → Move → Run
moved r m = if eqb m.number 0 then with_phase r m.phase else told r m
