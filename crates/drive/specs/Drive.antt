-- A link driven over a list of events in memory, three numbers each, and a digest of its reports. One or two numbers left over are not looked at, and
-- a refused event adds nothing. Assumes nothing.
use Rattle.std.specs.Prelude.{ℕ, zero, suc, ◌+◌, ◌*◌, ◌/◌, ◌%◌, ◌^◌, List, [], ◌∷◌, length, get_or}
use Rattle.units.specs.Units.{micros}
use Rattle.events.specs.Events.{kind_by, side_by}
use Rattle.events.specs.declared.Event.{Event}
use Rattle.link.specs.Handling.{fresh_link}
use Rattle.reports.specs.Reporting.{listed}
use Rattle.reports.specs.Counting.{zero_counts}
use Rattle.link.specs.Stepping.{step_of}
use Rattle.reports.specs.declared.Report.{Report}
use Rattle.drive.specs.declared.Driven.{Driven}

-- an event: value, side and kind (these two by their letters) in the lowest bytes of the first number, then start and end
unfoldable pub event_from : ℕ → ℕ → ℕ → Event
event_from head start end = record {
  start = micros start;
  end = micros end;
  kind = kind_by (head / 256 ^ 2 % 256);
  side = side_by (head / 256 % 256);
  value = head % 256;
}

-- the digest of a list of numbers: each time 31 times what there was and the next number, modulo 2 ^ 32
unfoldable pub mixed : ℕ → ℕ → ℕ
mixed digest x = (digest * 31 + x % 2 ^ 32) % 2 ^ 32

unfoldable pub mixed_report : ℕ → Report → ℕ
mixed_report digest x = mixed (mixed (mixed (mixed (mixed digest x.number) x.reason) x.first) x.bytes) x.time.0

unfoldable pub mixed_reports : ℕ → List Report → ℕ
mixed_reports digest [] = digest
mixed_reports digest (x ∷ xs) = mixed_reports (mixed_report digest x) xs

-- a fresh link with zero counts; one event more; the first k events
unfoldable pub begins : Driven
begins = record { link = fresh_link; counts = zero_counts; digest = 0 }

unfoldable pub driven_by : Driven → Event → Driven
driven_by d e = record {
  link = (step_of d.link d.counts e).answer.link;
  counts = (step_of d.link d.counts e).counts;
  digest = mixed_reports d.digest (listed (step_of d.link d.counts e).answer.reports);
}

unfoldable pub event_at : List ℕ → ℕ → Event
event_at s at = event_from (get_or s at 0) (get_or s (at + 1) 0) (get_or s (at + 2) 0)

abbrev pub driven_to : List ℕ → ℕ → Driven
driven_to s zero = begins
driven_to s (suc k) = driven_by (driven_to s k) (event_at s (3 * k))

-- the digest of all reports
unfoldable pub digest_of : List ℕ → ℕ
digest_of s = (driven_to s (length s / 3)).digest
