-- Any two results that meet a public function's promise are equal. Assumes nothing.
use mathlib.Core.Path.{◌≡◌}
use mathlib.Core.Bool.{Bool}
use mathlib.Core.List.{List}
use Prim.Native.Nat.{ℕ}
use Rattle.base.proofs.One.{Only, only}
use Rattle.reports.specs.declared.Counts.{Counts}
use Rattle.reports.specs.declared.Report.{Report}
use Rattle.moves.specs.declared.Move.{Move}
use Rattle.reports.specs.declared.Reports.{Reports}
use Rattle.reports.specs.declared.Run.{Run}
use Rattle.reports.specs.Counting.{zero_counts, is_full, counted_byte, counted_event}
use Rattle.reports.specs.Reporting.{no_reports, listed, moved}

pub no_counts : Only (λ (r : Counts). r ≡ zero_counts)
no_counts = only zero_counts

pub is_full_lem : (events : ℕ) (c : Counts) → Only (λ (r : Bool). r ≡ is_full events c)
is_full_lem events c = only (is_full events c)

pub count_byte : (c : Counts) (hears : Bool) → Only (λ (r : Counts). r ≡ counted_byte c hears)
count_byte c hears = only (counted_byte c hears)

pub count_event : (c : Counts) (hears : Bool) (rs : Reports) → Only (λ (r : Counts). r ≡ counted_event c hears rs)
count_event c hears rs = only (counted_event c hears rs)

pub no_reports_lem : Only (λ (r : Reports). r ≡ no_reports)
no_reports_lem = only no_reports

pub as_slice : (rs : Reports) → Only (λ (r : List Report). r ≡ listed rs)
as_slice rs = only (listed rs)

pub make : (r : Run) (m : Move) → Only (λ (x : Run). x ≡ moved r m)
make r m = only (moved r m)
