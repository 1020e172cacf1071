-- Any link at all, and what it makes of events: from a fresh one with zero counts that only the link changes. Assumes nothing.
use Rattle.std.specs.Prelude.{ℕ, Bool, true, false, ◌||◌, List, [], ◌∷◌, ◌++◌, ◌≡◌, eqb}
use Rattle.events.specs.declared.Event.{Event}
use Rattle.reports.specs.Counting.{zero_counts}
use Rattle.reports.specs.declared.Report.{Report}
use Rattle.reports.specs.declared.Counts.{Counts}
use Rattle.demands.specs.Logs.{Log, none, ◌▷◌}

-- what a link answers to an event: a number, reports in order, and the counts brought up to date; and what it is then
pub record Told (Inner : Type 0) : Type 0 where
  pub link : Inner
  pub no : ℕ
  pub reports : List Report
  pub counts : Counts

-- ANY LINK AT ALL: what it may be inside, a fresh one, a step for any event with any counts lent, and how many bytes it shows to be held. The demands are said
-- of any such machine, and look at nothing inside it; they only say when an event leaves it as it was, or as another would.
pub record Machine : Type 1 where
  pub Inner : Type 0
  pub fresh : Inner
  pub step : Inner → Counts → Event → Told Inner
  pub held : Inner → ℕ

-- what a host keeps
pub record Host (Inner : Type 0) : Type 0 where
  pub link : Inner
  pub counts : Counts

abbrev pub kept : {Inner : Type 0} → Told Inner → Host Inner
kept s = record { link = s.link; counts = s.counts }

-- after events: the host's link and counts
unfoldable pub after : (m : Machine) → Log → Host m.Inner
after m none = record { link = m.fresh; counts = zero_counts }
after m (es ▷ e) = kept (m.step (after m es).link (after m es).counts e)

-- the answer to an event after events, with these counts lent; with the counts of the history, which only the link has changed
abbrev pub answer_with : (m : Machine) → Log → Counts → Event → Told m.Inner
answer_with m es c e = m.step (after m es).link c e

abbrev pub answer_to : (m : Machine) → Log → Event → Told m.Inner
answer_to m es e = answer_with m es (after m es).counts e

-- its reports
abbrev pub reports_to : Machine → Log → Event → List Report
reports_to m es e = (answer_to m es e).reports

-- all reports, in order
unfoldable pub reports_of : Machine → Log → List Report
reports_of m none = []
reports_of m (es ▷ e) = reports_of m es ++ reports_to m es e

-- how many bytes it shows to be held after events
abbrev pub held_by : Machine → Log → ℕ
held_by m es = m.held (after m es).link

-- A host may lend other counts with each event: the events with the counts that are lent for them, in order; the events alone; and the link after them
pub data Lendings : Type 0 where
  nothing : Lendings
  lend : Lendings → Counts → Event → Lendings

unfoldable pub lent_events : Lendings → Log
lent_events nothing = none
lent_events (lend h c e) = lent_events h ▷ e

unfoldable pub lent_link : (m : Machine) → Lendings → m.Inner
lent_link m nothing = m.fresh
lent_link m (lend h c e) = (m.step (lent_link m h) c e).link

-- what a fold makes of reports, in order
unfoldable pub folded : {S : Type 0} → (S → Report → S) → S → List Report → S
folded each s [] = s
folded each s (r ∷ rs) = folded each (each s r) rs

-- a report of this number is among them
unfoldable pub is_among : ℕ → List Report → Bool
is_among number [] = false
is_among number (r ∷ rs) = eqb r.number number || is_among number rs

abbrev pub Says : ℕ → List Report → Type 0
Says number rs = is_among number rs ≡ true

-- this very report is among them
pub data Among (r : Report) : List Report → Type 0 where
  first : {rs : List Report} → Among r (r ∷ rs)
  later : {rs : List Report} {s : Report} → Among r rs → Among r (s ∷ rs)

-- a report of this number and reason is among them
pub record Tells (number reason : ℕ) (rs : List Report) : Type 0 where
  pub report : Report
  pub made : Among report rs
  pub number_is : report.number ≡ number
  pub reason_is : report.reason ≡ reason

-- everything is as it was
pub record AsBefore {Inner : Type 0} (l : Inner) (c : Counts) (s : Told Inner) : Type 0 where
  pub link : s.link ≡ l
  pub counts : s.counts ≡ c
  pub reports : s.reports ≡ []
