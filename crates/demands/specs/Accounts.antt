-- What reports name, bytes held, and counts worked out from a history, for demands 2 and 3. Assumes nothing.
use Rattle.std.specs.Prelude.{ℕ, ◌+◌, ◌-◌, ◌≤◌, List, [], ◌∷◌, ◌++◌, ◌≡◌, eqb, length, take, drop, if◌then◌else◌}
use Rattle.base.specs.Reports.{frame_report, damage_report, connected_report, failed_report, outside_report}
use Rattle.events.specs.declared.Event.{Event}
use Rattle.reports.specs.declared.Report.{Report}
use Rattle.reports.specs.declared.Counts.{Counts}
use Rattle.demands.specs.Logs.{Log, heard_in}
use Rattle.demands.specs.Histories.{Machine, after, reports_to, reports_of, held_by}

-- "A report names its bytes by the first one's index and their number": those bytes among the ones heard
unfoldable pub named_by : List ℕ → Report → List ℕ
named_by heard r = take r.bytes (drop r.first heard)

-- the same bytes, as events
unfoldable pub bytes_named : List Event → Report → List Event
bytes_named heard r = take r.bytes (drop r.first heard)

-- the bytes that reports name, in order
unfoldable pub all_named : List ℕ → List Report → List ℕ
all_named heard [] = []
all_named heard (r ∷ rs) = named_by heard r ++ all_named heard rs

-- the last so many bytes
unfoldable pub last_of : ℕ → List ℕ → List ℕ
last_of n heard = drop (length heard - n) heard

-- each report's first index is the number of bytes named before it, n of them before the first report
pub data InTurn : ℕ → List Report → Type 0 where
  none : {n : ℕ} → InTurn n []
  behind : {n : ℕ} {r : Report} {rs : List Report} → r.first ≡ n → InTurn (n + r.bytes) rs → InTurn n (r ∷ rs)

-- "Counts: bytes heard, bytes in reports 1, 2, 3 with 4, and 5; reports 1; reports 2."
unfoldable pub bytes_in : ℕ → List Report → ℕ
bytes_in number [] = 0
bytes_in number (r ∷ rs) = (if eqb r.number number then r.bytes else 0) + bytes_in number rs

unfoldable pub reports_in : ℕ → List Report → ℕ
reports_in number [] = 0
reports_in number (r ∷ rs) = (if eqb r.number number then 1 else 0) + reports_in number rs

unfoldable pub counts_of : List ℕ → List Report → Counts
counts_of heard rs = record {
  heard = length heard;
  framed = bytes_in frame_report rs;
  damaged = bytes_in damage_report rs;
  started = bytes_in connected_report rs + bytes_in failed_report rs;
  outside = bytes_in outside_report rs;
  frames = reports_in frame_report rs;
  damages = reports_in damage_report rs;
}

-- counts with others added
unfoldable pub added : Counts → Counts → Counts
added c d = record {
  heard = c.heard + d.heard;
  framed = c.framed + d.framed;
  damaged = c.damaged + d.damaged;
  started = c.started + d.started;
  outside = c.outside + d.outside;
  frames = c.frames + d.frames;
  damages = c.damages + d.damages;
}

-- how many bytes reports name
unfoldable pub named_in : List Report → ℕ
named_in [] = 0
named_in (r ∷ rs) = r.bytes + named_in rs

-- "Bytes held are those of the open message, damage or initialization that no report has named yet": how many were heard and not named
unfoldable pub held_in : Machine → Log → ℕ
held_in m es = length (heard_in es) - named_in (reports_of m es)

-- DEMAND 3 of a link, after the events es
pub record Accounted (m : Machine) (es : Log) : Type 0 where
  -- "the bytes the reports name, in order, followed by those held, are the bytes heard, each once"
  pub bytes : all_named (heard_in es) (reports_of m es) ++ last_of (held_in m es) (heard_in es) ≡ heard_in es
  -- none is named before it is heard
  pub heard : named_in (reports_of m es) ≤ length (heard_in es)
  -- the first index of each report is the number of bytes named before it
  pub indexes : InTurn 0 (reports_of m es)
  -- "every count equals the one worked out from that history"
  pub counts : (after m es).counts ≡ counts_of (heard_in es) (reports_of m es)
  -- so many bytes the link says that it holds
  pub held : held_by m es ≡ held_in m es
  -- "one event may now give four reports" (document 02, "Five"; in a session of 14230 and outside sessions no event gives more than three: `three_at_most`)
  pub four : (e : Event) → length (reports_to m es e) ≤ 4
