-- When an event gets which number (document 01, "Numbers a caller may get back"), as conditions. Assumes nothing.
use Rattle.std.specs.Prelude.{ℕ, ◌≤◌, ◌<◌, ◌≡◌, ◌↔◌, ◌⊎◌}
use Rattle.units.specs.declared.Micros.{Micros}
use Rattle.events.specs.declared.Kind.TheVariants.{Byte, Other}
use Rattle.events.specs.declared.Side.TheVariants.{Nobody}
use Rattle.events.specs.declared.Event.{Event}
use Rattle.reports.specs.declared.Counts.{Counts}

abbrev pub Not : Type 0 → Type 0
Not P = P → ⊥

-- what always holds
abbrev pub Always : Type 0
Always = Unit {0}

-- 1: "event kind or side unknown"; only a byte has a side
abbrev pub Unknown : Event → Type 0
Unknown e = (e.kind ≡ Other) ⊎ ((e.kind ≡ Byte) × (e.side ≡ Nobody))

-- 2: "a time above 4,000,000,000,000 microseconds"
abbrev pub TooLate : Event → Type 0
TooLate e = (4_000_000_000_000 < e.start.0) ⊎ (4_000_000_000_000 < e.end.0)

-- 3: "start after end, or start before the link's clock"
abbrev pub OutOfOrder : Micros → Event → Type 0
OutOfOrder clock e = (e.end.0 < e.start.0) ⊎ (e.start.0 < clock.0)

-- 4: "4,000,000,000 events already taken, or a lent count above that number"
abbrev pub Above : Counts → Type 0
Above c =
    (4_000_000_000 < c.heard)
    ⊎ (4_000_000_000 < c.framed)
    ⊎ (4_000_000_000 < c.damaged)
    ⊎ (4_000_000_000 < c.started)
    ⊎ (4_000_000_000 < c.outside)
    ⊎ (4_000_000_000 < c.frames)
    ⊎ (4_000_000_000 < c.damages)

abbrev pub TooMany : ℕ → Counts → Type 0
TooMany events c = (4_000_000_000 ≤ events) ⊎ Above c

-- THE NUMBER OF AN EVENT: each exactly when its condition holds and that of no smaller one does. "Where several apply, the smallest number is given."
pub record Numbered (clock : Micros) (events : ℕ) (c : Counts) (e : Event) (no : ℕ) : Type 0 where
  pub one : (no ≡ 1) ↔ Unknown e
  pub two : (no ≡ 2) ↔ (Not (Unknown e) × TooLate e)
  pub three : (no ≡ 3) ↔ (Not (Unknown e) × Not (TooLate e) × OutOfOrder clock e)
  pub four : (no ≡ 4) ↔ (Not (Unknown e) × Not (TooLate e) × Not (OutOfOrder clock e) × TooMany events c)
  pub taken : (no ≡ 0) ↔ (Not (Unknown e) × Not (TooLate e) × Not (OutOfOrder clock e) × Not (TooMany events c))
  pub no_other : no ≤ 4
