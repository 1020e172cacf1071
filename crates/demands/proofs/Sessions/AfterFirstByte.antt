-- A message's first byte by the session BEHIND its event, whose reports have changed it already: what the link keeps of a message is in step with it. The
-- words of specs/Sessions.antt and specs/Messages.antt go by the session before the byte; proofs/Sessions/OpeningByte.antt leads from the one to the other.
-- Assumes nothing.
use Prim.Native.Nat.{ℕ}
use mathlib.Core.Bool.{true}
use mathlib.Core.List.{List, [], ◌∷◌, ◌++◌}
use mathlib.Core.Path.{◌≡◌}
use mathlib.Core.Logic.{◌↔◌, ◌⊎◌}
use lib.ListN.{length}
use Rattle.base.specs.Numbers.{taken}
use Rattle.base.specs.Reports.{damage_report, early, stray}
use Rattle.events.specs.declared.Kind.TheVariants.{Byte, Tick}
use Rattle.events.specs.declared.Event.{Event}
use Rattle.reports.specs.declared.Report.{Report}
use Rattle.demands.specs.Logs.{Log, ◌▷◌, heard_in, number_after, taken_of, Begins}
use Rattle.demands.specs.Refusals.{Not}
use Rattle.demands.specs.Editions.{is_frame, ends_itself}
use Rattle.demands.specs.Histories.{after}
use Rattle.demands.specs.Sessions.{Talk, Session, gap_before, Early, Stray}
use Rattle.demands.specs.Messages.{InTime, IsOver}
use Rattle.demands.specs.Ours.{ours}

-- a byte of the session t after it, and none but it is held then
pub record FirstOf (t : Talk) (before : Log) (b : Event) : Type 0 where
  pub session : Session ours (before ▷ b) t
  pub kind : b.kind ≡ Byte
  pub number : number_after (taken_of before) b ≡ taken
  pub alone : (after ours (before ▷ b)).link.named ≡ length (heard_in before)

pub record Starts (t : Talk) (before : Log) (b : Event) : Type 0 where
  pub first : FirstOf t before b
  pub timely : Not (Early t t.reply (gap_before (taken_of before) b) b)
  pub expected : Not (Stray t t.reply (gap_before (taken_of before) b) b)

-- the message from it on
pub data Speaking (t : Talk) (b : Event) : Log → List ℕ → Type 0 where
  begins : {before : Log} → Starts t before b → Speaking t b (before ▷ b) (b.value ∷ [])
  refused : {log : Log} {bytes : List ℕ} {e : Event} → Speaking t b log bytes → Not (number_after (taken_of log) e ≡ taken) → Speaking t b (log ▷ e) bytes
  waits : {log : Log} {bytes : List ℕ} {e : Event} → Speaking t b log bytes → number_after (taken_of log) e ≡ taken → e.kind ≡ Tick
      → InTime (taken_of log) e → Speaking t b (log ▷ e) bytes
  grows : {log : Log} {bytes : List ℕ} {e : Event} → Speaking t b log bytes → Not (ends_itself t.pair bytes ≡ true)
      → number_after (taken_of log) e ≡ taken → e.kind ≡ Byte → e.side ≡ b.side → InTime (taken_of log) e
      → Speaking t b (log ▷ e) (bytes ++ (e.value ∷ []))

-- its end in a frame
pub record Finishes (es : Log) (e : Event) (bytes : List ℕ) : Type 0 where
  pub talk : Talk
  pub first : Event
  pub number : number_after (taken_of es) e ≡ taken
  pub frame : is_frame talk.pair first.side bytes ≡ true
  pub ends : (Speaking talk first (es ▷ e) bytes × (e.kind ≡ Byte) × (ends_itself talk.pair bytes ≡ true))
      ⊎ (Speaking talk first es bytes × IsOver talk first es e)

-- and what its report says of the first byte
pub record Turned (es : Log) (r : Report) : Type 0 where
  pub before : Log
  pub byte : Event
  pub talk : Talk
  pub begins : Begins (before ▷ byte) es
  pub first : FirstOf talk before byte
  pub index : length (heard_in before) ≡ r.first
  pub early : ((r.number ≡ damage_report) × (r.reason ≡ early)) ↔ Early talk talk.reply (gap_before (taken_of before) byte) byte
  pub stray : ((r.number ≡ damage_report) × (r.reason ≡ stray)) ↔ Stray talk talk.reply (gap_before (taken_of before) byte) byte
