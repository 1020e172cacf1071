-- Demand 3's work: what is named and then what is held is what was heard, and the counts add up. Assumes nothing.
use Prim.Native.Nat.{ℕ, ◌+◌, ◌-◌, ◌≤◌}
use mathlib.Core.List.{List, ◌++◌}
use mathlib.Core.Bool.{false}
use Rattle.phases.specs.Phases.{is_starting, is_open}
use mathlib.Core.Path.{◌≡◌, sym, ap, ◌∙◌}
use native.Mathlib.Nat.{sub-zero}
use native.Mathlib.Omega.{arith}
use lib.ListN.{length, take-append-drop}
use Rattle.events.specs.declared.Event.{Event}
use Rattle.reports.specs.Reporting.{listed}
use Rattle.reports.specs.declared.Report.{Report}
use Rattle.reports.specs.declared.Counts.{Counts}
use Rattle.reports.proofs.Places.{listed_few}
use Rattle.link.specs.Stepping.{taken_by}
use Rattle.link.specs.declared.Link.{Link}
use Rattle.link.specs.Answers.{Answer}
use Rattle.link.specs.Telling.{handled_tells}
use Rattle.link.proofs.Four.{four_enough}
use Rattle.text.specs.Text.{head_text, end_text}
use Rattle.listing.specs.Listing.{held_of, listing_of}
use Rattle.demands.specs.Logs.{Log, heard_in}
use Rattle.demands.specs.Histories.{after, reports_of}
use Rattle.demands.specs.Accounts.{all_named, last_of, counts_of, held_in, Accounted}
use Rattle.demands.proofs.Histories.Tiling.{Tiled}
use Rattle.demands.proofs.Histories.Counting.{tiled_sums}
use Rattle.demands.proofs.Histories.Invariant.{kept_of}
use Rattle.demands.proofs.Histories.Basics.{basics, numbers_by_history, answer_taken, calm, held_is}
use Rattle.demands.proofs.Histories.NamedInTurn.{tiled_turns, tiled_names, tiled_named}
use Rattle.demands.specs.Inputs.{history_of, said_for}
use Rattle.demands.proofs.Accounts.ListingShows.{listing_history}
use Rattle.demands.specs.Ours.{ours, our_answer}

-- ---- what is named, and then what is held, is what was heard
pub all_heard : (heard : List ℕ) (xs : List Report) (l : Link) → Tiled 0 xs l.named → l.named ≤ l.heard → l.heard ≡ length heard
    → all_named heard xs ++ last_of (held_of l) heard ≡ heard
unfolding last_of held_of
all_heard heard xs l t o e =
    let k : length heard - (l.heard - l.named) ≡ l.named = omega arith in
    rw (tiled_names heard t, sub-zero l.named, k) (take-append-drop l.named heard)

held_none : (l : Link) → l.named ≡ l.heard → held_of l ≡ 0
unfolding held_of
held_none l e = omega arith

-- beside demand 3: none is held while neither a message, nor damage, nor an initialization is open
pub idle_none : (es : Log) → is_open (after ours es).link.phase.state ≡ false → is_starting (after ours es).link.phase.state ≡ false → held_in ours es ≡ 0
idle_none es o s = sym (held_is es) ∙ held_none (after ours es).link (calm es o s)

-- every byte is accounted for
pub accounted : (es : Log) → Accounted ours es
accounted es =
    let k = kept_of es in
    let b = basics es in
    let l = (after ours es).link in
    record {
      bytes = rw (← (held_is es)) (all_heard (heard_in es) (reports_of ours es) l k.tiled b.named b.heard);
      heard = omega (arith, tiled_named k.tiled, b.named, b.heard);
      indexes = tiled_turns k.tiled;
      counts = k.counts;
      held = held_is es;
      four = λ e. listed_few (our_answer es e).reports;
    }

-- no byte is missing from the counts
pub all_counted : (es : Log) → length (heard_in es)
    ≡ (after ours es).counts.framed + (after ours es).counts.damaged + (after ours es).counts.started + (after ours es).counts.outside
    + held_in ours es
unfolding counts_of held_in
all_counted es =
    let k = kept_of es in
    let b = basics es in
    let s = tiled_sums k.tiled in
    rw k.counts (omega (arith, s.all, tiled_named k.tiled, b.heard, b.named))

-- no report is lost
pub none_lost : (es : Log) (e : Event) → (our_answer es e).no ≡ 0
    → listed (our_answer es e).reports ≡ handled_tells (after ours es).link e
unfolding taken_by
none_lost es e q =
    ap (λ (a : Answer). listed a.reports) (answer_taken es e (sym (numbers_by_history es e) ∙ q)) ∙ four_enough (after ours es).link e

-- up to the text
pub listing_shows : (input : List ℕ)
    → let es = history_of input in
    listing_of input ≡ head_text ++ (said_for es ++ end_text (counts_of (heard_in es) (reports_of ours es)) (held_in ours es))
listing_shows input =
    let es = history_of input in
    listing_history input
    ∙ ap (λ (c : Counts). head_text ++ (said_for es ++ end_text c (held_of (after ours es).link))) (accounted es).counts
    ∙ ap (λ (n : ℕ). head_text ++ (said_for es ++ end_text (counts_of (heard_in es) (reports_of ours es)) n)) (held_is es)
