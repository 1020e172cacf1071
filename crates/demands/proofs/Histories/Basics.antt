-- After any events from a fresh link with zero counts: the link's clock, mark and numbers told by the events taken, the number of the next event
-- told by them alone, and the answer to it.
-- Assumes nothing.
use Prim.Native.Nat.{◌≤◌}
use mathlib.Core.Bool.{false}
use native.Mathlib.Omega.{arith}
use mathlib.Core.Path.{◌≡◌, sym, ap, ◌∙◌}
use borrow.Author.Tests.{eq-eqb, ne_eqb}
use lib.ListN.{length}
use Rattle.base.specs.Numbers.{taken}
use Rattle.events.specs.declared.Event.{Event}
use Rattle.phases.specs.Phases.{is_starting, is_open}
use Rattle.link.specs.Stepping.{number_of, refused_by, taken_by, step_of}
use Rattle.demands.specs.Logs.{Log, clock_of, mark_of, count_of, heard_in, number_after, taken_of}
use Rattle.listing.specs.Listing.{held_of}
use Rattle.demands.specs.Accounts.{held_in}
use Rattle.demands.specs.Histories.{after, reports_of}
use Rattle.demands.proofs.Histories.Holding.{holds_order, holds_none}
use Rattle.demands.proofs.Histories.NamedInTurn.{tiled_named}
use Rattle.demands.proofs.Histories.Invariant.{kept_of, number_is, taken_answer, refused_answer, number_answered}
use Rattle.demands.specs.Ours.{ours, our_answer}

pub record Basics (es : Log) : Type 0 where
  -- the clock and the mark, and the mark is never later
  pub clock : (after ours es).link.clock ≡ clock_of (taken_of es)
  pub mark : (after ours es).link.mark ≡ mark_of (taken_of es)
  pub order : (mark_of (taken_of es)).0 ≤ (clock_of (taken_of es)).0
  -- the number of events taken, of bytes heard, and of those that reports have named
  pub events : (after ours es).link.taken ≡ count_of (taken_of es)
  pub heard : (after ours es).link.heard ≡ length (heard_in es)
  pub named : (after ours es).link.named ≤ (after ours es).link.heard
  -- no more bytes than events, and no more than 4,000,000,000 of these
  pub few : length (heard_in es) ≤ count_of (taken_of es)
  pub bound : count_of (taken_of es) ≤ 4_000_000_000

pub basics : (es : Log) → Basics es
basics es =
    let k = kept_of es in
    let l = (after ours es).link in
    record {
      clock = k.clock;
      mark = k.mark;
      order = k.order;
      events = k.events;
      heard = k.heard;
      named = holds_order l.phase.state l.named l.heard k.holds;
      few = k.few;
      bound = k.bound;
    }

-- the number of an event, by the events taken before it
number_of_lem : (es : Log) (e : Event) → number_of (after ours es).link (after ours es).counts e ≡ number_after (taken_of es) e
number_of_lem es e = number_is (after ours es) (taken_of es) (reports_of ours es) e (kept_of es)

-- the answer to an event that is taken, and to one that is refused
pub answer_taken : (es : Log) (e : Event) → number_after (taken_of es) e ≡ taken → our_answer es e ≡ taken_by (after ours es).link e
unfolding step_of
answer_taken es e q = taken_answer (after ours es).link (after ours es).counts e (eq-eqb _ _ (number_of_lem es e ∙ q))

pub answer_refused : (es : Log) (e : Event) → (number_after (taken_of es) e ≡ taken → ⊥)
    → our_answer es e ≡ refused_by (after ours es).link (number_after (taken_of es) e)
unfolding step_of
answer_refused es e q =
    refused_answer (after ours es).link (after ours es).counts e (ne_eqb _ _ (λ p. q (sym (number_of_lem es e) ∙ p)))
    ∙ ap (refused_by (after ours es).link) (number_of_lem es e)

pub numbers_by_history : (es : Log) (e : Event) → (our_answer es e).no ≡ number_after (taken_of es) e
unfolding step_of
numbers_by_history es e = number_answered (after ours es).link (after ours es).counts e ∙ number_of_lem es e

-- with nothing open and no initialization going on, every byte heard has been named
pub calm : (es : Log) → is_open (after ours es).link.phase.state ≡ false → is_starting (after ours es).link.phase.state ≡ false
    → (after ours es).link.named ≡ (after ours es).link.heard
calm es o s = let l = (after ours es).link in holds_none l.phase.state l.named l.heard o s (kept_of es).holds

-- the bytes that the link holds are those heard that no report names
pub held_is : (es : Log) → held_of (after ours es).link ≡ held_in ours es
unfolding held_of held_in
held_is es = omega (arith, (basics es).heard, tiled_named (kept_of es).tiled)
