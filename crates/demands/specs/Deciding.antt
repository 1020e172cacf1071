-- THE DEMANDS DECIDE EVERY ANSWER. Take any two links, whatever they are inside and however they come to their answers. If both meet the three demands, then
-- after every history, from fresh links with zero counts, they answer every event alike: with the same number, the same reports, the same counts, and as many
-- bytes held; also if a host lends other counts than the link's own, then or with every event. So whoever keeps these promises answers as our link does, and
-- there is no answer that the demands leave open. (Values of events are bytes, as they are in the code: `InBytes`.)
-- It is proved in proofs/Decided.antt. Assumes nothing.
use Rattle.std.specs.Prelude.{◌≡◌}
use Rattle.events.specs.declared.Event.{Event}
use Rattle.reports.specs.declared.Counts.{Counts}
use Rattle.demands.specs.Logs.{Log, ◌▷◌, InBytes}
use Rattle.demands.specs.Histories.{Told, Machine, answer_with, answer_to, Lendings, lent_events, lent_link}
use Rattle.demands.specs.OurLink.{our_link}
use Rattle.demands.specs.DemandOne.{DemandOne}
use Rattle.demands.specs.DemandTwo.{DemandTwo}
use Rattle.demands.specs.DemandThree.{DemandThree}

-- a link meets the three demands
pub record Meets (m : Machine) : Type 0 where
  pub one : DemandOne m
  pub two : DemandTwo m
  pub three : DemandThree m

-- two answers are the same, as far as can be seen
pub record Same (m n : Machine) (a : Told m.Inner) (b : Told n.Inner) : Type 0 where
  pub number : a.no ≡ b.no
  pub reports : a.reports ≡ b.reports
  pub counts : a.counts ≡ b.counts
  pub held : m.held a.link ≡ n.held b.link

-- two links answer an event after these events alike: with the counts that only the link has changed, and with any others lent
pub record Alike (m n : Machine) (es : Log) (e : Event) : Type 0 where
  pub own : Same m n (answer_to m es e) (answer_to n es e)
  pub lent : (c : Counts) → Same m n (answer_with m es c e) (answer_with n es c e)

-- any two links that meet the demands answer alike, ..
abbrev pub DemandsDecide : Type 1
DemandsDecide = (m n : Machine) → Meets m → Meets n → (es : Log) (e : Event) → InBytes (es ▷ e) → Alike m n es e

-- .. whatever counts are lent, event by event
abbrev pub LentDecide : Type 1
LentDecide = (m n : Machine) → Meets m → Meets n → (h : Lendings) (c : Counts) (e : Event) → InBytes (lent_events h ▷ e)
    → Same m n (m.step (lent_link m h) c e) (n.step (lent_link n h) c e)

-- ours meets them, and so any other that does answers as ours
pub record OursDecides : Type 1 where
  pub meets : Meets our_link
  pub decides : (m : Machine) → Meets m → (es : Log) (e : Event) → InBytes (es ▷ e) → Alike m our_link es e
