-- Two links that meet the demands, and an event after events that both have reported alike (`Both`). A report of one has its like in the reports of the other
-- as soon as one of the same number, reason and number of bytes is there: the time is the event's (`like`). Assumes nothing.
use mathlib.Core.List.{List}
use mathlib.Core.Logic.{◌⊎◌}
use mathlib.Core.Path.{◌≡◌, sym, ◌∙◌}
use Rattle.base.specs.Reports.{frame_report, connected_report, outside_report, no_reply_report, not_idle_report}
use Rattle.events.specs.declared.Event.{Event}
use Rattle.reports.specs.declared.Report.{Report}
use Rattle.demands.specs.Logs.{Log, none, ◌▷◌, InBytes}
use Rattle.demands.specs.Histories.{Machine, reports_to, Among, Tells}
use Rattle.demands.specs.Each.{Formed}
use Rattle.demands.specs.Deciding.{Meets}
use Rattle.demands.proofs.Histories.TakenOnly.{PassesOver, demand_passes}
use Rattle.demands.proofs.Deciding.Agree.{Agree}
use Rattle.demands.proofs.Deciding.SameList.{Has}

pub record Both : Type 1 where
  pub s : Machine
  pub t : Machine
  pub D : Meets s
  pub E : Meets t
  pub es : Log
  pub e : Event
  pub in_bytes : InBytes (es ▷ e)
  pub agree : Agree s t es

pub agree_sym : (s t : Machine) (es : Log) → Agree s t es → Agree t s es
unfolding Agree
agree_sym s t none a = tt
agree_sym s t (es ▷ e) a = (agree_sym s t es a.0, sym a.1)

-- the other way round
abbrev pub turned : Both → Both
turned B = record { s = B.t; t = B.s; D = B.E; E = B.D; es = B.es; e = B.e; in_bytes = B.in_bytes; agree = agree_sym B.s B.t B.es B.agree }

-- the events before are in bytes too
pub before : (B : Both) → InBytes B.es
unfolding InBytes
before B = B.in_bytes.0

module _ (B : Both) where
  -- both pass over events that are refused
  pub passes_here : PassesOver B.s
  passes_here = demand_passes B.s B.D.one

  pub passes_there : PassesOver B.t
  passes_there = demand_passes B.t B.E.one

  -- the reports of one and of the other
  abbrev pub here : List Report
  here = reports_to B.s B.es B.e

  abbrev pub there : List Report
  there = reports_to B.t B.es B.e

  pub formed_here : (r : Report) → Among r here → Formed B.e r
  formed_here r i = B.D.two.each_formed B.es B.e r i

  pub formed_there : (r : Report) → Among r there → Formed B.e r
  formed_there r i = B.E.two.each_formed B.es B.e r i

  -- a report of this number and reason, which fix its bytes
  pub like : (r : Report) → Among r here → (k : Tells r.number r.reason there) → r.bytes ≡ k.report.bytes → Has r there
  like r i k h = record {
    report = k.report;
    made = k.made;
    like = record {
      number = sym k.number_is;
      reason = sym k.reason_is;
      bytes = h;
      time = (formed_here r i).time ∙ sym (formed_there k.report k.made).time;
    };
  }

  -- a report of a number that has no reason
  abbrev pub Plain : Report → Type 0
  Plain x =
      (x.number ≡ frame_report) ⊎ (x.number ≡ connected_report) ⊎ (x.number ≡ outside_report) ⊎ (x.number ≡ no_reply_report) ⊎ (x.number ≡ not_idle_report)

  pub like_plain : (r x : Report) → Among r here → Among x there → x.number ≡ r.number → Plain r → Plain x → r.bytes ≡ x.bytes → Has r there
  like_plain r x i j n p q h =
      like r i (record { report = x; made = j; number_is = n; reason_is = (formed_there x j).no_reason_lem q ∙ sym ((formed_here r i).no_reason_lem p) }) h
