-- After any events, a message of a car is held only in a car's session, and there no other is; its windows are its set's (link/proofs/CarLinks.antt). And a link whose
-- key bytes are no car's answers as it did before there were cars (link/proofs/Before.antt).
-- Assumes nothing.
use mathlib.Core.Bool.{Bool, true, false, false≢true}
use mathlib.Core.Path.{◌≡◌, ◌∙◌, refl, sym}
use lib.Dec.{eqb}
use Rattle.base.specs.Reports.{no_reason}
use Rattle.base.proofs.Tests.{by_test}
use Rattle.events.specs.Events.{is_tester}
use Rattle.events.specs.declared.Event.{Event}
use Rattle.talk.specs.Talk.{is_free, end_reason, is_effective, windows_after}
use Rattle.talk.specs.declared.Request.TheVariants.{Ordinary}
use Rattle.phases.specs.Phases.{talking, timed, asked, answered, framed}
use Rattle.phases.specs.declared.Phase.{Phase}
use Rattle.reports.specs.declared.Counts.{Counts}
use Rattle.link.specs.Stepping.{step_of}
use Rattle.link.specs.declared.Link.{Link}
use Rattle.link.proofs.CarLinks.{Fitting, right_free, fresh_fitting, step_fitting}
use Rattle.link.proofs.Before.{old_step_of, CompletesCar, same_step}
use Rattle.demands.specs.Logs.{Log, none, ◌▷◌}
use Rattle.demands.specs.Refusals.{Not}
use Rattle.demands.specs.Editions.{of_car}
use Rattle.demands.specs.Histories.{after}
use Rattle.demands.specs.Sessions.{reply_to}
use Rattle.demands.specs.Ours.{ours}

pub fitting_of : (es : Log) → Fitting (after ours es).link.phase
unfolding after
fitting_of none = fresh_fitting
fitting_of (es ▷ e) = step_fitting (after ours es).link (after ours es).counts e (fitting_of es)

-- ---- what a frame leaves: the reply that may come, and, where nothing more was asked, the windows
pub framed_reply : (p : Phase) → (framed p).reply ≡ reply_to p.message.side
unfolding framed asked answered timed talking reply_to
framed_reply p =
    by_test (λ (x : Phase). x.reply ≡ reply_to p.message.side) (is_tester p.message.side) {x = asked p} {y = answered p} (λ t. sym (rw t refl))
    (λ f. sym (rw f refl))

pub framed_windows : (p : Phase) → p.request ≡ Ordinary → (framed p).windows ≡ p.windows
unfolding framed asked answered timed talking windows_after is_effective
framed_windows p q =
    by_test (λ (x : Phase). x.windows ≡ p.windows) (is_tester p.message.side) {x = asked p} {y = answered p} (λ _. refl) (λ _. rw q refl)

-- a message that is right as it stands is a car's, and nothing more was asked
pub right_asks : (p : Phase) → Fitting p → eqb (end_reason p.message) no_reason ≡ true → (of_car p.start.pair ≡ true) × (p.request ≡ Ordinary)
right_asks p f r =
    let x = f.free (right_free p.message r) in
    (x.1, (f.car x.0 x.1).request)

-- NO ANSWER OF A 14230 LINK HAS CHANGED with cars: after any events, where the link's key bytes are no car's, any event but a second key byte that completes 08 08 or
-- 94 94 after address 33 is answered by the texts from before
no_free : (p : Phase) → Fitting p → of_car p.start.pair ≡ false → (b : Bool) → is_free p.message.part ≡ b → b ≡ false
no_free p f n true t = absurd (false≢true (sym n ∙ (f.free t).1))
no_free p f n false t = refl

pub as_before : (es : Log) (c : Counts) (e : Event) → of_car (after ours es).link.phase.start.pair ≡ false → Not (CompletesCar (after ours es).link e)
    → step_of (after ours es).link c e ≡ old_step_of (after ours es).link c e
as_before es c e n f =
    let l : Link = (after ours es).link in
    same_step l c e (record { pair = n; part = no_free l.phase (fitting_of es) n (is_free l.phase.message.part) refl }) f
