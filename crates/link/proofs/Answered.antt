-- The paper's numbers tell answers apart: an answer and a step are each one alone that has these numbers. Beside a refusal the link and the counts keep their
-- contents. Assumes nothing.
use mathlib.Core.Path.{◌≡◌, refl, sym, ap}
use Rattle.std.specs.Prelude.{Result, Ok, Err}
use Rattle.std.specs.Result.{is_ok}
use lib.Dec.{eqb}
use Rattle.base.specs.Numbers.{taken}
use Rattle.base.specs.Refusals.{number_of as refusal_number, no_of}
use Rattle.base.specs.declared.Refusal.{Refusal}
use Rattle.base.proofs.Refusals.{one_number, refused, not_taken}
use Rattle.events.specs.declared.Event.{Event}
use Rattle.reports.specs.declared.Counts.{Counts}
use Rattle.link.specs.Answers.{answered_as, counted_as, stepped_as}
use Rattle.link.specs.Answers.{Answer as Numbered, Stepped as Counted}
use Rattle.link.specs.Handling.{fresh_link}
use Rattle.link.specs.Stepping.{number_of, refused_by, answer_of, counts_after, step_of}
use Rattle.link.specs.declared.Link.{Link}
use Rattle.link.specs.declared.Answer.{Answer}
use Rattle.link.specs.declared.Stepped.{Stepped}

pub one_answer : (l : Link) (x y : Result Answer Refusal) → answered_as l x ≡ answered_as l y → x ≡ y
one_answer l (Ok a) (Ok b) e = λ i. Ok (record { link = (e i).link; reports = (e i).reports })
one_answer l (Ok a) (Err why) e = absurd (not_taken why (sym (ap (λ (r : Numbered). r.no) e)))
one_answer l (Err why) (Ok b) e = absurd (not_taken why (ap (λ (r : Numbered). r.no) e))
one_answer l (Err why) (Err other) e = ap Err (one_number why other (ap (λ (r : Numbered). r.no) e))

pub one_step : (l : Link) (c : Counts) (x y : Result Stepped Refusal) → stepped_as l c x ≡ stepped_as l c y → x ≡ y
one_step l c (Ok s) (Ok t) e =
    λ i. Ok (record { answer = record { link = (e i).answer.link; reports = (e i).answer.reports }; counts = (e i).counts })
one_step l c (Ok s) (Err why) e = absurd (not_taken why (sym (ap (λ (r : Counted). r.answer.no) e)))
one_step l c (Err why) (Ok t) e = absurd (not_taken why (ap (λ (r : Counted). r.answer.no) e))
one_step l c (Err why) (Err other) e = ap Err (one_number why other (ap (λ (r : Counted). r.answer.no) e))

-- an event is taken if its check is right
pub check_ok : {A : Type 0} (l : Link) (c : Counts) (e : Event) (r : Result A Refusal) → no_of r ≡ number_of l c e → is_ok r ≡ eqb (number_of l c e) taken
unfolding no_of
check_ok l c e (Ok x) n = rw (← n) refl
check_ok l c e (Err why) n = rw (← n, refused why) refl

-- a refusal is answered with its number
pub answer_refused : (l : Link) (c : Counts) (e : Event) (why : Refusal) → refusal_number why ≡ number_of l c e → answered_as l (Err why) ≡ answer_of l c e
unfolding answer_of refused_by
answer_refused l c e why n = rw (← n, refused why) refl

-- and the counts stay
pub counts_refused : (c : Counts) (e : Event) (why : Refusal) (l : Link) → c ≡ counts_after c (answered_as l (Err why)) e
unfolding counts_after
counts_refused c e why l = rw (refused why) refl

-- a step that answers so, with the counts that this answer leaves
pub step_refused : (l : Link) (c : Counts) (e : Event) (why : Refusal) → answered_as l (Err why) ≡ answer_of l c e → stepped_as l c (Err why) ≡ step_of l c e
unfolding step_of
step_refused l c e why a = rw (← a, ← (counts_refused c e why l)) refl

-- and so does one whose event is taken
pub step_taken : (l : Link) (c : Counts) (e : Event) (a : Answer) (d : Counts) → answered_as l (Ok a) ≡ answer_of l c e
    → d ≡ counts_after c (counted_as {R = Refusal} fresh_link (Ok a)) e → stepped_as l c (Ok (record { answer = a; counts = d })) ≡ step_of l c e
unfolding step_of
step_taken l c e a d p q = rw (← p, q) refl

-- the counts that an answer leaves are the step's: which link stands beside a refusal is not asked
pub step_counts : (l : Link) (c : Counts) (e : Event) (r : Result Answer Refusal) → answered_as l r ≡ answer_of l c e
    → counts_after c (counted_as fresh_link r) e ≡ (step_of l c e).counts
unfolding step_of counts_after
step_counts l c e (Ok a) h = rw (← h) refl
step_counts l c e (Err why) h = rw (← h, refused why) refl

-- those that stay at a refusal too
pub step_kept : (l : Link) (c : Counts) (e : Event) (why : Refusal) → answered_as l (Err why) ≡ answer_of l c e → c ≡ (step_of l c e).counts
unfolding step_of
step_kept l c e why h = rw (← h) (counts_refused c e why l)
