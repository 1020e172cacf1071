-- An event in a session, as the step answers it: what it leaves of the session, and what its reports are (`event_ends`). So the link of a session is as
-- the session says (`session_at`).
-- Assumes nothing.
use Prim.Native.Nat.{ℕ, ◌+◌, ◌≤◌}
use mathlib.Core.Bool.{Bool, true, false, false≢true}
use mathlib.Core.List.{List, [], ◌++◌, append_assoc}
use mathlib.Core.Path.{◌≡◌, refl, sym, ap, ◌∙◌, subst, subst₃}
use mathlib.Core.Logic.{◌⊎◌, inl, inr}
use native.Mathlib.Omega.{arith}
use borrow.Author.Tests.{eqb-true, eqb-false}
use lib.Dec.{eqb}
use lib.ListN.{length}
use Rattle.base.specs.Numbers.{taken}
use Rattle.base.specs.Reports.{down_report}
use Rattle.units.specs.Units.{micros, gap_of}
use Rattle.units.specs.declared.Micros.{Micros}
use Rattle.events.specs.Events.{is_byte}
use Rattle.events.specs.declared.Kind.TheVariants.{Byte, Tick, Other}
use Rattle.events.specs.declared.Event.{Event}
use Rattle.phases.specs.Phases.{is_starting, is_quiet, is_open, is_connected, down, talking, settled}
use Rattle.talk.specs.declared.Request.{Request}
use Rattle.phases.specs.declared.Phase.{Phase}
use Rattle.moves.specs.Moves.{is_silent}
use Rattle.moves.specs.declared.Move.{Move}
use Rattle.moves.proofs.Rules.{Moment, at_silence, at_p2, at_p3, at_window, at_closing, at_leaving, at_start, at_cut, at_hearing, at_byte, at_stop, at_end_lem}
use Rattle.moves.proofs.Rules.{next as next_of}
use Rattle.moves.proofs.Rules.{Rule, rests, cuts_off, aborts, cut_right, cut_wrong}
use Rattle.reports.specs.Reporting.{no_reports, listed, moved}
use Rattle.reports.specs.declared.Report.{Report}
use Rattle.reports.specs.declared.Run.{Run}
use Rattle.link.specs.Handling.{passed, hearing, begun, handled, link_after}
use Rattle.link.specs.Stepping.{refused_by, taken_by}
use Rattle.link.specs.declared.Link.{Link}
use Rattle.link.specs.Answers.{Answer}
use Rattle.link.specs.Telling.{tells, passed_tells, handled_tells}
use Rattle.link.proofs.Walk.{moved_phase, Reached, Here, act_walk_by}
use Rattle.link.proofs.Four.{four_enough}
use Rattle.link.proofs.Long.{passed_recent}
use Rattle.demands.specs.Logs.{Log, ◌▷◌, heard_in, number_after, taken_of, InBytes}
use Rattle.demands.specs.Histories.{after, reports_to, Says, is_among, Among}
use Rattle.demands.specs.Connecting.{ConnectsBy}
use Rattle.demands.specs.Sessions.{pending_in, windows_in, Talk, opening, talk_after, Session, opens, lasts}
use Rattle.demands.proofs.Histories.Basics.{basics, answer_taken, answer_refused, calm}
use Rattle.demands.proofs.Connecting.Running.{own_until}
use Rattle.demands.proofs.Connecting.ConnectedReport.{own_connects_link}
use Rattle.demands.proofs.Connecting.KeyBytes.{ours_opens}
use Rattle.demands.proofs.Sessions.MessageData.{Kept, kept_none}
use Rattle.demands.proofs.Moves.ReportsInList.{Each, each_none, among_right}
use Rattle.demands.specs.Messages.{InTime}
use Rattle.demands.proofs.Sessions.AfterFirstByte.{refused, waits}
use Rattle.demands.proofs.Histories.BytesHeard.{heard_bytes, byte_more, other_more, refused_more}
use Rattle.demands.proofs.Moves.StillOpen.{not_silent}
use Rattle.demands.proofs.Damage.StrayOrEarly.{not_other}
use Rattle.demands.proofs.Sessions.SessionLasts.{At, SpeaksOn, at_more, Told, talked, Passes, cut_rule, closing_rule, leaving_rule, next, passed_step}
use Rattle.demands.proofs.Sessions.SessionEnds.{Ends, still_up, over, behind, tick_ends, Gone, leaves_gone, start_ends}
use Rattle.demands.proofs.Sessions.SessionByte.{byte_ends, byte_outside}
use Rattle.demands.specs.Ours.{ours, our_answer}
use Rattle.demands.proofs.Histories.Holding.{framed_quiet}

-- ---- an event that is taken
-- while a message is open, a tick in time goes on with it
tick_speaks : (es : Log) (e : Event) → number_after (taken_of es) e ≡ taken → e.kind ≡ Tick → InTime (taken_of es) e → (t : Talk) → SpeaksOn es e t
tick_speaks es e n k i t b bytes s = waits s n k i

module _ (es : Log) (e : Event) (t : Talk) (b : InBytes (es ▷ e)) (number : number_after (taken_of es) e ≡ taken) where
  abbrev here : Link
  here = (after ours es).link

  room : length (heard_in es) ≤ 4_000_000_000
  room = let x = basics es in omega (arith, x.few, x.bound)

  in_time : is_silent (gap_of here.mark e.start) ≡ false → InTime (taken_of es) e
  in_time h = subst (λ (m : Micros). e.start.0 ≤ m.0 + 20_000) (basics es).mark (not_silent here.mark e.start h)

  -- ---- WHAT HOLDS AT EACH MOMENT from where time has passed: the session goes on or is over, with nothing open, not connected, and in the end as `Ends` says.
  -- (`all` are the event's reports.) A byte's report is judged together with the stop that may follow.
  module _ (all : List Report) where
    data Hears (xs : List Report) : Run → Type 0 where
      heard : (r : Run) → Passes es e all t xs r → (is_open r.phase.state ≡ true → InTime (taken_of es) e) → Hears xs (hearing r)

    abbrev Done : Run → List Report → Type 0
    Done r xs = Each (λ (x : Report). Among x all) xs → Ends es e all t xs r

    abbrev I : Moment → Run → List Report → Type 0
    I at_silence r xs = ⊥
    I at_p2 r xs = ⊥
    I at_p3 r xs = ⊥
    I at_window r xs = ⊥
    I at_closing r xs = Passes es e all t xs r × (is_open r.phase.state ≡ true → InTime (taken_of es) e)
    I at_leaving r xs = Passes es e all t xs r × (is_open r.phase.state ≡ false)
    I at_start r xs = Gone es e all t xs r
    I at_cut r xs = Passes es e all t xs r × (is_open r.phase.state ≡ true → InTime (taken_of es) e)
    I at_hearing r xs = Passes es e all t xs r × (is_open r.phase.state ≡ true → InTime (taken_of es) e)
    I at_byte r xs = Hears xs r
    I at_stop r xs = (m : Move) → Rule here.mark e r.phase at_stop m → Done (moved r m) (xs ++ tells r m)
    I at_end_lem r xs = Done r xs

    closes : (p : Phase) (m : Move) → Rule here.mark e p at_closing m → is_open m.phase.state ≡ false
    unfolding settled talking down is_open
    closes p m (rests u) = u.0
    closes p m (cuts_off o) = refl
    closes p m (aborts s) = refl

    -- what is open after a byte has come was so before
    cut_open : (p : Phase) (m : Move) → Rule here.mark e p at_cut m → is_open m.phase.state ≡ true → is_open p.state ≡ true
    unfolding settled talking is_open
    cut_open p m (rests u) o = o
    cut_open p m (cut_right c r) o = absurd (false≢true (sym (ap is_open (framed_quiet p)) ∙ o))
    cut_open p m (cut_wrong c r) o = absurd (false≢true o)

    hears_byte : e.kind ≡ Byte → (r : Run) (xs : List Report) (m : Move) → Rule here.mark e r.phase at_byte m → Hears xs r
        → I at_stop (moved r m) (xs ++ tells r m)
    unfolding InBytes
    hears_byte k r xs m u (heard s p f) n v i =
        let one = byte_more es e number k in
        let front = heard_bytes es b.0 in
        let bytes = heard_bytes (es ▷ e) b in
        let mark = (basics es).mark in
        let ss = tells r m ++ tells (moved r m) n in
        let q = append_assoc xs (tells r m) (tells (moved r m) n) in
        subst (λ (ys : List Report). Ends es e all t ys (moved (moved r m) n)) (sym q)
        (behind es e all t xs ss s (moved (moved r m) n) p
        (λ x a. byte_ends es e all k number one room front bytes here.mark mark x s m u f a n v
        (λ y j. i y (subst (Among y) (sym q) (among_right xs j))))
        (λ d. byte_outside es e all k number one room front bytes here.mark mark t s m u d n v))

    moves : (k : Moment) → Reached e k → (r : Run) → Here (passed (begun here e) here.mark e.start) k r.phase → (xs : List Report) (m : Move)
        → Rule here.mark e r.phase k m → I k r xs → I (next_of k) (moved r m) (xs ++ tells r m)
    unfolding next_of
    moves at_silence w r h xs m u i = absurd i
    moves at_p2 w r h xs m u i = absurd i
    moves at_p3 w r h xs m u i = absurd i
    moves at_window w r h xs m u i = absurd i
    moves at_closing w r h xs m u i = (
      next es e all here.mark at_closing (closing_rule es e all here.mark) refl t xs r m u i.0,
      ap (λ (p : Phase). is_open p.state) (moved_phase r m) ∙ closes r.phase m u,
    )
    moves at_leaving w r h xs m u i =
        leaves_gone es e all here.mark t xs r m u i.1 (next es e all here.mark at_leaving (leaving_rule es e all here.mark) refl t xs r m u i.0)
    moves at_start w r h xs m u i = λ _. start_ends es e all here.mark t xs r m u i
    moves at_cut w r h xs m u i = (
      next es e all here.mark at_cut (cut_rule es e all here.mark number w) refl t xs r m u i.0,
      λ o. i.1 (cut_open r.phase m u (sym (ap (λ (p : Phase). is_open p.state) (moved_phase r m)) ∙ o)),
    )
    moves at_hearing w r h xs m (rests u) i = absurd u
    moves at_byte w r h xs m u i = hears_byte w r xs m u i
    moves at_stop w r h xs m u i = i m u
    moves at_end_lem w r h xs m (rests u) i = absurd u

    tick_done : (e.kind ≡ Tick) ⊎ (e.kind ≡ Other) → (r : Run) (xs : List Report) → I at_closing r xs → Done r xs
    unfolding is_byte
    tick_done (inl k) r xs i _ = tick_ends es e all t xs r (other_more es e number (ap is_byte k)) (λ o u. tick_speaks es e number k (i.1 o) u) i.0
    tick_done (inr k) r xs i _ = absurd (not_other (taken_of es) e number k)

  handled_ends : At es t here.phase here.named here.heard → Ends es e (handled_tells here e) t (handled_tells here e) (handled here e)
  unfolding handled_tells handled begun
  handled_ends a =
      let all = handled_tells here e in
      let r = begun here e in
      act_walk_by here.mark e r (I all) (moves all) (λ _ s xs i. i) (λ _ s xs i. heard s i.0 i.1) (λ _ s xs g _. over g.said g.each g.off) (tick_done all)
      (passed_tells r here.mark e.start)
      (passed_step es e all t r here.mark number (basics es).mark a, λ o. in_time (passed_recent here.mark e.start r o)) (λ x i. i)

-- ---- any event, as the step answers it
-- a link as a run that has made no report
abbrev pub run_at : Link → Run
run_at l = record { phase = l.phase; heard = l.heard; named = l.named; time = micros 0; reports = no_reports }

abbrev pub AtLink : Log → Talk → Type 0
AtLink es t = At es t (after ours es).link.phase (after ours es).link.named (after ours es).link.heard

abbrev Answered : Log → Event → Talk → Answer → Type 0
Answered es e t a = Ends es e (listed a.reports) t (listed a.reports) (run_at a.link)

same_run : (es : Log) (e : Event) (all : List Report) (t : Talk) (rs : List Report) (r : Run) (l : Link) → r.phase ≡ l.phase → r.named ≡ l.named
    → r.heard ≡ l.heard
    → Ends es e all t rs r → Ends es e all t rs (run_at l)
same_run es e all t rs r l p n h (still_up k f a) = still_up k f (λ s m. subst₃ (At (es ▷ e) (talked es e all t rs)) p n h (a s (m ∙ sym n)))
same_run es e all t rs r l p n h (over k f c) = over k f (sym (ap (λ (q : Phase). is_connected q.state) p) ∙ c)

taken_ends : (es : Log) (e : Event) (t : Talk) → InBytes (es ▷ e) → number_after (taken_of es) e ≡ taken → AtLink es t
    → Answered es e t (taken_by (after ours es).link e)
unfolding taken_by link_after
taken_ends es e t b n a =
    let l = (after ours es).link in
    let x = same_run es e (handled_tells l e) t (handled_tells l e) (handled l e) (link_after l e (handled l e)) refl refl refl
    (handled_ends es e t b n a) in
    subst (λ (rs : List Report). Ends es e rs t rs (run_at (link_after l e (handled l e)))) (sym (four_enough l e)) x

refused_ends : (es : Log) (e : Event) (t : Talk) (k : ℕ) → eqb (number_after (taken_of es) e) taken ≡ false → AtLink es t
    → Answered es e t (refused_by (after ours es).link k)
unfolding refused_by listed is_among talk_after
refused_ends es e t k n a =
    let l = (after ours es).link in
    still_up refl (each_none (Told es e [] t))
    (λ _ _. at_more es e t l.phase l.named (refused_more es e n) l.heard
    (λ _ b bytes s. refused s (eqb-false (number_after (taken_of es) e) taken n)) a)

-- WHAT AN EVENT LEAVES OF A SESSION, and what its reports are
pub event_ends : (es : Log) (e : Event) (t : Talk) → InBytes (es ▷ e) → AtLink es t
    → Ends es e (reports_to ours es e) t (reports_to ours es e) (run_at (after ours (es ▷ e)).link)
unfolding after
event_ends es e t b a = by_number (eqb (number_after (taken_of es) e) taken) refl
  where
    by_number : (c : Bool) → eqb (number_after (taken_of es) e) taken ≡ c → Answered es e t (our_answer es e)
    by_number true n =
        let k = eqb-true (number_after (taken_of es) e) taken n in
        subst (Answered es e t) (sym (answer_taken es e k)) (taken_ends es e t b k a)
    by_number false n =
        subst (Answered es e t) (sym (answer_refused es e (eqb-false (number_after (taken_of es) e) taken n))) (refused_ends es e t _ n a)

-- ---- a session from its beginning on
opens_at : (es : Log) (e : Event) → number_after (taken_of es) e ≡ taken → (c : ConnectsBy own_until (taken_of es) e) → AtLink (es ▷ e) (opening c.pair)
unfolding after is_connected is_quiet is_open is_starting windows_in pending_in
opens_at es e n c =
    let x = own_connects_link es e n c in
    let p = (after ours (es ▷ e)).link.phase in
    record {
      fits = record {
        connected = ap is_connected x.state;
        good = x.answer.good;
        pair = x.pair;
        windows = x.windows;
        reply = x.reply;
        kept = subst (λ (q : Request). Kept q p.asked []) (sym x.request) (kept_none p.asked);
      };
      bytes = (basics (es ▷ e)).heard;
      calm = λ _. calm (es ▷ e) (ap is_open x.state) (ap is_starting x.state);
      opened = λ o. absurd (false≢true (sym (ap is_open x.state) ∙ o));
    }

goes_on : (es : Log) (e : Event) (t : Talk) (r : Run) (all : List Report) → Ends es e all t (reports_to ours es e) r
    → (after ours (es ▷ e)).link.named ≡ r.named → (Says down_report (reports_to ours es e) → ⊥)
    → Session ours (es ▷ e) (talked es e all t (reports_to ours es e))
    → At (es ▷ e) (talked es e all t (reports_to ours es e)) r.phase r.named r.heard
goes_on es e t r all (still_up k f a) m n s = a s m
goes_on es e t r all (over k f c) m n s = absurd (n k)

-- THE LINK OF A SESSION is as the session says
pub session_at : {es : Log} {t : Talk} → InBytes es → Session ours es t → AtLink es t
unfolding InBytes
session_at b (opens {es = es} {e = e} {r = r} a n) =
    let x = ours_opens es e r a n in
    subst (AtLink (es ▷ e)) (sym x.same) (opens_at es e x.number x.connects)
session_at b (lasts {es = es} {e = e} {t = t} s n) =
    goes_on es e t _ (reports_to ours es e) (event_ends es e t b (session_at b.0 s)) refl n (lasts s n)
