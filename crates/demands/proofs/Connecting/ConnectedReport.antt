-- What the event that completes an initialization is answered with: one report, 3, which names the initialization's bytes, and a link that is connected
-- by its key bytes, with the windows that KB1 names, and awaits nothing.
-- Assumes nothing.
use Prim.Native.Nat.{ℕ, ◌+◌, ◌-◌, ◌<◌}
use mathlib.Core.Bool.{Bool, true, false}
use mathlib.Core.List.{[], ◌∷◌}
use mathlib.Core.Path.{◌≡◌, ◌∙◌, refl, sym, ap, ap₂, subst}
use native.Mathlib.Omega.{arith}
use lib.Dec.{eqb}
use lib.ListN.{length, length-append}
use borrow.Author.Tests.{eqb-true, eqb-false}
use Rattle.base.specs.Numbers.{taken}
use Rattle.base.specs.Reports.{connected_report, no_reason}
use Rattle.base.specs.Sums.{count_sum}
use Rattle.units.specs.declared.Micros.{Micros}
use Rattle.timing.specs.Timing.{set_of}
use Rattle.events.specs.Events.{is_byte}
use Rattle.events.specs.declared.Kind.{Kind}
use Rattle.events.specs.declared.Kind.TheVariants.{Address, WakeUp, Byte, Tick, Drop, Other}
use Rattle.events.specs.declared.Event.{Event}
use Rattle.starts.specs.declared.Start.{Start}
use Rattle.phases.specs.Phases.{starting, connected}
use Rattle.phases.specs.declared.Phase.{Phase}
use Rattle.reports.specs.Reporting.{names_bytes, report_of, appended, listed, told}
use Rattle.reports.specs.declared.Report.{Report}
use Rattle.reports.specs.declared.Run.{Run}
use Rattle.link.specs.Handling.{hearing, begun, handled, link_after}
use Rattle.link.specs.Stepping.{taken_by}
use Rattle.link.specs.declared.Link.{Link}
use Rattle.demands.specs.Logs.{Log, none, ◌▷◌, heard_of, number_after, taken_of}
use Rattle.demands.specs.Histories.{reports_to, after}
use Rattle.demands.specs.Connecting.{Since, here, tick, byte, ConnectsBy, Connected}
use Rattle.demands.proofs.Histories.Holding.{Holds}
use Rattle.demands.proofs.Histories.Tiling.{start_none, sum_is}
use Rattle.demands.proofs.Histories.Invariant.{timely, kept_of}
use Rattle.demands.proofs.Histories.Basics.{basics, answer_taken}
use Rattle.demands.proofs.Moves.Entering.{Open}
use Rattle.demands.proofs.Moves.Completing.{connecting, completes_run}
use Rattle.demands.proofs.Connecting.Running.{start_on, phase_on, last_end, Starts, own_until, Runs, runs_starts, Behind, Inv, open_early, back_start, back_open, back_tick}
use Rattle.demands.proofs.Connecting.Running.{back_byte, no_since, completes_of}
use Rattle.demands.proofs.Connecting.ConnectsExactly.{done_of, ended_by, behind, link_taken, link_refused, log_taken, log_refused, inv_of}
use Rattle.demands.specs.Beside.{ConnectedLink}
use Rattle.demands.specs.Ours.{ours, our_answer}

-- ---- THE INVARIANT: while the link is in the initialization that a log ends in, the bytes named are those before its start
abbrev Told : Link → Log → Type 0
Told l log = (a : Event) (before bs : Log) → Since a before log bs → Runs (own_until before a) a bs → Open (phase_on a bs) (last_end a bs) l.clock
    → l.named ≡ length (heard_of before)

module _ (l : Link) (log : Log) (e : Event) (t : Behind l log e) (inv : Inv l log) (heard : l.heard ≡ length (heard_of log))
    (holds : Holds l.phase.state l.named l.heard) where
  -- at a start, what was open is closed, and nothing is held
  told_start : Starts e.kind (own_until log e) e → (handled l e).named ≡ length (heard_of log)
  told_start s = ap (λ (x : Run). x.named) (back_start l log e t inv s) ∙ start_none l e holds ∙ heard

told_by : (l : Link) (log : Log) (e : Event) → Behind l log e → Inv l log → l.heard ≡ length (heard_of log)
    → Holds l.phase.state l.named l.heard
    → Told l log → (a : Event) (before bs : Log) → Since a before (log ▷ e) bs → Runs (own_until before a) a bs
    → Open (phase_on a bs) (last_end a bs) e.end → (handled l e).named ≡ length (heard_of before)
unfolding begun
told_by l log e t inv h g n a before bs here u o = told_start l log e t inv h g u
told_by l log e t inv h g n a before bs (tick k s) u o =
    let o1 = open_early (phase_on a bs) (last_end a bs) e.start e.end t.ordered o in
    let w = back_open l log e t inv a before bs s u o1 in
    ap (λ (x : Run). x.named) (back_tick l log e t inv w k)
    ∙ n a before bs s u (open_early (phase_on a bs) (last_end a bs) l.clock e.start t.later o1)
told_by l log e t inv h g n a before (bs ▷ b) (byte k s) u o =
    let w = back_open l log e t inv a before bs s u.0 u.1.window in
    ap (λ (x : Run). x.named) (back_byte l log e t inv a bs w k u.1 u.2)
    ∙ n a before bs s u.0 (open_early (phase_on a bs) (last_end a bs) l.clock e.start t.later u.1.window)

told_on : (l : Link) (log : Log) (e : Event) → Behind l log e → Inv l log → l.heard ≡ length (heard_of log)
    → Holds l.phase.state l.named l.heard → Told l log → Told (link_after l e (handled l e)) (log ▷ e)
unfolding link_after
told_on l log e t inv h g n = told_by l log e t inv h g n

told_next : (b : Bool) (es : Log) (e : Event) → eqb (number_after (taken_of es) e) taken ≡ b → Told (after ours es).link (taken_of es)
    → Told (after ours (es ▷ e)).link (taken_of (es ▷ e))
told_next true es e q n =
    let t = eqb-true _ _ q in
    rw (link_taken es e t, log_taken es e t)
    (told_on (after ours es).link (taken_of es) e (behind es e t) (inv_of es) (basics es).heard (kept_of es).holds n)
told_next false es e q n = rw (link_refused es e (eqb-false _ _ q), log_refused es e q) n

told_of : (es : Log) → Told (after ours es).link (taken_of es)
unfolding taken_of
told_of none = λ a before bs s. absurd (no_since a before bs s)
told_of (es ▷ e) = told_next (eqb (number_after (taken_of es) e) taken) es e refl (told_of es)

-- ---- the bytes heard since the start
starts_apart : (k : Kind) (m : ℕ) (a : Event) → Starts k m a → is_byte k ≡ false
unfolding is_byte
starts_apart Address m a s = refl
starts_apart WakeUp m a s = refl
starts_apart Byte m a s = absurd s
starts_apart Tick m a s = refl
starts_apart Drop m a s = refl
starts_apart Other m a s = refl

pub since_heard : {a : Event} {before log bs : Log} → is_byte a.kind ≡ false → Since a before log bs
    → length (heard_of log) ≡ length (heard_of before) + length (heard_of bs)
unfolding heard_of is_byte
since_heard {a} {before} h here = rw h (omega (arith, length-append (heard_of before) []))
since_heard h (tick {log = log} {e = e} k s) = rw (ap is_byte k) (omega (arith, length-append (heard_of log) [], since_heard h s))
since_heard h (byte {log = log} {bs = bs} {e = e} k s) =
    rw (ap is_byte k) (omega (arith, length-append (heard_of log) (e.value ∷ []), length-append (heard_of bs) (e.value ∷ []), since_heard h s))

-- ---- the report, and the link
abbrev report_by : ℕ → ℕ → Micros → Report
report_by first bytes time = record { first = first; bytes = bytes; time = time; number = connected_report; reason = no_reason }

run_reports : (l : Link) (e : Event) (s : Start)
    → listed (told (hearing (begun l e)) (connecting s)).reports ≡ (report_by l.named (count_sum l.heard 1 - l.named) e.end ∷ [])
unfolding told begun report_of appended listed names_bytes
run_reports l e s = refl

handled_names : (l : Link) (log : Log) (e : Event) → Behind l log e → Inv l log → l.heard ≡ length (heard_of log) → l.heard < 4_000_000_000
    → Told l log → (c : ConnectsBy own_until log e) → ConnectedLink log e c (taken_by l e)
unfolding taken_by link_after told connected starting
handled_names l log e t inv h few n c =
    let m = own_until c.before c.start in
    let d = done_of m c.start c.pair c.bytes e c.idle c.good in
    let f = completes_of l log e t inv (ended_by log e c) in
    let run = completes_run l e f.0 in
    let o = open_early (phase_on c.start c.bytes) (last_end c.start c.bytes) l.clock e.start t.later d.0.1.window in
    let named = n c.start c.before c.bytes c.since d.0.0 o in
    let apart = starts_apart c.start.kind m c.start (runs_starts m c.start c.bytes d.0.0) in
    let bytes : count_sum l.heard 1 - l.named ≡ length (heard_of c.bytes) + 1 =
    omega (arith, sum_is l.heard 1 (omega arith), named, h, since_heard apart c.since) in
    let phase : (handled l e).phase ≡ connected (start_on c.start c.bytes) =
    ap (λ (x : Run). x.phase) run ∙ ap (λ (p : Phase). connected p.start) f.1 in
    record {
      answer = record {
        reports =
            ap (λ (x : Run). listed x.reports) run ∙ run_reports l e l.phase.start ∙ ap₂ (λ (a b : ℕ). (report_by a b e.end ∷ [])) named bytes;
        good = d.2;
      };
      state = ap (λ (p : Phase). p.state) phase;
      pair = ap (λ (p : Phase). p.start.pair) phase ∙ d.1;
      windows = ap (λ (p : Phase). p.windows) phase ∙ ap set_of d.1;
      reply = ap (λ (p : Phase). p.reply) phase;
      request = ap (λ (p : Phase). p.request) phase;
    }

-- THE THEOREM, and its half that anyone can see, by our own link's idle time
pub own_connects_link : (es : Log) (e : Event) → number_after (taken_of es) e ≡ taken → (c : ConnectsBy own_until (taken_of es) e)
    → ConnectedLink (taken_of es) e c (our_answer es e)
own_connects_link es e q c =
    let l = (after ours es).link in
    let b = basics es in
    let few : l.heard < 4_000_000_000 = omega (arith, b.heard, b.few, (timely (taken_of es) e q).room) in
    subst (ConnectedLink (taken_of es) e c) (sym (answer_taken es e q))
    (handled_names l (taken_of es) e (behind es e q) (inv_of es) b.heard few (told_of es) c)

pub own_connects_names : (es : Log) (e : Event) → number_after (taken_of es) e ≡ taken → (c : ConnectsBy own_until (taken_of es) e)
    → Connected (taken_of es) e c (reports_to ours es e)
own_connects_names es e q c = (own_connects_link es e q c).answer
