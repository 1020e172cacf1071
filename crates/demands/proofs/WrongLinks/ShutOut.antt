-- The wrong programs of document 01, the accident, and links with another idle time than document 02 says, are shut out: each breaks a demand, by what antt
-- computes of it (Computed.antt).
-- Assumes nothing.
use Prim.Native.Nat.{ℕ, ◌+◌, ◌<◌}
use mathlib.Core.Bool.{Bool, true, false, false≢true}
use mathlib.Core.List.{List, [], ◌∷◌}
use mathlib.Core.Logic.{◌⊎◌, ⊎_elim}
use mathlib.Core.Path.{◌≡◌, refl, sym, ap, ◌∙◌}
use native.Mathlib.Omega.{arith}
use borrow.Author.Tests.{eq-eqb}
use lib.Dec.{eqb}
use lib.ListN.{get_or}
use Rattle.base.specs.Numbers.{taken}
use Rattle.base.specs.Reports.{connected_report, outside_report}
use Rattle.base.proofs.Tests.{by_test}
use Rattle.keys.specs.declared.Form.TheVariants.{Plain}
use Rattle.frame.specs.ReadsBack.{ReadsBack}
use Rattle.events.specs.Events.{is_byte, is_other, is_nobody, is_unknown, is_too_late, is_out_of_order, refusal}
use Rattle.events.specs.declared.Event.{Event}
use Rattle.reports.specs.Reporting.{appended, listed}
use Rattle.reports.specs.Counting.{zero_counts}
use Rattle.timing.specs.Timing.{idle_at_power_on}
use Rattle.reports.specs.declared.Report.{Report}
use Rattle.reports.specs.declared.Reports.{Reports}
use Rattle.reports.specs.declared.Counts.{Counts}
use Rattle.link.specs.Stepping.{number_of, refused_by, answer_of, step_of}
use Rattle.demands.specs.Logs.{none, ◌▷◌, mark_of, count_of, clock_of, number_after, taken_of}
use Rattle.link.specs.declared.Link.{Link}
use Rattle.demands.specs.Refusals.{Above}
use Rattle.demands.specs.Histories.{Machine, after, reports_to, folded, is_among}
use Rattle.demands.specs.Idle.{p3min_in, idle_in, asked_after, idle_asked, idle_until}
use Rattle.demands.proofs.Connecting.Example.{wake_at, fast_events, fast_last, fast_connects, fast_number, all_bytes, in_bytes}
use Rattle.demands.specs.Wrong.{refusing, outside_step, outside, unchanged, idling, inventing, behind, twice, forgetting, possessive, disordered, repeating, moving, shifting}
use Rattle.demands.specs.Wrong.{patient, unaware, waiting, forgiving, unmoved, strict, hasty}
use Rattle.demands.specs.DemandOne.{DemandOne}
use Rattle.demands.specs.DemandTwo.{DemandTwo}
use Rattle.demands.specs.DemandThree.{DemandThree}
use Rattle.demands.proofs.WrongLinks.Computed.{tick, two_bytes, unknown, one_byte, one_heard, retiming, cut_off, too_soon, asking, too_late, addressed, unheard, low_wrong, stopping, stopping_late, running_out, failing, dropping, hurrying}
use Rattle.demands.proofs.WrongLinks.Computed.{is_fair, in_order, named_by_lem, is_fair_start, computed}

-- ---- DEMAND 3 SHUTS OUT ..
-- .. a step that leaves the link unchanged: two bytes are both reported with index 0
pub unchanged_shut : DemandThree unchanged → ⊥
unchanged_shut d = false≢true (sym computed.of_unchanged ∙ is_fair unchanged two_bytes (d.accounted two_bytes))

-- .. a link that finishes on its first event and idles later: of two bytes heard it has counted one
pub idling_shut : DemandThree idling → ⊥
idling_shut d = false≢true (sym computed.of_idling ∙ is_fair idling two_bytes (d.accounted two_bytes))

-- .. a link that shows invented counts: after a tick it counts seven bytes
pub inventing_shut : DemandThree inventing → ⊥
inventing_shut d = false≢true (sym computed.of_inventing ∙ is_fair inventing (none ▷ tick) (d.accounted (none ▷ tick)))

-- .. a link whose frame count is one behind after a timing change
pub behind_shut : DemandThree behind → ⊥
behind_shut d = false≢true (sym computed.of_behind ∙ is_fair behind retiming (d.accounted retiming))

-- .. and a link that lists the reply twice that changes its timing
pub twice_shut : DemandThree twice → ⊥
twice_shut d = false≢true (sym computed.of_twice ∙ is_fair twice retiming (d.accounted retiming))

-- ---- DEMAND 1 SHUTS OUT ..
-- .. a link that refuses everything: a fresh link takes a tick
under : {A : Type 0} → (4_000_000_000 < 0) ⊎ A → (A → ⊥) → ⊥
under u f = ⊎_elim (λ h. omega arith) f u

no_count_above : Above zero_counts → ⊥
unfolding zero_counts
no_count_above u = under u (λ v. under v (λ w. under w (λ x. under x (λ y. under y (λ z. under z (λ h. omega arith))))))

pub refusing_shut : DemandOne refusing → ⊥
unfolding after taken_of clock_of count_of zero_counts refused_by is_other is_byte
refusing_shut d =
    let n = d.numbered none zero_counts tick in
    false≢true (ap (λ (k : ℕ). eqb k 0) (n.taken.1 (
      (λ u. ⊎_elim (λ k. false≢true (ap is_other k)) (λ k. false≢true (ap is_byte k.0)) u),
      (λ u. ⊎_elim (λ k. omega arith) (λ k. omega arith) u),
      (λ u. ⊎_elim (λ k. omega arith) (λ k. omega arith) u),
      (λ u. ⊎_elim (λ k. omega arith) no_count_above u),
    )))

-- .. and a link that a refused event makes fresh again: its clock is not what it was
pub forgetting_shut : DemandOne forgetting → ⊥
forgetting_shut d =
    let before = d.refused_as_before (after forgetting two_bytes).link zero_counts unknown (λ q. false≢true (sym computed.refuses_unknown ∙ eq-eqb _ 0 q)) in
    false≢true (sym computed.of_forgetting ∙ eq-eqb _ _ (ap (λ (l : Link). l.clock.0) before.link))

-- ---- DEMAND 2 SHUTS OUT a link that reports nothing while counts are lent that are not its own
pub possessive_shut : DemandTwo possessive → ⊥
possessive_shut d =
    let same = (d.lent_alike none one_heard one_byte computed.takes_lent).0 in
    false≢true (sym computed.of_possessive ∙ ap (is_among outside_report) same ∙ computed.own_reported)

-- ---- DEMAND 2 SHUTS OUT a link that reports each byte as outside: it never says that it is connected
no_three : (b : Bool) (l : Link) (c : Counts) (e : Event) → eqb (number_of l c e) taken ≡ b → is_among connected_report (listed (outside_step l c e).answer.reports) ≡ false
unfolding is_among listed appended step_of answer_of refused_by
no_three true l c e q = rw q (by_test (λ (rs : Reports). is_among connected_report (listed rs) ≡ false) (is_byte e.kind) (λ t. refl) (λ t. refl))
no_three false l c e q = rw q

first_idle : (m : Machine) (e : Event) → reports_to m none e ≡ [] → idle_until m none e ≡ idle_at_power_on.0
unfolding mark_of idle_asked idle_in folded
first_idle m e q = ap (λ (rs : List Report). 0 + (folded (asked_after (p3min_in m none)) idle_at_power_on rs).0) q

pub outside_shut : DemandTwo outside → ⊥
unfolding taken_of number_after clock_of count_of refusal is_unknown is_too_late is_out_of_order is_other is_byte is_nobody all_bytes
outside_shut d =
    let h = after outside fast_events in
    let i = first_idle outside (wake_at 300_000) computed.outside_silent in
    false≢true (sym (no_three (eqb (number_of h.link h.counts fast_last) taken) h.link h.counts fast_last refl)
    ∙ (d.connects_exactly fast_events fast_last (in_bytes fast_events refl)).1 (fast_number, fast_connects 300_000 outside none (omega (arith, i))))

-- ---- DEMAND 2 SHUTS OUT, by the order of an event's reports and by what a report 4 names, ..
-- .. one that gives an event's reports in another order: 8, 7, 2 when a wake-up comes too soon and cuts a message off
pub disordered_shut : DemandTwo disordered → ⊥
disordered_shut d = false≢true (sym computed.of_disordered ∙ in_order 0 (reports_to disordered cut_off too_soon) (d.in_order cut_off too_soon))

-- .. one that repeats reports without bytes: 6, 6 when a request is not answered
pub repeating_shut : DemandTwo repeating → ⊥
repeating_shut d = false≢true (sym computed.of_repeating ∙ in_order 0 (reports_to repeating asking too_late) (d.in_order asking too_late))

-- .. one that moves the byte of a report 4 to a report 5 after it: 4, 5, 5 when KB1 comes too late
pub moving_shut : DemandTwo moving → ⊥
moving_shut d = false≢true (sym computed.of_moving ∙ in_order 0 (reports_to moving addressed unheard) (d.in_order addressed unheard))

-- .. one that moves it to another report 4 of the same event: 4 with reason 1 and 4 with reason 3, when a wake-up that is low too long comes instead
pub shifting_shut : DemandTwo shifting → ⊥
shifting_shut d = false≢true (sym computed.of_shifting ∙ named_by_lem shifting addressed low_wrong (d.failed_names_lem addressed low_wrong))

-- ---- DEMAND 2 SHUTS OUT, by the idle time that the history asks of a wake-up, ..
-- .. one that keeps 300 ms after a stop: 55 ms after the mark it still says 8
pub patient_shut : DemandTwo patient → ⊥
patient_shut d = false≢true (sym computed.of_patient ∙ is_fair_start patient stopping 587_880 d computed.stopping_tried)

-- .. one that goes by P3 min of KB1's set: where 75 ms are in force it starts after 55
pub unaware_shut : DemandTwo unaware → ⊥
unaware_shut d = false≢true (sym computed.of_unaware ∙ is_fair_start unaware stopping_late 687_880 d computed.stopping_late_tried)

-- .. one that keeps 300 ms after P3 max has run out: at the very mark it says 8
pub waiting_shut : DemandTwo waiting → ⊥
waiting_shut d = false≢true (sym computed.of_waiting ∙ is_fair_start waiting running_out 5_420_960 d computed.running_out_tried)

-- .. one that a start that fails leaves the shorter time: 55 ms after a wrong low it starts
pub forgiving_shut : DemandTwo forgiving → ⊥
forgiving_shut d = false≢true (sym computed.of_forgiving ∙ is_fair_start forgiving failing 666_879 d computed.failing_tried)

-- .. one that a drop while down leaves it: it starts before 300 ms are over
pub unmoved_shut : DemandTwo unmoved → ⊥
unmoved_shut d = false≢true (sym computed.of_unmoved ∙ is_fair_start unmoved dropping 700_000 d computed.dropping_tried)

-- .. one that goes back to 300 ms at a start answered with 8: it says 8 again after 55 ms
pub strict_shut : DemandTwo strict → ⊥
strict_shut d = false≢true (sym computed.of_strict ∙ is_fair_start strict hurrying 667_879 d computed.hurrying_tried)

-- .. and one that judges a restart by P3 min: it starts 88 ms after the last byte of a session
pub hasty_shut : DemandTwo hasty → ⊥
hasty_shut d = false≢true (sym computed.of_hasty ∙ is_fair_start hasty (fast_events ▷ fast_last) 500_000 d computed.restart_tried)

-- ---- AND a builder with one constant frame: it can't read back as two different bytes
pub constant_shut : (frame : List ℕ) → ((byte : ℕ) → ReadsBack 0xEF 0x8F Plain 0 0 (byte ∷ []) frame) → ⊥
constant_shut frame r =
    let n = ap (λ (l : List ℕ). eqb (get_or l 0 0) 0x3F) (sym (r 0x3E).contents ∙ (r 0x3F).contents) in
    false≢true n
