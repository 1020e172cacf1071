-- What our link and the wrong programs of document 01 make of some events, and the idle times asked in them: antt computes it. The events are such as the right
-- link takes; after document 01's example stands a request for new timing and its reply, where the accident happened, and then a stop, P3 max that runs out, a
-- drop, a wake-up too soon, a restart. Of the link that reports each byte as outside nothing is computed here: demand 3 passes it after every history (OutsidePasses.antt), and demand 2 shuts it out whatever the events (ShutOut.antt).
-- Assumes nothing.
use Prim.Native.Nat.{ℕ, ◌+◌, ◌<◌}
use mathlib.Core.Bool.{Bool, true, false, ◌&&◌, false≢true}
use mathlib.Core.List.{List, [], ◌∷◌}
use mathlib.Core.Path.{◌≡◌, refl, ap}
use mathlib.Core.Logic.{◌↔◌, inl, inr}
use borrow.Author.Tests.{eq-eqb, eqb-true, lt-ltb, ltb-true}
use lib.Dec.{eqb, ltb}
use lib.ListN.{length}
use Rattle.base.specs.Sums.{count_sum, byte_sum}
use Rattle.base.specs.Numbers.{taken}
use Rattle.std.specs.Prelude.{if◌then◌else◌}
use Rattle.base.proofs.Tests.{and_split}
use Rattle.base.specs.Reports.{frame_report, connected_report, failed_report, outside_report, not_idle_report, window_over}
use Rattle.units.specs.Units.{micros}
use Rattle.keys.specs.Keys.{good_pair, length_in_format, extra_length, no_addresses, with_addresses, is_extended, takes_form}
use Rattle.keys.specs.Editions.{edition_of, is_car, is_quick, is_slow_pair}
use Rattle.talk.specs.Cars.{is_head_byte, counted_up, is_car_size, car_reason, car_grown, car_begun}
use Rattle.timing.specs.Timing.{named_set, set_of, min_of, p3_max_of, p2_half, p2_max_of, windows_by, is_below, is_allowed, decoded_of, same_windows, is_passed, is_unlimited}
use Rattle.frame.specs.Layout.{format_form, address_count, extra_count, head_size, total, checksum_of, is_nowhere, carried}
use Rattle.frame.specs.Read.{place_read, length_read, laid_of, read_of, data_of}
use Rattle.frame.specs.Read.{judged as judged_frame}
use Rattle.events.specs.Events.{is_byte, is_other, is_nobody, is_tester, is_unit, same_side, marks, is_unknown, is_too_late, is_out_of_order, refusal}
use Rattle.events.specs.declared.Kind.TheVariants.{WakeUp, Tick, Drop, Other}
use Rattle.events.specs.declared.Side.{Side}
use Rattle.events.specs.declared.Side.TheVariants.{Tester, Unit, Nobody}
use Rattle.events.specs.declared.Event.{Event}
use Rattle.starts.specs.Starts.{due_at, origin_of, is_reply_format, fits, is_from, is_early}
use Rattle.starts.specs.Starts.{judged, is_over, after_format, onward, is_last, slow_start, fast_start, no_start, complement}
use Rattle.talk.specs.Talk.{is_first, tester_turn, is_stray, is_hasty, unit_turn, turn_reason, has_extra, place_announced, head_reason, first_reason, end_reason, is_free}
use Rattle.talk.specs.Talk.{after_addresses, part_after_format, begun as begun_message, later_reason, is_sum, with_seven, after_data, with_data, grown, is_exactly}
use Rattle.talk.specs.Talk.{asks_codes, request_of, is_effective, codes_in, if_allowed, windows_for, windows_after, spent, request_after, is_stopped, frame_reason}
use Rattle.phases.specs.Phases.{is_down, is_starting, is_quiet, is_held, is_open, down, starting, connected, talking, holding, damaged, settled, timed, asked, answered, framed}
use Rattle.moves.specs.Moves.{is_silent, loss_reason, after_silence, after_p2, after_p3, since_origin, after_window, closing, leaving, is_idle, starting_slow, is_good_low}
use Rattle.moves.specs.Moves.{starting_fast, start_byte, reason_at_first, first_byte, later_byte, after_byte, after_stop, is_cut_in, before_byte, is_right, ended}
use Rattle.reports.specs.Reporting.{names_bytes, report_of, appended, listed, told, moved}
use Rattle.reports.specs.Counting.{zero_counts, is_full, counted_one, counted_all, counted_byte, counted_event}
use Rattle.reports.specs.declared.Report.{Report}
use Rattle.reports.specs.declared.Counts.{Counts}
use Rattle.link.specs.Handling.{fresh_link, passed, shut, byte_heard, acted, begun, handled, mark_after, link_after}
use Rattle.link.specs.Stepping.{number_of, refused_by, taken_by, answer_of, counts_after, step_of}
use Rattle.demands.specs.Logs.{last_side, Log, none, ◌▷◌, mark_of, heard_of, bytes_of, count_of, clock_of, number_after, taken_of, heard_in}
use Rattle.demands.specs.Histories.{Machine, after, answer_with, reports_to, reports_of, folded, is_among, Among, first, later}
use Rattle.demands.specs.Sessions.{same, stops, resets, retimes, pending_in, windows_in, first_key_at, first_key, second_key, reply_to, after_report}
use Rattle.demands.specs.Sessions.{codes_in as codes_of}
use Rattle.demands.specs.Idle.{latest_after, latest_talk, p3min_in, idle_after, is_drop, idle_in, asked_after, idle_asked, idle_until}
use Rattle.demands.specs.Accounts.{named_by, bytes_named, InTurn, reports_in, counts_of, named_in, held_in, Accounted}
use Rattle.demands.specs.Orders.{rule_of, InOrder, NamesFailed}
use Rattle.demands.proofs.Connecting.Example.{byte_from, address, wake_at, fast_events, fast_last, slow_before, slow_address, all_bytes, in_bytes}
use Rattle.demands.specs.Wrong.{unchanged, idling, inventing, behind, twice, forgetting, possessive, disordered, repeating, moving, shifting}
use Rattle.demands.specs.Wrong.{outside, patient, unaware, waiting, forgiving, unmoved, strict, hasty}
use Rattle.demands.specs.OurLink.{our_link}
use Rattle.demands.specs.DemandTwo.{DemandTwo}
use Rattle.talk.specs.Talk.{begun_by}

-- ---- some events
-- a tick, and two bytes that a fresh link hears
abbrev pub tick : Event
tick = record { start = micros 0; end = micros 0; kind = Tick; side = Nobody; value = 0 }

abbrev pub two_bytes : Log
two_bytes = none ▷ byte_from Tester 0x12 0 ▷ byte_from Tester 0x34 1_000

-- an event of no kind; and a byte with counts lent that are not the link's own
abbrev pub unknown : Event
unknown = record { start = micros 2_000; end = micros 2_000; kind = Other; side = Nobody; value = 0 }

abbrev pub one_byte : Event
one_byte = byte_from Tester 0x12 0

abbrev pub one_heard : Counts
one_heard = record { heard = 1; framed = 0; damaged = 0; started = 0; outside = 1; frames = 0; damages = 0 }

-- bytes of a side after a log, with no gap between
abbrev pub bytes_from : Side → ℕ → List ℕ → Log → Log
bytes_from side start [] log = log
bytes_from side start (v ∷ vs) log = bytes_from side (start + 960) vs (log ▷ byte_from side v start)

-- document 01's initialization, a request for new timing, and its reply: 83 03 and five codes, C3 03
abbrev pub retiming : Log
retiming =
    bytes_from Unit 500_160 (0x02 ∷ 0xC3 ∷ 0x03 ∷ 0xC8 ∷ [])
    (bytes_from Tester 466_520 (0x07 ∷ 0x83 ∷ 0x03 ∷ 0x32 ∷ 0x02 ∷ 0x6E ∷ 0x14 ∷ 0x0C ∷ 0x4F ∷ []) (fast_events ▷ fast_last))

-- after document 01's initialization, a message of which one byte is heard, and a wake-up too soon after it
abbrev pub cut_off : Log
cut_off = fast_events ▷ fast_last ▷ byte_from Tester 0x01 466_520

abbrev pub too_soon : Event
too_soon = record { start = micros 470_000; end = micros 495_000; kind = WakeUp; side = Nobody; value = 0 }

-- document 01's example: a request that is not answered, and a tick when P2 max has passed
abbrev pub asking : Log
asking = bytes_from Tester 466_520 (0x01 ∷ 0x3E ∷ 0x3F ∷ []) (fast_events ▷ fast_last)

abbrev pub too_late : Event
too_late = record { start = micros 529_401; end = micros 529_401; kind = Tick; side = Nobody; value = 0 }

-- a slow start that has heard 55; then KB1 too late; or else, too late for KB1 too, a wake-up that is low too long
abbrev pub addressed : Log
addressed = none ▷ address 0x33 300_000 2_300_000 ▷ byte_from Unit 0x55 2_360_000

abbrev pub unheard : Event
unheard = byte_from Unit 0x00 2_400_000

abbrev pub low_wrong : Event
low_wrong = record { start = micros 2_660_960; end = micros 2_700_000; kind = WakeUp; side = Nobody; value = 0 }

-- document 01's initialization, and a stop that is answered; the same after 83 03 has set P3 min to 75 ms
abbrev pub stop_at : ℕ → Log → Log
stop_at t log = bytes_from Unit (t + 30_000) (0x01 ∷ 0xC2 ∷ 0xC3 ∷ []) (bytes_from Tester t (0x01 ∷ 0x82 ∷ 0x83 ∷ []) log)

abbrev pub stopping : Log
stopping = stop_at 500_000 (fast_events ▷ fast_last)

abbrev pub stopping_late : Log
stopping_late =
    stop_at 600_000 (bytes_from Unit 510_000 (0x02 ∷ 0xC3 ∷ 0x03 ∷ 0xC8 ∷ [])
    (bytes_from Tester 470_000 (0x07 ∷ 0x83 ∷ 0x03 ∷ 0x32 ∷ 0x02 ∷ 0x96 ∷ 0x14 ∷ 0x0A ∷ 0x75 ∷ []) (fast_events ▷ fast_last)))

-- P3 max has run out, and a byte that nobody asked for has moved the mark
abbrev pub running_out : Log
running_out = fast_events ▷ fast_last ▷ record { start = micros 5_411_521; end = micros 5_411_521; kind = Tick; side = Nobody; value = 0 } ▷ byte_from Unit 0x00 5_420_000

-- after a stop: a wake-up that is low too short; a drop; a wake-up too soon
abbrev pub failing : Log
failing = stopping ▷ record { start = micros 587_880; end = micros 611_879; kind = WakeUp; side = Nobody; value = 0 }

abbrev pub dropping : Log
dropping = stopping ▷ record { start = micros 600_000; end = micros 600_000; kind = Drop; side = Nobody; value = 0 }

abbrev pub hurrying : Log
hurrying = stopping ▷ wake_at 587_879

-- ---- parts of the demands, as tests
abbrev pub is_in_turn : ℕ → List Report → Bool
is_in_turn n [] = true
is_in_turn n (r ∷ rs) = eqb r.first n && is_in_turn (n + r.bytes) rs

in_turn : (n : ℕ) (rs : List Report) → InTurn n rs → is_in_turn n rs ≡ true
in_turn n [] t = refl
in_turn n (r ∷ rs) (InTurn.behind p t) = rw (eq-eqb r.first n p, in_turn (n + r.bytes) rs t)

abbrev pub fair : Machine → Log → Bool
fair m es =
    is_in_turn 0 (reports_of m es)
    && eqb (after m es).counts.heard (length (heard_in es))
    && eqb (after m es).counts.frames (reports_in frame_report (reports_of m es))

pub is_fair : (m : Machine) (es : Log) → Accounted m es → fair m es ≡ true
unfolding counts_of
is_fair m es a =
    rw (
      in_turn 0 (reports_of m es) a.indexes,
      eq-eqb (after m es).counts.heard (length (heard_in es)) (ap (λ (c : Counts). c.heard) a.counts),
      eq-eqb (after m es).counts.frames (reports_in frame_report (reports_of m es)) (ap (λ (c : Counts). c.frames) a.counts),
    )

abbrev pub is_in_order : ℕ → List Report → Bool
is_in_order before [] = true
is_in_order before (r ∷ rs) = ltb before (rule_of r.number r.reason) && is_in_order (rule_of r.number r.reason) rs

pub in_order : (before : ℕ) (rs : List Report) → InOrder before rs → is_in_order before rs ≡ true
in_order before [] o = refl
in_order before (r ∷ rs) (InOrder.next p o) =
    rw (lt-ltb before (rule_of r.number r.reason) p, in_order (rule_of r.number r.reason) rs o)

-- reports 4 with reason 1 name so many bytes
abbrev pub over_all : ℕ → List Report → Bool
over_all held [] = true
over_all held (r ∷ rs) = (if eqb r.number failed_report && eqb r.reason window_over then eqb r.bytes held else true) && over_all held rs

abbrev pub over_right : Machine → Log → Event → Bool
over_right m es e = over_all (held_in m es) (reports_to m es e)

over_all_lem : (held : ℕ) (rs : List Report) → ((r : Report) → Among r rs → r.number ≡ failed_report → NamesFailed held r) → over_all held rs ≡ true
over_all_lem held [] f = refl
over_all_lem held (r ∷ rs) f = rw (here (eqb r.number failed_report) (eqb r.reason window_over) refl refl, over_all_lem held rs (λ q i. f q (later i)))
  where
    here : (x y : Bool) → eqb r.number failed_report ≡ x → eqb r.reason window_over ≡ y → (if x && y then eqb r.bytes held else true) ≡ true
    here true true p q =
        eq-eqb r.bytes held ((f r first (eqb-true r.number failed_report p)).ended (inl (eqb-true r.reason window_over q)))
    here true false p q = refl
    here false y p q = refl

pub named_by_lem : (m : Machine) (es : Log) (e : Event)
    → ((r : Report) → Among r (reports_to m es e) → r.number ≡ failed_report → NamesFailed (held_in m es) r) → over_right m es e ≡ true
named_by_lem m es e f = over_all_lem (held_in m es) (reports_to m es e) f

-- a start is answered with 8 exactly if it comes before the time that the history asks
abbrev is_same : Bool → Bool → Bool
is_same true b = b
is_same false true = false
is_same false false = true

abbrev pub fair_start : Machine → Log → Event → Bool
fair_start m es e = is_same (is_among not_idle_report (reports_to m es e)) (ltb e.start.0 (idle_until m (taken_of es) e))

same_test : (a b : Bool) (P : Type 0) → (a ≡ true) ↔ P → (b ≡ true) ↔ P → is_same a b ≡ true
same_test true b P f g = g.1 (f.0 refl)
same_test false true P f g = absurd (false≢true (f.1 (g.0 refl)))
same_test false false P f g = refl

abbrev pub is_tried : Log → ℕ → Bool
is_tried es t = all_bytes es && eqb (number_after (taken_of es) (wake_at t)) taken

pub is_fair_start : (m : Machine) (es : Log) (t : ℕ) → DemandTwo m → is_tried es t ≡ true → fair_start m es (wake_at t) ≡ true
is_fair_start m es t d z =
    let y = and_split _ _ z in
    let x = d.not_idle_exactly es (wake_at t) (in_bytes es y.0) in
    let from = idle_until m (taken_of es) (wake_at t) in
    same_test (is_among not_idle_report (reports_to m es (wake_at t))) (ltb t from) (t < from)
    (λ s. (x.0 s).1.1, λ h. x.1 (eqb-true _ taken y.1, (inr refl, h))) (ltb-true t from, lt-ltb t from)

-- ---- what the wrong programs make of the events: one computation
pub record Computed : Type 0 where
  pub of_unchanged : fair unchanged two_bytes ≡ false
  pub of_idling : fair idling two_bytes ≡ false
  pub of_inventing : fair inventing (none ▷ tick) ≡ false
  pub of_behind : fair behind retiming ≡ false
  pub of_twice : fair twice retiming ≡ false
  pub refuses_unknown : eqb (answer_with forgetting two_bytes zero_counts unknown).no 0 ≡ false
  pub of_forgetting : eqb (answer_with forgetting two_bytes zero_counts unknown).link.clock.0 (after forgetting two_bytes).link.clock.0 ≡ false
  pub takes_lent : (answer_with possessive none one_heard one_byte).no ≡ taken
  pub of_possessive : is_among outside_report (answer_with possessive none one_heard one_byte).reports ≡ false
  pub own_reported : is_among outside_report (reports_to possessive none one_byte) ≡ true
  pub of_disordered : is_in_order 0 (reports_to disordered cut_off too_soon) ≡ false
  pub of_repeating : is_in_order 0 (reports_to repeating asking too_late) ≡ false
  pub of_moving : is_in_order 0 (reports_to moving addressed unheard) ≡ false
  pub of_shifting : over_right shifting addressed low_wrong ≡ false
  pub outside_silent : reports_to outside none (wake_at 300_000) ≡ []
  pub stopping_tried : is_tried stopping 587_880 ≡ true
  pub stopping_late_tried : is_tried stopping_late 687_880 ≡ true
  pub running_out_tried : is_tried running_out 5_420_960 ≡ true
  pub failing_tried : is_tried failing 666_879 ≡ true
  pub dropping_tried : is_tried dropping 700_000 ≡ true
  pub hurrying_tried : is_tried hurrying 667_879 ≡ true
  pub restart_tried : is_tried (fast_events ▷ fast_last) 500_000 ≡ true
  pub of_patient : fair_start patient stopping (wake_at 587_880) ≡ false
  pub of_unaware : fair_start unaware stopping_late (wake_at 687_880) ≡ false
  pub of_waiting : fair_start waiting running_out (wake_at 5_420_960) ≡ false
  pub of_forgiving : fair_start forgiving failing (wake_at 666_879) ≡ false
  pub of_unmoved : fair_start unmoved dropping (wake_at 700_000) ≡ false
  pub of_strict : fair_start strict hurrying (wake_at 667_879) ≡ false
  pub of_hasty : fair_start hasty (fast_events ▷ fast_last) (wake_at 500_000) ≡ false
  -- and of our own link, by which the gate's edits of it (must-fail/) are seen refused first
  pub ours_taken : (after our_link retiming).link.taken ≡ 26
  pub ours_fair : fair our_link retiming ≡ true
  pub ours_connects : is_among connected_report (reports_to our_link fast_events fast_last) ≡ true
  pub ours_cut_off : is_in_order 0 (reports_to our_link cut_off too_soon) ≡ true
  pub ours_over : over_right our_link addressed low_wrong ≡ true
  pub ours_after_stop : fair_start our_link stopping (wake_at 587_880) ≡ true
  pub ours_after_late_stop : fair_start our_link stopping_late (wake_at 687_880) ≡ true
  pub ours_after_run_out : fair_start our_link running_out (wake_at 5_420_960) ≡ true
  pub ours_after_failing : fair_start our_link failing (wake_at 666_879) ≡ true
  pub ours_after_drop : fair_start our_link dropping (wake_at 700_000) ≡ true
  pub ours_after_eight : fair_start our_link hurrying (wake_at 667_879) ≡ true
  pub ours_restarts : fair_start our_link (fast_events ▷ fast_last) (wake_at 500_000) ≡ true
  -- the time from which a start may come: after 300 ms on a fresh link and after an initialization that failed, ..
  pub from_fresh : idle_until our_link none (wake_at 300_000) ≡ 300_000
  pub from_failed : idle_until our_link slow_before slow_address ≡ 2_600_000
  pub from_wrong_low : idle_until our_link failing (wake_at 666_879) ≡ 911_879
  -- .. after P3 min where the unit has answered a stop, also P3 min as frames have set it; at the very mark where P3 max has run out; ..
  pub from_stop : idle_until our_link stopping (wake_at 587_880) ≡ 587_880
  pub from_late_stop : idle_until our_link stopping_late (wake_at 687_880) ≡ 707_880
  pub from_run_out : idle_until our_link running_out (wake_at 5_420_960) ≡ 5_420_960
  -- .. after 300 ms again by a drop and at a restart; and after P3 min still, from the new mark, where a wake-up was answered with 8
  pub from_drop : idle_until our_link dropping (wake_at 700_000) ≡ 832_880
  pub from_restart : idle_until our_link (fast_events ▷ fast_last) (wake_at 500_000) ≡ 711_520
  pub from_eight : idle_until our_link hurrying (wake_at 667_879) ≡ 667_879

pub computed : Computed
unfolding
    after reports_of is_among listed reports_in taken_of number_after clock_of count_of heard_of step_of answer_of counts_after number_of taken_by refused_by refusal is_unknown is_other is_byte is_nobody
    is_too_late is_out_of_order is_full handled acted begun passed shut byte_heard link_after mark_after fresh_link zero_counts counted_event counted_byte counted_all
    counted_one moved told report_of appended names_bytes after_silence after_p2 after_p3 after_window after_byte after_stop start_byte starting_fast starting_slow
    is_idle is_good_low closing leaving is_open is_quiet is_held is_down is_starting is_silent since_origin origin_of
    due_at is_over judged is_from is_early fits onward is_last fast_start no_start starting down count_sum byte_sum same_side is_tester
    is_unit marks is_reply_format after_format is_first is_stopped connected set_of good_pair length_in_format extra_length no_addresses with_addresses is_extended
    takes_form is_passed is_unlimited reason_at_first first_byte later_byte first_reason turn_reason tester_turn unit_turn is_stray is_hasty head_reason
    format_form place_announced has_extra begun_message part_after_format after_addresses later_reason is_sum grown with_data with_seven after_data holding talking
    framed asked answered timed settled damaged request_of is_exactly asks_codes windows_after is_effective windows_for codes_in if_allowed decoded_of is_allowed
    windows_by min_of p2_max_of p2_half p3_max_of is_below spent request_after same_windows loss_reason slow_start complement rule_of held_in named_in
    folded mark_of bytes_of latest_after latest_talk p3min_in idle_after is_drop idle_in asked_after idle_asked after_report named_by bytes_named last_side first_key_at first_key
    second_key windows_in pending_in same stops resets retimes codes_of data_of read_of judged_frame laid_of length_read place_read head_size extra_count address_count total checksum_of is_nowhere
    carried all_bytes is_cut_in before_byte is_right ended end_reason is_free frame_reason begun_by edition_of is_car is_quick is_slow_pair named_set reply_to car_begun car_grown car_reason
    is_head_byte counted_up is_car_size
computed = record {
  of_unchanged = refl;
  of_idling = refl;
  of_inventing = refl;
  of_behind = refl;
  of_twice = refl;
  refuses_unknown = refl;
  of_forgetting = refl;
  takes_lent = refl;
  of_possessive = refl;
  own_reported = refl;
  of_disordered = refl;
  of_repeating = refl;
  of_moving = refl;
  of_shifting = refl;
  outside_silent = refl;
  stopping_tried = refl;
  stopping_late_tried = refl;
  running_out_tried = refl;
  failing_tried = refl;
  dropping_tried = refl;
  hurrying_tried = refl;
  restart_tried = refl;
  of_patient = refl;
  of_unaware = refl;
  of_waiting = refl;
  of_forgiving = refl;
  of_unmoved = refl;
  of_strict = refl;
  of_hasty = refl;
  ours_taken = refl;
  ours_fair = refl;
  ours_connects = refl;
  ours_cut_off = refl;
  ours_over = refl;
  ours_after_stop = refl;
  ours_after_late_stop = refl;
  ours_after_run_out = refl;
  ours_after_failing = refl;
  ours_after_drop = refl;
  ours_after_eight = refl;
  ours_restarts = refl;
  from_fresh = refl;
  from_failed = refl;
  from_wrong_low = refl;
  from_stop = refl;
  from_late_stop = refl;
  from_run_out = refl;
  from_drop = refl;
  from_restart = refl;
  from_eight = refl;
}
