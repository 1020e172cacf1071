-- DEMAND 2: "Frames, key bytes and timing codes agree with ISO 14230-2:1999 as condensed in document 01, built and read; what is built under good key
-- bytes reads back. The link connects exactly when every byte, complement and window of an initialization holds, and each report is the one document
-- 01's rules give."
-- Assumes nothing.
use Rattle.std.specs.Prelude.{ℕ, ◌+◌, ◌≤◌, ◌<◌, ◌&&◌, false, List, ◌↔◌, ◌⊎◌, ◌≡◌, eqb, length, get_or, take}
use Rattle.base.specs.Numbers.{taken}
use Rattle.base.specs.Reports.{frame_report, damage_report, connected_report, failed_report, outside_report, no_reply_report, down_report, not_idle_report}
use Rattle.base.specs.Reports.{closed, window_over, wrong_low, stopped, idle_over}
use Rattle.keys.specs.Keys.{good_pair, eighteen, is_in}
use Rattle.timing.specs.Timing.{p2_half, normal_set, extended_set, decoded_of, not_encoded, encoded_of}
use Rattle.timing.specs.declared.Windows.{Windows}
use Rattle.timing.specs.declared.Codes.{Codes}
use Rattle.timing.specs.P2Table.{table}
use Rattle.timing.specs.Coded.{Bytes, HasCodes, normal_codes, extended_codes, CodesOfSet}
use Rattle.frame.specs.Build.{over, Builds}
use Rattle.frame.specs.Shortest.{BuildsShortest}
use Rattle.frame.specs.Read.{read_of}
use Rattle.frame.specs.declared.Plan.{Plan}
use Rattle.frame.specs.Answers.{Built}
use Rattle.frame.specs.Layout.{SumsUp}
use Rattle.frame.specs.Announced.{IsFrame, plan_of}
use Rattle.frame.specs.ReadsBack.{ReadsBack, BuiltReadsBack}
use Rattle.events.specs.declared.Kind.TheVariants.{Byte, Drop}
use Rattle.events.specs.declared.Event.{Event}
use Rattle.reports.specs.declared.Report.{Report}
use Rattle.reports.specs.declared.Counts.{Counts}
use Rattle.demands.specs.Refusals.{Not}
use Rattle.demands.specs.Frames.{LengthPlaced}
use Rattle.demands.specs.Logs.{Log, ◌▷◌, InBytes, number_after, taken_of, heard_in, Begins}
use Rattle.demands.specs.Histories.{Machine, after, answer_with, reports_to, reports_of, Says, Among, Tells}
use Rattle.demands.specs.Accounts.{held_in}
use Rattle.demands.specs.Connecting.{Connects, Connected}
use Rattle.demands.specs.Sessions.{Talk, Session, SomeSession, Reads, OpensIn, Turns, gap_before, NoReply}
use Rattle.demands.specs.Each.{Formed}
use Rattle.demands.specs.Failing.{UnderWay, Fails}
use Rattle.demands.specs.Damage.{Damaged}
use Rattle.demands.specs.Orders.{InOrder, NamesFailed}
use Rattle.demands.specs.Endings.{Starter, NotIdle, WrongLow, Starting, AnswersStop, Downs}
use Rattle.demands.specs.Messages.{EndsInFrame, EndsRight, Interrupts, ReportsFrame}
use Rattle.demands.specs.Editions.{of_car}

-- ---- a. KEY BYTES, FRAMES, TIMING CODES: what the crates below have proved, in one place. (These speak of `build`, `read` and the codes by their
-- definitions, and of no link.)
pub record Foundation : Type 0 where
  -- the good pairs are the 18 values of document 01 with 8F, and no other
  pub keys : (kb1 kb2 : ℕ) → kb1 < 256 → good_pair kb1 kb2 ≡ (eqb kb2 0x8F && is_in kb1 eighteen)
  -- what `build` builds reads back: form, the addresses it carries, data; and what stood after it in the buffer still does
  pub built : (p : Plan) (bytes out : List ℕ) (r : Built) (after : List ℕ) → Builds p bytes out r after → r.no ≡ taken → BuiltReadsBack p bytes out r after
  -- .. and has its length in the place chosen, under the choice 0 in the format byte wherever it may stand there, and otherwise in the extra byte;
  pub placed : (p : Plan) (bytes out : List ℕ) (r : Built) (after : List ℕ) → Builds p bytes out r after → r.no ≡ taken
      → LengthPlaced p.choice p.pair.kb1 (length bytes) (take r.len after)
  -- .. and has at most 260 bytes.
  pub small : (p : Plan) (bytes out : List ℕ) (r : Built) (after : List ℕ) → Builds p bytes out r after → r.no ≡ taken → r.len ≤ 260
  -- Under the choice 0 `build` promises what document 01's builder did, which knew no choice.
  pub shortest : (p : Plan) (bytes out : List ℕ) (r : Built) (after : List ℕ) → p.choice ≡ 0
      → Builds p bytes out r after ↔ BuildsShortest p bytes out r after
  -- every frame that good key bytes announce reads back as what is built does; ..
  pub announced : (kb1 kb2 : ℕ) (s : List ℕ) (f : IsFrame kb1 kb2 s) → ReadsBack kb1 kb2 f.form f.target f.source f.bytes s
  -- .. and every one is built under a choice, into any buffer that has room for it
  pub all_built : (kb1 kb2 : ℕ) (s : List ℕ) (f : IsFrame kb1 kb2 s) (out : List ℕ) → length s ≤ length out
      → Builds (plan_of kb1 kb2 s f) f.bytes out (record { no = taken; len = length s }) (over s out)
  -- `read` takes exactly these, and their last byte is the sum of all before it
  pub read : (kb1 kb2 : ℕ) (s : List ℕ) → ((i : ℕ) → get_or s i 0 < 256) → ((read_of kb1 kb2 s).no ≡ taken) ↔ IsFrame kb1 kb2 s
  pub sums : (kb1 kb2 : ℕ) (s : List ℕ) → ((i : ℕ) → get_or s i 0 < 256) → (read_of kb1 kb2 s).no ≡ taken → SumsUp s
  -- the table of P2 max: its rule at each of its 256 entries
  pub p2max : (k : ℕ) → k < 256 → get_or table k 0 ≡ (p2_half k).0
  -- allowed codes become windows, which become the same codes again; windows that become codes come back from them; windows have codes exactly if
  -- allowed codes stand for them, and are 10 otherwise
  pub codes : (c : Codes) → Bytes c → (decoded_of c).no ≡ taken → encoded_of (decoded_of c).windows ≡ record { no = taken; codes = c }
  pub windows : (w : Windows) → (encoded_of w).no ≡ taken → decoded_of (encoded_of w).codes ≡ record { no = taken; windows = w }
  pub coded : (w : Windows) → ((encoded_of w).no ≡ taken) ↔ HasCodes w
  pub uncoded : (w : Windows) → (HasCodes w → ⊥) → encoded_of w ≡ not_encoded
  -- the codes of both sets
  pub normal : CodesOfSet normal_codes normal_set
  pub extended : CodesOfSet extended_codes extended_set

-- DEMAND 2, of any link
pub record DemandTwo (m : Machine) : Type 0 where
  pub foundation : Foundation
  -- ---- b. THE LINK CONNECTS EXACTLY when every byte, complement and window of an initialization holds
  -- Over every list of events from a fresh link: the next event is answered with report 3 exactly if it is taken and completes an initialization. Which
  -- events are taken, and what completes one, is said of the events alone (specs/Logs.antt, Connecting.antt, Starts.antt), but for the idle time before its
  -- start, which goes by how the link went down, and so by the reports until then (Idle.antt). (`InBytes`: values of events are bytes, as they are in the
  -- code.)
  pub connects_exactly : (es : Log) (e : Event) → InBytes es
      → Says connected_report (reports_to m es e) ↔ ((number_after (taken_of es) e ≡ taken) × Connects m (taken_of es) e)
  -- That report is the only one of its event and names all bytes of the initialization and no other; its key bytes are good, or a car's.
  pub connects_names : (es : Log) (e : Event) → InBytes es → number_after (taken_of es) e ≡ taken → (c : Connects m (taken_of es) e)
      → Connected (taken_of es) e c (reports_to m es e)
  -- ---- c. WHAT THE LINK REPORTS AS 1 is a frame of the session's edition, and its timing is the one that the frames say
  -- A session of the history lasts from a report 3 until a report 7, with the key bytes among the bytes that the report 3 names. Its windows are the set
  -- of these key bytes, the allowed codes of the latest tester frame, or as before, as `windows_in` reads it off the session's frames; the reply that may come
  -- is the one that its last report leaves.
  -- Each report 1 is made in a session and names bytes that are a frame under the session's key bytes: such as `read` takes, or a car's message without a
  -- fault.
  pub frames_read : (es : Log) (e : Event) (r : Report) → InBytes (es ▷ e) → Among r (reports_to m es e) → r.number ≡ frame_report → Reads m es e r
  -- And the other way round: a report 1 names these bytes exactly if the event is the byte that ends a message of the session in them, or, of a car, if the
  -- message is these bytes and over. A message goes from a first byte that is neither early nor stray over bytes of the same side, no more than 20 ms apart,
  -- until `read` takes what was heard of it (a car's goes on). Which byte is a first one, and whether it is early or stray, is said by the events before it
  -- and the reports of bytes before it, and on a 14230 link by nothing that its own event reports. (What a car's link holds may end as the byte comes:
  -- `OpensIn` and `reply_once_ended` then ask whether its event has reported that.)
  pub frames_exactly : (es : Log) (e : Event) (bytes : List ℕ) → InBytes (es ▷ e)
      → ReportsFrame (heard_in (es ▷ e)) (reports_to m es e) bytes ↔ EndsInFrame m es e bytes
  -- ---- d. DAMAGE, STRAY AND EARLY
  -- A report 1 or 2 names bytes from the first byte of a message on, and it is a damage with reason 3, or 4, exactly if that byte was early, or stray, by
  -- its side and its gap under the windows in force then, and by the reply that may come after the time before it.
  pub turns_exactly : (es : Log) (e : Event) (r : Report) → InBytes (es ▷ e) → Among r (reports_to m es e)
      → (r.number ≡ frame_report) ⊎ (r.number ≡ damage_report) → Turns m (es ▷ e) r
  -- No first byte escapes this: whatever events follow, the report that names a byte which opens a message begins with it.
  pub opens_first : (before : Log) (b : Event) (t : Talk) → InBytes (before ▷ b) → OpensIn m before b t → (es : Log) → Begins (before ▷ b) es → InBytes es
      → (r : Report) → Among r (reports_of m es) → r.first ≤ length (heard_in before) → length (heard_in before) < r.first + r.bytes
      → r.first ≡ length (heard_in before)
  -- Report 2, in a session, exactly if something is held and 20 ms have passed since the mark, or A, W or D comes, or the unit's byte ends the tester's
  -- message under 94 94; and it does not end in a frame, as a car's right message does once it is over; ..
  pub damage_exactly : (es : Log) (e : Event) (t : Talk) → InBytes es → Session m es t
      → Says damage_report (reports_to m es e)
      ↔ ((number_after (taken_of es) e ≡ taken) × (0 < held_in m es) × Not (EndsRight m es e)
      × ((20_000 < (gap_before (taken_of es) e).0) ⊎ Starter e ⊎ (e.kind ≡ Drop) ⊎ Interrupts m es e))
  -- .. and it names all that is held before the event, up to the last byte heard.
  pub damage_names : (es : Log) (e : Event) (r : Report) → Among r (reports_to m es e) → r.number ≡ damage_report
      → (r.bytes ≡ held_in m es) × (r.first + r.bytes ≡ length (heard_in es))
  -- Its reason is 3 or 4 exactly if its first byte was early or stray. Where it was neither, the reason is the one that the bytes named give under the
  -- session's key bytes, by the first of them that fails (5, 6 or 8 the first byte, 7, 8 or 9 a later one; of a car only 7); and where none fails, a message
  -- was held, and the reason is 1 (of a car 6, 8 or 9, its fault) if 20 ms have passed since the mark or a byte ends it, and else 2.
  pub damage_reasons : (es : Log) (e : Event) (r : Report) → InBytes (es ▷ e) → Among r (reports_to m es e) → r.number ≡ damage_report
      → Damaged m es e r
  -- Outside a session there is neither a report 1 nor a report 2.
  pub messages_in_session : (es : Log) (e : Event) (r : Report) → InBytes (es ▷ e) → Among r (reports_to m es e)
      → (r.number ≡ frame_report) ⊎ (r.number ≡ damage_report) → SomeSession m es
  -- ---- e. THE OTHER REPORTS
  -- Report 7 and its reasons, in a session: idle too long, dropped, restarted; ..
  pub downs_exactly : (es : Log) (e : Event) (t : Talk) → InBytes es → Session m es t → Downs m es e t
  -- .. and stopped, exactly by a frame from the unit that answers a stop.
  pub stops_exactly : (es : Log) (e : Event) (t : Talk) → InBytes (es ▷ e) → Session m es t
      → Tells down_report stopped (reports_to m es e) ↔ AnswersStop m t es e
  -- Report 6, in a session, exactly if a first reply is awaited and P2 max has passed.
  pub no_reply_exactly : (es : Log) (e : Event) (t : Talk) → InBytes es → Session m es t
      → Says no_reply_report (reports_to m es e)
      ↔ ((number_after (taken_of es) e ≡ taken) × NoReply m es e t)
  -- Outside a session there is neither.
  pub only_in_session : (es : Log) (e : Event) → InBytes es
      → Says no_reply_report (reports_to m es e) ⊎ Says down_report (reports_to m es e) → SomeSession m es
  -- Report 8 exactly if an address or a wake-up comes before its idle time is over; ..
  pub not_idle_exactly : (es : Log) (e : Event) → InBytes es
      → Says not_idle_report (reports_to m es e) ↔ ((number_after (taken_of es) e ≡ taken) × NotIdle m (taken_of es) e)
  -- .. report 4 with reason 3 exactly if a wake-up comes later, and is low for less than 24 or more than 26 ms.
  pub wrong_low_exactly : (es : Log) (e : Event) → InBytes es
      → Tells failed_report wrong_low (reports_to m es e) ↔ ((number_after (taken_of es) e ≡ taken) × WrongLow m (taken_of es) e)
  -- Every other address or wake-up that is taken starts an initialization, and it lasts until a report 3 or 4 (`Starting`).
  -- In an initialization, by its start and its bytes so far and by what is due next: report 4 with reason 1 exactly if the present window's end has
  -- passed, with reason 4, 5 or 6 exactly if the byte in time is from the wrong side, else early, else does not fit; report 3 exactly if it is right and
  -- the last; and otherwise the initialization goes on.
  pub fails_exactly : (es : Log) (e : Event) → InBytes es → Starting m es → (u : UnderWay (taken_of es)) → Fails m es e u
  pub under_way : (es : Log) → InBytes es → Starting m es → UnderWay (taken_of es)
  -- Report 4 with reason 2 exactly if A, W or D comes in an initialization, and makes no report 4 with reason 1.
  pub closed_start_exactly : (es : Log) (e : Event) → InBytes es
      → Tells failed_report closed (reports_to m es e)
      ↔ ((number_after (taken_of es) e ≡ taken) × Starting m es × (Starter e ⊎ (e.kind ≡ Drop)) × Not (Tells failed_report window_over (reports_to m es e)))
  -- Outside an initialization a report 4 is one of a wrong low.
  pub never_else : (es : Log) (e : Event) (k : ℕ) → InBytes es → Not (Starting m es) → Tells failed_report k (reports_to m es e) → k ≡ wrong_low
  -- Report 5 exactly if a byte comes in neither a session nor an initialization, or in one that ended as time passed to the byte (report 4 with reason 1,
  -- or report 7 with reason 2, at the same event).
  pub outside_exactly : (es : Log) (e : Event) → InBytes es
      → Says outside_report (reports_to m es e)
      ↔ ((number_after (taken_of es) e ≡ taken) × (e.kind ≡ Byte)
      × ((Not (SomeSession m es) × Not (Starting m es))
      ⊎ Tells failed_report window_over (reports_to m es e)
      ⊎ Tells down_report idle_over (reports_to m es e)))
  -- Bytes are held in a session or in an initialization only. ("Bytes held are those of the open message, damage or initialization".)
  pub none_held_lem : (es : Log) → InBytes es → Not (SomeSession m es) → Not (Starting m es) → held_in m es ≡ 0
  -- Each report of an event has the event's end as its time, a number from 1 to 8, a reason that its number has and none where it has none; 6, 7 and 8 name
  -- no byte, 5 names one, 1, 2 and 3 at least one.
  pub each_formed : (es : Log) (e : Event) (r : Report) → Among r (reports_to m es e) → Formed e r
  -- ---- f. THE REPORTS OF ONE EVENT
  -- They come in the order of the rules, and no rule reports twice.
  pub in_order : (es : Log) (e : Event) → InOrder 0 (reports_to m es e)
  -- There are three at most, unless a car's session lasts. (Then there may be four: `Accounted`.)
  pub three_at_most : (es : Log) (e : Event) → InBytes es → ((t : Talk) → Session m es t → of_car t.pair ≡ false) → length (reports_to m es e) ≤ 3
  -- They go by the events alone, and by no counts: an event that is taken with other counts lent is reported as it is with those of the history, and leaves
  -- the same link. ("indexes come from the link")
  pub lent_alike : (es : Log) (c : Counts) (e : Event) → (answer_with m es c e).no ≡ taken
      → ((answer_with m es c e).reports ≡ reports_to m es e) × ((answer_with m es c e).link ≡ (after m (es ▷ e)).link)
  -- A report 4 names all bytes that were held for reasons 1 and 2, none for 3, and for 4, 5 and 6 these and the byte that fails.
  pub failed_names_lem : (es : Log) (e : Event) (r : Report) → Among r (reports_to m es e) → r.number ≡ failed_report → NamesFailed (held_in m es) r
