-- A connected link's session, told by the history: its key bytes, the frames reported in it, the windows in force and the reply that may come; what time
-- ends in it; and the first byte of a message, told by the events before it.
-- (document 01, "Connected." and "By their data"; document 02, "Five")
-- Assumes nothing.
use Rattle.std.specs.Prelude.{ℕ, suc, ◌-◌, ◌<◌, Bool, true, false, ◌&&◌, ◌||◌, List, [], ◌∷◌, ◌≡◌, ◌↔◌, ◌⊎◌, eqb, length, get_or, if◌then◌else◌}
use Rattle.base.specs.Numbers.{taken}
use Rattle.base.specs.Reports.{frame_report, damage_report, connected_report, no_reply_report, down_report, early, stray}
use Rattle.units.specs.Units.{gap_of}
use Rattle.units.specs.declared.Micros.{Micros}
use Rattle.keys.specs.Keys.{pair_of}
use Rattle.keys.specs.declared.Pair.{Pair}
use Rattle.timing.specs.Timing.{set_of, decoded_of, is_passed}
use Rattle.timing.specs.declared.Windows.{Windows}
use Rattle.timing.specs.declared.Codes.{Codes}
use Rattle.frame.specs.Read.{data_of}
use Rattle.events.specs.Events.{is_tester}
use Rattle.events.specs.declared.Side.{Side}
use Rattle.events.specs.declared.Side.TheVariants.{Tester, Unit}
use Rattle.events.specs.declared.Kind.TheVariants.{Byte}
use Rattle.events.specs.declared.Event.{Event}
use Rattle.talk.specs.Talk.{is_first, if_allowed}
use Rattle.talk.specs.declared.Reply.{Reply}
use Rattle.talk.specs.declared.Reply.TheVariants.{Never, First, Further}
use Rattle.reports.specs.declared.Report.{Report}
use Rattle.demands.specs.Logs.{Log, ◌▷◌, mark_of, heard_of, bytes_of, last_side, heard_in, number_after, taken_of, Begins}
use Rattle.demands.specs.Refusals.{Not}
use Rattle.demands.specs.Editions.{of_car, of_quick_car, is_frame}
use Rattle.demands.specs.Histories.{Machine, reports_to, is_among, Says, Among}
use Rattle.demands.specs.Accounts.{named_by, bytes_named, held_in}

-- ---- the frames of a session, oldest first: whose each is, and its bytes
pub record Frame : Type 0 where
  pub side : Side
  pub bytes : List ℕ

infixl 40 ◌▸◌
pub data Frames : Type 0 where
  nothing : Frames
  ◌▸◌ : Frames → Frame → Frames

-- ---- what frames do, by their data
unfoldable pub same : List ℕ → List ℕ → Bool
same [] [] = true
same [] (b ∷ bs) = false
same (a ∷ bs) [] = false
same (a ∷ rest) (b ∷ bs) = eqb a b && same rest bs

-- "a unit frame starting C2 after a tester frame starting 82"
unfoldable pub stops : List ℕ → List ℕ → Bool
stops q a = eqb (get_or q 0 0) 0x82 && eqb (get_or a 0 0) 0xC2

-- "A unit frame of exactly C3 01 after exactly 83 01"
unfoldable pub resets : List ℕ → List ℕ → Bool
resets q a = same q (0x83 ∷ 0x01 ∷ []) && same a (0xC3 ∷ 0x01 ∷ [])

-- "Exactly C3 03 after exactly 83 03 and five codes"
unfoldable pub retimes : List ℕ → List ℕ → Bool
retimes q a = eqb (length q) 7 && eqb (get_or q 0 0) 0x83 && eqb (get_or q 1 0) 0x03 && same a (0xC3 ∷ 0x03 ∷ [])

unfoldable pub codes_in : List ℕ → Codes
codes_in q = record { p2min = get_or q 2 0; p2max = get_or q 3 0; p3min = get_or q 4 0; p3max = get_or q 5 0; p4min = get_or q 6 0 }

-- "'After' means that it is the latest tester frame. Each takes effect once for its request.": the data of the latest tester frame, and no data (which
-- no frame has) before the first one and once it has taken effect. "The rules on 82, 83 .. are for 14230 links only": a car's frames have no data.
unfoldable pub pending_in : Pair → Frames → List ℕ
pending_in pair nothing = []
pending_in pair (fs ▸ f) =
    let q = pending_in pair fs in
    let a = data_of pair.kb1 pair.kb2 f.bytes in
    if is_tester f.side then a else
    if stops q a || resets q a || retimes q a then [] else q

-- THE WINDOWS IN FORCE. "Timing starts at the set KB1 names.", or at a car's, where it stays. A unit frame may change it: "KB1's set", or "those codes from
-- this frame's end, if allowed, else no change".
unfoldable pub windows_in : Pair → Frames → Windows
windows_in pair nothing = set_of pair
windows_in pair (fs ▸ f) =
    let q = pending_in pair fs in
    let a = data_of pair.kb1 pair.kb2 f.bytes in
    if is_tester f.side then windows_in pair fs else
    if resets q a then set_of pair else
    if retimes q a then if_allowed (decoded_of (codes_in q)) (windows_in pair fs) else windows_in pair fs

-- ---- a session so far
pub record Talk : Type 0 where
  pub pair : Pair
  pub frames : Frames
  pub reply : Reply

-- at its beginning no reply is expected
abbrev pub opening : Pair → Talk
opening pair = record { pair = pair; frames = nothing; reply = Never }

-- THE KEY BYTES AMONG THE BYTES of an initialization: a slow start has five, 55 KB1 KB2 and two complements; a fast one has more, and ends in KB1, KB2 and
-- the checksum
unfoldable pub first_key_at : List ℕ → ℕ
first_key_at bytes = if eqb (length bytes) 5 then 1 else length bytes - 3

unfoldable pub first_key : List ℕ → ℕ
first_key bytes = get_or bytes (first_key_at bytes) 0

unfoldable pub second_key : List ℕ → ℕ
second_key bytes = get_or bytes (suc (first_key_at bytes)) 0

abbrev pub opened_by : List ℕ → Talk
opened_by bytes = opening (pair_of (first_key bytes) (second_key bytes))

-- the frame that a report 1 names, by the events taken up to the report's: whose it is, its bytes say (they all come from one side)
abbrev pub frame_named : Log → Report → Frame
frame_named log r = record { side = last_side (bytes_named (bytes_of log) r); bytes = named_by (heard_of log) r }

-- the reply that may come after a frame: "A tester frame awaits a first reply; a unit frame allows further ones."
unfoldable pub reply_to : Side → Reply
reply_to side = if is_tester side then First else Further

-- A report of it. 1: one frame more, and its reply. 2 and 6: "no reply is expected".
unfoldable pub after_report : Talk → Log → Report → Talk
after_report t log r =
    if eqb r.number frame_report then record {
      pair = t.pair;
      frames = t.frames ▸ frame_named log r;
      reply = reply_to (frame_named log r).side;
    } else
    if eqb r.number damage_report || eqb r.number no_reply_report then record { pair = t.pair; frames = t.frames; reply = Never } else t

-- the reports of an event, by the events taken up to it
unfoldable pub talk_after : Talk → Log → List Report → Talk
talk_after t log [] = t
talk_after t log (r ∷ rs) = talk_after (after_report t log r) log rs

-- A SESSION: from a report 3 on (`connects_exactly` says when there is one), with the key bytes among the bytes that it names, as long as no report 7 is made.
pub data Session (m : Machine) : Log → Talk → Type 0 where
  opens : {es : Log} {e : Event} {r : Report} → Among r (reports_to m es e) → r.number ≡ connected_report
      → Session m (es ▷ e) (opened_by (named_by (heard_in (es ▷ e)) r))
  lasts : {es : Log} {e : Event} {t : Talk} → Session m es t → Not (Says down_report (reports_to m es e))
      → Session m (es ▷ e) (talk_after t (taken_of (es ▷ e)) (reports_to m es e))

-- the history is in a session
pub record SomeSession (m : Machine) (es : Log) : Type 0 where
  pub talk : Talk
  pub session : Session m es talk

-- the windows in force in it
abbrev pub in_force : Talk → Windows
in_force t = windows_in t.pair t.frames

-- ---- a report 1: the session that its event came in, and bytes that are a frame of their side under the session's key bytes
pub record Reads (m : Machine) (es : Log) (e : Event) (r : Report) : Type 0 where
  pub talk : Talk
  pub session : Session m es talk
  pub reads : is_frame talk.pair (frame_named (taken_of (es ▷ e)) r).side (named_by (heard_in (es ▷ e)) r) ≡ true

-- ---- in a session, so long a gap from the mark to the event's start
abbrev pub gap_before : Log → Event → Micros
gap_before log b = gap_of (mark_of log) b.start

-- Time passes first. What was held for more than 20 ms has ended, and "After either, no reply is expected"; but a car's message may have ended in a frame,
-- which the event reports (`frames_exactly` says when, by the events before). The reply that may come once it has ended, in the session t of es:
unfoldable pub reply_once_ended : Machine → Log → Event → Talk → Reply
reply_once_ended m es e t =
    if eqb (held_in m es) 0 then t.reply else
    if of_car t.pair && is_among frame_report (reports_to m es e) then reply_to (last_side (bytes_of (taken_of es))) else Never

-- "First reply awaited and P2 max passed: report 6". (What is held ends before P2 max passes.)
abbrev pub NoReply : Machine → Log → Event → Talk → Type 0
NoReply m es e t = (reply_once_ended m es e t ≡ First) × (is_passed (in_force t).p2max (gap_before (taken_of es) e) ≡ true)

-- "Then, connected, no first reply awaited, P3 max passed: report 7 reason 2, down." Where one was awaited, P2 max has passed too.
abbrev pub IdleOver : Machine → Log → Event → Talk → Type 0
IdleOver m es e t =
    let gap = gap_before (taken_of es) e in
    (is_passed (in_force t).p3max gap ≡ true) × (reply_once_ended m es e t ≡ First → is_passed (in_force t).p2max gap ≡ true)

-- ---- the first byte of a message: all of it is said by the events before the byte and their reports; and, of a car, whose message may end as the byte
-- comes, by whether the byte's event reports that: a report 1 (`reply_once_ended`), or no other byte held after it (`OpensIn`)
-- A BYTE OPENS A MESSAGE, or damage ("First byte of a message"), in the session t of the events before it: it is taken, nothing was held before it or
-- what was held has ended ("20 ms passed since the mark"; "under 94 94 a unit byte after a held tester message ends it too", so that after it no other byte is
-- held), and the session has not.
pub record OpensIn (m : Machine) (before : Log) (b : Event) (t : Talk) : Type 0 where
  pub session : Session m before t
  pub kind : b.kind ≡ Byte
  pub number : number_after (taken_of before) b ≡ taken
  pub alone : (held_in m before ≡ 0) ⊎ (20_000 < (gap_before (taken_of before) b).0)
      ⊎ ((of_quick_car t.pair ≡ true) × (b.side ≡ Unit) × (held_in m (before ▷ b) ≡ 1))
  pub lasts : Not (IdleOver m before b t)

-- the reply that may come as the byte does: a first reply that is awaited as P2 max passes is not awaited any more ("no reply is expected")
unfoldable pub reply_at : Machine → Log → Event → Talk → Reply
reply_at m before b t =
    let reply = reply_once_ended m before b t in
    if is_first reply && is_passed (in_force t).p2max (gap_before (taken_of before) b) then Never else reply

-- whether it breaks the windows in force, with this reply that may come
-- "From the unit, stray (4) unless a first or further reply may come and the gap is at most P2 max"
abbrev pub Stray : Talk → Reply → Micros → Event → Type 0
Stray t reply gap b = (b.side ≡ Unit) × ((reply ≡ Never) ⊎ (is_passed (in_force t).p2max gap ≡ true))

-- "from the tester, early (reason 3) while a first reply is awaited or the gap is under P3 min"; from the unit "then early (3) under P2 min"
abbrev pub Early : Talk → Reply → Micros → Event → Type 0
Early t reply gap b =
    ((b.side ≡ Tester) × ((reply ≡ First) ⊎ (gap.0 < (in_force t).p3min.0)))
    ⊎ ((b.side ≡ Unit) × Not (Stray t reply gap b) × (gap.0 < (in_force t).p2min.0))

-- a byte after these events, in their session t, is stray, or early
abbrev pub StrayAt : Machine → Log → Event → Talk → Type 0
StrayAt m before b t =
    let gap = gap_before (taken_of before) b in
    Stray t (reply_at m before b t) gap b

abbrev pub EarlyAt : Machine → Log → Event → Talk → Type 0
EarlyAt m before b t =
    let gap = gap_before (taken_of before) b in
    Early t (reply_at m before b t) gap b

-- the first of the bytes that a report names, in the history: the events before it, and their session
pub record FirstByte (m : Machine) (es : Log) (r : Report) : Type 0 where
  pub before : Log
  pub byte : Event
  pub talk : Talk
  pub begins : Begins (before ▷ byte) es
  pub opens : OpensIn m before byte talk
  pub index : length (heard_in before) ≡ r.first

-- and whether it was early or stray is the report's reason 3 or 4, and nothing else is
pub record Turns (m : Machine) (es : Log) (r : Report) : Type 0 where
  pub first : FirstByte m es r
  pub early : ((r.number ≡ damage_report) × (r.reason ≡ early)) ↔ EarlyAt m first.before first.byte first.talk
  pub stray : ((r.number ≡ damage_report) × (r.reason ≡ stray)) ↔ StrayAt m first.before first.byte first.talk
