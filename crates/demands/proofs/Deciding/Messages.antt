-- Reports 1 and 2 of a link that meets the demands are those of any other, after events that both have reported alike. A report 1 names the bytes of a message
-- that ends in a frame, which events and earlier reports fix; a report 2 names what is held, and its reason goes by its first byte, which is found at its
-- index in the history, and by the bytes that it names. Assumes nothing.
use Prim.Native.Nat.{ℕ, ◌+◌, ◌≤◌, ◌<◌}
use mathlib.Core.Bool.{Bool, true, false, false≢true}
use mathlib.Core.List.{List, [], ◌∷◌}
use mathlib.Core.Logic.{◌⊎◌, inl, inr, ⊎_elim}
use mathlib.Core.Path.{◌≡◌, refl, sym, ap, ◌∙◌, subst}
use native.Mathlib.Omega.{arith}
use borrow.Author.Tests.{eqb-true, eqb-false, eq-eqb, ltb-true, ltb-false}
use lib.Dec.{eqb, ltb}
use lib.ListN.{length, length-append, length-drop, take, drop}
use lib.Seq.{length-take-le}
use Rattle.base.specs.Numbers.{taken}
use Rattle.base.specs.Reports.{frame_report, damage_report, early, stray, no_reason}
use Rattle.units.specs.declared.Micros.{Micros}
use Rattle.events.specs.Events.{is_byte}
use Rattle.events.specs.declared.Event.{Event}
use Rattle.events.specs.declared.Kind.TheVariants.{Address, WakeUp, Byte, Tick, Drop, Other}
use Rattle.reports.specs.declared.Report.{Report}
use Rattle.demands.specs.Logs.{Log, none, ◌▷◌, heard_of, bytes_of, heard_in, number_after, taken_of, InBytes, Begins, whole, more}
use Rattle.demands.specs.Refusals.{Not}
use Rattle.demands.specs.Histories.{Machine, reports_to, reports_of, Among, first, later, Says, is_among}
use Rattle.demands.specs.Accounts.{named_by, bytes_named, InTurn, named_in}
use Rattle.demands.specs.Sessions.{Session, EarlyAt, StrayAt, FirstByte, gap_before}
use Rattle.demands.specs.Messages.{ReportsFrame}
use Rattle.demands.specs.Editions.{reason_at_end}
use Rattle.demands.specs.Damage.{reason_in, GoesBy, Damaged}
use Rattle.demands.specs.Deciding.{Meets}
use Rattle.demands.proofs.Moves.ReportsInList.{says_speaks, among_says, not_among, among_right}
use Rattle.demands.proofs.Histories.BytesHeard.{begins_longer}
use Rattle.demands.proofs.Deciding.Agree.{Agree, held_same, front_whole, session_move, Near, near_agree, early_same, stray_same, ends_move, right_move, interrupts_move}
use Rattle.demands.proofs.Deciding.SameList.{Has}
use Rattle.demands.proofs.Deciding.Fixed.{session_fixed}
use Rattle.demands.proofs.Deciding.Sharing.{Both, agree_sym, before, here, there, like, like_plain, turned}
use Rattle.events.specs.declared.Kind.{Kind}

-- ---- REPORT 1
-- what is named in turn lies within what is named, and so within what is heard
turn_within : (n : ℕ) (xs : List Report) (r : Report) → InTurn n xs → Among r xs → r.first + r.bytes ≤ n + named_in xs
unfolding named_in
turn_within n [] r t i = absurd (not_among i)
turn_within n (x ∷ xs) r (InTurn.behind p t) first = omega arith
turn_within n (x ∷ xs) r (InTurn.behind p t) (later i) = omega (arith, turn_within (n + x.bytes) xs r t i)

named_length : (s : Machine) → Meets s → (es : Log) (e : Event) (r : Report) → Among r (reports_to s es e) → length (named_by (heard_in (es ▷ e)) r) ≡ r.bytes
unfolding named_by reports_of
named_length s D es e r i =
    let k = D.three.accounted (es ▷ e) in
    let within = turn_within 0 (reports_of s (es ▷ e)) r k.indexes (among_right (reports_of s es) i) in
    length-take-le r.bytes (drop r.first (heard_in (es ▷ e))) (omega (arith, length-drop r.first (heard_in (es ▷ e)), within, k.heard))

module _ (B : Both) where
  -- the bytes heard up to the event
  abbrev pub heard : List ℕ
  heard = heard_in (B.es ▷ B.e)

  framed_too : (r : Report) → Among r (here B) → r.number ≡ frame_report → ReportsFrame heard (there B) (named_by heard r)
  framed_too r i n =
      let bytes = named_by heard r in
      let ends = (B.D.two.frames_exactly B.es B.e bytes B.in_bytes).0 (record { report = r; made = i; number = n; names = refl }) in
      (B.E.two.frames_exactly B.es B.e bytes B.in_bytes).1 (ends_move B.s B.t B.es B.e bytes B.agree ends)

  pub one : (r : Report) → Among r (here B) → r.number ≡ frame_report → Has r (there B)
  one r i n =
      let y = framed_too r i n in
      like_plain B r y.report i y.made (y.number ∙ sym n) (inl n) (inl y.number)
      (sym (named_length B.s B.D B.es B.e r i) ∙ ap length (sym y.names) ∙ named_length B.t B.E B.es B.e y.report y.made)

-- ---- REPORT 2
-- a byte's place in a history is fixed by how many bytes were heard before it
place : (L p q : Log) (x y : Event) → Begins (p ▷ x) L → Begins (q ▷ y) L → ((p ▷ x) ≡ (q ▷ y)) ⊎ (Begins (p ▷ x) q ⊎ Begins (q ▷ y) p)
place none p q x y f g = elim f [ ]
place (L ▷ z) p q x y whole whole = inl refl
place (L ▷ z) p q x y whole (more g) = inr (inr g)
place (L ▷ z) p q x y (more f) whole = inr (inl f)
place (L ▷ z) p q x y (more f) (more g) = place L p q x y f g

one_more : (p : Log) (x : Event) → number_after (taken_of p) x ≡ taken → x.kind ≡ Byte → length (heard_in (p ▷ x)) ≡ length (heard_in p) + 1
unfolding taken_of heard_of is_byte
one_more p x n k = rw (eq-eqb (number_after (taken_of p) x) taken n, k) (length-append (heard_in p) (x.value ∷ []))

unfoldable front_of : Log → Log
front_of none = none
front_of (l ▷ e) = l

unfoldable last_event : Event → Log → Event
last_event d none = d
last_event d (l ▷ e) = e

same_place : {s t : Machine} {L : Log} {r q : Report} (x : FirstByte s L r) (y : FirstByte t L q) → r.first ≡ q.first
    → (x.before ▷ x.byte) ≡ (y.before ▷ y.byte)
same_place {L = L} x y f =
    let m = x.index ∙ f ∙ sym y.index in
    ⊎_elim (λ e. e)
    (⊎_elim (λ b. absurd (omega (arith, m, begins_longer b, one_more x.before x.byte x.opens.number x.opens.kind)))
    (λ b. absurd (omega (arith, m, begins_longer b, one_more y.before y.byte y.opens.number y.opens.kind))))
    (place L x.before y.before x.byte y.byte x.begins y.begins)

bytes_front : (es before : Log) (b : Event) → Begins (before ▷ b) es → InBytes es → InBytes before
unfolding InBytes
bytes_front none before b g x = elim g [ ]
bytes_front (es ▷ e) before b whole x = x.0
bytes_front (es ▷ e) before b (more g) x = bytes_front es before b g x.0

byte_kind : (k : Kind) → is_byte k ≡ true → k ≡ Byte
unfolding is_byte
byte_kind Address h = absurd (false≢true h)
byte_kind WakeUp h = absurd (false≢true h)
byte_kind Byte h = refl
byte_kind Tick h = absurd (false≢true h)
byte_kind Drop h = absurd (false≢true h)
byte_kind Other h = absurd (false≢true h)

not_byte : (k : Kind) → is_byte k ≡ false → k ≡ Byte → ⊥
unfolding is_byte
not_byte k h e = false≢true (sym h ∙ ap is_byte e)

-- a reason that goes by the same bytes, event and gap is the same
goes_same : (k l i j : ℕ) (b : Event) (gap : Micros) (r q : Report) → k ≡ l → i ≡ j → GoesBy k i b gap r → GoesBy l j b gap q → r.reason ≡ q.reason
goes_same k l i j b gap r q e d x y = by_zero (eqb k no_reason) refl
  where
    by_byte : Not (20_000 < gap.0) → (c : Bool) → is_byte b.kind ≡ c → k ≡ no_reason → r.reason ≡ q.reason
    by_byte n true c z =
        let h = byte_kind b.kind c in
        x.ended z (inr h) ∙ d ∙ sym (y.ended (sym e ∙ z) (inr h))
    by_byte n false c z =
        let h = not_byte b.kind c in
        x.closed z n h ∙ sym (y.closed (sym e ∙ z) n h)

    by_gap : (c : Bool) → ltb 20_000 gap.0 ≡ c → k ≡ no_reason → r.reason ≡ q.reason
    by_gap true g z =
        let h = ltb-true 20_000 gap.0 g in
        x.ended z (inl h) ∙ d ∙ sym (y.ended (sym e ∙ z) (inl h))
    by_gap false g z = by_byte (λ h. let o = ltb-false 20_000 gap.0 g in omega arith) (is_byte b.kind) refl z

    by_zero : (c : Bool) → eqb k no_reason ≡ c → r.reason ≡ q.reason
    by_zero true z = by_gap (ltb 20_000 gap.0) refl (eqb-true k no_reason z)
    by_zero false z =
        let n = eqb-false k no_reason z in
        x.wrong n ∙ e ∙ sym (y.wrong (λ h. n (e ∙ h)))

-- two reports 2 that name the same bytes have the same reason
module _ (B : Both) (r q : Report) (nr : r.number ≡ damage_report) (hb : r.bytes ≡ q.bytes) (hf : r.first ≡ q.first) (old : r.first < length (heard_in B.es))
    (x : Damaged B.s B.es B.e r) (y : Damaged B.t B.es B.e q) where
  abbrev X : FirstByte B.s (B.es ▷ B.e) r
  X = x.turns.first

  abbrev Y : FirstByte B.t (B.es ▷ B.e) q
  Y = y.turns.first

  front_is : X.before ≡ Y.before
  unfolding front_of
  front_is = ap front_of (same_place X Y hf)

  byte_is : X.byte ≡ Y.byte
  unfolding last_event
  byte_is = ap (last_event X.byte) (same_place X Y hf)

  -- its first byte came before the event
  agreed_whole : Agree B.s B.t (X.before ▷ X.byte)
  agreed_whole = by_begins X.before X.byte X.begins X.index
    where
      by_begins : (before : Log) (b : Event) → Begins (before ▷ b) (B.es ▷ B.e) → length (heard_in before) ≡ r.first → Agree B.s B.t (before ▷ b)
      by_begins before b whole i = absurd (omega (arith, i, old))
      by_begins before b (more g) i = front_whole B.s B.t B.es before b g B.agree

  agreed : Agree B.s B.t X.before
  unfolding Agree
  agreed = agreed_whole.0

  -- the session before it is the same
  talk_is : X.talk ≡ Y.talk
  talk_is =
      let theirs = subst (λ (l : Log). Session B.t l Y.talk) (sym front_is) Y.opens.session in
      session_fixed B.s B.D X.before X.talk Y.talk (bytes_front (B.es ▷ B.e) X.before X.byte X.begins B.in_bytes) X.opens.session
      (session_move B.t B.s X.before Y.talk (agree_sym B.s B.t X.before agreed) theirs)

  -- and so is whatever is said of the byte
  near : Near B.s B.t X.before X.byte X.talk
  near = near_agree B.s B.t X.before X.byte X.talk agreed_whole

  early_is : EarlyAt B.s X.before X.byte X.talk ≡ EarlyAt B.t Y.before Y.byte Y.talk
  early_is = early_same B.s B.t X.before X.byte X.talk near ∙ (λ i. EarlyAt B.t (front_is i) (byte_is i) (talk_is i))

  stray_is : StrayAt B.s X.before X.byte X.talk ≡ StrayAt B.t Y.before Y.byte Y.talk
  stray_is = stray_same B.s B.t X.before X.byte X.talk near ∙ (λ i. StrayAt B.t (front_is i) (byte_is i) (talk_is i))

  bytes_say : reason_in X.talk.pair (bytes_named (bytes_of (taken_of B.es)) r) ≡ reason_in Y.talk.pair (bytes_named (bytes_of (taken_of B.es)) q)
  unfolding bytes_named
  bytes_say i = reason_in (talk_is i).pair (take (hb i) (drop (hf i) (bytes_of (taken_of B.es))))

  end_says : reason_at_end X.talk.pair (bytes_named (bytes_of (taken_of B.es)) r) ≡ reason_at_end Y.talk.pair (bytes_named (bytes_of (taken_of B.es)) q)
  unfolding bytes_named
  end_says i = reason_at_end (talk_is i).pair (take (hb i) (drop (hf i) (bytes_of (taken_of B.es))))

  by_stray : Not (r.reason ≡ early) → (k : Bool) → eqb r.reason stray ≡ k → r.reason ≡ q.reason
  by_stray o true k =
      let z = eqb-true r.reason stray k in
      z ∙ sym (y.turns.stray.1 (subst (λ (P : Type 0). P) stray_is (x.turns.stray.0 (nr, z)))).1
  by_stray o false k =
      let p : Not (EarlyAt B.s X.before X.byte X.talk) = λ z. o (x.turns.early.1 z).1 in
      let n : Not (StrayAt B.s X.before X.byte X.talk) = λ z. eqb-false r.reason stray k (x.turns.stray.1 z).1 in
      goes_same _ _ _ _ B.e (gap_before (taken_of B.es) B.e) r q bytes_say end_says (x.otherwise p n)
      (y.otherwise (subst (λ (P : Type 0). Not P) early_is p) (subst (λ (P : Type 0). Not P) stray_is n))

  by_early : (k : Bool) → eqb r.reason early ≡ k → r.reason ≡ q.reason
  by_early true k =
      let z = eqb-true r.reason early k in
      z ∙ sym (y.turns.early.1 (subst (λ (P : Type 0). P) early_is (x.turns.early.0 (nr, z)))).1
  by_early false k = by_stray (eqb-false r.reason early k) (eqb r.reason stray) refl

pub two : (B : Both) (r : Report) → Among r (here B) → r.number ≡ damage_report → Has r (there B)
two B r i n =
    let es = B.es in
    let e = B.e in
    let m = B.D.two.messages_in_session es e r B.in_bytes i (inr n) in
    let z = (B.D.two.damage_exactly es e m.talk (before B) m.session).0 (among_says damage_report i n) in
    let same = held_same B.s B.t es B.agree in
    let session = session_move B.s B.t es m.talk B.agree m.session in
    let q =
    says_speaks damage_report (there B) ((B.E.two.damage_exactly es e m.talk (before B) session).1 (
      z.0,
      subst (λ (h : ℕ). 0 < h) same z.1,
      (λ x. z.2 (right_move B.t B.s es e (agree_sym B.s B.t es B.agree) x)),
      ⊎_elim (λ x. inl x) (⊎_elim (λ x. inr (inl x)) (⊎_elim (λ x. inr (inr (inl x))) (λ x. inr (inr (inr (interrupts_move B.s B.t es e B.agree x)))))) z.3,
    )) in
    let nr = B.D.two.damage_names es e r i n in
    let nq = B.E.two.damage_names es e q.report q.made q.number_is in
    let hb : r.bytes ≡ q.report.bytes = nr.0 ∙ same ∙ sym nq.0 in
    let hf : r.first ≡ q.report.first = omega (arith, nr.1, nq.1, hb) in
    let reason =
    by_early B r q.report n hb hf (omega (arith, nr.0, nr.1, z.1)) (B.D.two.damage_reasons es e r B.in_bytes i n)
    (B.E.two.damage_reasons es e q.report B.in_bytes q.made q.number_is) (eqb r.reason early) refl in
    like B r i (record { report = q.report; made = q.made; number_is = q.number_is ∙ sym n; reason_is = sym reason }) hb

-- ---- frames are among the reports of one exactly if they are among those of the other
frames_too : (B : Both) → Says frame_report (here B) → Says frame_report (there B)
frames_too B x =
    let y = says_speaks frame_report (here B) x in
    let z = one B y.report y.made y.number_is in
    among_says frame_report z.made (sym z.like.number ∙ y.number_is)

pub frames_same : (B : Both) → is_among frame_report (here B) ≡ is_among frame_report (there B)
frames_same B = by_both (is_among frame_report (here B)) (is_among frame_report (there B)) refl refl
  where
    by_both : (a c : Bool) → is_among frame_report (here B) ≡ a → is_among frame_report (there B) ≡ c → a ≡ c
    by_both true true x y = refl
    by_both true false x y = absurd (false≢true (sym y ∙ frames_too B x))
    by_both false true x y = absurd (false≢true (sym x ∙ frames_too (turned B) y))
    by_both false false x y = refl
