-- The key bytes of a session are those of its initialization: a report 3 is made by an event that completes one, and the bytes that it names are all of
-- that one's, with KB1 and KB2 where `first_key` and `second_key` look for them (`report_opens`). Said of any link that connects exactly when it should.
-- Assumes nothing.
use Prim.Native.Nat.{ℕ, ◌+◌, ◌≤◌}
use mathlib.Core.Bool.{false}
use mathlib.Core.List.{List, [], ◌∷◌, ◌++◌, append-nil, append_assoc}
use mathlib.Core.Logic.{◌↔◌, ◌⊎◌, inl, inr}
use mathlib.Core.Path.{◌≡◌, refl, sym, ap, ap₂, ◌∙◌, subst}
use native.Mathlib.Omega.{arith}
use borrow.Author.Tests.{ne_eqb}
use lib.ListN.{length, get_or, length-append}
use lib.Seq.{append_snoc, get_or-append-add, drop-append_seam, take_all}
use Rattle.base.specs.Numbers.{taken}
use Rattle.base.specs.Reports.{connected_report, no_reason}
use Rattle.events.specs.Events.{is_byte}
use Rattle.events.specs.declared.Kind.TheVariants.{WakeUp}
use Rattle.keys.specs.Keys.{pair_of}
use Rattle.keys.specs.declared.Pair.{Pair}
use Rattle.events.specs.declared.Event.{Event}
use Rattle.reports.specs.declared.Report.{Report}
use Rattle.demands.specs.Logs.{Log, none, ◌▷◌, heard_of, heard_in, number_after, taken_of}
use Rattle.demands.specs.Histories.{Machine, reports_to, Says, Among, first}
use Rattle.demands.specs.Accounts.{named_by}
use Rattle.demands.specs.Starts.{SlowStart, slow, request, Header, plain, plain_long, addressed, addressed_long, FastStart, fast}
use Rattle.demands.specs.Connecting.{Since, here, tick, byte, ConnectsBy, Connected}
use Rattle.demands.specs.Endings.{Starter}
use Rattle.demands.specs.Sessions.{opening, first_key_at, first_key, second_key, opened_by}
use Rattle.demands.specs.Ours.{ours}
use Rattle.demands.proofs.Connecting.Running.{own_until}
use Rattle.demands.proofs.Connecting.ConnectsExactly.{own_connects_exactly}
use Rattle.demands.proofs.Connecting.ConnectedReport.{own_connects_names}
use Rattle.demands.proofs.Histories.BytesHeard.{byte_more}
use Rattle.demands.proofs.Moves.ReportsInList.{only_one, among_says}

-- ---- THE BYTES OF AN INITIALIZATION: the values of a log of bytes
unfoldable values_in : Log → List ℕ
values_in none = []
values_in (bs ▷ b) = values_in bs ++ (b.value ∷ [])

since_values : {a : Event} {before log bs : Log} → is_byte a.kind ≡ false → Since a before log bs → heard_of log ≡ heard_of before ++ values_in bs
unfolding heard_of is_byte values_in
since_values h here = rw h refl
since_values h (tick {log = log} k s) = rw (ap is_byte k) (append-nil (heard_of log) ∙ since_values h s)
since_values {before = before} h (byte {bs = bs} {e = e} k s) =
    rw (ap is_byte k) (ap (λ (l : List ℕ). l ++ (e.value ∷ [])) (since_values h s) ∙ append_assoc (heard_of before) (values_in bs) (e.value ∷ []))

since_bytes : {a : Event} {before log bs : Log} → Since a before log bs → heard_of bs ≡ values_in bs
unfolding heard_of is_byte values_in
since_bytes here = refl
since_bytes (tick k s) = since_bytes s
since_bytes (byte {e = e} k s) = rw (ap is_byte k) (ap (λ (l : List ℕ). l ++ (e.value ∷ [])) (since_bytes s))

-- the key bytes among them: of a slow start, ..
record KeysAre (pair : Pair) (bytes : List ℕ) : Type 0 where
  one : first_key bytes ≡ pair.kb1
  two : second_key bytes ≡ pair.kb2

slow_keys : {a : Event} {pair : Pair} {bs : Log} → SlowStart a pair bs → KeysAre pair (values_in bs)
unfolding first_key second_key first_key_at values_in
slow_keys (slow k s o t b d) = record { one = refl; two = refl }

-- .. and of a fast one, which has two bytes or more before C1, KB1, KB2 and the checksum
key_place : (v : List ℕ) (s o t x : ℕ) → 2 ≤ length v → first_key_at (v ++ (s ∷ o ∷ t ∷ x ∷ [])) ≡ length v + 1
unfolding first_key_at
key_place v s o t x h =
    let n = length-append v (s ∷ o ∷ t ∷ x ∷ []) in
    rw (ne_eqb (length (v ++ (s ∷ o ∷ t ∷ x ∷ []))) 5 (λ z. omega (arith, n))) (omega (arith, n))

last_four : (v : List ℕ) (s o t x : ℕ) → 2 ≤ length v → KeysAre (pair_of o t) (v ++ (s ∷ o ∷ t ∷ x ∷ []))
unfolding first_key second_key
last_four v s o t x h =
    let ys = s ∷ o ∷ t ∷ x ∷ [] in
    let at = key_place v s o t x h in
    record {
      one = ap (λ (k : ℕ). get_or (v ++ ys) k 0) at ∙ get_or-append-add v ys 1 0;
      two = ap (λ (k : ℕ). get_or (v ++ ys) k 0) (omega (arith, at)) ∙ get_or-append-add v ys 2 0;
    }

record Headed (w : Event) (bytes : List ℕ) : Type 0 where
  long : 2 ≤ length bytes
  wakes : w.kind ≡ WakeUp

headed : {w h : Event} {bs : Log} {n : ℕ} → Header w bs h n → Headed w (values_in bs)
unfolding values_in
headed (plain (request k l f t s d c) a v) = record { long = omega arith; wakes = k }
headed (plain_long (request k l f t s d c) a v x) = record { long = omega arith; wakes = k }
headed (addressed (request k l f t s d c) a v x y) = record { long = omega arith; wakes = k }
headed (addressed_long (request k l f t s d c) a v x y z) = record { long = omega arith; wakes = k }

fast_keys : {w : Event} {pair : Pair} {bs : Log} → FastStart w pair bs → KeysAre pair (values_in bs)
unfolding values_in
fast_keys (fast {bs = bs} {service = s} {one = o} {two = t} {sum = x} h d e f g) =
    let v = values_in bs in
    let same = append_snoc (v ++ (s.value ∷ []) ++ (o.value ∷ [])) t.value (x.value ∷ [])
    ∙ append_snoc (v ++ (s.value ∷ [])) o.value (t.value ∷ x.value ∷ [])
    ∙ append_snoc v s.value (o.value ∷ t.value ∷ x.value ∷ []) in
    rw same (last_four v s.value o.value t.value x.value (headed h).long)

-- it begins with an address or wake-up
pub starter : {a : Event} {pair : Pair} {bs : Log} → SlowStart a pair bs ⊎ FastStart a pair bs → Starter a
starter (inl (slow k s o t b d)) = inl k
starter (inr (fast h d e f g)) = inr (headed h).wakes

pub not_byte : (a : Event) → Starter a → is_byte a.kind ≡ false
unfolding is_byte
not_byte a (inl k) = ap is_byte k
not_byte a (inr k) = ap is_byte k

start_keys : {a : Event} {pair : Pair} {bs : Log} → SlowStart a pair bs ⊎ FastStart a pair bs → KeysAre pair (values_in bs)
start_keys (inl s) = slow_keys s
start_keys (inr s) = fast_keys s

-- ---- THE BYTES THAT ITS REPORT 3 NAMES are all of them, whatever is asked of the idle time
module _ (until : Log → Event → ℕ) where
  abbrev pub third : (log : Log) (e : Event) → ConnectsBy until log e → Report
  third log e c = record {
    first = length (heard_of c.before);
    bytes = length (heard_of c.bytes) + 1;
    time = e.end;
    number = connected_report;
    reason = no_reason;
  }

  third_names : (es : Log) (e : Event) → number_after (taken_of es) e ≡ taken → (c : ConnectsBy until (taken_of es) e)
      → named_by (heard_in (es ▷ e)) (third (taken_of es) e c) ≡ values_in (c.bytes ▷ e)
  unfolding named_by values_in
  third_names es e q c =
      let b = heard_of c.before in
      let v = values_in c.bytes ++ (e.value ∷ []) in
      let whole : heard_in (es ▷ e) ≡ b ++ v = byte_more es e q c.last
      ∙ ap (λ (l : List ℕ). l ++ (e.value ∷ [])) (since_values (not_byte c.start (starter c.good)) c.since)
      ∙ append_assoc b (values_in c.bytes) (e.value ∷ []) in
      rw (whole, drop-append_seam b v)
      (take_all (length (heard_of c.bytes) + 1) v (omega (arith, length-append (values_in c.bytes) (e.value ∷ []), ap length (since_bytes c.since))))

  keyed : (es : Log) (e : Event) (r : Report) → number_after (taken_of es) e ≡ taken → (c : ConnectsBy until (taken_of es) e) → r ≡ third (taken_of es) e c
      → opened_by (named_by (heard_in (es ▷ e)) r) ≡ opening c.pair
  keyed es e r q c p =
      let k = start_keys c.good in
      let n = ap (named_by (heard_in (es ▷ e))) p ∙ third_names es e q c in
      ap₂ (λ (a b : ℕ). opening (pair_of a b)) (ap first_key n ∙ k.one) (ap second_key n ∙ k.two)

  -- ---- A REPORT 3, of a link that makes it exactly where an initialization is completed, alone, of all of its bytes
  pub record OpenedBy (es : Log) (e : Event) (r : Report) : Type 0 where
    pub number : number_after (taken_of es) e ≡ taken
    pub connects : ConnectsBy until (taken_of es) e
    pub only : r ≡ third (taken_of es) e connects
    pub same : opened_by (named_by (heard_in (es ▷ e)) r) ≡ opening connects.pair

  module _ (m : Machine) (es : Log) (e : Event)
      (exactly : Says connected_report (reports_to m es e) ↔ ((number_after (taken_of es) e ≡ taken) × ConnectsBy until (taken_of es) e))
      (names : number_after (taken_of es) e ≡ taken → (c : ConnectsBy until (taken_of es) e) → Connected (taken_of es) e c (reports_to m es e)) where
    pub report_opens : (r : Report) → Among r (reports_to m es e) → r.number ≡ connected_report → OpenedBy es e r
    report_opens r a n =
        let x = exactly.0 (among_says connected_report a n) in
        let one : r ≡ third (taken_of es) e x.1 = only_one (subst (Among r) (names x.0 x.1).reports a) in
        record { number = x.0; connects = x.1; only = one; same = keyed es e r x.0 x.1 one }

    -- and the other way round
    pub connects_made : number_after (taken_of es) e ≡ taken → (c : ConnectsBy until (taken_of es) e) → Among (third (taken_of es) e c) (reports_to m es e)
    connects_made q c = subst (Among (third (taken_of es) e c)) (sym (names q c).reports) first

-- our link is one, by its own idle time
pub ours_opens : (es : Log) (e : Event) (r : Report) → Among r (reports_to ours es e) → r.number ≡ connected_report → OpenedBy own_until es e r
ours_opens es e = report_opens own_until ours es e (own_connects_exactly es e) (own_connects_names es e)

pub ours_made : (es : Log) (e : Event) → number_after (taken_of es) e ≡ taken → (c : ConnectsBy own_until (taken_of es) e)
    → Among (third own_until (taken_of es) e c) (reports_to ours es e)
ours_made es e = connects_made own_until ours es e (own_connects_exactly es e) (own_connects_names es e)
