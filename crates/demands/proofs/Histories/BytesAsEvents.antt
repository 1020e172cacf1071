-- The bytes heard as events: they have the values heard, and grow with the log as these do; and the reason that they give by the rules of crates/talk,
-- byte by byte.
-- Assumes nothing.
use Prim.Native.Nat.{ℕ, zero, suc}
use mathlib.Core.Bool.{Bool, true, false}
use mathlib.Core.List.{List, [], ◌∷◌, ◌++◌, append-nil}
use mathlib.Core.Path.{◌≡◌, refl, sym, ap, ◌∙◌}
use native.Mathlib.Omega.{arith}
use borrow.Author.Tests.{eq-eqb, ne_eqb}
use lib.Dec.{eqb}
use lib.ListN.{length, drop, length-append}
use Rattle.std.specs.Prelude.{if◌then◌else◌}
use Rattle.base.specs.Numbers.{taken}
use Rattle.base.specs.Reports.{no_reason}
use Rattle.base.proofs.Tests.{by_test}
use Rattle.keys.specs.declared.Pair.{Pair}
use Rattle.events.specs.Events.{is_byte}
use Rattle.events.specs.declared.Kind.{Kind}
use Rattle.events.specs.declared.Kind.TheVariants.{Byte}
use Rattle.events.specs.declared.Event.{Event}
use Rattle.talk.specs.Talk.{head_reason, begun_by, later_reason, grown}
use Rattle.talk.specs.declared.Message.{Message}
use Rattle.demands.specs.Editions.{of_car}
use Rattle.demands.specs.Logs.{Log, none, ◌▷◌, heard_of, bytes_of, values_of, heard_in, number_after, taken_of}

-- ---- their values
pub values_both : (l k : List Event) → values_of (l ++ k) ≡ values_of l ++ values_of k
unfolding values_of
values_both [] k = refl
values_both (b ∷ l) k = ap (λ (vs : List ℕ). b.value ∷ vs) (values_both l k)

pub values_drop : (n : ℕ) (l : List Event) → values_of (drop n l) ≡ drop n (values_of l)
unfolding values_of
values_drop zero l = refl
values_drop (suc n) [] = refl
values_drop (suc n) (b ∷ l) = values_drop n l

pub same_values : (log : Log) → values_of (bytes_of log) ≡ heard_of log
unfolding bytes_of heard_of values_of
same_values none = refl
same_values (log ▷ e) = values_both (bytes_of log) _ ∙ (λ i. same_values log i ++ by_kind (is_byte e.kind) i)
  where
    by_kind : (c : Bool) → values_of (if c then e ∷ [] else []) ≡ (if c then e.value ∷ [] else [])
    by_kind true = refl
    by_kind false = refl

-- and so they are as many
values_length : (l : List Event) → length (values_of l) ≡ length l
unfolding values_of
values_length [] = refl
values_length (b ∷ l) = ap suc (values_length l)

pub same_length : (log : Log) → length (bytes_of log) ≡ length (heard_of log)
same_length log = sym (values_length (bytes_of log)) ∙ ap length (same_values log)

-- ---- they grow with the log
pub byte_events : (es : Log) (e : Event) → number_after (taken_of es) e ≡ taken → e.kind ≡ Byte → bytes_of (taken_of (es ▷ e)) ≡ bytes_of (taken_of es) ++ (e ∷ [])
unfolding taken_of bytes_of is_byte
byte_events es e n k = rw (eq-eqb _ taken n) (ap (λ (x : Kind). bytes_of (taken_of es) ++ (if is_byte x then e ∷ [] else [])) k)

-- an event that is no byte heard adds none
more_events : (log : Log) (e : Event) → heard_of (log ▷ e) ≡ heard_of log → bytes_of (log ▷ e) ≡ bytes_of log
unfolding heard_of bytes_of
more_events log e q = by_kind (is_byte e.kind) q
  where
    by_kind : (c : Bool) → heard_of log ++ (if c then e.value ∷ [] else []) ≡ heard_of log → bytes_of log ++ (if c then e ∷ [] else []) ≡ bytes_of log
    by_kind true h = absurd (omega (arith, ap length h, length-append (heard_of log) (e.value ∷ [])))
    by_kind false h = append-nil (bytes_of log)

pub same_events : (es : Log) (e : Event) → heard_in (es ▷ e) ≡ heard_in es → bytes_of (taken_of (es ▷ e)) ≡ bytes_of (taken_of es)
unfolding taken_of
same_events es e =
    by_test (λ (log : Log). heard_of log ≡ heard_in es → bytes_of log ≡ bytes_of (taken_of es)) (eqb (number_after (taken_of es) e) taken) {x = taken_of es ▷ e}
    {y = taken_of es}
    (λ _ q. more_events (taken_of es) e q) (λ _ _. refl)

-- any event adds some or none
pub record Grows (es : Log) (e : Event) : Type 0 where
  pub tail : List Event
  pub events : bytes_of (taken_of (es ▷ e)) ≡ bytes_of (taken_of es) ++ tail

pub grows : (es : Log) (e : Event) → Grows es e
unfolding taken_of bytes_of
grows es e = by_number (eqb (number_after (taken_of es) e) taken) refl
  where
    by_number : (c : Bool) → eqb (number_after (taken_of es) e) taken ≡ c → Grows es e
    by_number true c = record { tail = if is_byte e.kind then e ∷ [] else []; events = rw c refl }
    by_number false c = record { tail = []; events = rw c (sym (append-nil (bytes_of (taken_of es)))) }

pub heard_grows : (es : Log) (e : Event) → heard_in (es ▷ e) ≡ heard_in es ++ values_of (grows es e).tail
heard_grows es e =
    sym (same_values (taken_of (es ▷ e))) ∙ ap values_of (grows es e).events ∙ values_both (bytes_of (taken_of es)) (grows es e).tail
    ∙ ap (λ (l : List ℕ). l ++ values_of (grows es e).tail) (same_values (taken_of es))

-- ---- the reason that they give by the rules of crates/talk; it is the one that `reason_in` says (`reasons_agree`)
-- that of the first byte that fails after a message so far; none where no byte does
unfoldable pub talk_behind : Message → List Event → ℕ
talk_behind m [] = no_reason
talk_behind m (b ∷ bs) =
    if eqb (later_reason m b.side b.value) no_reason then talk_behind (grown m b.value) bs else later_reason m b.side b.value

-- a first byte that is neither early nor stray has none on a car's link
unfoldable pub value_reason : Pair → ℕ → ℕ
value_reason pair v = if of_car pair then no_reason else head_reason pair.kb1 v

-- from the first byte on
unfoldable pub talk_reason : Pair → List Event → ℕ
talk_reason pair [] = no_reason
talk_reason pair (b ∷ bs) =
    if eqb (value_reason pair b.value) no_reason then talk_behind (begun_by pair b.side b.value) bs else value_reason pair b.value

pub head_wrong : (pair : Pair) (b : Event) (bs : List Event) → (value_reason pair b.value ≡ no_reason → ⊥)
    → talk_reason pair (b ∷ bs) ≡ value_reason pair b.value
unfolding talk_reason
head_wrong pair b bs n = rw (ne_eqb (value_reason pair b.value) no_reason n) refl

pub head_right : (pair : Pair) (b : Event) (bs : List Event) → value_reason pair b.value ≡ no_reason
    → talk_reason pair (b ∷ bs) ≡ talk_behind (begun_by pair b.side b.value) bs
unfolding talk_reason
head_right pair b bs q = rw (eq-eqb (value_reason pair b.value) no_reason q) refl

pub later_wrong : (m : Message) (b : Event) (bs : List Event) → (later_reason m b.side b.value ≡ no_reason → ⊥)
    → talk_behind m (b ∷ bs) ≡ later_reason m b.side b.value
unfolding talk_behind
later_wrong m b bs n = rw (ne_eqb (later_reason m b.side b.value) no_reason n) refl

pub later_right : (m : Message) (b : Event) (bs : List Event) → later_reason m b.side b.value ≡ no_reason
    → talk_behind m (b ∷ bs) ≡ talk_behind (grown m b.value) bs
unfolding talk_behind
later_right m b bs q = rw (eq-eqb (later_reason m b.side b.value) no_reason q) refl
