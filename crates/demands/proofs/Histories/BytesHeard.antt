-- The bytes heard in a history: they are bytes, and they grow with the log by the bytes taken. Assumes nothing.
use Prim.Native.Nat.{ℕ, zero, suc, ◌+◌, ◌≤◌, ◌<◌}
use mathlib.Core.Bool.{false}
use mathlib.Core.List.{List, [], ◌∷◌, ◌++◌, append-nil}
use mathlib.Core.Path.{◌≡◌, ap, ◌∙◌}
use native.Mathlib.Omega.{arith}
use borrow.Author.Tests.{eq-eqb}
use lib.Dec.{eqb}
use lib.ListN.{length, get_or, length-append}
use Rattle.std.specs.Prelude.{if◌then◌else◌}
use Rattle.base.specs.Numbers.{taken}
use Rattle.base.proofs.Tests.{by_test}
use Rattle.events.specs.Events.{is_byte}
use Rattle.events.specs.declared.Kind.{Kind}
use Rattle.events.specs.declared.Kind.TheVariants.{Byte}
use Rattle.events.specs.declared.Event.{Event}
use Rattle.demands.specs.Logs.{Log, none, ◌▷◌, heard_of, heard_in, number_after, taken_of, InBytes, Begins, whole, more}

-- ---- they are bytes
abbrev pub Bytes : List ℕ → Type 0
Bytes l = (i : ℕ) → get_or l i 0 < 256

pub bytes_both : (l k : List ℕ) → Bytes l → Bytes k → Bytes (l ++ k)
bytes_both [] k f g i = g i
bytes_both (x ∷ l) k f g zero = f 0
bytes_both (x ∷ l) k f g (suc i) = bytes_both l k (λ j. f (suc j)) g i

bytes_none : Bytes []
bytes_none i = omega arith

pub bytes_one : (v : ℕ) → v < 256 → Bytes (v ∷ [])
bytes_one v h zero = h
bytes_one v h (suc i) = omega arith

pub heard_bytes : (es : Log) → InBytes es → Bytes (heard_in es)
unfolding InBytes taken_of heard_of
heard_bytes none b = bytes_none
heard_bytes (es ▷ e) b =
    let front = heard_bytes es b.0 in
    by_test (λ (log : Log). Bytes (heard_of log)) (eqb (number_after (taken_of es) e) taken) {x = taken_of es ▷ e} {y = taken_of es}
    (λ _. bytes_both (heard_in es) _ front (by_test Bytes (is_byte e.kind) {x = e.value ∷ []} {y = []} (λ _. bytes_one e.value b.1)
    (λ _. bytes_none)))
    (λ _. front)

-- ---- they grow with the log
taken_more : (es : Log) (e : Event) → number_after (taken_of es) e ≡ taken
    → heard_in (es ▷ e) ≡ heard_in es ++ (if is_byte e.kind then e.value ∷ [] else [])
unfolding taken_of heard_of
taken_more es e n = rw (eq-eqb _ taken n)

pub byte_more : (es : Log) (e : Event) → number_after (taken_of es) e ≡ taken → e.kind ≡ Byte → heard_in (es ▷ e) ≡ heard_in es ++ (e.value ∷ [])
unfolding is_byte
byte_more es e n k = taken_more es e n ∙ ap (λ (x : Kind). heard_in es ++ (if is_byte x then e.value ∷ [] else [])) k

pub other_more : (es : Log) (e : Event) → number_after (taken_of es) e ≡ taken → is_byte e.kind ≡ false → heard_in (es ▷ e) ≡ heard_in es
other_more es e n k = taken_more es e n ∙ rw k (append-nil (heard_in es))

pub refused_more : (es : Log) (e : Event) → eqb (number_after (taken_of es) e) taken ≡ false → heard_in (es ▷ e) ≡ heard_in es
unfolding taken_of
refused_more es e n = rw n

pub byte_longer : (es : Log) (e : Event) → number_after (taken_of es) e ≡ taken → e.kind ≡ Byte → length (heard_in (es ▷ e)) ≡ length (heard_in es) + 1
byte_longer es e n k = ap length (byte_more es e n k) ∙ length-append (heard_in es) (e.value ∷ [])

pub begins_longer : {front es : Log} → Begins front es → length (heard_in front) ≤ length (heard_in es)
unfolding taken_of heard_of
begins_longer whole = omega arith
begins_longer {front = front} (more {es = es} {e = e} b) =
    let x = begins_longer b in
    by_test (λ (log : Log). length (heard_in front) ≤ length (heard_of log)) (eqb (number_after (taken_of es) e) taken) {x = taken_of es ▷ e}
    {y = taken_of es}
    (λ _. omega (arith, length-append (heard_in es) (if is_byte e.kind then e.value ∷ [] else []))) (λ _. x)
