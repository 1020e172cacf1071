-- Laws for the proofs of the functions: a line by its parts. Assumes nothing.
use Prim.Native.Nat.{ℕ, ◌+◌, ◌*◌, ◌≤◌, ◌<◌}
use mathlib.Core.Path.{◌≡◌, refl, sym, ◌∙◌, ap}
use mathlib.Core.List.{List, [], ◌∷◌, ◌++◌, append_assoc, append-nil}
use lib.Dec.{leb}
use lib.ListN.{length, take, length-append}
use lib.Seq.{length-take-le}
use mathlib.Core.Bool.{Bool, false, not}
use borrow.Author.Tests.{leb-true, not-false}
use native.Mathlib.Omega.{arith}
use Rattle.reports.specs.Reporting.{places, listed}
use Rattle.reports.specs.declared.Report.{Report}
use Rattle.reports.specs.declared.Reports.{Reports}
use Rattle.words.specs.Writing.{space, line_feed, number_text, number_most, Writes, Puts}
use Rattle.words.proofs.Written.{puts_nil, puts_join, writes_puts, number_small}
use Rattle.text.specs.Text.{spaced_text, line_text, report_text, reports_text, line_most, reports_most}
use Rattle.reports.proofs.Places.{listed_few}
use Rattle.text.proofs.Laws.{reports_small}

-- a test that found room
pub room_there : (h : Bool) (len at most : ℕ) → h ≡ leb (at + most) len → not h ≡ false → at + most ≤ len
room_there h len at most e t = leb-true (at + most) len (sym e ∙ not-false h t)

-- a number that was written, where there was room
number_put : (at n b : ℕ) (out : List ℕ) (r : ℕ) (after : List ℕ) → at + number_most ≤ length out → Writes (number_text n b) number_most at out r after
    → Puts at (number_text n b) number_most out r after
number_put at n b out r after h w = writes_puts (number_text n b) number_most at out r after h (number_small n b) w

-- ---- a line of numbers
-- the numbers xs stand there, with a space after each: ..
abbrev pub Spaced : ℕ → List ℕ → List ℕ → ℕ → List ℕ → Type 0
Spaced at xs out r after = Puts at (spaced_text xs) (length xs * number_most) out r after

-- .. none, ..
pub none_spaced : (at : ℕ) (out : List ℕ) → Spaced at [] out at out
unfolding spaced_text
none_spaced at out = puts_nil at out

-- .. one more, ..
spaced_append : (xs : List ℕ) (n : ℕ) → spaced_text xs ++ number_text n space ≡ spaced_text (xs ++ (n ∷ []))
unfolding spaced_text
spaced_append [] n = sym (append-nil (number_text n space))
spaced_append (x ∷ xs) n =
    append_assoc (number_text x space) (spaced_text xs) (number_text n space) ∙ ap (λ l. number_text x space ++ l) (spaced_append xs n)

pub spaced_more : (at : ℕ) (xs : List ℕ) (n : ℕ) (out : List ℕ) (a : ℕ) (o1 : List ℕ) (r : ℕ) (o2 : List ℕ) → at + (length xs + 1) * number_most ≤ length out
    → Spaced at xs out a o1 → Writes (number_text n space) number_most a o1 r o2 → Spaced at (xs ++ (n ∷ [])) out r o2
spaced_more at xs n out a o1 r o2 h u w =
    let v = number_put a n space o1 r o2 (omega (arith, u.place, u.small, u.kept)) w in
    let j = puts_join at (spaced_text xs) (number_text n space) (length xs * number_most) number_most out a o1 r o2 (omega arith) u v in
    let e : length (xs ++ (n ∷ [])) * number_most ≡ length xs * number_most + number_most = rw (length-append xs (n ∷ [])) (omega arith) in
    rw (e, ← (spaced_append xs n)) j

-- .. and the last, with a line feed after it
pub spaced_line : (xs : List ℕ) (y : ℕ) (ys : List ℕ) → spaced_text xs ++ line_text (y ∷ ys) ≡ line_text (xs ++ (y ∷ ys))
unfolding spaced_text line_text
spaced_line [] y ys = refl
spaced_line (x ∷ []) y ys = append_assoc (number_text x space) [] (line_text (y ∷ ys))
spaced_line (x ∷ z ∷ xs) y ys =
    append_assoc (number_text x space) (spaced_text (z ∷ xs)) (line_text (y ∷ ys)) ∙ ap (λ l. number_text x space ++ l) (spaced_line (z ∷ xs) y ys)

pub line_put : (at : ℕ) (xs : List ℕ) (y : ℕ) (out : List ℕ) (a : ℕ) (o1 : List ℕ) (r : ℕ) (o2 : List ℕ) → at + (length xs + 1) * number_most ≤ length out
    → Spaced at xs out a o1 → Writes (number_text y line_feed) number_most a o1 r o2 → Puts at (line_text (xs ++ (y ∷ []))) ((length xs + 1) * number_most) out r o2
unfolding line_text
line_put at xs y out a o1 r o2 h u w =
    let v = number_put a y line_feed o1 r o2 (omega (arith, u.place, u.small, u.kept)) w in
    let j = puts_join at (spaced_text xs) (number_text y line_feed) (length xs * number_most) number_most out a o1 r o2 (omega arith) u v in
    let e : (length xs + 1) * number_most ≡ length xs * number_most + number_most = omega arith in
    rw (e, ← (spaced_line xs y [])) j

-- a word, and the line after it
pub text_put : (at : ℕ) (s out : List ℕ) (r : ℕ) (after : List ℕ) → at + length s ≤ length out → Writes s (length s) at out r after → Puts at s (length s) out r after
text_put at s out r after h w = writes_puts s (length s) at out r after h (omega arith) w

pub word_line : (at : ℕ) (s p : List ℕ) (m : ℕ) (out : List ℕ) (a : ℕ) (o1 : List ℕ) (r : ℕ) (o2 : List ℕ) → at + (length s + m) ≤ length out
    → Writes s (length s) at out a o1 → Puts a p m o1 r o2 → Puts at (s ++ p) (length s + m) out r o2
word_line at s p m out a o1 r o2 h x v =
    let u = text_put at s out a o1 (omega arith) x in
    puts_join at s p (length s) m out a o1 r o2 (omega arith) u v

-- ---- the reports of an event
-- the lines of the reports xs stand there, one after the other: ..
abbrev pub Lines : ℕ → List Report → List ℕ → ℕ → List ℕ → Type 0
Lines at xs out r after = Puts at (reports_text xs) (length xs * line_most) out r after

-- .. of none, ..
pub no_lines : (at : ℕ) (out : List ℕ) → Lines at [] out at out
unfolding reports_text
no_lines at out = puts_nil at out

-- .. and of one report more
lines_append : (xs : List Report) (x : Report) → reports_text xs ++ report_text x ≡ reports_text (xs ++ (x ∷ []))
unfolding reports_text
lines_append [] x = sym (append-nil (report_text x))
lines_append (y ∷ xs) x = append_assoc (report_text y) (reports_text xs) (report_text x) ∙ ap (λ l. report_text y ++ l) (lines_append xs x)

pub puts_line : (at : ℕ) (xs : List Report) (x : Report) (out : List ℕ) (a : ℕ) (o1 : List ℕ) (r : ℕ) (o2 : List ℕ) → at + reports_most ≤ length out
    → length xs < places → Lines at xs out a o1 → Puts a (report_text x) line_most o1 r o2 → Lines at (xs ++ (x ∷ [])) out r o2
puts_line at xs x out a o1 r o2 h k u v =
    let j = puts_join at (reports_text xs) (report_text x) (length xs * line_most) line_most out a o1 r o2 (omega arith) u v in
    let e : length (xs ++ (x ∷ [])) * line_most ≡ length xs * line_most + line_most = rw (length-append xs (x ∷ [])) (omega arith) in
    rw (e, ← (lines_append xs x)) j

-- while reports are left there is room for one line more
pub lines_few : (rs : Reports) (xs : List Report) (i : ℕ) → xs ≡ listed rs → i < length xs → length (take i xs) < places
lines_few rs xs i e h = omega (arith, length-take-le i xs (omega arith), ap length e, listed_few rs)

pub line_room : (at : ℕ) (xs : List Report) (out : List ℕ) (a : ℕ) (o1 : List ℕ) → at + reports_most ≤ length out → length xs < places → Lines at xs out a o1
    → a + line_most ≤ length o1
line_room at xs out a o1 h k u = omega (arith, u.place, u.small, u.kept)

-- the lines of all its reports are an event's
pub puts_listed : (at : ℕ) (rs : Reports) (xs : List Report) (out : List ℕ) (r : ℕ) (after : List ℕ) → listed rs ≡ xs → Lines at xs out r after
    → Puts at (reports_text (listed rs)) reports_most out r after
puts_listed at rs xs out r after e u =
    record { place = rw e u.place; small = reports_small rs; memory = rw e u.memory; kept = u.kept }
