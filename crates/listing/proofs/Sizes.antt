-- How much is written at most. Assumes nothing.
use Prim.Native.Nat.{ℕ, ◌+◌, ◌-◌, ◌≤◌}
use mathlib.Core.Path.{◌≡◌, refl}
use mathlib.Core.Bool.{Bool, true, false}
use mathlib.Core.List.{List, [], ◌∷◌}
use lib.Dec.{eqb, leb, ltb}
use lib.ListN.{length, length-append}
use borrow.Author.Tests.{leb-true, ltb-false}
use native.Mathlib.Omega.{arith}
use Rattle.base.specs.Numbers.{taken}
use Rattle.base.proofs.Tests.{by_test}
use Rattle.events.specs.declared.Event.{Event}
use Rattle.link.specs.Stepping.{step_of}
use Rattle.link.specs.Answers.{Answer}
use Rattle.lines.specs.Lines.{is_empty, event_of}
use Rattle.words.specs.Writing.{put, Writes}
use Rattle.text.specs.Text.{end_text}
use Rattle.words.proofs.Written.{length_put}
use Rattle.text.proofs.Laws.{reports_small, refused_small, end_small}
use Rattle.listing.specs.Listing.{Feed, answer_text, said_of, line_ended, feed_byte, finished, held_of, ending_of}
use Rattle.listing.specs.Parts.{answer_most, ending_most, Extent, takes, part_of, Parted}
use Rattle.listing.specs.declared.Lister.{Lister}
use Rattle.listing.specs.declared.Part.{Part}

answer_small : (a : Answer) → length (answer_text a) ≤ answer_most
unfolding answer_text
answer_small a =
    by_test (λ (p : List ℕ). length p ≤ answer_most) (eqb a.no taken) (λ e. reports_small a.reports) (λ e. omega (arith, refused_small a.no))

pub said_small : (l : Lister) (e : Event) → length (said_of l e) ≤ answer_most
unfolding said_of
said_small l e = answer_small (step_of l.link l.counts e).answer

line_ended_small : (f : Feed) → length (line_ended f).said ≤ length f.said + answer_most
unfolding line_ended
line_ended_small f = rw (length-append f.said (said_of f.lister (event_of f.lister.reading))) (omega (arith, said_small f.lister (event_of f.lister.reading)))

byte_small : (f : Feed) (b : ℕ) → length (feed_byte f b).said ≤ length f.said + answer_most
unfolding feed_byte
byte_small f b = by_test (λ (g : Feed). length g.said ≤ length f.said + answer_most) (eqb b 10) (λ e. line_ended_small f) (λ e. omega arith)

-- a part never writes more than the buffer has
takes_small : (room : ℕ) (bs : List ℕ) (f : Feed) (at : ℕ) → length f.said ≤ room + answer_most → length (takes room f bs at).feed.said ≤ room + answer_most
unfolding takes
takes_small room [] f at h = h
takes_small room (b ∷ bs) f at h =
    by_test (λ (t : Extent). length t.feed.said ≤ room + answer_most) (leb (length f.said) room)
    (λ e. takes_small room bs (feed_byte f b) (at + 1) (omega (arith, byte_small f b, leb-true (length f.said) room e))) (λ e. h)

pub part_small : (l : Lister) (s : List ℕ) (n : ℕ) → length (part_of l s n).feed.said ≤ n
unfolding part_of
part_small l s n =
    by_test (λ (t : Extent). length t.feed.said ≤ n) (ltb n answer_most) (λ e. omega arith)
    (λ e. omega (arith, ltb-false n answer_most e, takes_small (n - answer_most) s (record { lister = l; said = [] }) 0 (omega arith)))

-- what was written of a part stands in the buffer, which keeps its length
pub part_kept : (l : Lister) (s out : List ℕ) (r : Part) (after : List ℕ) → Parted l s out r after → length after ≡ length out
part_kept l s out r after p = rw p.memory (length_put 0 (part_of l s (length out)).feed.said out (omega (arith, part_small l s (length out))))

pub part_inside : (l : Lister) (s out : List ℕ) (r : Part) (after : List ℕ) → Parted l s out r after → r.put ≤ length after
part_inside l s out r after p = rw (part_kept l s out r after p, p.written) (part_small l s (length out))

-- how much the end writes at most
pub finished_small : (l : Lister) → length (finished (record { lister = l; said = [] })).said ≤ answer_most
unfolding finished
finished_small l =
    by_test (λ (f : Feed). length f.said ≤ answer_most) (is_empty l.reading) (λ e. omega arith)
    (λ e. omega (arith, line_ended_small (record { lister = l; said = [] })))

pub ending_small : (l : Lister) → length (ending_of l) ≤ ending_most
unfolding ending_of
ending_small l =
    let f = finished (record { lister = l; said = [] }) in
    rw (length-append f.said (end_text f.lister.counts (held_of f.lister.link)))
    (omega (arith, finished_small l, end_small f.lister.counts (held_of f.lister.link)))

-- what was written at the front of a buffer lies in it
inside_by : (p : List ℕ) (k : ℕ) (out : List ℕ) (r : ℕ) (after : List ℕ) (b : Bool) → leb (0 + k) (length out) ≡ b → length p ≤ k → Writes p k 0 out r after → r ≤ length after
inside_by p k out r after true e h w =
    let m : after ≡ put 0 p out = rw e at w.memory in
    let q : r ≡ 0 + length p = rw e at w.place in
    let n = leb-true (0 + k) (length out) e in
    rw (m, length_put 0 p out (omega arith)) (omega arith)
inside_by p k out r after false e h w = let q : r ≡ 0 = rw e at w.place in omega arith

pub written_inside : (p : List ℕ) (k : ℕ) (out : List ℕ) (r : ℕ) (after : List ℕ) → length p ≤ k → Writes p k 0 out r after → r ≤ length after
written_inside p k out r after h w = inside_by p k out r after (leb (0 + k) (length out)) refl h w
