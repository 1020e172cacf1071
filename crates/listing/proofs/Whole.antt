-- A WHOLE INPUT, that comes in parts, each of them offered until all of it is read.
-- A call reads something while something is offered (`reads_on`), so a part that is offered again and again comes to its end.
-- Assumes nothing.
use Prim.Native.Nat.{ℕ, zero, suc, ◌≤◌}
use mathlib.Core.Path.{◌≡◌, refl, sym, ◌∙◌, ap}
use mathlib.Core.List.{List, [], ◌∷◌, ◌++◌, append_assoc}
use lib.ListN.{length, take, drop, length-drop, take-append-drop}
use native.Mathlib.Omega.{arith}
use Rattle.text.specs.Text.{head_text}
use Rattle.listing.specs.Listing.{Feed, fresh_lister, feed, ending_of, listing_of}
use Rattle.listing.specs.Parts.{answer_most, part_of}
use Rattle.listing.specs.declared.Lister.{Lister}
use Rattle.listing.proofs.Cuts.{feed_said, feed_append, part_fed, reads_on}

-- what was written before, in front of what is written now
abbrev pub behind : List ℕ → Feed → Feed
behind o f = record { lister = f.lister; said = o ++ f.said }

-- ---- ONE PART
-- A host's loop over a part, of so many turns at most: while something of it is left, `list_part` is called on what is left, with a buffer of n bytes.
-- The lister after it, and all that the calls wrote.
abbrev pub drained_in : ℕ → ℕ → Lister → List ℕ → Feed
drained_in zero n l s = record { lister = l; said = [] }
drained_in (suc turns) n l [] = record { lister = l; said = [] }
drained_in (suc turns) n l (b ∷ s) =
    behind (part_of l (b ∷ s) n).feed.said (drained_in turns n (part_of l (b ∷ s) n).feed.lister (drop (part_of l (b ∷ s) n).at (b ∷ s)))

-- As many turns as the part has bytes are enough: each call reads one at least.
abbrev pub drained : ℕ → Lister → List ℕ → Feed
drained n l s = drained_in (length s) n l s

-- a call, and the bytes it left
pub call_rest : (n : ℕ) (l : Lister) (s : List ℕ)
    → behind (part_of l s n).feed.said (feed (record { lister = (part_of l s n).feed.lister; said = [] }) (drop (part_of l s n).at s))
    ≡ feed (record { lister = l; said = [] }) s
call_rest n l s =
    let p = part_of l s n in
    sym (feed_said (drop p.at s) p.feed.lister p.feed.said)
    ∙ (ap (λ (f : Feed). feed f (drop p.at s)) (part_fed l s n)
    ∙ (sym (feed_append (record { lister = l; said = [] }) (take p.at s) (drop p.at s))
    ∙ ap (feed (record { lister = l; said = [] })) (take-append-drop p.at s)))

-- with any number of turns that is enough, nothing of the part is left
pub drained_in_lem : (turns n : ℕ) (l : Lister) (s : List ℕ) → length s ≤ turns → answer_most ≤ n → drained_in turns n l s ≡ feed (record { lister = l; said = [] }) s
unfolding feed
drained_in_lem zero n l [] k h = refl
drained_in_lem zero n l (b ∷ s) k h = absurd (omega arith)
drained_in_lem (suc turns) n l [] k h = refl
drained_in_lem (suc turns) n l (b ∷ s) k h =
    let p = part_of l (b ∷ s) n in
    let some = reads_on l (b ∷ s) n (omega arith) h in
    let left : length (drop p.at (b ∷ s)) ≤ turns = omega (arith, length-drop p.at (b ∷ s)) in
    ap (behind p.feed.said) (drained_in_lem turns n p.feed.lister (drop p.at (b ∷ s)) left h) ∙ call_rest n l (b ∷ s)

-- The loop over a part gives what all bytes of the part give.
pub drained_fed : (n : ℕ) (l : Lister) (s : List ℕ) → answer_most ≤ n → drained n l s ≡ feed (record { lister = l; said = [] }) s
drained_fed n l s h = drained_in_lem (length s) n l s (omega arith) h

-- ---- PART AFTER PART
-- a part of the input, and how many bytes the buffer has that is lent for it
pub record Piece : Type 0 where
  pub bytes : List ℕ
  pub room : ℕ
  pub enough : answer_most ≤ room

-- the input: the bytes of all parts, in order
abbrev pub joined : List Piece → List ℕ
joined [] = []
joined (p ∷ ps) = p.bytes ++ joined ps

-- The loop over each part, with the lister that the one before gave: the lister after them, and all that was written.
abbrev pub listed_parts : Lister → List Piece → Feed
listed_parts l [] = record { lister = l; said = [] }
listed_parts l (p ∷ ps) = behind (drained p.room l p.bytes).said (listed_parts (drained p.room l p.bytes).lister ps)

-- a part, and those that follow
part_then : (l : Lister) (s rest : List ℕ) (f : Feed) → f ≡ feed (record { lister = l; said = [] }) s
    → behind f.said (feed (record { lister = f.lister; said = [] }) rest) ≡ feed (record { lister = l; said = [] }) (s ++ rest)
part_then l s rest f e =
    sym (feed_said rest f.lister f.said)
    ∙ (ap (λ (x : Feed). feed x rest) e
    ∙ sym (feed_append (record { lister = l; said = [] }) s rest))

-- The parts give what the whole input gives.
pub parts_fed : (ps : List Piece) (l : Lister) → listed_parts l ps ≡ feed (record { lister = l; said = [] }) (joined ps)
unfolding feed
parts_fed [] l = refl
parts_fed (p ∷ ps) l =
    let f = drained p.room l p.bytes in
    ap (behind f.said) (parts_fed ps f.lister) ∙ part_then l p.bytes (joined ps) f (drained_fed p.room l p.bytes p.enough)

-- THE THEOREM. An input may come in any parts at all, each listed with a buffer of any size from `answer_most` on: the header, what was written for the
-- parts, in order, and what the end writes, are the listing of the input.
pub whole_input : (ps : List Piece)
    → head_text ++ ((listed_parts fresh_lister ps).said ++ ending_of (listed_parts fresh_lister ps).lister) ≡ listing_of (joined ps)
unfolding listing_of
whole_input ps =
    rw (feed_said (joined ps) fresh_lister head_text, sym (parts_fed ps fresh_lister))
    (sym (append_assoc head_text (listed_parts fresh_lister ps).said (ending_of (listed_parts fresh_lister ps).lister)))
