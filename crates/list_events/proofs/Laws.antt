-- One call of `listing::list_part` after another, over the bytes of one read; and one read after another. Assumes nothing.
use Prim.Native.Nat.{ℕ, ◌+◌, ◌-◌, ◌≤◌, ◌<◌}
use mathlib.Core.Path.{◌≡◌, refl, sym, ◌∙◌, ap}
use mathlib.Core.List.{List, [], ◌++◌, append_assoc, append-nil}
use lib.ListN.{length, take, drop, length-drop, drop_of_length-le}
use lib.Seq.{take_all, drop-drop, take-append_seam}
use native.Mathlib.Omega.{arith}
use Rattle.words.specs.Writing.{put, Writes}
use Rattle.words.proofs.Written.{writes_puts}
use Rattle.std.specs.Io.KnownBytes.{Appends, Consumes, IsAtEnd, prepend_known}
use Rattle.std.proofs.Common.{Option, None, Some, IfSome, subst}
use Rattle.std.proofs.KnownBytes.{Appends-nil, Appends-trans}
use Rattle.list_events.specs.Sending.{HasRead, behind_head, said_by}
use Rattle.text.specs.Text.{head_text}
use Rattle.listing.specs.Listing.{Feed, feed, ending_of, fresh_lister, listing_of}
use Rattle.listing.specs.Parts.{answer_most, part_of, Parted}
use Rattle.listing.specs.declared.Lister.{Lister}
use Rattle.listing.specs.declared.Part.{Part}
use Rattle.listing.proofs.Cuts.{feed_said, feed_append, reads_on, part_within}
use Rattle.listing.proofs.Whole.{behind, call_rest}

-- the lister that bytes give one by one
abbrev pub fed_by : Lister → List ℕ → Lister
fed_by l s = (feed (record { lister = l; said = [] }) s).lister

pub none_fed : (l : Lister) (s : List ℕ) → l ≡ fed_by l (take 0 s)
unfolding feed
none_fed l s = refl

-- what was said before does not change it
fed_said : (f : Feed) (s : List ℕ) → (feed f s).lister ≡ fed_by f.lister s
fed_said f s = ap (λ (x : Feed). x.lister) (feed_said s f.lister f.said)

fed_append : (l : Lister) (a b : List ℕ) → fed_by l (a ++ b) ≡ fed_by (fed_by l a) b
fed_append l a b = ap (λ (f : Feed). f.lister) (feed_append (record { lister = l; said = [] }) a b) ∙ fed_said (feed (record { lister = l; said = [] }) a) b

-- ---- what goes out
said_append : (l : Lister) (a b : List ℕ) → said_by l (a ++ b) ≡ said_by l a ++ said_by (fed_by l a) b
said_append l a b =
    let f = feed (record { lister = l; said = [] }) a in
    ap (λ (x : Feed). x.said) (feed_append (record { lister = l; said = [] }) a b) ∙ ap (λ (x : Feed). x.said) (feed_said b f.lister f.said)

pub none_said : (l : Lister) (s : List ℕ) → [] ≡ said_by l (take 0 s)
unfolding feed
none_said l s = refl

-- a text that was written at the front of a buffer stands there
put_front : (p out : List ℕ) → take (length p) (put 0 p out) ≡ p
unfolding put
put_front p out = take-append_seam p (drop (0 + length p) out)

pub written_front : (p : List ℕ) (k : ℕ) (out : List ℕ) (r : ℕ) (after : List ℕ) → k ≤ length out → length p ≤ k → Writes p k 0 out r after → take r after ≡ p
written_front p k out r after h small w =
    let q = writes_puts p k 0 out r after (omega arith) small w in
    let place : r ≡ length p = omega (arith, q.place) in
    rw (place, q.memory) (put_front p out)

part_front : (x : Lister) (d out : List ℕ) (p : Part) (after : List ℕ) → Parted x d out p after → take p.put after ≡ (part_of x d (length out)).feed.said
part_front x d out p after q = rw (q.written, q.memory) (put_front (part_of x d (length out)).feed.said out)

-- ---- one buffer after another
-- The part so far, up to `at`: what went out, and what the rest gives, are what all of its bytes give one by one.
pub record Sending (l : Lister) (s : List ℕ) (to₀ to : Option (List ℕ)) (x : Lister) (at : ℕ) : Type 0 where
  pub within : at ≤ length s
  pub sent : List ℕ
  pub went : Appends to₀ to sent
  pub same : behind sent (feed (record { lister = x; said = [] }) (drop at s)) ≡ feed (record { lister = l; said = [] }) s

pub sending_first : (l : Lister) (s : List ℕ) (to : Option (List ℕ)) → Sending l s to to l 0
sending_first l s to = record { within = omega arith; sent = []; went = Appends-nil to; same = refl }

-- a call reads something, and no more than there is
part_reads : (x : Lister) (s d out : List ℕ) (at : ℕ) (p : Part) (after : List ℕ) → d ≡ drop at s → at < length s → answer_most ≤ length out → Parted x d out p after
    → (0 < p.at) × (at + p.at ≤ length s)
part_reads x s d out at p after e h k q =
    let n : length d ≡ length s - at = rw e (length-drop at s) in
    rw q.read (reads_on x d (length out) (omega arith) k, omega (arith, part_within x d (length out)))

pub reads : (x : Lister) (s out : List ℕ) (at : ℕ) (p : Part) (after : List ℕ) → at < length s → answer_most ≤ length out
    → Parted x (take (length s - at) (drop at s)) out p after → (0 < p.at) × (at + p.at ≤ length s)
reads x s out at p after h k q =
    part_reads x s (take (length s - at) (drop at s)) out at p after (take_all (length s - at) (drop at s) (omega (arith, length-drop at s))) h k q

-- a call, and what it leaves
called : (x : Lister) (d out : List ℕ) (p : Part) (after : List ℕ) → Parted x d out p after
    → behind (take p.put after) (feed (record { lister = p.lister; said = [] }) (drop p.at d)) ≡ feed (record { lister = x; said = [] }) d
called x d out p after q = rw (part_front x d out p after q, q.lister, q.read) (call_rest (length out) x d)

sending_by : (l x : Lister) (s d out : List ℕ) (at : ℕ) (p : Part) (after : List ℕ) (to₀ to to' : Option (List ℕ)) → d ≡ drop at s → at < length s
    → answer_most ≤ length out → Sending l s to₀ to x at → Parted x d out p after → Appends to to' (take p.put after)
    → Sending l s to₀ to' p.lister (at + p.at)
sending_by l x s d out at p after to₀ to to' e h n k q w =
    let rest : drop p.at d ≡ drop (at + p.at) s = rw e (drop-drop p.at at s) in
    let c = rw rest at (called x d out p after q) in
    record {
      within = (part_reads x s d out at p after e h n q).1;
      sent = k.sent ++ take p.put after;
      went = Appends-trans to₀ to to' k.sent (take p.put after) k.went w;
      same = rw (append_assoc k.sent (take p.put after) (feed (record { lister = p.lister; said = [] }) (drop (at + p.at) s)).said)
          (ap (behind k.sent) (rw e at c) ∙ k.same);
    }

pub sending_on : (l x : Lister) (s out : List ℕ) (at : ℕ) (p : Part) (after : List ℕ) (to₀ to to' : Option (List ℕ)) → at < length s → answer_most ≤ length out
    → Sending l s to₀ to x at → Parted x (take (length s - at) (drop at s)) out p after → Appends to to' (take p.put after)
    → Sending l s to₀ to' p.lister (at + p.at)
sending_on l x s out at p after to₀ to to' h n k q w =
    sending_by l x s (take (length s - at) (drop at s)) out at p after to₀ to to' (take_all (length s - at) (drop at s) (omega (arith, length-drop at s))) h n k q w

pub sending_end : (l x : Lister) (s : List ℕ) (at : ℕ) (to₀ to : Option (List ℕ)) → length s ≤ at → Sending l s to₀ to x at
    → (x ≡ fed_by l s) × Appends to₀ to (said_by l s)
unfolding feed
sending_end l x s at to₀ to e k =
    let all = rw (drop_of_length-le s {i = at} e) at k.same in
    (ap (λ (f : Feed). f.lister) all, subst (Appends to₀ to) (sym (append-nil k.sent) ∙ ap (λ (f : Feed). f.said) all) k.went)

-- ---- one read after another
-- The listing so far: of all that the input had, `done` was listed, and what it gave last and what it has left are still to be.
pub record Going (all left : Option (List ℕ)) (n : ℕ) (buf : List ℕ) (to₀ to : Option (List ℕ)) (l : Lister) : Type 0 where
  pub done : List ℕ
  pub lister : l ≡ fed_by fresh_lister done
  pub read : Consumes all (prepend_known (take n buf) left) done
  pub written : Appends to₀ to (said_by fresh_lister done)
  pub last : HasRead left n buf

consumes_none : (a : Option (List ℕ)) → Consumes a a []
consumes_none None = tt
consumes_none (Some x) = refl

pub going_first : (left : Option (List ℕ)) (n : ℕ) (buf : List ℕ) (to : Option (List ℕ)) → HasRead left n buf → Going (prepend_known (take n buf) left) left n buf to to fresh_lister
going_first left n buf to h =
    record { done = []; lister = none_fed fresh_lister []; read = consumes_none (prepend_known (take n buf) left); written = subst (Appends to to) (none_said fresh_lister []) (Appends-nil to); last = h }

-- a read is listed, and the next one was made
going_read : (all left next : Option (List ℕ)) (done g h : List ℕ) → Consumes all (prepend_known g left) done → Consumes left next h
    → Consumes all (prepend_known h next) (done ++ g)
going_read None left next done g h p q = tt
going_read (Some x) None next done g h p q = absurd p
going_read (Some x) (Some y) None done g h p q = absurd q
going_read (Some x) (Some y) (Some z) done g h p q = p ∙ ap (λ (r : List ℕ). done ++ (g ++ r)) q ∙ sym (append_assoc done g (h ++ z))

pub going_on : (all left next : Option (List ℕ)) (n m : ℕ) (buf after : List ℕ) (to₀ to to' : Option (List ℕ)) (l l' : Lister)
    → Going all left n buf to₀ to l → Appends to to' (said_by l (take n buf)) → l' ≡ fed_by l (take n buf)
    → Consumes left next (take m after) → HasRead next m after → Going all next m after to₀ to' l'
going_on all left next n m buf after to₀ to to' l l' k w e c h =
    let g = take n buf in
    let same : said_by fresh_lister k.done ++ said_by l g ≡ said_by fresh_lister (k.done ++ g) = rw (said_append fresh_lister k.done g, k.lister) refl in
    record {
      done = k.done ++ g;
      lister = rw (fed_append fresh_lister k.done g, ← k.lister) e;
      read = going_read all left next k.done g (take m after) k.read c;
      written = subst (Appends to₀ to') same (Appends-trans to₀ to to' (said_by fresh_lister k.done) (said_by l g) k.written w);
      last = h;
    }

-- the input has ended, and so has its listing
going_end_by : (all left : Option (List ℕ)) (done g : List ℕ) (to₀ to : Option (List ℕ)) → Consumes all (prepend_known g left) done → g ≡ [] → IsAtEnd left
    → Appends to₀ to (behind_head done) → IfSome all (λ (bytes : List ℕ). Appends to₀ to (behind_head bytes))
going_end_by None left done g to₀ to c e h w = tt
going_end_by (Some x) None done g to₀ to c e h w = absurd c
going_end_by (Some x) (Some y) done g to₀ to c e h w =
    let same : done ≡ x = sym (c ∙ ap (λ (r : List ℕ). done ++ (r ++ y)) e ∙ ap (λ (r : List ℕ). done ++ r) h ∙ append-nil done) in
    subst (λ (d : List ℕ). Appends to₀ to (behind_head d)) same w

pub going_end : (all left : Option (List ℕ)) (n : ℕ) (buf : List ℕ) (to₀ to to' : Option (List ℕ)) (l : Lister)
    → Going all left n buf to₀ to l → n ≡ 0 → Appends to to' (ending_of l) → IfSome all (λ (bytes : List ℕ). Appends to₀ to' (behind_head bytes))
going_end all left n buf to₀ to to' l k e w =
    let none : take n buf ≡ [] = rw e refl in
    let joined = Appends-trans to₀ to to' (said_by fresh_lister k.done) (ending_of l) k.written w in
    let same : said_by fresh_lister k.done ++ ending_of l ≡ behind_head k.done = rw k.lister refl in
    going_end_by all left k.done (take n buf) to₀ to' k.read none (k.last.end e) (subst (Appends to₀ to') same joined)

-- ---- the header
headed : (input : List ℕ) → head_text ++ behind_head input ≡ listing_of input
unfolding listing_of
headed input =
    let f = feed_said input fresh_lister head_text in
    rw (f, append_assoc head_text (said_by fresh_lister input) (ending_of (fed_by fresh_lister input))) refl

-- the listing of an input behind its first read is the listing of all of it
pub headed_all : (all left : Option (List ℕ)) (g : List ℕ) (to₀ to to' : Option (List ℕ)) → Consumes all left g → Appends to₀ to head_text
    → IfSome (prepend_known g left) (λ (bytes : List ℕ). Appends to to' (behind_head bytes)) → IfSome all (λ (bytes : List ℕ). Appends to₀ to' (listing_of bytes))
headed_all None left g to₀ to to' c w h = tt
headed_all (Some x) None g to₀ to to' c w h = absurd c
headed_all (Some x) (Some y) g to₀ to to' c w h =
    let whole = Appends-trans to₀ to to' head_text (behind_head (g ++ y)) w h in
    subst (λ (d : List ℕ). Appends to₀ to' (listing_of d)) (sym c) (subst (Appends to₀ to') (headed (g ++ y)) whole)
