-- Laws of lines within a part. Assumes nothing.
use Prim.Native.Nat.{ℕ, suc, ◌+◌, ◌-◌, ◌≤◌, ◌<◌}
use mathlib.Core.Path.{◌≡◌, refl, sym, ◌∙◌, ap}
use mathlib.Core.Bool.{Bool, true, false, ◌&&◌}
use mathlib.Core.List.{List, [], ◌∷◌, ◌++◌, append-nil}
use lib.Dec.{eqb, leb, ltb}
use lib.ListN.{length, drop, length-append, length-drop, drop_of_length-le}
use lib.Seq.{drop-drop, drop-cons}
use borrow.Author.Tests.{eq-eqb, ne_eqb, le-leb, lt-ltb, le-ltb, leb-true, ltb-true, ltb-false}
use native.Mathlib.Omega.{arith}
use native.Mathlib.Nat.{zero-add}
use Rattle.std.specs.Prelude.{Option, Some, None, IfSome, Ok, Err}
use Rattle.std.proofs.lemmas.Option.{none-some}
use Rattle.base.specs.Numbers.{taken}
use Rattle.base.specs.Refusals.{number_of}
use Rattle.base.specs.declared.Refusal.{Refusal}
use Rattle.base.proofs.Tests.{and_split, by_test}
use Rattle.events.specs.declared.Event.{Event}
use Rattle.reports.specs.Reporting.{listed}
use Rattle.reports.specs.Counting.{counted_byte, counted_all, counted_event}
use Rattle.reports.specs.declared.Counts.{Counts}
use Rattle.link.specs.Handling.{fresh_link}
use Rattle.link.specs.Stepping.{answer_of, counts_after, step_of}
use Rattle.link.specs.Running.{runs_on, ran_on}
use Rattle.link.specs.declared.Link.{Link}
use Rattle.link.specs.Answers.{answered_as, counted_as, stepped_as}
use Rattle.link.specs.declared.Answer.{Answer}
use Rattle.link.specs.declared.Stepped.{Stepped}
use Rattle.base.proofs.Refusals.{not_taken}
use Rattle.link.proofs.Answered.{step_taken}
use Rattle.link.proofs.Ways.{runs_on_lem}
use Rattle.lines.specs.Lines.{fresh_reading, read_byte, is_letter, is_empty}
use Rattle.lines.specs.Getting.{got_of, ended, cut_off}
use Rattle.lines.specs.Quick.{row_of, row_got}
use Rattle.lines.specs.declared.Reading.{Reading}
use Rattle.lines.specs.declared.Got.{Got}
use Rattle.lines.specs.declared.Row.{Row}
use Rattle.lines.proofs.Ways.{row_line}
use Rattle.words.specs.Writing.{put, Puts, Writes}
use Rattle.text.specs.Text.{reports_text, refused_text, end_text, refused_most, end_most}
use Rattle.words.proofs.Written.{puts_join, puts_nil, put_nil, puts_writes, writes_puts}
use Rattle.text.proofs.Laws.{reports_small, refused_small, end_small}
use Rattle.listing.specs.Listing.{Feed, answer_text, stepped, said_of, line_ended, with_reading, feed_byte, finished, held_of, ending_of}
use Rattle.listing.specs.Parts.{answer_most, ending_most, takes, part_of, Parted}
use Rattle.listing.specs.Turns.{Acted, reading_after, RowAt, lister_of, Glided, Stretched, Turned, Ended}
use Rattle.listing.proofs.Sizes.{finished_small, part_kept}
use Rattle.listing.specs.declared.Lister.{Lister}
use Rattle.listing.specs.declared.Part.{Part}
use Rattle.listing.specs.declared.Stretch.{Stretch}

-- ---- a line out of a part
-- it only goes on
ahead_by : (r : Reading) (b : ℕ) (bs : List ℕ) (at : ℕ) (t : Bool) → eqb b 10 ≡ t → at + 1 ≤ (got_of (read_byte r b) bs (at + 1)).at → at + 1 ≤ (got_of r (b ∷ bs) at).at
unfolding got_of ended
ahead_by r b bs at true e h = rw e (omega arith)
ahead_by r b bs at false e h = rw e h

got_behind : (r : Reading) (bs : List ℕ) (at : ℕ) → at ≤ (got_of r bs at).at
unfolding got_of cut_off
got_behind r [] at = omega arith
got_behind r (b ∷ bs) at = let h = ahead_by r b bs at (eqb b 10) refl (got_behind (read_byte r b) bs (at + 1)) in omega arith

got_ahead : (r : Reading) (bs : List ℕ) (at : ℕ) → 0 < length bs → at < (got_of r bs at).at
got_ahead r [] at k = absurd (omega arith)
got_ahead r (b ∷ bs) at k = let h = ahead_by r b bs at (eqb b 10) refl (got_behind (read_byte r b) bs (at + 1)) in omega arith

-- what a listing becomes by it: of a line that ended by its event, else by what was read of it
abbrev gotten_by : Feed → Reading → Option Event → Feed
gotten_by f r (Some e) = record { lister = stepped f.lister e; said = f.said ++ said_of f.lister e }
gotten_by f r None = record { lister = with_reading f.lister r; said = f.said }

abbrev gotten : Feed → Got → Feed
gotten f g = gotten_by f g.reading g.line

line_by : (room b : ℕ) (bs : List ℕ) (f : Feed) (at : ℕ) (t : Bool) → eqb b 10 ≡ t → length f.said ≤ room
    → (f2 : Feed) → f2 ≡ record { lister = with_reading f.lister (read_byte f.lister.reading b); said = f.said }
    → takes room f2 bs (at + 1) ≡ takes room (gotten f (got_of (read_byte f.lister.reading b) bs (at + 1)))
    (drop ((got_of (read_byte f.lister.reading b) bs (at + 1)).at - (at + 1)) bs) (got_of (read_byte f.lister.reading b) bs (at + 1)).at
    → takes room f (b ∷ bs) at ≡ takes room (gotten f (got_of f.lister.reading (b ∷ bs) at)) (drop ((got_of f.lister.reading (b ∷ bs) at).at - at) (b ∷ bs)) (got_of f.lister.reading (b ∷ bs) at).at
unfolding takes got_of feed_byte line_ended ended
line_by room b bs f at true e h f2 ef g = let z : at + 1 - at ≡ 1 = omega arith in rw (le-leb (length f.said) room h, e, z)
line_by room b bs f at false e h f2 ef g =
    let k = got_behind (read_byte f.lister.reading b) bs (at + 1) in
    let z : (got_of (read_byte f.lister.reading b) bs (at + 1)).at - at ≡ suc ((got_of (read_byte f.lister.reading b) bs (at + 1)).at - (at + 1)) = omega arith in
    rw (le-leb (length f.said) room h, e, z) (rw ef at g)

takes_line : (room : ℕ) (bs : List ℕ) (f : Feed) (at : ℕ) → length f.said ≤ room
    → takes room f bs at ≡ takes room (gotten f (got_of f.lister.reading bs at)) (drop ((got_of f.lister.reading bs at).at - at) bs) (got_of f.lister.reading bs at).at
unfolding takes got_of cut_off stepped said_of
takes_line room [] f at h = let z : at - at ≡ 0 = omega arith in rw z
takes_line room (b ∷ bs) f at h =
    line_by room b bs f at (eqb b 10) refl h _ refl
    (takes_line room bs (record { lister = with_reading f.lister (read_byte f.lister.reading b); said = f.said }) (at + 1) h)

takes_got : (room : ℕ) (f : Feed) (s : List ℕ) (at : ℕ) (g : Got) → g ≡ got_of f.lister.reading (drop at s) at → length f.said ≤ room
    → takes room f (drop at s) at ≡ takes room (gotten f g) (drop g.at s) g.at
takes_got room f s at g e h =
    let k = got_behind f.lister.reading (drop at s) at in
    let z : at + ((got_of f.lister.reading (drop at s) at).at - at) ≡ (got_of f.lister.reading (drop at s) at).at = omega arith in
    rw e
    (takes_line room (drop at s) f at h
    ∙ ap (λ (x : List ℕ). takes room (gotten f (got_of f.lister.reading (drop at s) at)) x (got_of f.lister.reading (drop at s) at).at)
    (drop-drop ((got_of f.lister.reading (drop at s) at).at - at) at s ∙ ap (λ (n : ℕ). drop n s) z))

-- ---- a line that was taken
line_behind : (l : Lister) (s : List ℕ) (at : ℕ) (g : Got) → g ≡ got_of l.reading (drop at s) at → at ≤ g.at
line_behind l s at g e = rw e (got_behind l.reading (drop at s) at)

line_ahead : (l : Lister) (s : List ℕ) (at : ℕ) (g : Got) → g ≡ got_of l.reading (drop at s) at → at < length s → at < g.at
line_ahead l s at g e h = rw e (got_ahead l.reading (drop at s) at (rw (length-drop at s) (omega arith)))

whole_on : (room : ℕ) (l : Lister) (s o : List ℕ) (at : ℕ) (g : Got) (v : Event) → g ≡ got_of l.reading (drop at s) at → g.line ≡ Some v → length o ≤ room
    → takes room (record { lister = l; said = o }) (drop at s) at
    ≡ takes room (record { lister = stepped l v; said = o ++ said_of l v }) (drop g.at s) g.at
whole_on room l s o at g v e w h = let t = takes_got room (record { lister = l; said = o }) s at g e h in rw w at t

cut_on : (room : ℕ) (l : Lister) (s o : List ℕ) (at : ℕ) (g : Got) → g ≡ got_of l.reading (drop at s) at → g.line ≡ None → length o ≤ room
    → takes room (record { lister = l; said = o }) (drop at s) at ≡ takes room (record { lister = with_reading l g.reading; said = o }) (drop g.at s) g.at
cut_on room l s o at g e w h = let t = takes_got room (record { lister = l; said = o }) s at g e h in rw w at t

pub turned_act : (l : Lister) (s : List ℕ) (at n : ℕ) (out : List ℕ) (g : Got) (v : Event) (r : Part) (after : List ℕ) → g ≡ got_of l.reading (drop at s) at
    → g.line ≡ Some v → Acted l v g.at n out r after → Turned l s at n out r after
turned_act l s at n out g v r after e w a = record {
  said = said_of l v;
  behind = rw a.place (line_behind l s at g e);
  ahead = λ h. rw a.place (line_ahead l s at g e h);
  same = λ room o h. rw (a.lister, a.place) (whole_on room l s o at g v e w h);
  wrote = a.wrote;
}

pub wider : (at : ℕ) (p : List ℕ) (m k : ℕ) (out : List ℕ) (r : ℕ) (after : List ℕ) → length p ≤ k → Puts at p m out r after → Puts at p k out r after
wider at p m k out r after h u = record { place = u.place; small = h; memory = u.memory; kept = u.kept }

pub turned_cut : (l : Lister) (s : List ℕ) (at n : ℕ) (out : List ℕ) (g : Got) → g ≡ got_of l.reading (drop at s) at → g.line ≡ None
    → Turned l s at n out (record { lister = with_reading l g.reading; at = g.at; put = n }) out
turned_cut l s at n out g e w = record {
  said = [];
  behind = line_behind l s at g e;
  ahead = λ h. line_ahead l s at g e h;
  same = λ room o h. rw (append-nil o) (cut_on room l s o at g e w h);
  wrote = wider n [] 0 answer_most out n out (omega arith) (puts_nil n out);
}

-- ---- bytes that go on with the message held
-- their step, and that nothing is written for it
ran_step : (k : Link) (c : Counts) (rd : Reading) (e : Event) → runs_on k c e ≡ true → stepped (lister_of k c rd) e ≡ lister_of (ran_on k e) (counted_byte c true) fresh_reading
unfolding stepped counted_event counted_all listed
ran_step k c rd e h = rw (runs_on_lem k c e h)

ran_silent : (k : Link) (c : Counts) (rd : Reading) (e : Event) → runs_on k c e ≡ true → said_of (lister_of k c rd) e ≡ []
unfolding said_of answer_text reports_text listed
ran_silent k c rd e h = rw (runs_on_lem k c e h)

-- the line of such a byte is what its bytes give, and ends after its place
run_line : (rd : Reading) (s : List ℕ) (at : ℕ) (q : Row) → is_empty rd ≡ true → row_of s at ≡ Some q → row_got q ≡ got_of rd (drop at s) at
run_line rd s at q e f = sym (row_line s rd at e q f)

row_place : (q : Row) → (row_got q).at ≡ q.to
unfolding row_got
row_place q = refl

fresh_empty : is_empty fresh_reading ≡ true
unfolding is_empty is_letter
fresh_empty = refl

-- it lies in the part
row_within_by : (s : List ℕ) (at : ℕ) (q : Row) (b : Bool) → leb (at + 36) (length s) ≡ b → row_of s at ≡ Some q → at < length s
unfolding row_of
row_within_by s at q true e f = omega (arith, leb-true (at + 36) (length s) e)
row_within_by s at q false e f = absurd (none-some q (rw e at f))

pub row_within : (s : List ℕ) (at : ℕ) (q : Row) → row_of s at ≡ Some q → at < length s
row_within s at q f = row_within_by s at q (leb (at + 36) (length s)) refl f

pub run_ahead : (s : List ℕ) (at : ℕ) (q : Row) → row_of s at ≡ Some q → at < q.to
run_ahead s at q f =
    let h = row_within s at q f in
    let k : at < (row_got q).at = rw (run_line fresh_reading s at q fresh_empty f) (got_ahead fresh_reading (drop at s) at (rw (length-drop at s) (omega arith))) in
    rw (row_place q) at k

run_takes : (room : ℕ) (k : Link) (c : Counts) (rd : Reading) (s o : List ℕ) (at : ℕ) (q : Row) → is_empty rd ≡ true → row_of s at ≡ Some q
    → runs_on k c q.event ≡ true → length o ≤ room
    → takes room (record { lister = lister_of k c rd; said = o }) (drop at s) at
    ≡ takes room (record { lister = lister_of (ran_on k q.event) (counted_byte c true) fresh_reading; said = o }) (drop q.to s) q.to
unfolding row_got
run_takes room k c rd s o at q e f r h =
    let w = whole_on room (lister_of k c rd) s o at (row_got q) q.event (run_line rd s at q e f) refl h in
    rw (ran_step k c rd q.event r, ran_silent k c rd q.event r, append-nil o) at w

-- the reading after none is the one in front, and after some a fresh one
after_none : (rd : Reading) (from : ℕ) → reading_after rd from from ≡ rd
unfolding reading_after
after_none rd from = rw (eq-eqb from from refl)

after_some : (rd : Reading) (from at : ℕ) → from < at → reading_after rd from at ≡ fresh_reading
unfolding reading_after
after_some rd from at h = rw (ne_eqb from at (λ e. omega arith))

after_empty : (rd : Reading) (from at : ℕ) → is_empty rd ≡ true → is_empty (reading_after rd from at) ≡ true
unfolding reading_after
after_empty rd from at e = by_test (λ (x : Reading). is_empty x ≡ true) (eqb from at) (λ t. e) (λ t. fresh_empty)

-- the lines so far
pub record Gliding (k : Link) (c : Counts) (s : List ℕ) (from : ℕ) (x : Link) (y : Counts) (at : ℕ) : Type 0 where
  pub ahead : from ≤ at
  pub same : (rd : Reading) → is_empty rd ≡ true → (room : ℕ) (o : List ℕ) → length o ≤ room
      → takes room (record { lister = lister_of k c rd; said = o }) (drop from s) from
      ≡ takes room (record { lister = lister_of x y (reading_after rd from at); said = o }) (drop at s) at

pub gliding_start : (k : Link) (c : Counts) (s : List ℕ) (from : ℕ) → Gliding k c s from k c from
gliding_start k c s from = record { ahead = omega arith; same = λ rd e room o h. rw (after_none rd from) refl }

pub gliding_on : (k : Link) (c : Counts) (s : List ℕ) (from : ℕ) (x : Link) (y : Counts) (at : ℕ) (q : Row) → row_of s at ≡ Some q → runs_on x y q.event ≡ true
    → Gliding k c s from x y at → Gliding k c s from (ran_on x q.event) (counted_byte y true) q.to
gliding_on k c s from x y at q f r g =
    let p = run_ahead s at q f in
    record {
      ahead = omega (arith, g.ahead);
      same = λ rd e room o n. rw (after_some rd from q.to (omega (arith, g.ahead)))
          (g.same rd e room o n ∙ run_takes room x y (reading_after rd from at) s o at q (after_empty rd from at e) f r n);
    }

pub stretched_glide : (l : Lister) (s : List ℕ) (from : ℕ) (r : Stretch) → is_empty l.reading ≡ true → Glided l.link l.counts s from r → Stretched l s from r
stretched_glide l s from r e g = record {
  ahead = g.ahead;
  same = g.same l.reading e;
  row = record { row = g.row; empty = if_some r.row (after_empty l.reading from r.at e) };
}
  where
    if_some : (found : Option Row) {P : Type 0} → P → IfSome found (λ q. P)
    if_some (Some q) p = p
    if_some None p = tt

pub stretched_none : (l : Lister) (s : List ℕ) (from : ℕ) → Stretched l s from (record { link = l.link; counts = l.counts; at = from; row = None })
stretched_none l s from = record {
  ahead = omega arith;
  same = λ room o h. rw (after_none l.reading from) refl;
  row = record { row = tt; empty = tt };
}

pub picked : (r : Reading) (q : Row) (s : List ℕ) (at : ℕ) → RowAt r (Some q) s at → row_got q ≡ got_of r (drop at s) at
picked r q s at p = run_line r s at q p.empty p.row

pub turned_join : (l : Lister) (s : List ℕ) (at n : ℕ) (out : List ℕ) (y : Stretch) (rd : Reading) (r : Part) (after : List ℕ) → Stretched l s at y
    → rd ≡ reading_after l.reading at y.at → Turned (lister_of y.link y.counts rd) s y.at n out r after → Turned l s at n out r after
turned_join l s at n out y rd r after g e t = record {
  said = t.said;
  behind = omega (arith, g.ahead, t.behind);
  ahead = λ h. ahead_both at y.at r.at (length s) (ltb y.at (length s)) refl h g.ahead t.behind t.ahead;
  same = λ room o h. g.same room o h ∙ rw e at (t.same room o h);
  wrote = t.wrote;
}
  where
    ahead_both : (a b c len : ℕ) (p : Bool) → ltb b len ≡ p → a < len → a ≤ b → b ≤ c → (b < len → b < c) → a < c
    ahead_both a b c len true e h k m f = omega (arith, f (ltb-true b len e))
    ahead_both a b c len false e h k m f = omega (arith, ltb-false b len e)

pub row_of_pick : (r : Reading) (l : Lister) (s : List ℕ) (from : ℕ) (y : Stretch) → r ≡ reading_after l.reading from y.at → Stretched l s from y → RowAt r y.row s y.at
row_of_pick r l s from y e g = rw e g.row

-- ---- the turns of a part
pub record Going (l : Lister) (s out₀ : List ℕ) (room : ℕ) (x : Lister) (at n : ℕ) (out : List ℕ) : Type 0 where
  pub w : List ℕ
  pub same : takes room (record { lister = l; said = [] }) s 0 ≡ takes room (record { lister = x; said = w }) (drop at s) at
  pub wrote : Puts 0 w (length out₀) out₀ n out

pub going_start : (l : Lister) (s out : List ℕ) (room : ℕ) → Going l s out room l 0 0 out
going_start l s out room = record { w = []; same = refl; wrote = wider 0 [] 0 (length out) out 0 out (omega arith) (puts_nil 0 out) }

pub going_on : (l : Lister) (s out₀ : List ℕ) (room : ℕ) (x : Lister) (at n : ℕ) (out : List ℕ) (r : Part) (after : List ℕ)
    → room + answer_most ≤ length out₀ → n ≤ room
    → Going l s out₀ room x at n out → Turned x s at n out r after → Going l s out₀ room r.lister r.at r.put after
going_on l s out₀ room x at n out r after h k g t =
    let u = g.wrote in
    let v = t.wrote in
    let pl = u.place in
    record {
      w = g.w ++ t.said;
      same = g.same ∙ t.same room g.w (omega arith);
      wrote = wider 0 (g.w ++ t.said) (length g.w + answer_most) (length out₀) out₀ r.put after
          (rw (length-append g.w t.said) (omega (arith, v.small)))
          (puts_join 0 g.w t.said (length g.w) answer_most out₀ n out r.put after (omega arith)
          (wider 0 g.w (length out₀) (length g.w) out₀ n out (omega arith) u) v);
    }

done_by : (room : ℕ) (f : Feed) (s : List ℕ) (at : ℕ) (p : Bool) → ltb at (length s) ≡ p → (p && leb (length f.said) room) ≡ false
    → takes room f (drop at s) at ≡ record { feed = f; at = at }
unfolding takes
done_by room f s at false e h = rw (drop_of_length-le s {i = at} (ltb-false at (length s) e))
done_by room f s at true e h = rw (drop-cons s at 0 (ltb-true at (length s) e), h)

takes_done : (room : ℕ) (f : Feed) (s : List ℕ) (at : ℕ) → (ltb at (length s) && leb (length f.said) room) ≡ false → takes room f (drop at s) at ≡ record { feed = f; at = at }
takes_done room f s at h = done_by room f s at (ltb at (length s)) refl h

parted_as : (l : Lister) (s out : List ℕ) (x : Lister) (w : List ℕ) (at n : ℕ) (after : List ℕ) → part_of l s (length out) ≡ record { feed = record { lister = x; said = w }; at = at }
    → n ≡ length w → after ≡ put 0 w out → Parted l s out (record { lister = x; at = at; put = n }) after
parted_as l s out x w at n after e f m = record { lister = rw e refl; read = rw e refl; written = rw e f; memory = rw e m }

pub going_end : (l : Lister) (s out₀ : List ℕ) (room : ℕ) (x : Lister) (at n : ℕ) (out : List ℕ) → answer_most ≤ length out₀ → room ≡ length out₀ - answer_most
    → (ltb at (length s) && leb n room) ≡ false → Going l s out₀ room x at n out → Parted l s out₀ (record { lister = x; at = at; put = n }) out
unfolding part_of
going_end l s out₀ room x at n out h er t g =
    let u = g.wrote in
    let pl : n ≡ length g.w = u.place ∙ zero-add _ in
    parted_as l s out₀ x g.w at n out
    (rw (le-ltb (length out₀) answer_most h, ← er) (g.same ∙ takes_done room (record { lister = x; said = g.w }) s at (rw pl at t)))
    pl u.memory

pub part_none : (l : Lister) (s out : List ℕ) → length out < answer_most → Parted l s out (record { lister = l; at = 0; put = 0 }) out
unfolding part_of
part_none l s out h = parted_as l s out l [] 0 0 out (rw (lt-ltb (length out) answer_most h)) refl (sym (put_nil 0 out))

pub tests : (at len n room : ℕ) → (ltb at len && leb n room) ≡ true → (at < len) × (n ≤ room)
tests at len n room t = let p = and_split (ltb at len) (leb n room) t in (ltb-true at len p.0, leb-true n room p.1)

-- ---- an event's step, and its answer written: its reports, ..
pub acted_taken : (l : Lister) (e : Event) (at n : ℕ) (out : List ℕ) (t : Stepped) (rd : Reading) (m : ℕ) (after : List ℕ)
    → stepped_as l.link l.counts (Ok t) ≡ step_of l.link l.counts e → rd ≡ fresh_reading → n + answer_most ≤ length out
    → Writes (reports_text (listed t.answer.reports)) answer_most n out m after
    → Acted l e at n out (record { lister = record { link = t.answer.link; counts = t.counts; reading = rd }; at = at; put = m }) after
unfolding stepped said_of answer_text
acted_taken l e at n out t rd m after es er h w = record {
  lister = rw (← es, er) refl;
  place = refl;
  wrote = rw (← es) (writes_puts (reports_text (listed t.answer.reports)) answer_most n out m after h (reports_small t.answer.reports) w);
}

-- .. or its refusal
pub acted_answered : (l : Lister) (e : Event) (at n : ℕ) (out : List ℕ) (a : Answer) (d : Counts) (rd : Reading) (m : ℕ) (after : List ℕ)
    → answered_as l.link (Ok a) ≡ answer_of l.link l.counts e → d ≡ counts_after l.counts (counted_as {R = Refusal} fresh_link (Ok a)) e → rd ≡ fresh_reading
    → n + answer_most ≤ length out → Writes (reports_text (listed a.reports)) answer_most n out m after
    → Acted l e at n out (record { lister = record { link = a.link; counts = d; reading = rd }; at = at; put = m }) after
acted_answered l e at n out a d rd m after p q er h w =
    acted_taken l e at n out (record { answer = a; counts = d }) rd m after (step_taken l.link l.counts e a d p q) er h w

pub acted_refused : (l : Lister) (e : Event) (at n : ℕ) (out : List ℕ) (why : Refusal) (rd : Reading) (m : ℕ) (after : List ℕ)
    → stepped_as l.link l.counts (Err why) ≡ step_of l.link l.counts e → rd ≡ fresh_reading → n + answer_most ≤ length out
    → Writes (refused_text (number_of why)) refused_most n out m after
    → Acted l e at n out (record { lister = record { link = l.link; counts = l.counts; reading = rd }; at = at; put = m }) after
unfolding stepped said_of answer_text
acted_refused l e at n out why rd m after es er h w =
    let k = refused_small (number_of why) in
    record {
      lister = rw (← es, er) refl;
      place = refl;
      wrote = rw (← es, ne_eqb (number_of why) taken (not_taken why))
          (wider n (refused_text (number_of why)) refused_most answer_most out m after (omega arith)
          (writes_puts (refused_text (number_of why)) refused_most n out m after (omega arith) k w));
    }

-- ---- the end
pub ended_none : (l : Lister) (out : List ℕ) → is_empty l.reading ≡ true → Ended l out (record { lister = l; at = 0; put = 0 }) out
unfolding finished
ended_none l out e = record { lister = rw e refl; wrote = rw e (wider 0 [] 0 answer_most out 0 out (omega arith) (puts_nil 0 out)) }

-- as if the line feed came
feed_taken : (l : Lister) (room : ℕ) → takes room (record { lister = l; said = [] }) (10 ∷ []) 0 ≡ record { feed = line_ended (record { lister = l; said = [] }); at = 1 }
unfolding takes feed_byte
feed_taken l room = rw (le-leb 0 room (omega arith))

part_fed_once : (l : Lister) (n : ℕ) → answer_most ≤ n → part_of l (10 ∷ []) n ≡ record { feed = line_ended (record { lister = l; said = [] }); at = 1 }
unfolding part_of
part_fed_once l n h = rw (le-ltb n answer_most h) (feed_taken l (n - answer_most))

pub ended_line : (l : Lister) (out : List ℕ) (r : Part) (after : List ℕ) → answer_most ≤ length out → is_empty l.reading ≡ false
    → Parted l (10 ∷ []) out r after → Ended l out r after
unfolding finished
ended_line l out r after h f p =
    let e = part_fed_once l (length out) h in
    let small = rw f at (finished_small l) in
    record {
      lister = rw f (rw e at p.lister);
      wrote = rw f (record { place = rw e at p.written ∙ sym (zero-add _); small = small; memory = rw e at p.memory; kept = part_kept l (10 ∷ []) out r after p });
    }

pub end_written : (l : Lister) (out : List ℕ) (p : Part) (o1 : List ℕ) (held r : ℕ) (after : List ℕ) → ending_most ≤ length out → Ended l out p o1
    → held ≡ held_of p.lister.link
    → Writes (end_text p.lister.counts held) end_most p.put o1 r after → Writes (ending_of l) ending_most 0 out r after
unfolding ending_of
end_written l out p o1 held r after h d eh w =
    let u = d.wrote in
    let f = finished (record { lister = l; said = [] }) in
    let pl : p.put ≡ length f.said = u.place ∙ zero-add _ in
    let w2 : Writes (end_text f.lister.counts (held_of f.lister.link)) end_most p.put o1 r after = rw (eh, d.lister) at w in
    let v = writes_puts (end_text f.lister.counts (held_of f.lister.link)) end_most p.put o1 r after (omega (arith, u.small, u.kept))
    (end_small f.lister.counts (held_of f.lister.link)) w2 in
    puts_writes _ ending_most 0 out r after (omega arith) (puts_join 0 f.said _ answer_most end_most out p.put o1 r after (omega arith) u v)
