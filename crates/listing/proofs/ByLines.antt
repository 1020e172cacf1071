-- THE LISTING BY LINES: it is defined byte by byte, and it is what its input's lines give one after another, each by the event that `line_of` reads.
-- Assumes nothing.
use Prim.Native.Nat.{ℕ, suc, ◌<◌}
use mathlib.Core.Path.{◌≡◌, refl, sym, ◌∙◌, ap}
use mathlib.Core.Bool.{Bool, true, false, ◌&&◌}
use mathlib.Core.List.{List, [], ◌∷◌, ◌++◌, append_assoc}
use lib.Dec.{eqb, ltb}
use lib.ListN.{length, get_or}
use borrow.Author.Tests.{ne_eqb}
use native.Mathlib.Omega.{arith}
use Rattle.std.specs.Prelude.{if◌then◌else◌}
use Rattle.base.proofs.Tests.{by_test}
use Rattle.events.specs.Events.{kind_by, side_by}
use Rattle.events.specs.declared.Kind.{Kind}
use Rattle.events.specs.declared.Kind.TheVariants.{Address, WakeUp, Byte, Tick, Drop, Other}
use Rattle.events.specs.declared.Side.{Side}
use Rattle.events.specs.declared.Side.TheVariants.{Tester, Unit, Nobody}
use Rattle.events.specs.declared.Event.{Event}
use Rattle.reports.specs.Counting.{is_full}
use Rattle.link.specs.Stepping.{number_of, refused_by, answer_of, counts_after, step_of}
use Rattle.words.specs.Digits.{hex_of}
use Rattle.lines.specs.Lines.{space, fresh_reading, lettered, spaced, sided, high_read, low_read, takes_digit, time_read, start_read, end_read}
use Rattle.lines.specs.Lines.{read_at, read_byte, is_letter, is_empty, no_event, event_of, read_all, line_of}
use Rattle.lines.specs.Getting.{line_feed}
use Rattle.lines.specs.declared.Place.{Place}
use Rattle.lines.specs.declared.Place.TheVariants.{Letter, BeforeSide, AtSide, BeforeHex, High, Low, BeforeTime, Time, BeforeStart, Start, End, Nowhere}
use Rattle.lines.specs.declared.Reading.{Reading}
use Rattle.lines.proofs.Forms.{Form, no_other_form, unread_refused}
use Rattle.text.specs.Text.{head_text, refused_text, end_text}
use Rattle.listing.specs.Listing.{fresh_lister, answer_text, stepped, said_of, Feed, line_ended, with_reading, feed_byte, feed, finished, held_of}
use Rattle.listing.specs.Listing.{ending_of, listing_of}
use Rattle.listing.specs.InputLines.{on_first, lines_of}
use Rattle.listing.specs.declared.Lister.{Lister}
use Rattle.listing.proofs.Cuts.{feed_said}

-- ---- ONE LINE
-- no byte of it is a line feed
pub record Plain (l : List ℕ) : Type 0 where
  pub each : (i : ℕ) → i < length l → get_or l i 0 ≡ line_feed → ⊥

plain_first : (b : ℕ) (l : List ℕ) → Plain (b ∷ l) → eqb b line_feed ≡ false
plain_first b l p = ne_eqb b line_feed (p.each 0 (omega arith))

plain_rest : (b : ℕ) (l : List ℕ) → Plain (b ∷ l) → Plain l
plain_rest b l p = record { each = λ i h. p.each (suc i) (omega arith) }

-- ---- A LINE THAT CAN'T BE READ
-- it is answered with `refused 1` ..
pub unread_said : (x : Lister) → said_of x no_event ≡ refused_text 1
unfolding said_of answer_text step_of answer_of number_of refused_by
unread_said x = rw (unread_refused x.link.clock (is_full x.link.taken x.counts))

-- .. and link and counts stay as they were
pub unread_still : (x : Lister) → stepped x no_event ≡ with_reading x fresh_reading
unfolding stepped step_of answer_of counts_after number_of refused_by
unread_still x = rw (unread_refused x.link.clock (is_full x.link.taken x.counts))

-- So it is for each line of none of the five forms.
pub unread_line : (x : Lister) (l : List ℕ) → (Form l → ⊥) → (said_of x (line_of l) ≡ refused_text 1) × (stepped x (line_of l) ≡ with_reading x fresh_reading)
unread_line x l f = rw (no_other_form l f) (unread_said x, unread_still x)

-- ---- THE WHOLE INPUT
-- The lines of an input in other words: a line that a line feed ends is the first, and the lines of what stands after follow ..
pub lines_line : (l bs : List ℕ) → Plain l → lines_of (l ++ (line_feed ∷ bs)) ≡ l ∷ lines_of bs
unfolding lines_of
lines_line [] bs p = refl
lines_line (b ∷ l) bs p = rw (plain_first b l p, lines_line l bs (plain_rest b l p))

-- .. and what no line feed ends is one line
pub lines_last : (b : ℕ) (l : List ℕ) → Plain (b ∷ l) → lines_of (b ∷ l) ≡ (b ∷ l) ∷ []
unfolding lines_of
lines_last b [] p = rw (plain_first b [] p)
lines_last b (c ∷ l) p = rw (plain_first b (c ∷ l) p, lines_last c l (plain_rest b (c ∷ l) p))

-- Lines one after another, each by a step that its event makes: the lister after them, and what is written for them.
unfoldable pub listed_by : Lister → List (List ℕ) → Feed
listed_by x [] = record { lister = x; said = [] }
listed_by x (l ∷ ls) =
    let f = listed_by (stepped x (line_of l)) ls in
    record { lister = f.lister; said = said_of x (line_of l) ++ f.said }

-- ---- once a byte of a line was read, something of the line was read
abbrev NotFirst : Reading → Type 0
NotFirst r = is_letter r.place ≡ false

letter_not : (k : Kind) → NotFirst (lettered k)
unfolding lettered is_letter
letter_not Address = refl
letter_not WakeUp = refl
letter_not Byte = refl
letter_not Tick = refl
letter_not Drop = refl
letter_not Other = refl

side_not : (r : Reading) (s : Side) → NotFirst (sided r s)
unfolding sided is_letter
side_not r Tester = refl
side_not r Unit = refl
side_not r Nobody = refl

at_not : (p : Place) (r : Reading) (b : ℕ) → NotFirst (read_at p r b)
unfolding is_letter spaced high_read low_read time_read start_read end_read
at_not Letter r b = letter_not (kind_by b)
at_not BeforeSide r b = by_test NotFirst (eqb b space) (λ t. refl) (λ t. refl)
at_not AtSide r b = side_not r (side_by b)
at_not BeforeHex r b = by_test NotFirst (eqb b space) (λ t. refl) (λ t. refl)
at_not High r b = by_test NotFirst (ltb 15 (hex_of b)) (λ t. refl) (λ t. refl)
at_not Low r b = by_test NotFirst (ltb 15 (hex_of b)) (λ t. refl) (λ t. refl)
at_not BeforeTime r b = by_test NotFirst (eqb b space) (λ t. refl) (λ t. refl)
at_not Time r b = by_test NotFirst (takes_digit r b) (λ t. refl) (λ t. refl)
at_not BeforeStart r b = by_test NotFirst (eqb b space) (λ t. refl) (λ t. refl)
at_not Start r b = by_test NotFirst (takes_digit r b) (λ t. refl) (λ t. by_test NotFirst (eqb b space && ltb 0 r.digits) (λ u. refl) (λ u. refl))
at_not End r b = by_test NotFirst (takes_digit r b) (λ t. refl) (λ t. refl)
at_not Nowhere r b = refl

read_some : (r : Reading) (b : ℕ) → is_empty (read_byte r b) ≡ false
unfolding is_empty read_byte
read_some r b = at_not r.place r b

-- ---- what is written from a lister on, whatever it has read of a line
-- for whole lines and the end
abbrev closed : Lister → List (List ℕ) → List ℕ
closed x ls = (listed_by x ls).said ++ end_text (listed_by x ls).lister.counts (held_of (listed_by x ls).lister.link)

-- for lines and the end, where the first line goes on with what was read
abbrev gone_on : Lister → List (List ℕ) → List ℕ
gone_on x [] = ending_of x
gone_on x (l ∷ ls) = said_of x (event_of (read_all x.reading l)) ++ closed (stepped x (event_of (read_all x.reading l))) ls

-- nothing was read of the first line
gone_fresh : (x : Lister) (ls : List (List ℕ)) → x.reading ≡ fresh_reading → gone_on x ls ≡ closed x ls
unfolding ending_of finished is_empty is_letter listed_by line_of
gone_fresh x [] e = rw e refl
gone_fresh x (l ∷ ls) e =
    let f = listed_by (stepped x (line_of l)) ls in
    ap (λ (r : Reading). said_of x (event_of (read_all r l)) ++ closed (stepped x (event_of (read_all r l))) ls) e
    ∙ sym (append_assoc (said_of x (line_of l)) f.said (end_text f.lister.counts (held_of f.lister.link)))

-- one byte more was read of it
gone_byte : (x : Lister) (b : ℕ) (ls : List (List ℕ)) → gone_on (with_reading x (read_byte x.reading b)) ls ≡ gone_on x (on_first b ls)
unfolding ending_of finished line_ended stepped said_of listed_by read_all
gone_byte x b [] = rw (read_some x.reading b) refl
gone_byte x b (l ∷ ls) = refl

-- ---- byte by byte
abbrev fed_on : Feed → List ℕ → List ℕ
fed_on f bs = (feed f bs).said ++ ending_of (feed f bs).lister

fed_said : (bs : List ℕ) (x : Lister) (o : List ℕ) → fed_on (record { lister = x; said = o }) bs ≡ o ++ fed_on (record { lister = x; said = [] }) bs
fed_said bs x o = rw (feed_said bs x o) (append_assoc o _ _)

stepped_fresh : (x : Lister) (e : Event) → (stepped x e).reading ≡ fresh_reading
unfolding stepped
stepped_fresh x e = refl

-- whether the byte is a line feed
fed_by : (b : ℕ) (bs : List ℕ) (x : Lister) (t : Bool) → ((y : Lister) → fed_on (record { lister = y; said = [] }) bs ≡ gone_on y (lines_of bs))
    → fed_on (if t then line_ended (record { lister = x; said = [] }) else record { lister = with_reading x (read_byte x.reading b); said = [] }) bs
    ≡ gone_on x (if t then [] ∷ lines_of bs else on_first b (lines_of bs))
unfolding line_ended read_all
fed_by b bs x true h =
    let e = event_of x.reading in
    fed_said bs (stepped x e) (said_of x e)
    ∙ ap (λ (w : List ℕ). said_of x e ++ w) (h (stepped x e) ∙ gone_fresh (stepped x e) (lines_of bs) (stepped_fresh x e))
fed_by b bs x false h = h (with_reading x (read_byte x.reading b)) ∙ gone_byte x b (lines_of bs)

fed_lines : (bs : List ℕ) (x : Lister) → fed_on (record { lister = x; said = [] }) bs ≡ gone_on x (lines_of bs)
unfolding feed feed_byte lines_of
fed_lines [] x = refl
fed_lines (b ∷ bs) x = fed_by b bs x (eqb b line_feed) (fed_lines bs)

-- THE THEOREM. The listing of any input is the header, what is written for its lines, in order, and the end line of the counts and the bytes held
-- after them.
pub listing_by_lines : (input : List ℕ)
    → let f = listed_by fresh_lister (lines_of input) in
    listing_of input ≡ head_text ++ (f.said ++ end_text f.lister.counts (held_of f.lister.link))
unfolding listing_of
listing_by_lines input =
    fed_said input fresh_lister head_text
    ∙ ap (λ (w : List ℕ). head_text ++ w) (fed_lines input fresh_lister ∙ gone_fresh fresh_lister (lines_of input) refl)
