-- THE LISTING (document 01, "The listing"): from the bytes of an input to the bytes of the output. Assumes nothing.
use Rattle.std.specs.Prelude.{ℕ, ◌-◌, List, [], ◌∷◌, ◌++◌, eqb, if◌then◌else◌}
use Rattle.base.specs.Numbers.{taken}
use Rattle.events.specs.declared.Event.{Event}
use Rattle.reports.specs.Reporting.{listed}
use Rattle.reports.specs.Counting.{zero_counts}
use Rattle.link.specs.Handling.{fresh_link}
use Rattle.link.specs.Stepping.{step_of}
use Rattle.link.specs.declared.Link.{Link}
use Rattle.link.specs.Answers.{Answer}
use Rattle.lines.specs.Lines.{fresh_reading, read_byte, is_empty, event_of}
use Rattle.lines.specs.Getting.{line_feed}
use Rattle.lines.specs.declared.Reading.{Reading}
use Rattle.text.specs.Text.{head_text, reports_text, refused_text, end_text}
use Rattle.listing.specs.declared.Lister.{Lister}

-- at the beginning: a fresh link, counts at 0, nothing of a line
abbrev pub fresh_lister : Lister
fresh_lister = record { link = fresh_link; counts = zero_counts; reading = fresh_reading }

-- ---- a line
-- what is written for an answer: "a line per report", "`refused N` for a refused line"
unfoldable pub answer_text : Answer → List ℕ
answer_text a = if eqb a.no taken then reports_text (listed a.reports) else refused_text a.no

-- the line's event makes a step of the link: the lister after it, and what is written
unfoldable pub stepped : Lister → Event → Lister
stepped l e = record {
  link = (step_of l.link l.counts e).answer.link;
  counts = (step_of l.link l.counts e).counts;
  reading = fresh_reading;
}

unfoldable pub said_of : Lister → Event → List ℕ
said_of l e = answer_text (step_of l.link l.counts e).answer

-- ---- byte by byte
-- a lister, and what was written so far
pub record Feed : Type 0 where
  pub lister : Lister
  pub said : List ℕ

-- the line ends
unfoldable pub line_ended : Feed → Feed
line_ended f = record {
  lister = stepped f.lister (event_of f.lister.reading);
  said = f.said ++ said_of f.lister (event_of f.lister.reading);
}

abbrev pub with_reading : Lister → Reading → Lister
with_reading l r = record { link = l.link; counts = l.counts; reading = r }

-- a line feed ends the line, any other byte is one of the line's
unfoldable pub feed_byte : Feed → ℕ → Feed
feed_byte f b =
    if eqb b line_feed then line_ended f else
    record { lister = with_reading f.lister (read_byte f.lister.reading b); said = f.said }

unfoldable pub feed : Feed → List ℕ → Feed
feed f [] = f
feed f (b ∷ bs) = feed (feed_byte f b) bs

-- ---- the end
-- "the last line feed may be missing"
unfoldable pub finished : Feed → Feed
finished f = if is_empty f.lister.reading then f else line_ended f

-- "the bytes held": "those of the open message, damage or initialization that no report has named yet". A link's bytes heard less those named.
unfoldable pub held_of : Link → ℕ
held_of l = l.heard - l.named

-- what is written at the end of the input: a last line, and "an end line of the seven counts and the bytes held"
unfoldable pub ending_of : Lister → List ℕ
ending_of l =
    let f = finished (record { lister = l; said = [] }) in
    f.said ++ end_text f.lister.counts (held_of f.lister.link)

-- ---- THE WHOLE LISTING OF AN INPUT
abbrev pub begun : Feed
begun = record { lister = fresh_lister; said = head_text }

unfoldable pub listing_of : List ℕ → List ℕ
listing_of input = (feed begun input).said ++ ending_of (feed begun input).lister
