-- DEMAND 3: "From a fresh link with zero counts that only the link changes, over any events, refused ones passed over: the bytes the reports name, in order,
-- followed by those held, are the bytes heard, each once; every count equals the one worked out from that history." A link that reports each byte as outside
-- would meet it ("though demand 3 would pass it": proofs/WrongLinks/OutsidePasses.antt); demand 2 shuts it out.
-- Assumes nothing.
use Rattle.std.specs.Prelude.{◌+◌, ◌≡◌, length}
use Rattle.base.specs.Numbers.{taken}
use Rattle.events.specs.declared.Event.{Event}
use Rattle.reports.specs.declared.Counts.{Counts}
use Rattle.demands.specs.Logs.{Log, none, ◌▷◌, heard_of, heard_in}
use Rattle.demands.specs.Histories.{Machine, after, answer_with}
use Rattle.demands.specs.Accounts.{counts_of, added, held_in, Accounted}

-- DEMAND 3, of any link
pub record DemandThree (m : Machine) : Type 0 where
  -- EVERY BYTE IS ACCOUNTED FOR, after any events. The bytes that the reports name, in order, and then those held, are the bytes heard, each once.
  -- None is named before it is heard, and each report's index is the number of bytes named before it. All seven counts are those worked out from the
  -- reports. The bytes that the link says it holds are those heard and not named. An event makes at most four reports. (`Accounted`, in Accounts.antt, has
  -- a field for each of these.)
  pub accounted : (es : Log) → Accounted m es
  -- THE COUNTS ARE BROUGHT UP TO DATE WHERE THEY ARE LENT, whatever they were: after any events, one that is taken adds to each count what its byte, if it is
  -- one, and its reports bring. ("a record the host lends, brought up to date there")
  pub lent_counts : (es : Log) (c : Counts) (e : Event) → (answer_with m es c e).no ≡ taken
      → (answer_with m es c e).counts ≡ added c (counts_of (heard_of (none ▷ e)) (answer_with m es c e).reports)
  -- NO BYTE IS MISSING FROM THE COUNTS: the bytes heard are those in reports 1, in reports 2, in reports 3 with 4, in reports 5, and those held.
  pub all_counted : (es : Log) → length (heard_in es)
      ≡ (after m es).counts.framed + (after m es).counts.damaged + (after m es).counts.started + (after m es).counts.outside
      + held_in m es
