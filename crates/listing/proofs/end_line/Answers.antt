-- The last line, if its line feed is missing. Assumes nothing.
use Rattle.std.proofs.Common.{rules, ◌∙◌, sym}
use Rattle.listing.proofs.Laws.{ended_none, ended_line}
use Rattle.listing.proofs.end_line.Goals as goal

pub returns-then-is_empty : goal.returns-then-is_empty
returns-then-is_empty c = ended_none _ _ (sym c.is_empty.ensures ∙ c.if-is_empty.true)

pub returns-else-is_empty : goal.returns-else-is_empty
returns-else-is_empty c = ended_line _ _ _ _ (search rules) (sym c.is_empty.ensures ∙ c.if-is_empty.false) c.list_part.ensures
