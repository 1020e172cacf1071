-- Lines that write nothing, from a lister on. Assumes nothing.
use Rattle.std.proofs.Common.{◌∙◌, sym}
use Rattle.listing.proofs.Laws.{stretched_glide, stretched_none}
use Rattle.listing.proofs.stretch_from.Goals as goal

pub returns-then-is_empty : goal.returns-then-is_empty
returns-then-is_empty c = stretched_glide _ _ _ _ (sym c.is_empty.ensures ∙ c.if-is_empty.true) c.glide.ensures

pub returns-else-is_empty : goal.returns-else-is_empty
returns-else-is_empty c = stretched_none _ _ _
