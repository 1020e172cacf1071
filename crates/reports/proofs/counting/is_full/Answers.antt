-- `reports::counting::is_full` meets its contract: the short way by its law. Assumes nothing.
use Rattle.std.proofs.Common.{sym, ◌∙◌}
use borrow.Author.Tests.{lt-leb}
use Rattle.reports.proofs.Full.{not_full}
use Rattle.reports.proofs.counting.is_full.Goals as goal

pub returns-else-all-ge-MOST : goal.returns-else-all-ge-MOST
returns-else-all-ge-MOST c =
    lt-leb _ _ c.if-all-ge-MOST.false ∙ sym (not_full c.args.events c.args.c c.if-all-ge-MOST.false)
