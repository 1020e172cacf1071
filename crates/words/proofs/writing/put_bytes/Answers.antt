-- `words::writing::put_bytes`: of no bytes `put_text` has put the dash there; otherwise, where there is room `write_bytes` has written them, and where
-- there is not nothing is written. Assumes nothing.
use Rattle.std.proofs.Common.{sym}
use borrow.Author.Tests.{leb-true}
use Rattle.words.proofs.Pairs.{some_bytes, no_bytes}
use Rattle.words.proofs.Written.{puts_writes, no_room}
use Rattle.words.proofs.writing.put_bytes.Goals as goal

pub returns-then-is_empty : goal.returns-then-is_empty
returns-then-is_empty c = no_bytes _ _ _ _ _ _ (sym c.if-is_empty.ensures) c.put_text.ensures

pub returns-then-has_room : goal.returns-then-has_room
returns-then-has_room c =
    some_bytes _ _ _ _ _ _ (sym c.if-is_empty.ensures) (puts_writes _ _ _ _ _ _ (leb-true _ _ (sym c.if-has_room.ensures)) c.write_bytes.ensures)

pub returns-else-has_room : goal.returns-else-has_room
returns-else-has_room c = some_bytes _ _ _ _ _ _ (sym c.if-is_empty.ensures) (no_room _ _ _ _ (sym c.if-has_room.ensures))
