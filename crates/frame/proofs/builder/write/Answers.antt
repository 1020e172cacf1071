-- What `write` leaves: the head, the data and the checksum stand one after another (`frame_written`). Assumes nothing.
use Rattle.std.proofs.Common.{refl, ◌∙◌, arith, rules, Some}
use Rattle.frame.proofs.Lists.{copied}
use Rattle.frame.proofs.Writing.{frame_written}
use Rattle.frame.proofs.builder.write.Goals as goal

pub returns : goal.returns
returns c =
    let a = c.args in
    let size = c.put_head-h.ensures.0 in (
      omega (arith, size),
      c.put_byte.ensures
          ∙ frame_written a.form (Some a.place) a.p.target a.p.source a.bytes.now a.out.now _ _ _ _ _ size c.put_head-h.ensures.1
          (copied a.bytes.now _ _ _ c.copy_from_slice.ensures.after) refl c.checksum.ensures (search rules),
    )
