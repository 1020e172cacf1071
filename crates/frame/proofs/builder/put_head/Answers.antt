-- What `put_head` leaves: the parts of the head stand one after another (`head_written`). Assumes nothing.
use Rattle.std.proofs.Common.{ℕ, ◌+◌, ap, ◌∙◌, arith, Some}
use Rattle.frame.specs.Layout.{extra_count, head_size}
use Rattle.frame.proofs.Writing.{head_written}
use Rattle.frame.proofs.builder.put_head.Goals as goal

pub returns : goal.returns
unfolding head_size
returns c =
    let a = c.args in (
      c.put_extra.ensures.0 ∙ ap (λ (k : ℕ). k + extra_count (Some a.place)) c.put_addresses-a.ensures.0,
      head_written a.form (Some a.place) a.p.target a.p.source a.n a.out.now _ _ (c.top_bits.result + c.low_bits.result) _ (omega arith)
          (cc (c.top_bits.ensures, c.low_bits.ensures)) c.put_addresses-a.ensures.1 c.put_addresses-a.ensures.0 c.put_extra.ensures.1,
    )
