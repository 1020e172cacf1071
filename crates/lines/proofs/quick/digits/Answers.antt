-- `lines::quick::digits`: the number has room for one digit more, and a turn takes one. Assumes nothing.
use Rattle.std.proofs.Common.{◌≡◌, ◌+◌, ◌-◌, sym, ◌∙◌, arith}
use Rattle.lines.proofs.Laws.{low, next, low_digit, digits_on}
use Rattle.lines.proofs.quick.digits.Goals as goal

pub overflow_mul-value : goal.overflow_mul-value
overflow_mul-value c = omega (arith, low c.loop-i.value c.loop-i.i (omega (arith, c.loop-i-test.true)) c.loop-i.invariant.0)

pub overflow_add-value : goal.overflow_add-value
overflow_add-value c = omega (arith, low c.loop-i.value c.loop-i.i (omega (arith, c.loop-i-test.true)) c.loop-i.invariant.0)

pub loop-i-preserved : goal.loop-i-preserved
loop-i-preserved c =
    let l = c.loop-i in
    let d = low_digit _ _ c.from-d.ensures (omega (arith, c.type_inv.s (c.args.at + l.i))) c.if-d-gt9.false in
    let place : c.args.at + (l.i + 1) ≡ c.args.at + l.i + 1 = omega arith in
    let left : 13 - (l.i + 1) ≡ 13 - l.i - 1 = omega arith in (
      next l.value l.i _ l.invariant.0 c.if-d-gt9.false,
      rw (place, left, d.1) (sym (digits_on _ (13 - l.i) (c.args.at + l.i) l.value (omega (arith, c.loop-i-test.true)) d.0)) ∙ l.invariant.1,
    )
