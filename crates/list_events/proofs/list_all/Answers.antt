-- One read after another. Assumes nothing.
use Rattle.std.proofs.Common.{◌≡◌, refl, ◌∙◌, arith}
use Rattle.std.proofs.lemmas.Result.{on_ok_weaker}
use Rattle.list_events.proofs.Laws.{going_first, going_on, going_end}
use Rattle.list_events.proofs.list_all.Goals as goal

pub loop-init : goal.loop-init
loop-init g c = record { room = refl; going = λ h. rw c.begin-l.ensures (going_first _ _ _ _ h) }

pub returns-then-n-eq0 : goal.returns-then-n-eq0
returns-then-n-eq0 g c =
    λ h. let k = c.loop.invariant.going h in
    on_ok_weaker c.finish.result (λ w. going_end _ _ _ _ _ _ _ c.loop.l k (omega (arith, k.last.room, c.min-n.ensures, c.if-n-eq0.true)) w) c.finish.ensures

pub loop-preserved : goal.loop-preserved
loop-preserved g c =
    record {
      room = c.list.auto.out ∙ c.loop.invariant.room;
      going = λ h.
          let k = c.loop.invariant.going h in
          let n : c.min-n.result ≡ c.loop.got = omega (arith, k.last.within, c.min-n.ensures) in
          let sent = rw n at c.in_ok-l.ensures.sent in
          let lister = rw n at c.in_ok-l.ensures.listed in
          going_on _ _ _ _ _ _ _ _ _ _ _ _ k sent lister c.in_ok-got.ensures.gave (c.in_ok-got.ensures.read k.last.room);
    }
