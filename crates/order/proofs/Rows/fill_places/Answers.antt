-- After some turns as many places are in the list, and their tickets are marked.
use Rattle.std.proofs.Common.{refl, arith, rules}
use Rattle.order.proofs.Places.{filled_none, filled_more, filled_stop}
use Rattle.order.proofs.Rows.fill_places.Goals as goal

pub loop-place-init : goal.loop-place-init
loop-place-init c = filled_none _ _ refl (rw c.requires at (c.fill.ensures.after (λ y h. search rules)))

pub returns-in_default : goal.returns-in_default
returns-in_default c = filled_stop _ _ c.loop-place.invariant c.in_default.ensures.lowest (omega arith)

pub loop-place-preserved : goal.loop-place-preserved
loop-place-preserved c = filled_more _ _ c.loop-place.invariant c.in-Some.ensures.lowest c.in-Some.ensures.ticket c.set_bit.ensures c.loop-place-test.true
