-- At each offset what is printed from there on completes the text.
use Rattle.std.proofs.Common.{refl, ◌∙◌, arith}
use Rattle.clerk.proofs.Serving.{serving_start, serving_place, serving_room, serving_on, serving_fault, serving_end}
use Rattle.clerk.proofs.Run.serve.Goals as goal

pub loop-found-init : goal.loop-found-init
loop-found-init c = (refl, serving_start (λ i. (c.type_inv.input i).fits) c.requires.short c.requires.stands c.requires.empty)

pub returns-in-Err : goal.returns-in-Err
returns-in-Err c = (c.put_refused.ensures.0 ∙ c.loop-found.invariant.0, serving_fault c.loop-found.invariant.1 c.request.ensures c.in-Err.is c.number.ensures c.put_refused.ensures.1)

pub returns-in_default : goal.returns-in_default
returns-in_default c = (c.put_order.ensures.0 ∙ c.loop-found.invariant.0, serving_end c.loop-found.invariant.1 c.request.ensures c.in-Ok.is c.in_default.is c.put_order.ensures.1)

pub turn-requires : goal.turn-requires
turn-requires c = serving_room c.loop-found.invariant.1 c.request.ensures c.in-Ok.is c.in-Some.is

pub overflow_add-at : goal.overflow_add-at
overflow_add-at c = omega (arith, serving_place c.loop-found.invariant.1 c.request.ensures c.in-Ok.is c.in-Some.is)

pub loop-found-smaller : goal.loop-found-smaller
loop-found-smaller c = omega (arith, serving_place c.loop-found.invariant.1 c.request.ensures c.in-Ok.is c.in-Some.is)

pub loop-found-preserved : goal.loop-found-preserved
loop-found-preserved c = (c.turn.ensures.same ∙ c.loop-found.invariant.0, serving_on c.loop-found.invariant.1 c.request.ensures c.in-Ok.is c.in-Some.is c.turn.ensures.turned)
