-- At an offset the rows tell of the history so far, and the walk from there is the walk.
use Rattle.std.proofs.Common.{◌∙◌, ap, Ok, arith}
use Rattle.order.proofs.Walking.{walking_start, walking_unread, walking_end, event_fits, event_near, walking_far, walking_on}
use Rattle.order.proofs.Rows.walk.Goals as goal

pub loop-found-init : goal.loop-found-init
loop-found-init c = walking_start (λ i. (c.type_inv.trace i).fits) c.requires

pub returns-in-Err-clause-faulty : goal.returns-in-Err-clause-faulty
returns-in-Err-clause-faulty c = walking_unread c.loop-found.invariant _ c.read.ensures.value c.in-Err.is

pub returns-in_default-clause-whole : goal.returns-in_default-clause-whole
returns-in_default-clause-whole c = walking_end c.loop-found.invariant _ c.read.ensures.value (c.in-Ok.is ∙ ap Ok c.in_default.is)

pub returns-then-ticket-gt-TICKETS-clause-faulty : goal.returns-then-ticket-gt-TICKETS-clause-faulty
returns-then-ticket-gt-TICKETS-clause-faulty c = walking_far c.loop-found.invariant _ c.read.ensures.value (c.in-Ok.is ∙ ap Ok c.in-Some.is) (omega arith)

pub take_in-requires : goal.take_in-requires
take_in-requires c = event_near c.loop-found.invariant _ c.read.ensures.value (c.in-Ok.is ∙ ap Ok c.in-Some.is) (omega arith)

pub loop-found-smaller : goal.loop-found-smaller
loop-found-smaller c = omega (arith, event_fits c.loop-found.invariant _ c.read.ensures.value (c.in-Ok.is ∙ ap Ok c.in-Some.is))

pub loop-found-preserved : goal.loop-found-preserved
loop-found-preserved c = walking_on c.loop-found.invariant _ c.read.ensures.value (c.in-Ok.is ∙ ap Ok c.in-Some.is) (omega arith) c.take_in.ensures
