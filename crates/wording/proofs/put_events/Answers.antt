use Rattle.std.proofs.Common.{ap, ◌∙◌, Ok, arith}
use Rattle.trace.specs.Answers.{reading_said}
use Rattle.wording.proofs.Telling.{telling_start, telling_fault, telling_end, event_fits, telling_on}
use Rattle.wording.proofs.put_events.Goals as goal

pub loop-found-init : goal.loop-found-init
loop-found-init c = telling_start (λ i. (c.type_inv.trace i).fits)

pub returns-in-Err : goal.returns-in-Err
returns-in-Err c = telling_fault c.loop-found.invariant c.read.ensures.value c.put_refused.new.self (ap reading_said c.in-Err.is) c.number.ensures c.put_refused.ensures

pub returns-in_default : goal.returns-in_default
returns-in_default c = telling_end c.loop-found.invariant c.read.ensures.value (ap reading_said (c.in-Ok.is ∙ ap Ok c.in_default.is))

pub loop-found-smaller : goal.loop-found-smaller
loop-found-smaller c = omega (arith, event_fits c.loop-found.invariant c.read.ensures.value (ap reading_said (c.in-Ok.is ∙ ap Ok c.in-Some.is)))

pub loop-found-preserved : goal.loop-found-preserved
loop-found-preserved c = telling_on c.loop-found.invariant c.read.ensures.value (ap reading_said (c.in-Ok.is ∙ ap Ok c.in-Some.is)) c.put_event.new.page c.put_event.ensures
