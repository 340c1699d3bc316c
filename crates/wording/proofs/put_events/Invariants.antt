-- At an offset the lines of the events before it are put.
use Rattle.std.proofs.Common.{◌-◌, length}
use Rattle.wording.proofs.Telling.{Telling}
use Rattle.wording.proofs.put_events.Given as goal

abbrev pub invariant-loop-found : goal.invariant-loop-found
invariant-loop-found l = Telling l.trace l.initial.page l.page l.at

abbrev pub decreases-loop-found : goal.decreases-loop-found
decreases-loop-found l = length l.trace - l.at
