-- The seats so far are out of the wake, the others as they came.
use Rattle.std.proofs.Common.{◌≡◌, ◌++◌, map, take, drop, length}
use Rattle.desk.specs.Limits.{seats}
use Rattle.desk.specs.Step.{left_wake}
use Rattle.desk.proofs.leave_wakes.Given as goal

abbrev pub invariant-loop-seat : goal.invariant-loop-seat
invariant-loop-seat l = record { long : length l.seats ≡ seats; gone : l.seats ≡ map (left_wake l.s) (take l.seat-index l.initial.seats) ++ drop l.seat-index l.initial.seats }
