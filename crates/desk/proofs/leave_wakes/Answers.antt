use Rattle.std.proofs.Common.{rules, arith, get_or}
use Rattle.std.proofs.lemmas.Grind.{common_steps}
use Rattle.std.proofs.lemmas.List.{get_or_default}
use Rattle.std.proofs.lemmas.List.Edits.{map_over_more}
use Rattle.desk.specs.Step.{left_wake, free_seat}
use Rattle.desk.proofs.leave_wakes.Goals as goal

pub loop-seat-preserved : goal.loop-seat-preserved
loop-seat-preserved c = record {
  long = grind (arith, common_steps);
  gone =
      rw c.leave_wake.ensures
      (map_over_more (left_wake c.args.s) c.args.seats.now c.loop-seat.seats c.loop-seat.seat-index (get_or c.loop-seat.seats c.loop-seat.seat-index free_seat) (search rules) c.loop-seat.invariant.gone
      (get_or_default c.loop-seat.seats c.loop-seat.seat-index free_seat _ (grind (arith, c.loop-seat.invariant.long))));
}
