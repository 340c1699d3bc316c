-- A ticket with an access that is not listed is ready if its befores are listed.
use Rattle.std.proofs.Common.{rules}
use Rattle.order.proofs.Ready.{ready_rest}
use Rattle.order.proofs.Rows.is_ready.Goals as goal

pub returns-then-not-has_bit : goal.returns-then-not-has_bit
returns-then-not-has_bit c = ready_rest _ _ _ _ (search rules) (search rules) c.row_within.ensures
