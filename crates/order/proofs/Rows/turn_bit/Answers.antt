-- Where the bit is set, it is set in the row of the earlier ticket.
use Rattle.order.proofs.Table.{turned_on}
use Rattle.order.proofs.Rows.turn_bit.Goals as goal

pub returns-then-has_bit : goal.returns-then-has_bit
returns-then-has_bit c = turned_on c.has_bit.ensures c.if-has_bit.true c.requires.1 c.set_bit.ensures
