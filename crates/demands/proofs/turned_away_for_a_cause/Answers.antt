use Rattle.demands.proofs.DemandOne.{demand_one, demand_one_unchanged, clearing_refused, clearing_unchanged, number-turned_away, reading_turned_away, writing_turned_away, writing_unchanged, order_turned_away, order_unchanged}
use Rattle.demands.proofs.turned_away_for_a_cause.Goals as goal

pub returns-clause-request : goal.returns-clause-request
returns-clause-request c = demand_one

pub returns-clause-request_unchanged : goal.returns-clause-request_unchanged
returns-clause-request_unchanged c = demand_one_unchanged

pub returns-clause-clearing : goal.returns-clause-clearing
returns-clause-clearing c = clearing_refused

pub returns-clause-clearing_unchanged : goal.returns-clause-clearing_unchanged
returns-clause-clearing_unchanged c = clearing_unchanged

pub returns-clause-number : goal.returns-clause-number
returns-clause-number c = number-turned_away

pub returns-clause-reading : goal.returns-clause-reading
returns-clause-reading c = reading_turned_away

pub returns-clause-writing : goal.returns-clause-writing
returns-clause-writing c = writing_turned_away

pub returns-clause-writing_unchanged : goal.returns-clause-writing_unchanged
returns-clause-writing_unchanged c = writing_unchanged

pub returns-clause-order : goal.returns-clause-order
returns-clause-order c = order_turned_away

pub returns-clause-order_unchanged : goal.returns-clause-order_unchanged
returns-clause-order_unchanged c = order_unchanged
