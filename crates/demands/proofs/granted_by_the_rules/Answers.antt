use Rattle.demands.proofs.DemandTwo.{demand_two, live_sits}
use Rattle.demands.proofs.granted_by_the_rules.Goals as goal

pub returns-clause-granted : goal.returns-clause-granted
returns-clause-granted c = demand_two

pub returns-clause-live : goal.returns-clause-live
returns-clause-live c = live_sits
