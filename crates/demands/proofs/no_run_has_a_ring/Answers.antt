use Rattle.demands.proofs.DemandThree.{demand_three, no_junction}
use Rattle.demands.proofs.no_run_has_a_ring.Goals as goal

pub returns-clause-ring : goal.returns-clause-ring
returns-clause-ring c = demand_three

pub returns-clause-junction : goal.returns-clause-junction
returns-clause-junction c = no_junction
