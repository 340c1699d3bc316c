use Rattle.demands.proofs.Writable.{allowed_exactly, written_writable}
use Rattle.demands.proofs.allowed_is_writable.Goals as goal

pub returns-clause-allowed : goal.returns-clause-allowed
returns-clause-allowed c = allowed_exactly

pub returns-clause-written : goal.returns-clause-written
returns-clause-written c = written_writable
