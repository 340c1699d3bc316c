use Rattle.demands.proofs.AuditTheorems.{desk_accepted, written_accepted, accepted_history, accepted_exactly, accepted_written, junction_refused}
use Rattle.demands.proofs.accepted_is_written.Goals as goal

pub returns-clause-desk : goal.returns-clause-desk
returns-clause-desk c = desk_accepted

pub returns-clause-history : goal.returns-clause-history
returns-clause-history c = written_accepted

pub returns-clause-only_history : goal.returns-clause-only_history
returns-clause-only_history c = accepted_history

pub returns-clause-trace : goal.returns-clause-trace
returns-clause-trace c = accepted_exactly

pub returns-clause-run : goal.returns-clause-run
returns-clause-run c = accepted_written

pub returns-clause-junction : goal.returns-clause-junction
returns-clause-junction c = junction_refused
