use Rattle.demands.proofs.AuditTheorems.{says_exactly, refused_never, other_length, refused_1_exactly}
use Rattle.demands.proofs.refused_where_unwritable.Goals as goal

pub returns-clause-says : goal.returns-clause-says
returns-clause-says c = says_exactly

pub returns-clause-never : goal.returns-clause-never
returns-clause-never c = refused_never

pub returns-clause-other_length : goal.returns-clause-other_length
returns-clause-other_length c = other_length

pub returns-clause-only_other_length : goal.returns-clause-only_other_length
returns-clause-only_other_length c = refused_1_exactly
