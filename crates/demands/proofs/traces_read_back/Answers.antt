use Rattle.demands.proofs.DemandThree.{each_written, trace_reads}
use Rattle.demands.proofs.DemandTwo.{traced_back, one_spelling_each}
use Rattle.demands.proofs.traces_read_back.Goals as goal

pub returns-clause-written : goal.returns-clause-written
returns-clause-written c = each_written

pub returns-clause-read : goal.returns-clause-read
returns-clause-read c = traced_back

pub returns-clause-one_spelling : goal.returns-clause-one_spelling
returns-clause-one_spelling c = one_spelling_each

pub returns-clause-whole : goal.returns-clause-whole
returns-clause-whole c = trace_reads
