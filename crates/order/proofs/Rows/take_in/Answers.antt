-- An event that counts is taken in as its access.
use Rattle.words.specs.Tests.{pick}
use Rattle.order.proofs.Rows.take_in.Goals as goal

pub returns-in-Some : goal.returns-in-Some
unfolding pick
returns-in-Some c = λ ts told. let e = c.in-Some.ensures in rw (← e.counts, ← e.names.0, ← e.names.1) (c.note.ensures ts told)
