-- What is left to put comes to what all comes to.
use Rattle.std.proofs.Common.{drop}
use Rattle.text.specs.Pages.{Leaves}
use Rattle.text.proofs.Page.put_bytes.Given as goal

abbrev pub invariant-loop-b : goal.invariant-loop-b
invariant-loop-b l = Leaves (drop l.b-index l.s) l.page l.s l.initial.page
