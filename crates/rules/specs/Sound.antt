-- What a desk and a history have to each other at every step of a run.
use Rattle.trace.specs.History.{History}
use Rattle.rules.specs.Rules.{Lawful}
use Rattle.rules.specs.View.{View, Reads}

-- the history is lawful, and v is what a desk has after it
pub record Sound (v : View) (h : History) : Type 0 where
  pub lawful : Lawful h
  pub reads : Reads v h
