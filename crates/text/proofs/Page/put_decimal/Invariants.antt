-- The digits that stand, behind those of what is left, are the number's.
use Rattle.std.proofs.Common.{◌≡◌, ◌≤◌, ◌+◌, length, drop, ◌++◌}
use Rattle.text.specs.Lines.{numeral}
use Rattle.text.proofs.Page.put_decimal.Given as goal

abbrev pub invariant-loop-left : goal.invariant-loop-left
invariant-loop-left l = (length l.digits ≡ 20) × (l.first ≤ 19) × (numeral l.left ++ drop (l.first + 1) l.digits ≡ numeral l.n)

abbrev pub decreases-loop-left : goal.decreases-loop-left
decreases-loop-left l = l.left
