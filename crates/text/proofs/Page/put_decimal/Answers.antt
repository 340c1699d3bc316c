-- The digits are written from the last on.
use Rattle.std.proofs.Common.{rules, length-set, arith}
use Rattle.text.specs.LineLaws.{digit_next}
use Rattle.text.proofs.Page.put_decimal.Goals as goal

pub loop-left-preserved : goal.loop-left-preserved
loop-left-preserved c =
    let i = c.loop-left.invariant in
    (simp length-set i.0, omega (arith, i.1), digit_next _ _ _ _ i.2 i.0 i.1 c.loop-left-test.true (search rules) _ (omega arith))
