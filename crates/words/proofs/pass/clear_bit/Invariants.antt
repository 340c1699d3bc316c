-- The words of the blocks before i are cleared, the others as they came.
use Rattle.std.proofs.Common.{◌≡◌, ◌++◌, ◌*◌, map, take, drop}
use Rattle.words.proofs.pass.clear_bit.Given as goal

abbrev pub invariant-loop-i : goal.invariant-loop-i
invariant-loop-i g l = l.table ≡ map (λ w. g.W.Word.without w l.seat) (take (128 * l.i) l.initial.table) ++ drop (128 * l.i) l.initial.table
