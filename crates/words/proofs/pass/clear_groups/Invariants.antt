-- The words of the groups before i are cleared, the others as they came.
use Rattle.std.proofs.Common.{◌≡◌, ◌++◌, ◌*◌, map, take, drop}
use Rattle.words.proofs.pass.clear_groups.Given as goal

abbrev pub invariant-loop-i : goal.invariant-loop-i
invariant-loop-i g l = l.part ≡ map (λ w. g.W.Word.without w l.seat) (take (32 * l.i) l.initial.part) ++ drop (32 * l.i) l.initial.part
