-- The words so far are cleared, the others as they came.
use Rattle.std.proofs.Common.{◌≡◌, ◌++◌, map, take, drop}
use Rattle.words.proofs.pass.clear_words.Given as goal

abbrev pub invariant-loop-word : goal.invariant-loop-word
invariant-loop-word g l = l.part ≡ map (λ w. g.W.Word.without w l.seat) (take l.word-index l.initial.part) ++ drop l.word-index l.initial.part
