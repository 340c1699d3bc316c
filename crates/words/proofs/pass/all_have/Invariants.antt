-- So far all have the bit, unless one was seen without.
use Rattle.std.proofs.Common.{◌≡◌, All, IsTrue, take, true}
use Rattle.words.proofs.pass.all_have.Given as goal

abbrev pub invariant-loop-word : goal.invariant-loop-word
invariant-loop-word g l = IsTrue l.all → All (λ w. g.W.Word.has w l.seat ≡ true) (take l.word-index l.part)
