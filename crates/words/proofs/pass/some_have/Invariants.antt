-- So far none has the bit, unless one was seen.
use Rattle.std.proofs.Common.{◌≡◌, All, take, false}
use Rattle.words.proofs.pass.some_have.Given as goal

abbrev pub invariant-loop-word : goal.invariant-loop-word
invariant-loop-word g l = l.some ≡ false → All (λ w. g.W.Word.has w l.seat ≡ false) (take l.word-index l.part)
