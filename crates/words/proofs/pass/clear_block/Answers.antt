-- Words that do not have the bit are as they would be.
use Rattle.std.proofs.Common.{◌≡◌, false, rules}
use Rattle.words.proofs.Kept.{kept_by_all}
use Rattle.words.proofs.pass.clear_block.Goals as goal

pub returns-then-not-some_have : goal.returns-then-not-some_have
returns-then-not-some_have g c =
    kept_by_all (λ w. g.W.Word.without w c.args.seat) (λ w. g.W.Word.has w c.args.seat ≡ false) c.args.part.now
    (λ w h. g.met.W.Word.without_none w c.args.seat h) (c.some_have.ensures (search rules))
