-- The first ticket from 1 on that is ready is the lowest.
use Rattle.std.proofs.Common.{◌≡◌, true, false, rules}
use Rattle.std.proofs.lemmas.Iterator.{first_from_Range}
use Rattle.order.specs.Scratch.{ready_in}
use Rattle.order.proofs.Ready.{next_first}
use Rattle.order.proofs.Rows.next.Goals as goal

pub returns-clause-lowest : goal.returns-clause-lowest
returns-clause-lowest c =
    next_first _ _ _ c.find.result
    (first_from_Range _ _ _ c.find.result (λ t. ready_in c.args.self.now.befores c.args.self.now.due c.args.listed.now t ≡ true)
    (λ t. ready_in c.args.self.now.befores c.args.self.now.due c.args.listed.now t ≡ false) c.find.ensures.ran (λ t q k. search rules) (λ t q k. search rules))
