-- What the callees ensure leads from a moment to the next.
use Rattle.std.proofs.Common.{refl, rules}
use Rattle.clerk.specs.TurnLaws.{turned}
use Rattle.clerk.proofs.Run.turn.Goals as goal

pub returns-clause-turned : goal.returns-clause-turned
returns-clause-turned c =
    turned _ _ _ _ _ _ _ _ _ _ c.seat.ensures c.ticket-ticket.ensures (search rules) (search rules) c.ask-answer.ensures refl c.note_answer.ensures.kept c.note_answer.ensures.noted c.put_answer.ensures.1
