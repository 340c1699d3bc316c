-- Where the answer does not call for the event, all is as it was.
use Rattle.std.proofs.Common.{◌∙◌, sym}
use Rattle.audit.proofs.Asking.{barred_keeps}
use Rattle.audit.proofs.take.Goals as goal

pub returns-clause-kept : goal.returns-clause-kept
returns-clause-kept c = λ n. barred_keeps c.args.event _ c.ask-answer.ensures c.request_for-request.ensures (sym c.calls_for.ensures ∙ c.if-calls_for.false)
