-- The first word is no kind, or its kind and the words behind it make the request.
use Rattle.std.proofs.Common.{arith}
use Rattle.std.proofs.lemmas.Grind.{common_steps}
use Rattle.wording.specs.RequestLaws.{worded_kind}
use Rattle.wording.proofs.worded.Goals as goal

pub returns-in_err-kind : goal.returns-in_err-kind
returns-in_err-kind c =
    let k = c.kind_named.ensures in
    rw (worded_kind _ _ _ c.front_word.ensures.word c.front_word.ensures.rest _ k.begin k.lock k.touch k.release k.finish) (grind (arith, common_steps))

pub returns : goal.returns
returns c =
    let k = c.kind_named.ensures in
    rw (worded_kind _ _ _ c.front_word.ensures.word c.front_word.ensures.rest _ k.begin k.lock k.touch k.release k.finish) (grind (arith, common_steps))
