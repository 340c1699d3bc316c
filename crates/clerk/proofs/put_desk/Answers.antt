-- On cleared tables a run stands where no request was asked.
use Rattle.std.proofs.Common.{refl}
use Rattle.clerk.proofs.Serving.{stands_first}
use Rattle.clerk.proofs.put_desk.Goals as goal

pub serve-requires-clause-stands : goal.serve-requires-clause-stands
serve-requires-clause-stands c = stands_first _ c.clear-opened.result c.clear-opened.ensures refl refl
