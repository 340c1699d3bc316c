use Rattle.rules.proofs.Exact.{exact_one, exact_two, granted, quiet}
use Rattle.rules.proofs.tests_are_the_rules.Goals as goal

pub returns-clause-one : goal.returns-clause-one
returns-clause-one c = exact_one

pub returns-clause-two : goal.returns-clause-two
returns-clause-two c = exact_two

pub returns-clause-granted : goal.returns-clause-granted
returns-clause-granted c = granted

pub returns-clause-others : goal.returns-clause-others
returns-clause-others c = quiet
