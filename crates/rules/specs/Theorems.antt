-- What is proved of histories that keep the two rules; src/lib.rt says each, and the proofs are in proofs/.
use Rattle.std.specs.Prelude.{ℕ, ◌↔◌, ◌∷◌}
use Rattle.trace.specs.declared.Event.{Event}
use Rattle.trace.specs.declared.Event.TheVariants.{Granted}
use Rattle.trace.specs.History.{History, Grants, Accesses, Before}
use Rattle.words.specs.Chains.{Ring}
use Rattle.rules.specs.Rules.{RuleOne, RuleTwo, MayLock, Allowed, Lawful, GivenUp, SameWake}
use Rattle.rules.specs.Junction.{junction}

-- ---- no ring

-- the befores of a lawful history close no ring, where grants count as well as touches
abbrev pub NoRing : Type 0
NoRing = (h : History) → Lawful h → ¬ Ring (Before Accesses h)

-- those of the old desk's history close one
abbrev pub JunctionRing : Type 0
JunctionRing = Ring (Before Accesses junction)

-- so the old desk broke a rule
abbrev pub JunctionUnlawful : Type 0
JunctionUnlawful = ¬ Lawful junction

-- ---- which events keep a history lawful

-- rule one holds after the grant exactly if every live change that has r gave it up
abbrev pub ExactOne : Type 0
ExactOne = (h : History) (t r : ℕ) → MayLock h t r → Lawful h → RuleOne (Granted t r ∷ h) ↔ GivenUp h r

-- rule two holds after the grant exactly if t, where it has a lock, is in just the wakes of those who released r
abbrev pub ExactTwo : Type 0
ExactTwo = (h : History) (t r : ℕ) → MayLock h t r → Lawful h → RuleTwo (Granted t r ∷ h) ↔ SameWake h t r

-- so a grant that passes both tests keeps the history lawful
abbrev pub GrantLawful : Type 0
GrantLawful = (h : History) (t r : ℕ) → MayLock h t r → Lawful h → GivenUp h r → SameWake h t r → Lawful (Granted t r ∷ h)

-- and so does every other well-formed event
abbrev pub QuietLawful : Type 0
QuietLawful = (e : Event) (h : History) → Lawful h → Allowed h e → ((t r : ℕ) → ¬ Grants t r e) → Lawful (e ∷ h)
