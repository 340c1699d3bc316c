-- The event that an answer calls for in the trace.
use Rattle.std.specs.Prelude.{ℕ, List, [], ◌∷◌, Option, Some, None}
use Rattle.trace.specs.declared.Event.{Event}
use Rattle.trace.specs.declared.Event.TheVariants.{Started, Granted, Touched, Released, Finished}
use Rattle.desk.specs.Answers.{Said, started, wait, refused, granted, held, touched, released, finished}
use Rattle.desk.specs.declared.Request.{Request}
use Rattle.desk.specs.declared.Request.TheVariants.{Begin, Lock, Touch, Release, Finish}

-- the event that an answer calls for, to a seat that has (for FINISH, had) ticket t and a request about record r: one or none
abbrev pub called : Said → ℕ → ℕ → List Event
called (started n) t r = Started n ∷ []
called granted t r = Granted t r ∷ []
called touched t r = Touched t r ∷ []
called released t r = Released t r ∷ []
called finished t r = Finished t ∷ []
called held t r = []
called (wait k) t r = []
called (refused k) t r = []

-- the events of what may be one
abbrev pub events : Option Event → List Event
events (Some e) = e ∷ []
events None = []

-- the record that a request asks for, where it asks for one
abbrev pub record_in : Request → Option ℕ
record_in (Begin s) = None
record_in (Lock s r) = Some r
record_in (Touch s r) = Some r
record_in (Release s r) = Some r
record_in (Finish s) = None

-- the record that a request asks for, and 0 where it asks for none
abbrev pub record_of : Request → ℕ
record_of (Begin s) = 0
record_of (Lock s r) = r
record_of (Touch s r) = r
record_of (Release s r) = r
record_of (Finish s) = 0
