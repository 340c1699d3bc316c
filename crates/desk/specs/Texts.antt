-- The words in which a request and what is said to it are printed, as ASCII bytes.
use Rattle.std.specs.Prelude.{ℕ, List, ◌++◌, codes}
use Rattle.std.specs.Fmt.{decimal}
use Rattle.desk.specs.Answers.{number}
use Rattle.desk.specs.declared.Refusal.{Refusal}
use Rattle.desk.specs.declared.Answer.{Answer}
use Rattle.desk.specs.declared.Answer.TheVariants.{Started, Granted, Held, Touched, Released, Finished, WaitHeld, WaitWake}
use Rattle.desk.specs.declared.Request.{Request}
use Rattle.desk.specs.declared.Request.TheVariants.{Begin, Lock, Touch, Release, Finish}

-- a seat and a record, in decimal
abbrev pub pair_text : ℕ → ℕ → List ℕ
pair_text s r = decimal s ++ (codes " " ++ decimal r)

-- a request: its kind, its seat, and its record where it has one
abbrev pub request_text : Request → List ℕ
request_text (Begin s) = codes "BEGIN " ++ decimal s
request_text (Lock s r) = codes "LOCK " ++ pair_text s r
request_text (Touch s r) = codes "TOUCH " ++ pair_text s r
request_text (Release s r) = codes "RELEASE " ++ pair_text s r
request_text (Finish s) = codes "FINISH " ++ decimal s

-- what a request that is not refused is told: with started the ticket, with wait its number
abbrev pub answer_text : Answer → List ℕ
answer_text (Started t) = codes "started " ++ decimal t
answer_text Granted = codes "granted"
answer_text Held = codes "held"
answer_text Touched = codes "touched"
answer_text Released = codes "released"
answer_text Finished = codes "finished"
answer_text WaitHeld = codes "wait 1"
answer_text WaitWake = codes "wait 2"

-- a refusal, by its number
abbrev pub refusal_text : Refusal → List ℕ
refusal_text why = codes "refused " ++ decimal (number why)
