-- The trace check goes as a run of the desk.
use Rattle.std.specs.Prelude.{ℕ, ◌+◌, ◌≡◌, true, false, length}
use Rattle.std.proofs.Math.Path.{refl, sym, ap}
use Rattle.std.proofs.Common.{subst, ◌∙◌, arith, length-append}
use mathlib.Core.List.{List, [], ◌∷◌, ◌++◌, map, reverse, reverse_aux, append_assoc}
use borrow.Author.Tests.{eq-eqb, ne_eqb, le-leb}
use Rattle.words.specs.Tests.{pick, either, not_both}
use Rattle.trace.specs.Limits.{records}
use Rattle.trace.specs.declared.Event.{Event}
use Rattle.trace.specs.Answers.{ReadingSaid}
use Rattle.trace.specs.Events.{spell, read_at}
use Rattle.trace.specs.EventLaws.{event_back}
use Rattle.trace.specs.Traces.{AllFair, more, read_all, spell_all, spell_join, fair_apart, Through, NoEvent, ended, unread as unread_there}
use Rattle.desk.specs.Limits.{seats}
use Rattle.desk.specs.Answers.{cleared}
use Rattle.desk.specs.Step.{state, free_desk, fitting, ClearOutcome, clear_outcome, clearing}
use Rattle.desk.specs.StepLaws.{step_long}
use Rattle.audit.specs.Answers.{refused}
use Rattle.audit.specs.Audit.{asked, answered, allows, Checked, ending, check, check_from, tables, audit_of}
use Rattle.demands.specs.Run.{Moment, next, after_all}
use Rattle.demands.specs.Keeps.{Good}
use Rattle.demands.proofs.Keeps.{keeps}
use Rattle.demands.proofs.Runs.{good_start, cleared_long}
use Rattle.demands.proofs.AuditLaws.{asked-next}
use Rattle.demands.specs.Tally.{Tallied}
use Rattle.demands.proofs.Tally.{counts, tallied_start}
use Rattle.demands.specs.AuditAnswers.{Stop, whole, unread, barred}
use Rattle.demands.specs.Writable.{Written, nothing, then}
use Rattle.demands.proofs.Writable.{allowed_exactly}
use Rattle.demands.specs.AuditRuns.{asked_all, Goes}

-- a moment of a desk with 4,096 records
record Ready (m : Moment) : Type 0 where
  good : Good seats m
  tally : Tallied m
  full : length m.state.held ≡ records
  past : Written m.history

-- an allowed event could be written, and after it the desk is ready again
ready-next : {m : Moment} {e : Event} → Ready m → allows m.state e ≡ true → Ready (record { state = (answered m.state e).left; history = e ∷ m.history })
ready-next {m} {e} R may = record {
  good = subst (Good seats) is (keeps R.good (asked m.state e));
  tally = subst Tallied is (counts R.good R.tally (asked m.state e)).tally;
  full = step_long seats m.state (asked m.state e) ∙ R.full;
  past = then R.past ((allowed_exactly _ R.good R.tally R.full e).0 may);
}
  where
    is : next seats m (asked m.state e) ≡ record { state = (answered m.state e).left; history = e ∷ m.history }
    is = asked-next m e R.good.seats may

-- where the check of events es from an offset on stops, x being read after them: some are left, and this is said and left
data Left (x : ReadingSaid) (at : ℕ) (c : Checked) : List Event → Type 0 where
  none_left : c.says ≡ ending x at → Left x at c []
  not_allowed : {e : Event} {es : List Event} → allows c.left e ≡ false → c.says ≡ refused 40 at → Left x at c (e ∷ es)

-- the check of events es from a moment on
record Checks (es : List Event) (x : ReadingSaid) (at : ℕ) (m : Moment) (c : Checked) : Type 0 where
  taken : List Event
  untaken : List Event
  split : es ≡ taken ++ untaken
  asks : after_all seats m (asked_all m.state taken) ≡ record { state = c.left; history = reverse_aux taken m.history }
  ready : Ready (record { state = c.left; history = reverse_aux taken m.history })
  stops : Left x (at + length (spell_all taken)) c untaken

-- it goes on as long as the events are allowed
checks : (es : List Event) (x : ReadingSaid) (at : ℕ) (m : Moment) → Ready m → Checks es x at m (check es x at m.state)
unfolding check after_all asked_all
checks [] x at m R = record { taken = []; untaken = []; split = refl; asks = refl; ready = R; stops = none_left (ap (ending x) (omega arith)) }
checks (e ∷ es) x at m R =
    either (Checks (e ∷ es) x at m) (allows m.state e)
    (λ may.
    let later : Moment = record { state = (answered m.state e).left; history = e ∷ m.history } in
    let c = checks es x (at + length (spell e)) later (ready-next R may) in
    let further : at + length (spell e) + length (spell_all c.taken) ≡ at + length (spell e ++ spell_all c.taken) = omega (arith, length-append (spell e) (spell_all c.taken)) in
    record {
      taken = e ∷ c.taken;
      untaken = c.untaken;
      split = ap (λ (l : List Event). e ∷ l) c.split;
      asks = ap (λ (k : Moment). after_all seats k (asked_all later.state c.taken)) (asked-next m e R.good.seats may) ∙ c.asks;
      ready = c.ready;
      stops = rw further at c.stops;
    })
    (λ not-may. record { taken = []; untaken = e ∷ es; split = refl; asks = refl; ready = R; stops = not_allowed not-may (ap (refused 40) (omega arith)) })

-- what is met after the allowed events ds, where the events es are left and then no event stands
stop : {x : ReadingSaid} {ds es : List Event} {rest : List ℕ} {c : Checked} → AllFair es → NoEvent rest x → Ready (record { state = c.left; history = reverse ds })
    → Left x (0 + length (spell_all ds)) c es → Stop ds (spell_all es ++ rest) c.says
stop {ds = ds} f (ended e) R (none_left s) = rw s (whole e)
stop {ds = ds} {rest = rest} f (unread_there {k} r) R (none_left s) = rw s (subst (λ n. Stop ds rest (refused k n)) (omega arith) (unread r))
stop {ds = ds} {rest = rest} (more {e} {es} f a) n R (not_allowed z s) =
    rw s (subst (λ n. Stop ds (spell e ++ spell_all es ++ rest) (refused 40 n)) (omega arith)
    (barred (ap read_at (append_assoc (spell e) (spell_all es) rest) ∙ event_back e (spell_all es ++ rest) f) (λ w. not_both ((allowed_exactly _ R.good R.tally R.full e).1 w) z)))

-- over tables of 4,096 words
module _ (h l : List ℕ) (long : length h ≡ records) (beside : length l ≡ records) where
  -- a clearing fills them with zeros
  pub audit_clears : clearing seats h l ≡ clear_outcome cleared (state (map (λ w. 0) h) (map (λ w. 0) l) (free_desk seats))
  unfolding clearing fitting pick
  audit_clears = rw (eq-eqb (length h) (length l) (long ∙ sym beside), ne_eqb (length h) 0 (λ z. omega arith), le-leb (length h) records (omega arith)) refl

-- and with a trace
module _ (trace h l : List ℕ) (long : length h ≡ records) (beside : length l ≡ records) where
  -- the call clears them and checks the trace
  pub audit_checks : audit_of trace h l ≡ tables (check_from trace (clearing seats h l).left)
  unfolding audit_of pick
  audit_checks = rw (eq-eqb (length h) records long, eq-eqb (length l) records beside)

  -- the clearing is not refused
  clears : (clearing seats h l).says ≡ cleared
  clears = ap (λ (o : ClearOutcome). o.says) (audit_clears h l long beside)

  -- the moment after the clearing
  start : Moment
  start = record { state = (clearing seats h l).left; history = [] }

  -- is that of a desk with 4,096 records
  start_ready : Ready start
  unfolding start
  start_ready = record { good = good_start seats h l clears; tally = tallied_start seats h l; full = cleared_long seats h l clears ∙ long; past = nothing }

  -- the call goes as `Goes` says, where the trace reads through
  pub goes : Through trace (read_all (length trace) trace) → Goes trace h l (audit_of trace h l)
  unfolding check_from start
  goes t = rw audit_checks (go t.spelt t.proper t.stops (checks (read_all (length trace) trace).events (read_all (length trace) trace).last 0 start start_ready))
    where
      go : {x : ReadingSaid} {es : List Event} {c : Checked} {rest : List ℕ} → trace ≡ spell_all es ++ rest → AllFair es → NoEvent rest x → Checks es x 0 start c → Goes trace h l (tables c)
      go {x} {es} {c} {rest} s f n k =
          let apart : spell_all es ≡ spell_all k.taken ++ spell_all k.untaken = ap spell_all k.split ∙ spell_join k.taken k.untaken in
          record {
            stopped = record {
              events = k.taken;
              rest = spell_all k.untaken ++ rest;
              spelt = s ∙ ap (λ (l : List ℕ). l ++ rest) apart ∙ append_assoc (spell_all k.taken) (spell_all k.untaken) rest;
              written = k.ready.past;
              stops = stop (fair_apart k.taken (subst AllFair k.split f)).1 n k.ready k.stops;
            };
            desk = c.left.desk;
            asks = k.asks;
            reads = k.ready.good.sound.reads;
          }
