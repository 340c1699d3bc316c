-- Of a trace one thing is to be said.
use Rattle.std.specs.Prelude.{ℕ, ◌≡◌, refl, length}
use Rattle.std.proofs.Common.{sym, ap, ap₂, subst, ◌∙◌}
use mathlib.Core.List.{List, [], ◌∷◌, ◌++◌, reverse, reverse-reverse, reverse_aux-append}
use Rattle.words.specs.Tests.{clash}
use Rattle.trace.specs.declared.Event.{Event}
use Rattle.trace.specs.Answers.{ReadingSaid, event, end, no_event}
use Rattle.trace.specs.Events.{read_at}
use Rattle.trace.specs.EventLaws.{event_back}
use Rattle.trace.specs.CauseLaws.{read_cause}
use Rattle.trace.specs.Traces.{AllFair, none, spell_all, Fronts, same, longer, shorter, fair-onto, fronts}
use Rattle.audit.specs.Answers.{AuditSaid, accepted, refused}
use Rattle.demands.specs.Writable.{Writable, Written}
use Rattle.demands.proofs.Writable.{written_fair, written_next}
use Rattle.demands.specs.AuditAnswers.{Stop, whole, unread, barred, Stopped}

-- the events of a written history are fair from the oldest on too
pub oldest_fair : (es : List Event) → Written (reverse es) → AllFair es
oldest_fair es w = subst AllFair (reverse-reverse es) (fair-onto (written_fair w) none)

-- an event of a written history could be written after those before it
could : (ds ms es : List Event) {e : Event} → Written (reverse es) → es ≡ ds ++ e ∷ ms → Writable (reverse ds) e
could ds ms es {e} w p = written_next e ms (subst Written (ap reverse p ∙ reverse_aux-append ds (e ∷ ms) []) w)

-- what is said by what reads at an offset
said_of : ReadingSaid → ℕ → AuditSaid
said_of end at = accepted
said_of (no_event k) at = refused k at
said_of (event e n) at = refused 40 at

-- what is met says that
stop_says : {es : List Event} {rest : List ℕ} {x : AuditSaid} → Stop es rest x → x ≡ said_of (read_at rest) (length (spell_all es))
unfolding said_of read_at
stop_says (whole e) = rw e refl
stop_says (unread c) = rw (read_cause c) refl
stop_says (barred r n) = rw r refl

-- the check does not stop where an event stands that the desk could write then
goes_on : {es : List Event} {rest : List ℕ} {x : AuditSaid} {e : Event} {n : ℕ} → Stop es rest x → read_at rest ≡ event e n → ¬ Writable (reverse es) e
unfolding read_at
goes_on {e = e} {n = n} (whole p) r w = let z : end ≡ event e n = ap read_at (sym p) ∙ r in clash (cc)
goes_on {e = e} {n = n} (unread {k} c) r w = let z : no_event k ≡ event e n = sym (read_cause c) ∙ r in clash (cc)
goes_on {es} {e = e} {n = n} (barred {e = d} {n = k} q no_way) r w =
    let z : event d k ≡ event e n = sym q ∙ r in
    let one : e ≡ d = cc in
    no_way (subst (Writable (reverse es)) one w)

-- of a trace one thing is to be said
pub one_answer : {trace : List ℕ} {x y : AuditSaid} → Stopped trace x → Stopped trace y → x ≡ y
one_answer {trace} {x} {y} a b = go (fronts (oldest_fair a.events a.written) (oldest_fair b.events b.written) (sym a.spelt ∙ b.spelt))
  where
    go : Fronts a.events b.events a.rest b.rest → x ≡ y
    go (same p q) = stop_says a.stops ∙ ap₂ (λ (es : List Event) (l : List ℕ). said_of (read_at l) (length (spell_all es))) p q ∙ sym (stop_says b.stops)
    go (longer e ms f p q) = absurd (goes_on a.stops (ap read_at q ∙ event_back e (spell_all ms ++ b.rest) f) (could a.events ms b.events b.written p))
    go (shorter d ms f p q) = absurd (goes_on b.stops (ap read_at q ∙ event_back d (spell_all ms ++ a.rest) f) (could b.events ms a.events a.written p))
