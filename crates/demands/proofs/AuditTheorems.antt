-- The trace check accepts what the desk could have written, and nothing else: it goes as a run of the desk, and of a trace one thing is to be said.
use Rattle.std.specs.Prelude.{ℕ, ◌+◌, ◌≡◌, refl, not, List, [], ◌∷◌, ◌++◌, map, reverse, length, take, drop, ◌==◌}
use Rattle.std.proofs.Common.{sym, ap, ap₂, subst, ◌∙◌, append-nil, append_assoc, arith, eqb-true}
use Rattle.std.proofs.lemmas.List.{reverse-reverse}
use Rattle.std.proofs.lemmas.Bool.{not-false}
use Rattle.std.proofs.Math.Seq.{drop-append_seam, take-append-add}
use Rattle.words.specs.Tests.{either, clash}
use Rattle.words.specs.Parts.{Bytes, bytes_rest}
use Rattle.words.specs.Chains.{Ring}
use Rattle.trace.specs.Limits.{records}
use Rattle.trace.specs.declared.Event.{Event}
use Rattle.trace.specs.Answers.{end}
use Rattle.trace.specs.Events.{spell, read_at}
use Rattle.trace.specs.EventLaws.{event_back, event_only}
use Rattle.trace.specs.CauseLaws.{no_event_number}
use Rattle.trace.specs.History.{History, Accesses, Before}
use Rattle.trace.specs.Traces.{AllFair, none, more, Read, read_all, spell_all, fair-onto, read_through, spelled_reads, spelled_through}
use Rattle.rules.proofs.NoRing.{no_ring}
use Rattle.rules.specs.Junction.{junction}
use Rattle.rules.proofs.JunctionLaws.{junction_unlawful}
use Rattle.desk.specs.Limits.{seats}
use Rattle.desk.specs.Answers.{cleared}
use Rattle.desk.specs.Step.{ClearOutcome, clear_outcome, state, free_desk, clearing}
use Rattle.order.specs.Causes.{Near}
use Rattle.order.specs.WalkLaws.{walk_whole}
use Rattle.order.specs.Theorems.{ring_exactly}
use Rattle.audit.specs.Answers.{AuditSaid, accepted, refused, Call, call}
use Rattle.audit.specs.Audit.{tables, check_from, audit_of}
use Rattle.demands.specs.Run.{Moment, run, trace_of}
use Rattle.demands.specs.Writable.{Written}
use Rattle.demands.proofs.Writable.{written_lawful, written_fair, written_run}
use Rattle.demands.specs.AuditAnswers.{Stop, whole, unread, barred, Stopped}
use Rattle.demands.proofs.AuditAnswers.{oldest_fair, one_answer}
use Rattle.demands.specs.AuditRuns.{Goes, asked_all}
use Rattle.demands.proofs.AuditRuns.{audit_checks, audit_clears, goes}
use Rattle.demands.specs.AuditTheorems.{told_by, Unwritable, WrittenAccepted, AcceptedHistory, JunctionRefused, DeskAccepted, TablesHold, SaysExactly, AcceptedExactly, AcceptedWritten, RefusedNever, AcceptedNoRing, AcceptedOrdered, ContentsNothing, OtherLength, OtherLengthExactly}

-- of the trace of a history that the desk could have written, accepted is to be said
whole_stopped : {past : History} → Written past → Stopped (trace_of past) accepted
whole_stopped {past} w =
    record { events = reverse past; rest = []; spelt = sym (append-nil (trace_of past)); written = subst Written (sym (reverse-reverse past)) w; stops = whole refl }

-- near events are fair
near_all : {es : List Event} → Near es → AllFair es
near_all Near.none = none
near_all (Near.more f t n) = more f (near_all n)

-- tables of zeros are equal where they are equally long
zeros_same : (a b : List ℕ) → length a ≡ length b → map {B = ℕ} (λ w. 0) a ≡ map {B = ℕ} (λ w. 0) b
zeros_same [] [] e = refl
zeros_same [] (y ∷ b) e = absurd (omega arith)
zeros_same (x ∷ a) [] e = absurd (omega arith)
zeros_same (x ∷ a) (y ∷ b) e = ap (λ (l : List ℕ). 0 ∷ l) (zeros_same a b (omega arith))

-- the junction's events are fair
fair-junction : AllFair junction
fair-junction = more refl (more refl (more refl (more refl (more refl (more refl (more refl (more refl (more refl (more refl (more refl (more refl none)))))))))))

-- ---- the theorems

pub written_accepted : WrittenAccepted
written_accepted h l long beside past w = one_answer (goes (trace_of past) h l long beside (spelled_through (fair-onto (written_fair w) none))).stopped (whole_stopped w)

pub accepted_history : AcceptedHistory
accepted_history h l long beside past f says = go g.spelt g.written g.stops says
  where
    g : Stopped (trace_of past) (audit_of (trace_of past) h l).says
    g = (goes (trace_of past) h l long beside (spelled_through (fair-onto f none))).stopped

    go : {es : List Event} {rest : List ℕ} {x : AuditSaid} → trace_of past ≡ spell_all es ++ rest → Written (reverse es) → Stop es rest x → x ≡ accepted → Written past
    go {es} s w (whole r) e =
        let bytes : trace_of past ≡ spell_all es = s ∙ ap (λ (k : List ℕ). spell_all es ++ k) r ∙ append-nil (spell_all es) in
        let read : ◌≡◌ {A = Read} (record { events = reverse past; last = end }) (record { events = es; last = end }) = sym (spelled_reads (fair-onto f none)) ∙ ap (λ (k : List ℕ). read_all (length k) k) bytes ∙ spelled_reads (oldest_fair es w) in
        subst Written (ap (λ (r : Read). reverse r.events) (sym read) ∙ reverse-reverse past) w
    go s w (unread c) e = absurd (clash (cc))
    go s w (barred r n) e = absurd (clash (cc))

pub junction_refused : JunctionRefused
junction_refused h l long beside e = junction_unlawful (written_lawful (accepted_history h l long beside junction fair-junction e))

pub desk_accepted : DeskAccepted
desk_accepted h l long beside h' l' c qs = written_accepted h l long beside (run seats h' l' qs).history (written_run h' l' qs c)

pub tables_hold : TablesHold
tables_hold h l long beside trace by = goes trace h l long beside (read_through (length trace) trace (omega arith) by)

pub says_exactly : SaysExactly
says_exactly h l long beside trace by x = let g = tables_hold h l long beside trace by in (λ e. subst (Stopped trace) e g.stopped, one_answer g.stopped)

module _ (h l : List ℕ) (long : length h ≡ records) (beside : length l ≡ records) (trace : List ℕ) (by : Bytes trace) where
  -- how the call goes
  call_goes : Goes trace h l (audit_of trace h l)
  call_goes = tables_hold h l long beside trace by

  -- an accepted trace is of the events that were allowed
  accepted_whole : (audit_of trace h l).says ≡ accepted → trace ≡ spell_all call_goes.stopped.events
  accepted_whole e = go call_goes.stopped.spelt call_goes.stopped.stops e
    where
      go : {es : List Event} {rest : List ℕ} {x : AuditSaid} → trace ≡ spell_all es ++ rest → Stop es rest x → x ≡ accepted → trace ≡ spell_all es
      go {es} s (whole r) e = s ∙ ap (λ (k : List ℕ). spell_all es ++ k) r ∙ append-nil (spell_all es)
      go s (unread c) e = absurd (clash (cc))
      go s (barred r n) e = absurd (clash (cc))

  -- the history of an accepted trace is of the events that were allowed
  accepted_told : (audit_of trace h l).says ≡ accepted → told_by trace ≡ reverse call_goes.stopped.events
  accepted_told e = ap told_by (accepted_whole e) ∙ ap (λ (r : Read). reverse r.events) (spelled_reads (oldest_fair call_goes.stopped.events call_goes.stopped.written))

pub accepted_exactly : AcceptedExactly
accepted_exactly h l long beside trace by =
    let g = call_goes h l long beside trace by in (
      λ e. (reverse g.stopped.events, accepted_whole h l long beside trace by e ∙ ap spell_all (sym (reverse-reverse g.stopped.events)), g.stopped.written),
      λ x. subst (λ (k : List ℕ). (audit_of k h l).says ≡ accepted) (sym x.1) (written_accepted h l long beside x.0 x.2),
    )

pub accepted_written : AcceptedWritten
accepted_written h l long beside trace by e =
    let g = call_goes h l long beside trace by in (
      asked_all (clearing seats h l).left g.stopped.events,
      ap (λ (m : Moment). trace_of m.history) g.asks ∙ ap spell_all (reverse-reverse g.stopped.events) ∙ sym (accepted_whole h l long beside trace by e),
      ap (λ (m : Moment). m.state.held) g.asks,
      ap (λ (m : Moment). m.state.released) g.asks,
    )

pub refused_never : RefusedNever
refused_never h l long beside trace by at e = let g = tables_hold h l long beside trace by in go g.stopped.spelt g.stopped.written g.stopped.stops e
  where
    go : {es : List Event} {rest : List ℕ} {x : AuditSaid} → trace ≡ spell_all es ++ rest → Written (reverse es) → Stop es rest x → x ≡ refused 40 at → Unwritable trace at
    go s w (whole r) e = absurd (clash (cc))
    go s w (unread {k} c) e = let z : k ≡ 40 = cc in absurd (omega (arith, no_event_number c))
    go {es} {rest} s w (barred {e} {n} r no_way) q =
        let there : length (spell_all es) ≡ at = cc in
        let behind : drop at trace ≡ rest = ap₂ drop (sym there) s ∙ drop-append_seam (spell_all es) rest in
        let f = event_only rest (subst Bytes behind (bytes_rest at trace by)) r in
        let front : take (at + n) trace ≡ spell_all es ++ spell e = ap₂ take (ap (λ (k : ℕ). k + n) (sym there)) s ∙ take-append-add (spell_all es) rest n ∙ ap (λ (k : List ℕ). spell_all es ++ k) f.spelt in
        record {
          event_there = e;
          bytes = n;
          reads = ap read_at behind ∙ r;
          never = λ h' l' qs after c p.
              let cut : Stopped (trace_of (run seats h' l' qs).history) (refused 40 (length (spell_all es))) = record {
                events = es;
                rest = spell e ++ after;
                spelt = p ∙ ap (λ (k : List ℕ). k ++ after) front ∙ append_assoc (spell_all es) (spell e) after;
                written = w;
                stops = barred (event_back e after f.proper) no_way;
              } in
              let z = one_answer (whole_stopped (written_run h' l' qs c)) cut in
              clash (cc);
        }

pub accepted_no_ring : AcceptedNoRing
accepted_no_ring h l long beside trace by e =
    no_ring (told_by trace) (written_lawful (subst Written (sym (accepted_told h l long beside trace by e)) (call_goes h l long beside trace by).stopped.written))

pub accepted_ordered : AcceptedOrdered
accepted_ordered h l long beside trace by e table list p =
    let (past, a, r) = (ring_exactly trace table list by).0 p in
    let (es, b, q) = walk_whole by a.walked in
    let whole-trace : trace ≡ spell_all es = b.spelt ∙ append-nil (spell_all es) in
    let told : told_by trace ≡ past = ap told_by whole-trace ∙ ap (λ (r : Read). reverse r.events) (spelled_reads (near_all b.near)) ∙ sym q in
    accepted_no_ring h l long beside trace by e (subst (λ (k : History). Ring (Before Accesses k)) (sym told) r)

pub contents_nothing : ContentsNothing
contents_nothing trace h l h' l' a b c d =
    audit_checks trace h l a b ∙ ap (λ (o : ClearOutcome). tables (check_from trace o.left)) same ∙ sym (audit_checks trace h' l' c d)
  where
    same : clearing seats h l ≡ clearing seats h' l'
    same = audit_clears h l a b ∙ ap₂ (λ (x y : List ℕ). clear_outcome cleared (state x y (free_desk seats))) (zeros_same h h' (a ∙ sym c)) (zeros_same l l' (b ∙ sym d)) ∙ sym (audit_clears h' l' c d)

pub other_length : OtherLength
unfolding audit_of
other_length trace h l n =
    either (λ (c : Call). c ≡ call (refused 1 0) h l) (not (length h == records)) (λ a. refl) (λ a.
    either (λ (c : Call). c ≡ call (refused 1 0) h l) (not (length l == records)) (λ b. refl) (λ b. absurd (n (eqb-true _ _ (not-false _ a), eqb-true _ _ (not-false _ b)))))

pub refused_1_exactly : OtherLengthExactly
refused_1_exactly trace h l by = (λ e k. met ((says_exactly h l k.0 k.1 trace by (refused 1 0)).0 e).stops refl, λ n. ap (λ (c : Call). c.says) (other_length trace h l n))
  where
    met : {es : List Event} {rest : List ℕ} {x : AuditSaid} → Stop es rest x → x ≡ refused 1 0 → ⊥
    met (whole r) e = clash (cc)
    met (unread {k} c) e = let z : k ≡ 1 = cc in omega (arith, no_event_number c)
    met (barred r n) e = let z : ◌≡◌ {A = ℕ} 40 1 = cc in omega arith
