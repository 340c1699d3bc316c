-- The desk's tests of a lock are the two rules, on the history since the clearing.
use Rattle.std.specs.Prelude.{ℕ, ◌<◌, ◌≡◌, refl, true, ◌↔◌, length}
use Rattle.std.proofs.Common.{sym, inl, inr, ⊎_elim, arith}
use Rattle.std.proofs.Math.Path.{subst}
use mathlib.Core.List.{◌∷◌}
use borrow.Author.Tests.{eq-eqb, lt-leb}
use Rattle.std.proofs.Math.ListN.{get_or-eq_default}
use Rattle.words.specs.Tests.{pick, below, clash, same_test, and_iff, not_iff, not_both}
use Rattle.words.specs.Word.{has}
use Rattle.words.specs.WordLaws.{within_bits, all_eq}
use Rattle.trace.specs.declared.Event.TheVariants.{Granted}
use Rattle.trace.specs.History.{History}
use Rattle.trace.specs.EventLaws.{event_back, one_spelling}
use Rattle.trace.specs.Traces.{fair_each}
use Rattle.desk.specs.declared.Request.TheVariants.{Lock}
use Rattle.desk.specs.Limits.{seats}
use Rattle.desk.specs.Answers.{wait, granted}
use Rattle.desk.specs.Step.{State, Outcome, outcome, grant, free_seat, seat_at, ruled, lock_rule, lock_step, step}
use Rattle.desk.specs.StepLaws.{about_ways, lock_ways}
use Rattle.rules.specs.Changes.{Had, Gave}
use Rattle.rules.specs.Rules.{RuleOne, RuleTwo}
use Rattle.rules.specs.View.{ReleasedByAll, WakeIs}
use Rattle.rules.proofs.ReadLaws.{its, one_exactly, two_exactly}
use Rattle.demands.specs.Run.{Moment}
use Rattle.demands.specs.Views.{view}
use Rattle.demands.specs.Keeps.{Good}
use Rattle.demands.proofs.Keeps.{released_by_all, wake_is}
use Rattle.demands.proofs.Runs.{good_run, long_run}
use Rattle.demands.specs.DemandTwo.{Sits, Judged, LiveSits, GrantedExactly, TracedBack, OneSpelling}

-- ---- the answers

judged_granted : {h : History} {t a : ℕ} → RuleOne (Granted t a ∷ h) → RuleTwo (Granted t a ∷ h) → Judged granted h t a
judged_granted one two = record {
  granted_if = (λ e. (one, two), λ b. refl);
  wait_1_if = (λ e. absurd (clash (cc)), λ n. absurd (n one));
  wait_2_if = (λ e. absurd (clash (cc)), λ b. absurd (b.1 two));
  else_wait = inl refl;
}

judged_one : {h : History} {t a : ℕ} → ¬ RuleOne (Granted t a ∷ h) → Judged (wait 1) h t a
judged_one n = record {
  granted_if = (λ e. absurd (clash (cc)), λ b. absurd (n b.0));
  wait_1_if = (λ e. n, λ b. refl);
  wait_2_if = (λ e. let z : ◌≡◌ {A = ℕ} 1 2 = cc in absurd (omega arith), λ b. absurd (n b.0));
  else_wait = inr (inl refl);
}

judged_two : {h : History} {t a : ℕ} → RuleOne (Granted t a ∷ h) → ¬ RuleTwo (Granted t a ∷ h) → Judged (wait 2) h t a
judged_two one n = record {
  granted_if = (λ e. absurd (clash (cc)), λ b. absurd (n b.1));
  wait_1_if = (λ e. let z : ◌≡◌ {A = ℕ} 2 1 = cc in absurd (omega arith), λ b. absurd (b one));
  wait_2_if = (λ e. (one, n), λ b. refl);
  else_wait = inr (inr refl);
}

-- two words are equal where the same bits are set
bits_eq : (a b : ℕ) → ((u : ℕ) → (has a u ≡ true) ↔ (has b u ≡ true)) → a ≡ b
bits_eq a b f = all_eq a b (λ u. same_test (has a u) (has b u) (f u).0 (f u).1)

-- past the last seat there is none that is live
pub live_small : (st : State) (s : ℕ) → (seat_at st.desk s).live ≡ true → s < length st.desk.seats
live_small st s e = ⊎_elim (λ l. l) (λ l. absurd (clash (cc (get_or-eq_default st.desk.seats free_seat l)))) (below s (length st.desk.seats))

module _ {n : ℕ} {m : Moment} (G : Good n m) (s t a : ℕ) (sits : Sits m.state s t) (inside : a < length m.state.held) (new : ¬ Had m.history t a) (unreleased : ¬ Gave m.history t a) where
  unheld : ¬ (view m.state).held a s
  unheld y = new (its G.sound.reads (λ z. Had m.history z a) (sits.live, sits.ticket) ((G.sound.reads.held a s).0 y))

  ungiven : ¬ (view m.state).released a s
  ungiven y = unreleased (its G.sound.reads (λ z. Gave m.history z a) (sits.live, sits.ticket) ((G.sound.reads.released a s).0 y))

  one : ReleasedByAll (view m.state) a ↔ RuleOne (Granted t a ∷ m.history)
  one = one_exactly G.sound.reads (sits.live, sits.ticket) a G.sound.lawful unheld ungiven

  two : WakeIs (view m.state) s a ↔ RuleTwo (Granted t a ∷ m.history)
  two = two_exactly G.sound.reads (sits.live, sits.ticket) a G.sound.lawful unheld ungiven

  lock_judged : Judged (lock_step m.state s a).says m.history t a
  unfolding lock_step ruled
  lock_judged =
      about_ways (λ (o : Outcome). Judged o.says m.history t a) m.state s a (lock_rule s) o (λ l. absurd (omega arith)) (λ l e. not_both sits.live e) (λ l e.
      lock_ways (λ r. Judged (ruled r m.state o).says m.history t a) s _ _ _ (λ x y. absurd (unheld x)) (λ x y. absurd (unheld x))
      (λ x w. judged_one (λ r. not_both ((within_bits _ _).1 (one.1 r)) w))
      (λ x w v. let k = (and_iff (seat_at m.state.desk s).locked _).0 v in judged_two (one.0 (released_by_all G a w)) (λ r. (not_iff _).0 k.1 (eq-eqb _ _ (bits_eq _ _ (two.1 r k.0)))))
      (λ x w v. judged_granted (one.0 (released_by_all G a w)) (two.0 (wake_is G s a v))))
    where
      o : Outcome
      o = outcome granted (grant m.state s a)

  pub step-judged : Judged (step n m.state (Lock s a)).says m.history t a
  unfolding step pick
  step-judged =
      let small : s < n = subst (λ k. s < k) G.seats (live_small m.state s sits.live) in
      simp (G.fits, lt-leb n s small) lock_judged

-- ---- from a clearing on

pub live_sits : LiveSits
live_sits h l fits qs t =
    let R = (good_run seats h l qs fits).sound.reads in
    (λ x. let (s, p) = R.seats.seated t x in (s, record { live = p.0; ticket = p.1 }), λ x. R.seats.live x.0 t (x.1.live, x.1.ticket))

pub demand_two : GrantedExactly
demand_two h l fits qs s t a sits inside new unreleased =
    step-judged (good_run seats h l qs fits) s t a sits (subst (λ k. a < k) (sym (long_run seats h l qs fits)) inside) new unreleased

pub traced_back : TracedBack
traced_back h l fits qs e s rest = event_back e rest (fair_each (good_run seats h l qs fits).fair s)

pub one_spelling_each : OneSpelling
one_spelling_each k k' e n n' = one_spelling k k'
