-- The desk's steps on its state are the steps on what the state says, bit by bit.
use Rattle.std.specs.Prelude.{ℕ, suc, ◌+◌, ◌<◌, ◌≡◌, false, ◌≢◌, ◌↔◌, ◌⊎◌, map, length, slice_index, slice_index_or}
use Rattle.std.proofs.Math.Path.{refl}
use Rattle.std.proofs.Common.{sym, ap, subst, ◌∙◌, ⊎_elim, add-one}
use Rattle.std.proofs.Math.Bool.{true}
use Rattle.std.proofs.Math.Logic.Iff
use Rattle.std.proofs.Math.Logic.{inl, inr}
use Rattle.std.proofs.Math.ListN.{get_or-map, length-map}
use Rattle.words.specs.Word.{has}
use Rattle.words.specs.WordLaws.{has-zero, without_none}
use Rattle.desk.specs.declared.Seat.{Seat}
use Rattle.desk.specs.Step.{State, state, free_seat, seat_at, seat_set, left_wake, begun_at, set_bit, gone}
use Rattle.trace.specs.History.{History}
use Rattle.words.specs.Tests.{clash}
use Rattle.rules.specs.View.{Reads, begin, first, again, release, finish, Alike}
use Rattle.demands.proofs.Bits.{stored, without_iff, marked, wiped}
use Rattle.demands.specs.Views.{view}

-- seat x with s out of its wake
pub woken : (st : State) (s x : ℕ) → slice_index_or (map (left_wake s) st.desk.seats) x free_seat ≡ left_wake s (seat_at st.desk x)
woken st s x = subst (λ d. slice_index_or (map (left_wake s) st.desk.seats) x d ≡ left_wake s (seat_at st.desk x))
    (ap (λ w. record { ticket = 0; wake = w; live = false; locked = false }) (without_none 0 s (has-zero s)))
    (get_or-map (left_wake s) st.desk.seats x free_seat)

module _ (st : State) (s : ℕ) (lt : s < length st.desk.seats) where
  -- seat x after a store to seat s
  seat : (v : Seat) (F : Seat → Type 0) (x : ℕ) → (x ≡ s → F v) → (x ≢ s → F (seat_at st.desk x)) → F (seat_at (seat_set st.desk s v) x)
  seat v F x f g = stored st.desk.seats free_seat s v F lt x f g

  -- BEGIN
  pub alike_begin : {h : History} → Reads (view st) h → (seat_at st.desk s).live ≡ false → Alike (begin (view st) s) (view (state st.held st.released (begun_at st.desk s)))
  alike_begin R free = record {
    at = λ x t. seat new (λ z. ((view st).at x t ⊎ ((x ≡ s) × (t ≡ suc st.desk.begun))) ↔ ((z.live ≡ true) × (z.ticket ≡ t))) x
        (λ e. (⊎_elim (λ y. absurd (nobody x e y.0)) (λ y. (refl, add-one _ ∙ sym y.1)), λ y. inr (e, sym y.1 ∙ add-one _)))
        (λ n. (⊎_elim (λ y. y) (λ y. absurd (n y.0)), inl));
    held = λ r u. Iff.rfl;
    released = λ r u. Iff.rfl;
    locked = λ x. seat new (λ z. ((view st).locked x) ↔ (z.locked ≡ true)) x
        (λ e. (λ y. absurd (nobody x e ((R.locked x).0 y).1.0), λ y. absurd (clash (cc))))
        (λ n. Iff.rfl);
    wake = λ x u. seat new (λ z. ((view st).wake x u) ↔ (has z.wake u ≡ true)) x
        (λ e. (λ y. absurd (nobody x e ((R.wake x u).0 y).1.0), λ y. absurd (clash (cc (has-zero u)))))
        (λ n. Iff.rfl);
    begun = sym (add-one _);
  }
    where
      new : Seat
      new = record { ticket = st.desk.begun + 1; wake = 0; live = true; locked = false }

      nobody : (x : ℕ) → x ≡ s → (seat_at st.desk x).live ≡ true → ⊥
      nobody x e y = clash (cc)

  -- a first grant
  pub alike_first : (a : ℕ) → a < length st.held
      → Alike (first (view st) s a) (view (state (set_bit st.held s a) st.released (seat_set st.desk s (record { ticket = (seat_at st.desk s).ticket; wake = slice_index st.released a; live = (seat_at st.desk s).live; locked = true }))))
  unfolding set_bit
  alike_first a la = record {
    at = λ x t. seat new (λ z. (view st).at x t ↔ ((z.live ≡ true) × (z.ticket ≡ t))) x (λ e. rw e Iff.rfl) (λ n. Iff.rfl);
    held = marked st.held a s la;
    released = λ r u. Iff.rfl;
    locked = λ x. seat new (λ z. ((view st).locked x ⊎ (x ≡ s)) ↔ (z.locked ≡ true)) x (λ e. (λ y. refl, λ y. inr e)) (λ n. (⊎_elim (λ y. y) (λ y. absurd (n y)), inl));
    wake = λ x u. seat new (λ z. (((x ≢ s) × (view st).wake x u) ⊎ ((x ≡ s) × (view st).released a u)) ↔ (has z.wake u ≡ true)) x
        (λ e. (⊎_elim (λ y. absurd (y.0 e)) (λ y. y.1), λ y. inr (e, y)))
        (λ n. (⊎_elim (λ y. y.1) (λ y. absurd (n y.0)), λ y. inl (n, y)));
    begun = refl;
  }
    where
      new : Seat
      new = record { ticket = (seat_at st.desk s).ticket; wake = slice_index st.released a; live = (seat_at st.desk s).live; locked = true }

  -- FINISH
  pub alike_finish : Alike (finish (view st) s) (view (gone st s))
  unfolding gone
  alike_finish = record {
    at = λ x t. left (λ z. ((x ≢ s) × (view st).at x t) ↔ ((z.live ≡ true) × (z.ticket ≡ t))) x (λ e. (λ y. absurd (y.0 e), λ y. absurd (clash (cc)))) (λ n. (λ y. y.1, λ y. (n, y)));
    held = λ r u. wiped st.held s r u;
    released = λ r u. wiped st.released s r u;
    locked = λ x. left (λ z. ((x ≢ s) × (view st).locked x) ↔ (z.locked ≡ true)) x (λ e. (λ y. absurd (y.0 e), λ y. absurd (clash (cc)))) (λ n. (λ y. y.1, λ y. (n, y)));
    wake = λ x u. left (λ z. ((x ≢ s) × (u ≢ s) × (view st).wake x u) ↔ (has z.wake u ≡ true)) x
        (λ e. (λ y. absurd (y.0 e), λ y. absurd (clash (cc (has-zero u)))))
        (λ n. (λ y. (without_iff _ s u).1 (y.1, y.2), λ y. let k = (without_iff (seat_at st.desk x).wake s u).0 y in (n, k.0, k.1)));
    begun = refl;
  }
    where
      left : (F : Seat → Type 0) (x : ℕ) → (x ≡ s → F free_seat) → (x ≢ s → F (left_wake s (seat_at st.desk x))) → F (seat_at (gone st s).desk x)
      left F x f g = stored (map (left_wake s) st.desk.seats) free_seat s free_seat F (rw length-map lt) x f (λ n. rw (woken st s) (g n))

-- a later grant
pub alike_again : (st : State) (s a : ℕ) → a < length st.held → Alike (again (view st) s a) (view (state (set_bit st.held s a) st.released st.desk))
unfolding set_bit
alike_again st s a la =
    record { at = λ x t. Iff.rfl; held = marked st.held a s la; released = λ r u. Iff.rfl; locked = λ x. Iff.rfl; wake = λ x u. Iff.rfl; begun = refl }

-- RELEASE
pub alike_release : (st : State) (s a : ℕ) → a < length st.released → Alike (release (view st) s a) (view (state st.held (set_bit st.released s a) st.desk))
unfolding set_bit
alike_release st s a la =
    record { at = λ x t. Iff.rfl; held = λ r u. Iff.rfl; released = marked st.released a s la; locked = λ x. Iff.rfl; wake = λ x u. Iff.rfl; begun = refl }
