-- From a clearing on, whatever is asked, the desk keeps what `Good` says.
use Rattle.std.specs.Prelude.{ℕ, zero, suc, ◌≡◌, refl, true, not, replicate, slice_index, slice_index_or}
use Rattle.std.proofs.Common.{◌∙◌, arith}
use mathlib.Core.List.{List, [], ◌∷◌, map}
use Rattle.std.proofs.lemmas.Bool.{not-false}
use Rattle.std.proofs.Math.ListN.{length, length-replicate, length-map, get_or-map}
use Rattle.words.specs.Tests.{either, clash}
use Rattle.words.specs.Word.{has}
use Rattle.words.specs.WordLaws.{has-zero}
use Rattle.trace.specs.Traces.{none}
use Rattle.desk.specs.declared.Request.{Request}
use Rattle.desk.specs.Answers.{cleared}
use Rattle.desk.specs.Step.{State, ClearOutcome, state, free_seat, free_desk, fitting, clearing}
use Rattle.desk.specs.StepLaws.{step_long}
use Rattle.rules.specs.View.{cleared as nothing_yet, Alike}
use Rattle.rules.proofs.SoundLaws.{sound_alike, sound_cleared}
use Rattle.demands.specs.Run.{Moment, next, after_all, run}
use Rattle.demands.specs.Views.{view}
use Rattle.demands.specs.Keeps.{Good}
use Rattle.demands.proofs.Keeps.{keeps}

-- seats of a free record are free, and so is what lies past them
free_seat_lem : (n s : ℕ) → slice_index_or (replicate n free_seat) s free_seat ≡ free_seat
free_seat_lem zero s = refl
free_seat_lem (suc n) zero = refl
free_seat_lem (suc n) (suc s) = free_seat_lem n s

-- no bit is set in a table of zeros
no_bit : (l : List ℕ) (r s : ℕ) → has (slice_index (map (λ (w : ℕ). 0) l) r) s ≡ true → ⊥
no_bit l r s e =
    let f : ℕ → ℕ = λ w. 0 in
    clash (cc (get_or-map f l r 0, has-zero s))

-- the clearing, with nothing in the history
module _ (n : ℕ) (h l : List ℕ) where
  -- what a clearing that is not refused leaves
  left : State
  left = state (map (λ w. 0) h) (map (λ w. 0) l) (free_desk n)

  good_left : fitting (length h) (length l) ≡ true → Good n (record { state = left; history = [] })
  unfolding left
  good_left f = record { sound = sound_alike same sound_cleared; seats = length-replicate n free_seat; fits = simp length-map f; few = omega arith; fair = none }
    where
      same : Alike nothing_yet (view left)
      same = record {
        at = λ s t. (λ x. absurd x, λ y. let e = free_seat_lem n s in clash (cc));
        held = λ r s. (λ x. absurd x, no_bit h r s);
        released = λ r s. (λ x. absurd x, no_bit l r s);
        locked = λ s. (λ x. absurd x, λ y. let e = free_seat_lem n s in clash (cc));
        wake = λ s u. (λ x. absurd x, λ y. let e = free_seat_lem n s in clash (cc (has-zero u)));
        begun = refl;
      }

  pub good_start : (clearing n h l).says ≡ cleared → Good n (record { state = (clearing n h l).left; history = [] })
  unfolding clearing left
  good_start =
      either (λ (o : ClearOutcome). o.says ≡ cleared → Good n (record { state = o.left; history = [] })) (not (fitting (length h) (length l)))
      (λ e p. absurd (clash (cc))) (λ e p. good_left (not-false _ e))

  -- a clearing that is not refused leaves tables as long as they were
  pub cleared_long : (clearing n h l).says ≡ cleared → length (clearing n h l).left.held ≡ length h
  unfolding clearing
  cleared_long =
      either (λ (o : ClearOutcome). o.says ≡ cleared → length o.left.held ≡ length h) (not (fitting (length h) (length l)))
      (λ e p. refl) (λ e p. simp length-map)

-- whatever is asked
pub good_after : {n : ℕ} (m : Moment) (qs : List Request) → Good n m → Good n (after_all n m qs)
unfolding after_all
good_after m [] G = G
good_after m (q ∷ qs) G = good_after (next _ m q) qs (keeps G q)

pub good_run : (n : ℕ) (h l : List ℕ) (qs : List Request) → (clearing n h l).says ≡ cleared → Good n (run n h l qs)
good_run n h l qs c = good_after (record { state = (clearing n h l).left; history = [] }) qs (good_start n h l c)

-- and the tables stay as long as they were
long_after : (n : ℕ) (m : Moment) (qs : List Request) → length (after_all n m qs).state.held ≡ length m.state.held
unfolding after_all
long_after n m [] = refl
long_after n m (q ∷ qs) = long_after n (next n m q) qs ∙ step_long n m.state q

pub long_run : (n : ℕ) (h l : List ℕ) (qs : List Request) → (clearing n h l).says ≡ cleared → length (run n h l qs).state.held ≡ length h
long_run n h l qs c = long_after n (record { state = (clearing n h l).left; history = [] }) qs ∙ cleared_long n h l c
