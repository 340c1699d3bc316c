-- Bits of words and elements of lists after a store, as `↔`.
use Rattle.std.specs.Prelude.{ℕ, ◌<◌, ◌≡◌, true, ◌≢◌, ◌↔◌, ◌⊎◌, List, map, length, set, slice_index, slice_index_or}
use Rattle.std.proofs.Common.{inl, inr, ⊎_elim, eqb-true, eq-eqb, get_or-set_same, get_or-set_other}
use Rattle.std.proofs.Math.Logic.Iff
use Rattle.std.proofs.Math.Decide.{ℕ_discrete}
use Rattle.words.specs.Tests.{or_iff, and_iff, not_iff, eqb_iff}
use Rattle.words.specs.Word.{has, with, without}
use Rattle.words.specs.WordLaws.{has-with, has-without, map-without}

-- what holds of the new element at i, and of the old ones elsewhere, holds after a store at i
pub stored : {A : Type 0} (l : List A) (d : A) (i : ℕ) (a : A) (F : A → Type 0) → i < length l → (x : ℕ) → (x ≡ i → F a) → (x ≢ i → F (slice_index_or l x d)) → F (slice_index_or (set l i a) x d)
stored l d i a F lt x f g = go (ℕ_discrete x i)
  where
    go : Dec (x ≡ i) → F (slice_index_or (set l i a) x d)
    go (yes e) = rw e (rw get_or-set_same (f e))
    go (no n) = rw get_or-set_other (g n)

-- bit u of a word with bit s set
pub with_iff : (w s u : ℕ) → (has (with w s) u ≡ true) ↔ ((has w u ≡ true) ⊎ (u ≡ s))
with_iff w s u = rw (has-with w s u) (λ e. ⊎_elim inl (λ p. inr (eqb-true u s p)) ((or_iff _ _).0 e), λ x. (or_iff _ _).1 (⊎_elim inl (λ p. inr (eq-eqb u s p)) x))

-- bit u of a word with bit s clear
pub without_iff : (w s u : ℕ) → (has (without w s) u ≡ true) ↔ ((u ≢ s) × (has w u ≡ true))
without_iff w s u = rw (has-without w s u) (simp (and_iff, not_iff, eqb_iff) (λ x. (x.1, x.0), λ x. (x.1, x.0)))

-- bit u of word q after bit s of word a is set
pub marked : (l : List ℕ) (a s : ℕ) → a < length l → (q u : ℕ) → ((has (slice_index l q) u ≡ true) ⊎ ((q ≡ a) × (u ≡ s))) ↔ (has (slice_index (set l a (with (slice_index l a) s)) q) u ≡ true)
marked l a s lt q u =
    stored l 0 a (with (slice_index l a) s) (λ w. ((has (slice_index l q) u ≡ true) ⊎ ((q ≡ a) × (u ≡ s))) ↔ (has w u ≡ true)) lt q
    (λ e. (⊎_elim (λ x. (with_iff _ s u).1 (inl (rw e at x))) (λ x. (with_iff _ s u).1 (inr x.1)), λ x. ⊎_elim (λ y. inl (rw e y)) (λ y. inr (e, y)) ((with_iff (slice_index l a) s u).0 x)))
    (λ n. (⊎_elim (λ x. x) (λ x. absurd (n x.0)), inl))

-- bit u of word q after bit s of every word is cleared
pub wiped : (l : List ℕ) (s q u : ℕ) → ((u ≢ s) × (has (slice_index l q) u ≡ true)) ↔ (has (slice_index (map (λ w. without w s) l) q) u ≡ true)
wiped l s q u = rw (map-without l s q) (Iff.symm (without_iff (slice_index l q) s u))
