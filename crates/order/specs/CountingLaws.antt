-- Laws of `all`, `count`, `lowest` and `those`, of 1 to n.
use Rattle.std.specs.Prelude.{◌≡◌, refl, Bool, true, false, ◌&&◌, ◌⊎◌, ℕ, zero, suc, ◌+◌, ◌≤◌, List, ◌∷◌}
use Rattle.std.proofs.Common.{sym, ap, ap₂, ◌∙◌, inl, inr, ⊎_elim, arith}
use mathlib.Core.List.Memᴰ
use mathlib.Core.List.{Memᴰ}
use Rattle.std.proofs.Math.Decide.{ℕ_discrete}
use Rattle.words.specs.Tests.{pick, either, which, not_both, and_iff}
use Rattle.order.specs.Counting.{In, Found, all, count, or_else, lowest, those}

-- what holds of all holds of each
pub all_at : (n : ℕ) (f : ℕ → Bool) → all n f ≡ true → (i : ℕ) → In n i → f i ≡ true
unfolding all
all_at zero f h i k = absurd (omega arith)
all_at (suc n) f h i k = let both = (and_iff (all n f) (f (suc n))).0 h in go (all_at n f both.0) both.1 (ℕ_discrete i (suc n))
  where
    go : ((j : ℕ) → In n j → f j ≡ true) → f (suc n) ≡ true → Dec (i ≡ suc n) → f i ≡ true
    go ih l (yes e) = ap f e ∙ l
    go ih l (no e) = ih i (omega arith)

-- what holds of each holds of all
pub all_from : (n : ℕ) (f : ℕ → Bool) → ((i : ℕ) → In n i → f i ≡ true) → all n f ≡ true
unfolding all
all_from zero f h = refl
all_from (suc n) f h = (and_iff (all n f) (f (suc n))).1 (all_from n f (λ i k. h i (omega arith)), h (suc n) (omega arith))

-- what fails of all fails of one
pub all_fails : (n : ℕ) (f : ℕ → Bool) → all n f ≡ false → (i : ℕ) × In n i × (f i ≡ false)
unfolding all
all_fails zero f h = not_both refl h
all_fails (suc n) f h = go (all_fails n f) (which (f (suc n)))
  where
    wider : (i : ℕ) × In n i × (f i ≡ false) → (i : ℕ) × In (suc n) i × (f i ≡ false)
    wider w = let k = w.1 in (w.0, omega arith, w.2)

    go : (all n f ≡ false → (i : ℕ) × In n i × (f i ≡ false)) → (f (suc n) ≡ true) ⊎ (f (suc n) ≡ false) → (i : ℕ) × In (suc n) i × (f i ≡ false)
    go ih (inr p) = (suc n, omega arith, p)
    go ih (inl p) = wider (ih (⊎_elim (λ q. not_both ((and_iff (all n f) (f (suc n))).1 (q, p)) h) (λ q. q) (which (all n f))))

-- `all` looks at 1 to n alone
pub all_ext : (n : ℕ) (f g : ℕ → Bool) → ((i : ℕ) → In n i → f i ≡ g i) → all n f ≡ all n g
unfolding all
all_ext zero f g h = refl
all_ext (suc n) f g h = ap₂ ◌&&◌ (all_ext n f g (λ i k. h i (omega arith))) (h (suc n) (omega arith))

-- ---- how many

-- at most n are counted
pub count_le : (n : ℕ) (f : ℕ → Bool) → count n f ≤ n
unfolding count
count_le zero f = omega arith
count_le (suc n) f = let ih = count_le n f in either (λ (x : ℕ). count n f + x ≤ suc n) (f (suc n)) (λ e. omega arith) (λ e. omega arith)

-- `count` looks at 1 to n alone
pub count_ext : (n : ℕ) (f g : ℕ → Bool) → ((i : ℕ) → In n i → f i ≡ g i) → count n f ≡ count n g
unfolding count
count_ext zero f g h = refl
count_ext (suc n) f g h =
    ap₂ (λ (c : ℕ) (b : Bool). c + pick b 1 0) (count_ext n f g (λ i k. h i (omega arith))) (h (suc n) (omega arith))

-- none is counted where none has it
pub count_none : (n : ℕ) → count n (λ i. false) ≡ 0
unfolding count pick
count_none zero = refl
count_none (suc n) = rw (count_none n)

-- one more has g than f: x
pub count_more : (n : ℕ) (f g : ℕ → Bool) (x : ℕ) → In n x → f x ≡ false → g x ≡ true
    → ((i : ℕ) → In n i → (i ≡ x → ⊥) → f i ≡ g i) → count n g ≡ suc (count n f)
unfolding count pick
count_more zero f g x k fx gx h = absurd (omega arith)
count_more (suc n) f g x k fx gx h = go (λ l. count_more n f g x l fx gx (λ i j ne. h i (omega arith) ne)) (ℕ_discrete x (suc n))
  where
    go : (In n x → count n g ≡ suc (count n f)) → Dec (x ≡ suc n) → count n g + pick (g (suc n)) 1 0 ≡ suc (count n f + pick (f (suc n)) 1 0)
    go ih (yes e) =
        let c : count n f ≡ count n g = count_ext n f g (λ i j. h i (omega arith) (omega arith)) in
        let p : f (suc n) ≡ false = ap f (sym e) ∙ fx in
        let q : g (suc n) ≡ true = ap g (sym e) ∙ gx in
        rw (p, q) (omega arith)
    go ih (no e) =
        let c : count n g ≡ suc (count n f) = ih (omega arith) in
        rw (h (suc n) (omega arith) (omega arith), c) (omega arith)

-- ---- the lowest

-- `lowest` looks at 1 to n alone
pub lowest_ext : (n : ℕ) (f g : ℕ → Bool) → ((i : ℕ) → In n i → f i ≡ g i) → lowest n f ≡ lowest n g
unfolding lowest
lowest_ext zero f g h = refl
lowest_ext (suc n) f g h =
    ap₂ (λ (c : ℕ) (b : Bool). or_else c (pick b (suc n) 0)) (lowest_ext n f g (λ i k. h i (omega arith))) (h (suc n) (omega arith))

-- none has f: 0
pub lowest_none : (n : ℕ) (f : ℕ → Bool) → ((i : ℕ) → In n i → f i ≡ false) → lowest n f ≡ 0
unfolding lowest pick
lowest_none zero f h = refl
lowest_none (suc n) f h = rw (lowest_none n f (λ i k. h i (omega arith)), h (suc n) (omega arith))

-- j has f and none below it: j
pub lowest-is : (n : ℕ) (f : ℕ → Bool) (j : ℕ) → Found n f j → lowest n f ≡ j
unfolding lowest pick
lowest-is zero f j w = let k = w.within in absurd (omega arith)
lowest-is (suc n) f zero w = let k = w.within in absurd (omega arith)
lowest-is (suc n) f (suc j) w =
    let k = w.within in
    go (λ l. lowest-is n f (suc j) (record { within = l; is = w.is; none_below = λ i a b. w.none_below i (omega arith) b })) (ℕ_discrete j n)
  where
    go : (In n (suc j) → lowest n f ≡ suc j) → Dec (j ≡ n) → or_else (lowest n f) (pick (f (suc n)) (suc n) 0) ≡ suc j
    go ih (yes e) =
        let q : f (suc n) ≡ true = ap (λ (x : ℕ). f (suc x)) (sym e) ∙ w.is in
        rw (lowest_none n f (λ i a. w.none_below i (omega arith) (omega arith)), q) (ap suc (sym e))
    go ih (no e) = let k = w.within in rw (ih (omega arith))

find : (n : ℕ) (f : ℕ → Bool) → ((i : ℕ) → In n i → f i ≡ false) ⊎ ((j : ℕ) × Found n f j)
find zero f = inl (λ i k. absurd (omega arith))
find (suc n) f = go (find n f) (which (f (suc n)))
  where
    at_last : ((i : ℕ) → In n i → f i ≡ false) → f (suc n) ≡ false → (i : ℕ) → In (suc n) i → Dec (i ≡ suc n) → f i ≡ false
    at_last h q i k (yes e) = ap f e ∙ q
    at_last h q i k (no e) = h i (omega arith)

    go : ((i : ℕ) → In n i → f i ≡ false) ⊎ ((j : ℕ) × Found n f j) → (f (suc n) ≡ true) ⊎ (f (suc n) ≡ false)
        → ((i : ℕ) → In (suc n) i → f i ≡ false) ⊎ ((j : ℕ) × Found (suc n) f j)
    go (inl h) (inl q) = inr (suc n, record { within = omega arith; is = q; none_below = λ i k l. h i (omega arith) })
    go (inl h) (inr q) = inl (λ i k. at_last h q i k (ℕ_discrete i (suc n)))
    go (inr w) q =
        let l = w.1.within in
        inr (w.0, record { within = omega arith; is = w.1.is; none_below = λ i k b. w.1.none_below i (omega arith) b })

-- either `lowest` is 0 and none has f, or it is the lowest that has
pub lowest_cases : (n : ℕ) (f : ℕ → Bool) → ((lowest n f ≡ 0) × ((i : ℕ) → In n i → f i ≡ false)) ⊎ Found n f (lowest n f)
lowest_cases n f =
    ⊎_elim (λ h. inl (lowest_none n f h, h)) (λ w. inr (rw (lowest-is n f w.0 w.1) w.1)) (find n f)

-- the lowest is at most n
pub lowest_le : (n : ℕ) (f : ℕ → Bool) → lowest n f ≤ n
lowest_le n f = ⊎_elim (λ w. let z = w.0 in omega arith) (λ w. w.within.high) (lowest_cases n f)

-- ---- those that have it

-- each of those has f
pub those_have : (n : ℕ) (f : ℕ → Bool) (x : ℕ) → Memᴰ x (those n f) → f x ≡ true
unfolding those
those_have zero f x m = absurd (Memᴰ.not-nil m)
those_have (suc n) f x m =
    let ih = those_have n f x in either (λ (l : List ℕ). Memᴰ x l → f x ≡ true) (f (suc n)) (first ih) (λ e. ih) m
  where
    first : (Memᴰ x (those n f) → f x ≡ true) → f (suc n) ≡ true → Memᴰ x (suc n ∷ those n f) → f x ≡ true
    first ih e (Memᴰ.head p) = ap f p ∙ e
    first ih e (Memᴰ.tail m) = ih m

-- and each of 1 to n that has f is one of those
pub those-all : (n : ℕ) (f : ℕ → Bool) (x : ℕ) → In n x → f x ≡ true → Memᴰ x (those n f)
unfolding those
those-all zero f x k e = absurd (omega arith)
those-all (suc n) f x k e = go (those-all n f x) (ℕ_discrete x (suc n))
  where
    go : (In n x → f x ≡ true → Memᴰ x (those n f)) → Dec (x ≡ suc n) → Memᴰ x (pick (f (suc n)) (suc n ∷ those n f) (those n f))
    go ih (yes p) = either (Memᴰ x) (f (suc n)) (λ q. Memᴰ.head p) (λ q. not_both (ap f (sym p) ∙ e) q)
    go ih (no p) = either (Memᴰ x) (f (suc n)) (λ q. Memᴰ.tail (ih (omega arith) e)) (λ q. ih (omega arith) e)
