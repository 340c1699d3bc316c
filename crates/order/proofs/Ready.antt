-- What the code's tests on rows say of the tickets.
use Rattle.std.specs.Prelude.{slice_index}
use Rattle.std.proofs.Common.{◌≡◌, sym, ap, ◌∙◌, Bool, true, false, not, ◌||◌, List, Option, Some, None, ℕ, ◌+◌, ◌-◌, ◌*◌, ◌^◌, ◌<◌, ◌≤◌, add-one, arith}
use Rattle.std.specs.Option.{MatchOption, unwrap_or}
use Rattle.std.proofs.Math.Bool.{and-false}
use Rattle.words.specs.Tests.{pick, same_test, imp_iff}
use Rattle.words.specs.Rows.{bit, within_words}
use Rattle.words.specs.RowLaws.{within_each, each_within}
use Rattle.order.specs.Limits.{tickets}
use Rattle.order.specs.Counting.{all, count}
use Rattle.order.specs.CountingLaws.{all_at, all_from, lowest-is, lowest_none}
use Rattle.order.specs.Listing.{ready}
use Rattle.order.specs.Scratch.{has_before, has_ticket, ready_in, next_in}

-- eight words within eight words: each ticket of the one is in the other
pub row-all : (rows : List ℕ) (t : ℕ) (row : List ℕ) → ((i : ℕ) → slice_index rows i < 2 ^ 32)
    → within_words 8 rows (8 * t) row ≡ all tickets (λ i. not (bit rows (tickets * t + (i - 1))) || has_ticket row i)
row-all rows t row small = same_test (within_words 8 rows (8 * t) row) (all tickets within) to from
  where
    within : ℕ → Bool
    within i = not (bit rows (tickets * t + (i - 1))) || has_ticket row i

    at : (k : ℕ) → 32 * (8 * t) + k ≡ tickets * t + k
    at k = omega arith

    to : within_words 8 rows (8 * t) row ≡ true → all tickets within ≡ true
    to h = all_from tickets within (λ i k. (imp_iff (bit rows (tickets * t + (i - 1))) (has_ticket row i)).1 (λ p. within_each 8 rows (8 * t) row h (i - 1) (omega arith) (ap (bit rows) (at (i - 1)) ∙ p)))

    from : all tickets within ≡ true → within_words 8 rows (8 * t) row ≡ true
    from h =
        each_within 8 rows (8 * t) row (λ i l. small (8 * t + i))
        (λ k l p.
        let e : k ≡ (k + 1) - 1 = omega arith in
        ap (bit row) e
        ∙ (imp_iff (bit rows (tickets * t + ((k + 1) - 1))) (has_ticket row (k + 1))).0 (all_at tickets within h (k + 1) (omega arith))
        (ap (λ (x : ℕ). bit rows (tickets * t + x)) (sym e) ∙ ap (bit rows) (sym (at k)) ∙ p))

module _ (befores due listed : List ℕ) (j : ℕ) where
  -- a ticket without an access is not ready
  pub ready_idle : {b : Bool} → b ≡ has_ticket due j → b ≡ false → false ≡ ready_in befores due listed j
  unfolding ready_in ready
  ready_idle e h = rw (sym e ∙ h)

  -- nor is one that is listed
  pub ready_listed : {b : Bool} → b ≡ has_ticket listed j → b ≡ true → false ≡ ready_in befores due listed j
  unfolding ready_in ready
  ready_listed e h = rw (sym e ∙ h) (sym (and-false (has_ticket due j)))

  -- any other is if its befores are listed
  pub ready_rest : {r : Bool} → has_ticket due j ≡ true → has_ticket listed j ≡ false
      → r ≡ all tickets (λ i. not (has_before befores i j) || has_ticket listed i) → r ≡ ready_in befores due listed j
  unfolding ready_in ready
  ready_rest e f k = rw (e, f) k

-- the first of the tickets that is ready is the next; where none is there is none
module _ (befores due listed : List ℕ) where
  pub next_first : (r : Option ℕ)
      → MatchOption r ((k : ℕ) → 1 ≤ k → k < tickets + 1 → ready_in befores due listed k ≡ false)
      (λ i. (1 ≤ i) × (i < tickets + 1) × (ready_in befores due listed i ≡ true) × ((k : ℕ) → 1 ≤ k → k < i → ready_in befores due listed k ≡ false))
      → unwrap_or r 0 ≡ next_in befores due listed
  unfolding next_in
  next_first None none = sym (lowest_none tickets (ready_in befores due listed) (λ k l. none k l.low (let h = l.high in omega arith)))
  next_first (Some i) first =
      let low = first.0 in
      let high = first.1 in
      sym (lowest-is tickets (ready_in befores due listed) i (record { within = record { low = low; high = omega arith }; is = first.2; none_below = λ k l b. first.3 k l.low b }))

-- one more ticket is passed in counting
pub count_yes : (t : ℕ) (row : List ℕ) → bit row t ≡ true → count (t + 1) (has_ticket row) ≡ count t (has_ticket row) + 1
unfolding count pick
count_yes t row h = rw (add-one t) (ap (λ (b : Bool). count t (has_ticket row) + pick b 1 0) (ap (has_ticket row) (sym (add-one t)) ∙ ap (bit row) (let e : (t + 1) - 1 ≡ t = omega arith in e) ∙ h))

-- and where it has no bit the count stays
pub count_no : (t : ℕ) (row : List ℕ) → bit row t ≡ false → count (t + 1) (has_ticket row) ≡ count t (has_ticket row)
unfolding count pick
count_no t row h = rw (add-one t) (ap (λ (b : Bool). count t (has_ticket row) + pick b 1 0) (ap (has_ticket row) (sym (add-one t)) ∙ ap (bit row) (let e : (t + 1) - 1 ≡ t = omega arith in e) ∙ h) ∙ omega arith)
