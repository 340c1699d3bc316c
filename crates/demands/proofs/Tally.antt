-- The desk keeps the tally.
use Rattle.std.specs.Prelude.{ℕ, zero, suc, ◌+◌, ◌≤◌, ◌<◌, ◌≡◌, true, not, List, [], ◌∷◌, map, set, replicate, nat_le, slice_index, slice_index_or}
use Rattle.std.proofs.Math.Path.{refl}
use Rattle.std.proofs.Math.Bool.{false}
use Rattle.std.proofs.Common.{arith, leb-false}
use Rattle.std.proofs.lemmas.Bool.{not-false}
use Rattle.std.proofs.Math.ListN.{length}
use Rattle.std.proofs.lemmas.List.{length-map}
use Rattle.words.specs.Tests.{pick, either, clash}
use Rattle.trace.specs.Limits.{limit}
use Rattle.desk.specs.declared.Seat.{Seat}
use Rattle.desk.specs.declared.Request.{Request}
use Rattle.desk.specs.declared.Request.TheVariants.{Begin, Lock, Touch, Release, Finish}
use Rattle.desk.specs.Answers.{started, refused, granted}
use Rattle.desk.specs.Step.{Outcome, outcome, free_seat, seat_at, fitting, begin_step, clearing, ruled, about, grant, with_lock, lock_rule, lock_step, hold_rule, touch_step, release_step, left_wake, gone, finish_step, seat_of, kind, step}
use Rattle.desk.specs.StepLaws.{about_ways, lock_ways, hold_ways}
use Rattle.desk.specs.Promises.{clearing_frees}
use Rattle.demands.specs.Run.{Moment, noted}
use Rattle.demands.proofs.Views.{woken}
use Rattle.demands.specs.Keeps.{Good}
use Rattle.demands.specs.Tally.{begun_in, ended_in, live_one, live_seats, Tallied}

-- ---- laws of the count of live seats

-- a live seat counts 1
pub one_live : (v : Seat) → v.live ≡ true → live_one v ≡ 1
unfolding live_one pick
one_live v e = rw e

-- and a free one nothing
pub one_free : (v : Seat) → v.live ≡ false → live_one v ≡ 0
unfolding live_one pick
one_free v e = rw e

-- at most all are live
pub live_most : (l : List Seat) → live_seats l ≤ length l
unfolding live_seats live_one
live_most [] = omega arith
live_most (v ∷ l) = let k = live_most l in either (λ n. n + live_seats l ≤ suc (length l)) v.live (λ e. omega arith) (λ e. omega arith)

-- a seat is put in another's place
live_set : (l : List Seat) (s : ℕ) (v : Seat) → s < length l → live_seats (set l s v) + live_one (slice_index_or l s free_seat) ≡ live_seats l + live_one v
unfolding live_seats
live_set [] s v h = absurd (omega arith)
live_set (w ∷ l) zero v h = omega arith
live_set (w ∷ l) (suc s) v h = let k = live_set l s v (omega arith) in omega arith

-- wakes do not matter
live_woken : (s : ℕ) (l : List Seat) → live_seats (map (left_wake s) l) ≡ live_seats l
unfolding live_seats live_one
live_woken s [] = refl
live_woken s (v ∷ l) = rw (live_woken s l)

-- no seat of a free record is live
live_none : (n : ℕ) → live_seats (replicate n free_seat) ≡ 0
unfolding live_seats live_one pick
live_none zero = refl
live_none (suc n) = let k = live_none n in omega arith

-- ---- the desk keeps the tally

module _ {n : ℕ} {m : Moment} (G : Good n m) (T : Tallied m) where
  -- the outcome o of request q keeps the tally, and starts no other ticket than the next
  pub record Counts (q : Request) (o : Outcome) : Type 0 where
    pub tally : Tallied (noted m q o)
    pub ticket : (t : ℕ) → o.says ≡ started t → t ≡ m.state.desk.begun + 1

  -- what changes nothing and calls for no event
  same : {q : Request} {k : ℕ} → Counts q (outcome (refused k) m.state)
  same = record { tally = T; ticket = λ t e. absurd (clash (cc)) }

  -- BEGIN
  counts-begin : (s : ℕ) → s < n → Counts (Begin s) (begin_step m.state s)
  unfolding begin_step begun_in ended_in
  counts-begin s small =
      either (Counts (Begin s)) (seat_at m.state.desk s).live (λ e. same) (λ free.
      either (Counts (Begin s)) (nat_le limit m.state.desk.begun) (λ e. same) (λ e.
      let new : Seat = record { ticket = m.state.desk.begun + 1; wake = 0; live = true; locked = false } in
      let lt : s < length m.state.desk.seats = rw G.seats small in
      let k = live_set m.state.desk.seats s new lt in
      let a = one_live new refl in
      let b = one_free (seat_at m.state.desk s) free in
      record { tally = record { begun = omega (arith, T.begun); live = omega (arith, T.live) }; ticket = λ t e. cc }))

  -- TOUCH and RELEASE, which leave the desk record as it is
  counts_holding : (s a : ℕ) (q : Request) (o : Outcome) → Counts q o → Counts q (about m.state s a (hold_rule s) o)
  unfolding ruled
  counts_holding s a q o c =
      about_ways (Counts q) m.state s a (hold_rule s) o (λ l. same) (λ l e. same) (λ l e.
      hold_ways (λ r. Counts q (ruled r m.state o)) s _ _ _ (λ x. same) (λ x y. same) (λ x y. c))

  -- a seat that is granted a record is live as before
  live_kept : (v : Seat) (r : ℕ) → live_one (with_lock v r) ≡ live_one v
  unfolding with_lock live_one
  live_kept v r = either (λ w. live_one w ≡ live_one v) v.locked (λ e. refl) (λ e. refl)

  -- LOCK
  counts_lock : (s a : ℕ) → s < n → Counts (Lock s a) (lock_step m.state s a)
  unfolding lock_step ruled begun_in ended_in
  counts_lock s a small =
      about_ways (Counts (Lock s a)) m.state s a (lock_rule s) o (λ l. same) (λ l e. same) (λ inside live.
      lock_ways (λ r. Counts (Lock s a) (ruled r m.state o)) s _ _ _ (λ e d. same) (λ e d. record { tally = T; ticket = λ t e. absurd (clash (cc)) })
      (λ e w. record { tally = T; ticket = λ t e. absurd (clash (cc)) }) (λ e w v. record { tally = T; ticket = λ t e. absurd (clash (cc)) })
      (λ x w v.
      let lt : s < length m.state.desk.seats = rw G.seats small in
      let v : Seat = with_lock (seat_at m.state.desk s) (slice_index m.state.released a) in
      let k = live_set m.state.desk.seats s v lt in
      let j = live_kept (seat_at m.state.desk s) (slice_index m.state.released a) in
      record { tally = record { begun = T.begun; live = omega (arith, T.live) }; ticket = λ t e. absurd (clash (cc)) }))
    where
      o : Outcome
      o = outcome granted (grant m.state s a)

  -- FINISH
  counts-finish : (s : ℕ) → s < n → Counts (Finish s) (finish_step m.state s)
  unfolding finish_step gone begun_in ended_in
  counts-finish s small =
      either (Counts (Finish s)) (not (seat_at m.state.desk s).live) (λ e. same) (λ e.
      let lt : s < length (map (left_wake s) m.state.desk.seats) = rw (length-map, G.seats) small in
      let k = live_set (map (left_wake s) m.state.desk.seats) s free_seat lt in
      let j = live_woken s m.state.desk.seats in
      let a = one_free free_seat refl in
      let b = one_live (slice_index_or (map (left_wake s) m.state.desk.seats) s free_seat) (rw (woken m.state s s) (not-false _ e)) in
      record { tally = record { begun = T.begun; live = omega (arith, T.live) }; ticket = λ t e. absurd (clash (cc)) })

  -- every request
  pub counts : (q : Request) → Counts q (step n m.state q)
  unfolding step touch_step release_step begun_in ended_in
  counts q =
      either (Counts q) (not (fitting (length m.state.held) (length m.state.released))) (λ e. same) (λ e.
      either (Counts q) (nat_le n (seat_of q)) (λ e. same) (λ small. go q (leb-false _ _ small)))
    where
      go : (q : Request) → seat_of q < n → Counts q (kind m.state q)
      go (Begin s) l = counts-begin s l
      go (Lock s a) l = counts_lock s a l
      go (Touch s a) l = counts_holding s a (Touch s a) _ (record { tally = record { begun = T.begun; live = T.live }; ticket = λ t e. absurd (clash (cc)) })
      go (Release s a) l = counts_holding s a (Release s a) _ (record { tally = record { begun = T.begun; live = T.live }; ticket = λ t e. absurd (clash (cc)) })
      go (Finish s) l = counts-finish s l

-- a clearing has the tally
pub tallied_start : (n : ℕ) (h l : List ℕ) → Tallied (record { state = (clearing n h l).left; history = [] })
unfolding begun_in ended_in
tallied_start n h l = record { begun = rw (clearing_frees n h l) refl; live = rw (clearing_frees n h l) (let k = live_none n in omega arith) }
