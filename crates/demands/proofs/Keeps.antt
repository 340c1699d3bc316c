-- Every request keeps what the desk keeps.
use Rattle.std.specs.Prelude.{ℕ, ◌+◌, ◌≤◌, ◌<◌, ◌≡◌, refl, Bool, true, false, not, ◌&&◌, ◌≢◌, List, ◌∷◌, ◌==◌, nat_le, slice_index}
use Rattle.std.proofs.Common.{sym, add-one}
use Rattle.std.proofs.Math.Path.{subst}
use Rattle.std.proofs.Math.Logic.Iff
use native.Mathlib.Omega.{arith}
use borrow.Author.Tests.{leb-false, eqb-true, not-false}
use Rattle.std.proofs.Math.ListN.{length, length-set, length-map}
use Rattle.words.specs.Tests.{either, clash}
use Rattle.words.specs.Word.{has, within}
use Rattle.words.specs.WordLaws.{within_bits}
use Rattle.trace.specs.Limits.{limit, records}
use Rattle.trace.specs.declared.Event.TheVariants.{Started, Granted}
use Rattle.trace.specs.History.{History, Starts, Some, now, ago}
use Rattle.trace.specs.Events.{fair, fair_ticket, fair_pair}
use Rattle.trace.specs.EventLaws.{fair_ticket_lem, fair_pair_lem}
use Rattle.trace.specs.Traces.{none, AllFair, more}
use Rattle.desk.specs.declared.Request.{Request}
use Rattle.desk.specs.declared.Request.TheVariants.{Begin, Lock, Touch, Release, Finish}
use Rattle.desk.specs.Answers.{refused, granted}
use Rattle.desk.specs.Step.{Outcome, state, outcome, seat_at, seat_set, fitting, begun_at, begin_step, ruled, about, set_bit, grant, lock_rule, with_lock, lock_step, hold_rule, touch_step, release_step, gone, finish_step, seat_of, kind, step}
use Rattle.desk.specs.StepLaws.{seat_kept, fitting-same, fitting_small, about_ways, lock_ways, hold_ways}
use Rattle.rules.proofs.Facts.{gave_had}
use Rattle.rules.specs.View.{ReleasedByAll, WakeIs}
use Rattle.rules.specs.Sound.{Sound}
use Rattle.rules.proofs.SoundLaws.{sound_alike, sound_begin, sound_first, sound_again, sound_touch, sound_release, sound_finish}
use Rattle.demands.specs.Run.{Moment, noted, next}
use Rattle.demands.specs.Views.{view}
use Rattle.demands.proofs.Views.{alike_begin, alike_first, alike_again, alike_release, alike_finish}
use Rattle.demands.specs.Keeps.{Good}

-- a change that started has a fair ticket
started_fair : {t : ℕ} {h : History} → AllFair h → Some (Starts t) h → fair_ticket t ≡ true
started_fair (more f a) (now e) = subst (λ x. fair x ≡ true) e f
started_fair (more f a) (ago s) = started_fair a s
started_fair none m = elim m [ ]

-- of two tests that fail together the second fails where the first holds
second : (b c : Bool) → b ≡ true → (b && not c) ≡ false → c ≡ true
second true true p e = refl
second true false p e = sym e
second false c p e = absurd (clash (cc))

-- a table keeps its length when a bit is set
long : (t : List ℕ) (s a : ℕ) → length (set_bit t s a) ≡ length t
unfolding set_bit
long t s a = simp length-set

module _ {n : ℕ} {m : Moment} (G : Good n m) where
  -- the outcome o of request q keeps what is good
  record Keeps (q : Request) (o : Outcome) : Type 0 where
    kept : Good n (noted m q o)

  -- what changes nothing and calls for no event
  same : {q : Request} {k : ℕ} → Keeps q (outcome (refused k) m.state)
  same = record { kept = G }

  -- the change at a live seat has a fair ticket
  ticket : (s : ℕ) → (seat_at m.state.desk s).live ≡ true → fair_ticket (seat_at m.state.desk s).ticket ≡ true
  ticket s live = started_fair G.fair (G.sound.reads.seats.live s _ (live, refl)).started

  -- and with a record of the tables a fair pair
  pair : (s a : ℕ) → (seat_at m.state.desk s).live ≡ true → a < length m.state.held → fair_pair (seat_at m.state.desk s).ticket a ≡ true
  pair s a live la = let l : length m.state.held ≤ records = fitting_small _ _ G.fits in (fair_pair_lem (seat_at m.state.desk s).ticket a).1 (ticket s live, omega arith)

  -- ---- BEGIN
  keeps_begin : (s : ℕ) → s < n → Keeps (Begin s) (begin_step m.state s)
  unfolding begin_step
  keeps_begin s small =
      either (Keeps (Begin s)) (seat_at m.state.desk s).live (λ e. same) (λ free.
      either (Keeps (Begin s)) (nat_le limit m.state.desk.begun) (λ e. same) (λ e.
      let lt : s < length m.state.desk.seats = rw G.seats small in
      let room : m.state.desk.begun < limit = leb-false _ _ e in
      record {
        kept = record {
          sound = subst (λ k. Sound (view (state m.state.held m.state.released (begun_at m.state.desk s))) (Started k ∷ m.history)) (sym (add-one _))
              (sound_alike (alike_begin m.state s lt G.sound.reads free) (sound_begin G.sound (λ a y. clash (cc))));
          seats = simp length-set G.seats;
          fits = G.fits;
          few = omega arith;
          fair = more ((fair_ticket_lem (m.state.desk.begun + 1)).1 (omega arith, λ z. omega arith)) G.fair;
        };
      }))

  -- ---- TOUCH and RELEASE, which want the held bit and not the released bit
  keeps_holding : (q : Request) (a : ℕ) (o : Outcome)
      → (a < length m.state.held → (seat_at m.state.desk (seat_of q)).live ≡ true → has (slice_index m.state.held a) (seat_of q) ≡ true → has (slice_index m.state.released a) (seat_of q) ≢ true → Keeps q o)
      → Keeps q (about m.state (seat_of q) a (hold_rule (seat_of q)) o)
  unfolding ruled
  keeps_holding q a o k =
      about_ways (Keeps q) m.state (seat_of q) a (hold_rule (seat_of q)) o (λ l. same) (λ l e. same) (λ l e.
      hold_ways (λ r. Keeps q (ruled r m.state o)) (seat_of q) _ _ _ (λ x. same) (λ x y. same) (λ x y. k l e x (λ z. clash (cc))))

  keeps_touch : (s a : ℕ) → Keeps (Touch s a) (touch_step m.state s a)
  unfolding touch_step
  keeps_touch s a =
      keeps_holding (Touch s a) a _ (λ inside live e d.
      record { kept = record { sound = sound_touch G.sound (live, refl) e d; seats = G.seats; fits = G.fits; few = G.few; fair = more (pair s a live inside) G.fair } })

  keeps_release : (s a : ℕ) → Keeps (Release s a) (release_step m.state s a)
  unfolding release_step
  keeps_release s a =
      keeps_holding (Release s a) a _ (λ inside live e d.
      let beside : a < length m.state.released = rw (fitting-same _ _ G.fits) at inside in
      record {
        kept = record {
          sound = sound_alike (alike_release m.state s a beside) (sound_release G.sound (live, refl) e d);
          seats = G.seats;
          fits = rw (long m.state.released s a) G.fits;
          few = G.few;
          fair = more (pair s a live inside) G.fair;
        };
      })

  -- ---- LOCK

  -- the tests of LOCK on words are the tests on bits
  pub released_by_all : (a : ℕ) → within (slice_index m.state.held a) (slice_index m.state.released a) ≡ true → ReleasedByAll (view m.state) a
  released_by_all a w = (within_bits _ _).0 w

  pub wake_is : (s a : ℕ) → ((seat_at m.state.desk s).locked && not ((seat_at m.state.desk s).wake == slice_index m.state.released a)) ≡ false → WakeIs (view m.state) s a
  wake_is s a e l u = let equal : (seat_at m.state.desk s).wake ≡ slice_index m.state.released a = eqb-true _ _ (second _ _ l e) in rw equal Iff.rfl

  -- a seat without the held bit has not the released bit
  unreleased : (s a : ℕ) → has (slice_index m.state.held a) s ≡ false → ¬ (view m.state).released a s
  unreleased s a e y =
      let R = G.sound.reads in
      let (t, p, g) = (R.released a s).0 y in
      let z = (R.held a s).1 (t, p, gave_had G.sound.lawful g) in
      clash (cc)

  -- a grant, to a seat that passed the tests
  keeps_grant : (s a : ℕ) → s < n → (seat_at m.state.desk s).live ≡ true → a < length m.state.held → has (slice_index m.state.held a) s ≡ false
      → ReleasedByAll (view m.state) a → WakeIs (view m.state) s a
      → Keeps (Lock s a) (outcome granted (grant m.state s a))
  unfolding with_lock
  keeps_grant s a small live inside new all wake =
      record {
        kept = record {
          sound =
              either (λ v. Sound (view (state (set_bit m.state.held s a) m.state.released (seat_set m.state.desk s v))) (Granted (seat_at m.state.desk s).ticket a ∷ m.history)) (seat_at m.state.desk s).locked
              (λ l. subst (λ d. Sound (view (state (set_bit m.state.held s a) m.state.released d)) (Granted (seat_at m.state.desk s).ticket a ∷ m.history)) (sym (seat_kept m.state.desk s refl)) (sound_alike (alike_again m.state s a inside) (sound_again G.sound (live, refl) (λ y. clash (cc)) (unreleased s a new) l all wake)))
              (λ l. sound_alike (alike_first m.state s (rw G.seats small) a inside) (sound_first G.sound (live, refl) (λ y. clash (cc)) (unreleased s a new) (λ y. clash (cc)) all));
          seats = simp length-set G.seats;
          fits = rw (long m.state.held s a) G.fits;
          few = G.few;
          fair = more (pair s a live inside) G.fair;
        };
      }

  keeps_lock : (s a : ℕ) → s < n → Keeps (Lock s a) (lock_step m.state s a)
  unfolding lock_step ruled
  keeps_lock s a small =
      about_ways (Keeps (Lock s a)) m.state s a (lock_rule s) o (λ l. same) (λ l e. same) (λ inside live.
      lock_ways (λ r. Keeps (Lock s a) (ruled r m.state o)) s _ _ _ (λ e d. same) (λ e d. record { kept = G }) (λ e w. record { kept = G }) (λ e w v. record { kept = G })
      (λ new w v. keeps_grant s a small live inside new (released_by_all a w) (wake_is s a v)))
    where
      o : Outcome
      o = outcome granted (grant m.state s a)

  -- ---- FINISH
  keeps_finish : (s : ℕ) → s < n → Keeps (Finish s) (finish_step m.state s)
  unfolding finish_step gone
  keeps_finish s small =
      either (Keeps (Finish s)) (not (seat_at m.state.desk s).live) (λ e. same) (λ e.
      let live = not-false _ e in
      record {
        kept = record {
          sound = sound_alike (alike_finish m.state s (rw G.seats small)) (sound_finish G.sound (live, refl));
          seats = simp (length-set, length-map) G.seats;
          fits = simp length-map G.fits;
          few = G.few;
          fair = more (ticket s live) G.fair;
        };
      })

  -- ---- every request
  pub keeps : (q : Request) → Good n (next n m q)
  unfolding step
  keeps q =
      (either (Keeps q) (not (fitting (length m.state.held) (length m.state.released))) (λ e. same) (λ e.
      either (Keeps q) (nat_le n (seat_of q)) (λ e. same) (λ small. go q (leb-false _ _ small)))).kept
    where
      go : (q : Request) → seat_of q < n → Keeps q (kind m.state q)
      go (Begin s) l = keeps_begin s l
      go (Lock s a) l = keeps_lock s a l
      go (Touch s a) l = keeps_touch s a
      go (Release s a) l = keeps_release s a
      go (Finish s) l = keeps_finish s l
