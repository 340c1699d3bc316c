-- The events that the desk could write then are exactly those that the trace check allows.
use Prim.Native.Nat.{ℕ, suc, ◌+◌, ◌<◌}
use Rattle.std.specs.Prelude.{◌≡◌, true, ◌⊎◌, slice_index}
use Rattle.std.proofs.Math.Path.{refl, ap}
use Rattle.std.proofs.Common.{sym, subst, ◌∙◌, inl, inr, ⊎_elim, arith}
use Rattle.std.proofs.Math.Bool.{false, not}
use mathlib.Core.List.{List, [], ◌∷◌, ◌++◌, reverse_aux}
use borrow.Author.Tests.{eq-eqb, eqb-true, lt-leb, not-true, not-false}
use Rattle.std.proofs.Math.ListN.{length}
use Rattle.words.specs.Tests.{pick, either, and_iff, which}
use Rattle.words.specs.Word.{has}
use Rattle.trace.specs.Limits.{limit, records}
use Rattle.trace.specs.declared.Event.{Event}
use Rattle.trace.specs.declared.Event.TheVariants.{Started, Granted, Touched, Released, Finished}
use Rattle.trace.specs.History.{History, Starts}
use Rattle.trace.specs.Events.{fair}
use Rattle.trace.specs.EventLaws.{fair_ticket_lem, fair_pair_lem}
use Rattle.trace.specs.Traces.{AllFair, more}
use Rattle.rules.specs.Changes.{Gave, Live}
use Rattle.rules.specs.Rules.{Step, Lawful, and, Holds}
use Rattle.rules.proofs.ReadLaws.{its}
use Rattle.desk.specs.declared.Seat.{Seat}
use Rattle.desk.specs.declared.Request.{Request}
use Rattle.desk.specs.declared.Request.TheVariants.{Begin, Touch, Release, Finish}
use Rattle.desk.specs.Limits.{seats}
use Rattle.desk.specs.Answers.{Said, started, wait, refused, granted, held, touched, released, finished, cleared}
use Rattle.desk.specs.Step.{seat_at, seat_of, begin_step, ruled, about, hold_rule, touch_step, release_step, finish_step, clearing, kind, step}
use Rattle.audit.specs.Audit.{sits, lowest, asked, calls, allows}
use Rattle.demands.specs.Run.{called, record_of, Moment, next, after_all, run}
use Rattle.demands.specs.Keeps.{Good}
use Rattle.demands.proofs.Keeps.{keeps}
use Rattle.demands.specs.DemandTwo.{Sits}
use Rattle.demands.proofs.DemandTwo.{step-judged, live_small}
use Rattle.demands.proofs.AuditLaws.{lowest_passes, lowest-first, started_says, asked-calls}
use Rattle.demands.specs.Tally.{begun_in, ended_in, live_seats, live_one, Tallied}
use Rattle.demands.proofs.Tally.{live_most, one_live, counts, tallied_start}
use Rattle.demands.proofs.Runs.{good_start}
use Rattle.demands.specs.Writable.{Writable, Written, nothing, then, AllowedExactly, WrittenWritable}

-- ---- what the desk writes is writable

-- what an answer to a request calls for could be written then
pub written_writable : WrittenWritable
unfolding begun_in ended_in
written_writable m e G T q c = record {
  fair = newest_fair after.fair;
  lawful = newest after.sound.lawful;
  ticket = λ t s. (counts G T q).ticket t (started_says _ _ _ (subst (λ (d : Event). called (step seats m.state q).says (seat_at m.state.desk (seat_of q)).ticket (record_of q) ≡ d ∷ []) s c)) ∙ ap (λ (k : ℕ). k + 1) T.begun;
  room = λ t s. let k = tally t s in let j = live_most (step seats m.state q).left.desk.seats in let l = after.seats in omega (arith, T.live);
}
  where
    -- the next moment
    later : Moment
    later = record { state = (step seats m.state q).left; history = e ∷ m.history }

    is : next seats m q ≡ later
    is = ap (λ (l : List Event). record { state = (step seats m.state q).left; history = l ++ m.history }) c

    after : Good seats later
    after = subst (Good seats) is (keeps G q)

    newest : {e : Event} {h : History} → Lawful (e ∷ h) → Step h e
    newest (and l s) = s

    newest_fair : {e : Event} {h : List Event} → AllFair (e ∷ h) → fair e ≡ true
    newest_fair (more f a) = f

    tally : (t : ℕ) → Starts t e → live_seats (step seats m.state q).left.desk.seats + ended_in m.history ≡ suc (begun_in m.history)
    tally t s = subst (λ (d : Event). live_seats (step seats m.state q).left.desk.seats + ended_in (d ∷ m.history) ≡ begun_in (d ∷ m.history)) s (subst Tallied is (counts G T q).tally).live

-- ---- what is writable is allowed, and what is allowed is writable

-- not all seats are live, so one is free
free_seat_lem : (l : List Seat) → live_seats l < length l → lowest (λ v. not v.live) l < length l
unfolding lowest live_seats live_one
free_seat_lem [] h = absurd (omega arith)
free_seat_lem (v ∷ l) h =
    either (λ n. n < suc (length l)) (not v.live) (λ e. omega arith) (λ e.
    let k = one_live v (not-false _ e) in let j = free_seat_lem l (omega arith) in omega arith)

module _ {m : Moment} (G : Good seats m) (T : Tallied m) (full : length m.state.held ≡ records) where
  -- the lowest seat of a live change has it
  sitting : (t : ℕ) → Live m.history t → Sits m.state (lowest (sits t) m.state.desk.seats) t
  sitting t live =
      let (s, p) = G.sound.reads.seats.seated t live in
      let lt = live_small m.state s p.0 in
      let k = lowest-first (sits t) m.state.desk.seats s lt ((and_iff _ _).1 (p.0, eq-eqb _ _ p.1)) in
      let b = (and_iff (seat_at m.state.desk (lowest (sits t) m.state.desk.seats)).live _).0 (lowest_passes (sits t) m.state.desk.seats (omega arith)) in
      record { live = b.0; ticket = eqb-true _ _ b.1 }

  -- a request by a seat comes to its kind
  by_kind : (q : Request) → seat_of q < seats → step seats m.state q ≡ kind m.state q
  unfolding step pick
  by_kind q small = rw (G.fits, lt-leb seats (seat_of q) small)

  module _ (s t : ℕ) (p : Sits m.state s t) where
    -- a seat that someone sits at is one of them
    small : s < seats
    small = rw (sym G.seats) (live_small m.state s p.live)

    module _ (r : ℕ) (inside : r < records) (h : Holds m.history t r) where
      -- who holds a record has its held bit, and not its released bit
      held_bit : has (slice_index m.state.held r) s ≡ true
      held_bit = (G.sound.reads.held r s).1 (t, (p.live, p.ticket), h.had)

      unreleased_bit : has (slice_index m.state.released r) s ≡ false
      unreleased_bit = ⊎_elim (λ y. absurd (h.unreleased (its G.sound.reads (λ z. Gave m.history z r) (p.live, p.ticket) ((G.sound.reads.released r s).0 y)))) (λ y. y) (which _)

      -- so it may touch it, and release it
      touch_says : (step seats m.state (Touch s r)).says ≡ touched
      unfolding touch_step about hold_rule ruled pick
      touch_says = rw (by_kind (Touch s r) small, lt-leb (length m.state.held) r (rw full inside), p.live, held_bit, unreleased_bit) refl

      release_says : (step seats m.state (Release s r)).says ≡ released
      unfolding release_step about hold_rule ruled pick
      release_says = rw (by_kind (Release s r) small, lt-leb (length m.state.held) r (rw full inside), p.live, held_bit, unreleased_bit) refl

    -- a live change may finish
    finish_says : (step seats m.state (Finish s)).says ≡ finished
    unfolding finish_step pick
    finish_says = rw (by_kind (Finish s) small, p.live) refl

  -- what could be written is allowed
  writable_allowed : (e : Event) → Writable m.history e → allows m.state e ≡ true
  unfolding begin_step pick
  writable_allowed (Started t) w =
      let next = w.ticket t refl in
      let room = w.room t refl in
      let range = (fair_ticket_lem t).0 w.fair in
      let all = G.seats in
      let s : ℕ = lowest (λ v. not v.live) m.state.desk.seats in
      let small : s < length m.state.desk.seats = free_seat_lem m.state.desk.seats (omega (arith, T.live)) in
      let free : (seat_at m.state.desk s).live ≡ false = not-true _ (lowest_passes (λ v. not v.live) m.state.desk.seats small) in
      let says : (step seats m.state (Begin s)).says ≡ started (m.state.desk.begun + 1) = rw (by_kind (Begin s) (omega arith), free, lt-leb limit m.state.desk.begun (omega (arith, T.begun))) refl in
      ap (calls (Started t)) says ∙ rw (eq-eqb (m.state.desk.begun + 1) t (omega (arith, T.begun))) refl
  writable_allowed (Granted t r) w =
      let a = w.lawful.allowed in
      let inside : r < length m.state.held = rw full ((fair_pair_lem t r).0 w.fair).1 in
      ap (calls (Granted t r)) ((step-judged G (lowest (sits t) m.state.desk.seats) t r (sitting t a.live) inside a.new a.unreleased).granted_if.1 (w.lawful.one, w.lawful.two))
  writable_allowed (Touched t r) w =
      ap (calls (Touched t r)) (touch_says _ t (sitting t w.lawful.allowed.live) r ((fair_pair_lem t r).0 w.fair).1 w.lawful.allowed)
  writable_allowed (Released t r) w =
      ap (calls (Released t r)) (release_says _ t (sitting t w.lawful.allowed.live) r ((fair_pair_lem t r).0 w.fair).1 w.lawful.allowed)
  writable_allowed (Finished t) w = ap (calls (Finished t)) (finish_says _ t (sitting t w.lawful.allowed))

pub allowed_exactly : AllowedExactly
allowed_exactly m G T full e = (λ c. written_writable m e G T (asked m.state e) (asked-calls m.state G.seats e c), writable_allowed G T full e)

-- ---- histories that the desk could have written

-- such a history is lawful, and its events are fair
pub written_lawful : {h : History} → Written h → Lawful h
written_lawful nothing = Lawful.nothing
written_lawful (then w s) = and (written_lawful w) s.lawful

pub written_fair : {h : History} → Written h → AllFair h
written_fair nothing = AllFair.none
written_fair (then w s) = more s.fair (written_fair w)

-- what stood before some events was written too
pub written_before : (es : List Event) {h : History} → Written (reverse_aux es h) → Written h
written_before [] w = w
written_before (e ∷ es) w = older (written_before es w)
  where
    older : {e : Event} {h : History} → Written (e ∷ h) → Written h
    older (then w s) = w

-- and the next of them could be written then
pub written_next : (e : Event) (es : List Event) {h : History} → Written (reverse_aux es (e ∷ h)) → Writable h e
written_next e es w = newest (written_before es w)
  where
    newest : {e : Event} {h : History} → Written (e ∷ h) → Writable h e
    newest (then w s) = s

-- one event is called for, or none
one_or_none : (x : Said) (t r : ℕ) → (called x t r ≡ []) ⊎ ((e : Event) × (called x t r ≡ e ∷ []))
one_or_none (started n) t r = inr (_, refl)
one_or_none granted t r = inr (_, refl)
one_or_none touched t r = inr (_, refl)
one_or_none released t r = inr (_, refl)
one_or_none finished t r = inr (_, refl)
one_or_none held t r = inl refl
one_or_none (wait k) t r = inl refl
one_or_none (refused k) t r = inl refl

-- whatever the desk is asked, it goes on writing such a history
written_after : (m : Moment) (qs : List Request) → Good seats m → Tallied m → Written m.history → Written (after_all seats m qs).history
unfolding after_all
written_after m [] G T w = w
written_after m (q ∷ qs) G T w =
    written_after (next seats m q) qs (keeps G q) (counts G T q).tally
    (⊎_elim (λ c. subst (λ l. Written (l ++ m.history)) (sym c) w) (λ c. subst (λ l. Written (l ++ m.history)) (sym c.1) (then w (written_writable m c.0 G T q c.1))) (one_or_none (step seats m.state q).says _ _))

-- and from a clearing on it writes one
pub written_run : (h l : List ℕ) (qs : List Request) → (clearing seats h l).says ≡ cleared → Written (run seats h l qs).history
written_run h l qs c = written_after (record { state = (clearing seats h l).left; history = [] }) qs (good_start seats h l c) (tallied_start seats h l) nothing
