-- A number behind the first n bytes, as the code reads it: what a ticket and a record are by it.
use Rattle.std.specs.Prelude.{◌≡◌, refl, ◌≢◌, ℕ, ◌+◌, ◌<◌, ◌≤◌, List, length, drop}
use Rattle.std.proofs.Common.{sym, ◌∙◌, arith, drop_of_length-le, eq-eqb, ne_eqb, lt-ltb, le-ltb}
use Rattle.words.specs.Tests.{pick, clash}
use Rattle.trace.specs.Limits.{records}
use Rattle.trace.specs.Answers.{NumberSaid, value, no_value}
use Rattle.trace.specs.Numbers.{after, read_number}
use Rattle.trace.specs.Events.{pair, no_pair, as_ticket, as_record}

-- behind the end no number stands
pub number_past : (n : ℕ) (l : List ℕ) → length l ≤ n → after n (read_number (drop n l)) ≡ no_value 20
unfolding read_number
number_past n l h = rw (drop_of_length-le l h) refl

-- the ticket of an event, by the number behind its kind byte
pub ticket_zero : (x : NumberSaid) {t n : ℕ} → value t n ≡ after 1 x → t ≡ 0 → no_value 23 ≡ as_ticket x
unfolding as_ticket pick
ticket_zero (value u m) {t} {n} e z =
    let same : t ≡ u = cc in
    rw (eq-eqb u 0 (sym same ∙ z)) refl
ticket_zero (no_value k) e z = absurd (clash (cc))

pub ticket_proper : (x : NumberSaid) {t n : ℕ} → value t n ≡ after 1 x → t ≢ 0 → value t n ≡ as_ticket x
unfolding as_ticket pick
ticket_proper (value u m) {t} {n} e z =
    let same : t ≡ u = cc in
    rw (e, ne_eqb u 0 (λ p. z (same ∙ p))) refl
ticket_proper (no_value k) e z = absurd (clash (cc))

pub ticket_none : (x : NumberSaid) {k : ℕ} → no_value k ≡ after 1 x → no_value k ≡ as_ticket x
unfolding as_ticket
ticket_none (value t n) e = absurd (clash (cc))
ticket_none (no_value k) e = e

-- the record of an event of ticket t, by the number behind the first n bytes
pub record_over : (t n : ℕ) (x : NumberSaid) {r m : ℕ} → value r m ≡ after n x → records ≤ r → no_pair 23 ≡ as_record t n x
unfolding as_record pick
record_over t n (value u k) {r} {m} e h =
    let same : r ≡ u = cc in
    rw (le-ltb u records (omega arith)) refl
record_over t n (no_value k) e h = absurd (clash (cc))

pub record_proper : (t n : ℕ) (x : NumberSaid) {r m : ℕ} → value r m ≡ after n x → r < records → pair t r m ≡ as_record t n x
unfolding as_record pick
record_proper t n (value u k) {r} {m} e h =
    let same : r ≡ u = cc in
    let long : m ≡ n + k = cc in
    rw (same, long, lt-ltb u records (omega arith)) refl
record_proper t n (no_value k) e h = absurd (clash (cc))

pub record_none : (t n : ℕ) (x : NumberSaid) {k : ℕ} → no_value k ≡ after n x → no_pair k ≡ as_record t n x
unfolding as_record
record_none t n (value r m) e = absurd (clash (cc))
record_none t n (no_value k) {k = j} e =
    let same : j ≡ k = cc in
    rw same refl

-- with these `search` goes from what is read behind n bytes to the ticket and the record
pub ruleset reads_after = (ticket_zero, ticket_proper, ticket_none, record_over, record_proper, record_none)
