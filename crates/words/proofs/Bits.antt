-- Each operation on a word of n bits, as the code computes it; and at 32 bits, as the check writes their width.
use Rattle.std.proofs.Common.{◌≡◌, refl, sym, ℕ, ◌-◌, ◌*◌, ◌%◌, ◌^◌, ◌<◌, ◌≤◌, false, bit_and, bit_or, lt-ltb, le-ltb}
use Rattle.std.proofs.lemmas.Nat.{one_shl}
use Rattle.words.specs.Word.{has, with, put, without}
use Rattle.words.specs.WordLaws.{has_above, without_none}

-- past the width there is no bit
has_past : (n w s : ℕ) → w < 2 ^ n → n ≤ s → false ≡ has w s
has_past n w s h l = sym (has_above n w s h l)

-- a bit is set
put_code : (n w s : ℕ) → s < n → bit_or w (1 * 2 ^ s % 2 ^ n) ≡ put n w s
unfolding put with
put_code n w s h = rw (lt-ltb s n h, one_shl s n h) refl

put_past : (n w s : ℕ) → n ≤ s → w ≡ put n w s
unfolding put
put_past n w s h = rw (le-ltb s n h) refl

-- what is taken away is part of the word
without_code : (n w s : ℕ) → s < n → w - bit_and w (1 * 2 ^ s % 2 ^ n) ≡ without w s
unfolding without
without_code n w s h = rw (one_shl s n h) refl

without_past : (n w s : ℕ) → w < 2 ^ n → n ≤ s → w ≡ without w s
without_past n w s h l = sym (without_none w s (has_above n w s h l))

-- ---- at 32 bits

pub has_past_32 : (w s : ℕ) → w < 4294967296 → 32 ≤ s → false ≡ has w s
has_past_32 = has_past 32

pub put_code_32 : (w s : ℕ) → s < 32 → bit_or w (1 * 2 ^ s % 4294967296) ≡ put 32 w s
put_code_32 = put_code 32

pub put_past_32 : (w s : ℕ) → 32 ≤ s → w ≡ put 32 w s
put_past_32 = put_past 32

pub without_code_32 : (w s : ℕ) → s < 32 → w - bit_and w (1 * 2 ^ s % 4294967296) ≡ without w s
without_code_32 = without_code 32

pub without_past_32 : (w s : ℕ) → w < 4294967296 → 32 ≤ s → w ≡ without w s
without_past_32 = without_past 32

-- with these the functions of a word of 32 bits need no answer
pub ruleset of_32 = (has_past_32, put_code_32, put_past_32, without_code_32, without_past_32)
