-- A read puts its bytes behind those that were there.
use Rattle.std.proofs.Common.{◌≡◌, ℕ, ◌+◌, ◌≤◌, List, ◌++◌, length, take, Option, sym, ap, ap₂, ◌∙◌, subst, le_refl, drop_at, length-take-le}
use Rattle.std.proofs.lemmas.Slice.{take-put_mid_below}
use Rattle.std.specs.Io.KnownBytes.{Consumes}
use Rattle.std.proofs.KnownBytes.{Consumes-trans}
use borrow.Rule.Slice.PartMut.{put_mid, post_of}
use lib.Seq.{take-add, take-append-le}

-- the first n of ys, put into xs from place a on, stand behind the first a
behind : (a k n : ℕ) (xs ys : List ℕ) → a ≤ length xs → n ≤ length ys → take (a + n) (put_mid a k xs ys) ≡ take a xs ++ take n ys
behind a k n xs ys within fits =
    take-add a n _
    ∙ ap₂ (λ (l m : List ℕ). l ++ m) (take-put_mid_below a k xs ys a (le_refl _) within)
    (ap (take n) (drop_at (take a xs) (ys ++ post_of a k xs) a (length-take-le a xs within)) ∙ take-append-le n ys _ fits)

-- so two reads, one behind the other, consumed what stands there
pub read_on : (x y z : Option (List ℕ)) (a k n : ℕ) (xs ys : List ℕ) → Consumes x y (take a xs) → Consumes y z (take n ys) → a ≤ length xs → n ≤ length ys
    → Consumes x z (take (a + n) (put_mid a k xs ys))
read_on x y z a k n xs ys p q within fits = subst (Consumes x z) (sym (behind a k n xs ys within fits)) (Consumes-trans _ _ _ _ _ p q)
