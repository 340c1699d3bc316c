-- A list that a pass goes through: what keeps each element keeps the list, and f of one element or of one part after another is map f of it.
use Rattle.std.proofs.Common.{◌≡◌, ℕ, ◌+◌, ◌-◌, ◌<◌, ◌≤◌, List, [], ◌∷◌, ◌++◌, map, take, drop, set, get_or, length, refl, ap, ap₂, sym, ◌∙◌, append_assoc, drop-drop, append-nil, arith}
use Rattle.std.proofs.lemmas.List.{length-map, length-take-le, take_at, drop_at, map-append}
use Rattle.std.proofs.lemmas.List.Edits.{map_over_more}
use Rattle.std.proofs.Math.Seq.{take-add, take-length, drop-length}
use Rattle.std.specs.List.{All, AllByRecursion}
use Rattle.std.proofs.lemmas.List.Elements.{recursion_from_All}

by_cases : {X : Type 0} (f : X → X) (P : X → Type 0) (xs : List X) → ((x : X) → P x → f x ≡ x) → AllByRecursion P xs → xs ≡ map f xs
by_cases f P [] k h = refl
by_cases f P (x ∷ xs) k h = ap₂ (λ y ys. y ∷ ys) (sym (k x h.0)) (by_cases f P xs k h.1)

pub kept_by_all : {X : Type 0} (f : X → X) (P : X → Type 0) (xs : List X) → ((x : X) → P x → f x ≡ x) → All P xs → xs ≡ map f xs
kept_by_all f P xs k h = by_cases f P xs k (recursion_from_All P xs h)

-- after element i, written over with f of it
pub map_over_word : {X : Type 0} (f : X → X) (xs ys : List X) (i : ℕ) (d v : X) → i < length xs → ys ≡ map f (take i xs) ++ drop i xs → d ≡ get_or ys i d → v ≡ f (get_or ys i d) → set ys i v ≡ map f (take (i + 1) xs) ++ drop (i + 1) xs
map_over_word f xs ys i d v h e is s = rw s (map_over_more f xs ys i (get_or ys i d) h e (ap (get_or ys i) is))

-- after a part of k elements from place a to before place n, each element of it written over with f of it
pub map_over_part : {X : Type 0} (f : X → X) (xs ys zs : List X) (a k n : ℕ) → a ≤ length xs → n ≡ a + k → ys ≡ map f (take a xs) ++ drop a xs → zs ≡ map f (take k (drop a ys)) → take a ys ++ (zs ++ drop k (drop a ys)) ≡ map f (take n xs) ++ drop n xs
map_over_part f xs ys zs a k n h s e z =
    let m : length (map f (take a xs)) ≡ a = length-map (take a xs) f ∙ length-take-le a xs h in
    let front : take a ys ≡ map f (take a xs) = ap (take a) e ∙ take_at (map f (take a xs)) (drop a xs) a m in
    let rest : drop a ys ≡ drop a xs = ap (drop a) e ∙ drop_at (map f (take a xs)) (drop a xs) a m in
    rw (s, z, front, rest, take-add a k xs, map-append f (take a xs) (take k (drop a xs)))
    (sym (append_assoc (map f (take a xs)) (map f (take k (drop a xs))) (drop k (drop a xs))) ∙ ap (λ r. (map f (take a xs) ++ map f (take k (drop a xs))) ++ r) (drop-drop k a xs))

-- the same, where the part goes to the end of the list
pub map_over_rest : {X : Type 0} (f : X → X) (xs ys zs : List X) (a : ℕ) → a ≤ length xs → length ys ≡ length xs → ys ≡ map f (take a xs) ++ drop a xs → zs ≡ map f (take (length ys - a) (drop a ys)) → take a ys ++ (zs ++ drop (length ys - a) (drop a ys)) ≡ map f xs
map_over_rest f xs ys zs a h s e z =
    map_over_part f xs ys zs a (length ys - a) (length xs) h (omega (arith, s, h)) e z
    ∙ ap₂ (λ p q. map f p ++ q) (take-length xs) (drop-length xs) ∙ append-nil (map f xs)

-- with these a pass needs no answer
pub ruleset passes = (map_over_word, map_over_part, map_over_rest)
