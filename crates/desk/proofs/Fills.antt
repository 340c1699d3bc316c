-- A table filled with zeros.
use Rattle.std.proofs.Common.{◌≡◌, ℕ, List, map, length, replicate, refl}
use Rattle.std.proofs.lemmas.Simd.{splat_is_map}

pub map_zero : (t : List ℕ) → replicate {A = ℕ} (length t) 0 ≡ map (λ (w : ℕ). 0) t
map_zero t = splat_is_map t (length t) 0 refl
