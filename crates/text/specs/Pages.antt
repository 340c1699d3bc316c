-- Pages: a buffer that is lent, with the place in it.
use Rattle.std.specs.Prelude.{◌≡◌, List, ℕ}
use Rattle.text.specs.declared.Page.{Page}
use Rattle.text.specs.Places.{Placed, placed, puts}

-- what a page holds, and the place in it
abbrev pub on : Page → Placed
on p = placed p.text.now p.at

-- the page q lends what the page p lent, and the bytes s that are left to put on it come to all of t put on p
abbrev pub Leaves : List ℕ → Page → List ℕ → Page → Type 0
Leaves s q t p = (q.text.ghost_name ≡ p.text.ghost_name) × (puts s (on q) ≡ puts t (on p))

-- the page q lends what the page p lent, and holds what that held with the bytes s put on it
abbrev pub Puts : List ℕ → Page → Page → Type 0
Puts s p q = (q.text.ghost_name ≡ p.text.ghost_name) × (on q ≡ puts s (on p))
