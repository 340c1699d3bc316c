-- The scratch rows after an event say what the accesses with that event's say.
use Rattle.std.specs.Prelude.{◌==◌}
use Rattle.std.proofs.Common.{◌≡◌, refl, sym, ap, ap₂, ◌∙◌, Bool, true, false, not, ◌&&◌, ◌||◌, List, [], ◌∷◌, ℕ, ◌+◌, ◌-◌, ◌*◌, ◌<◌, arith, eq-eqb, ne_eqb, eqb-true, replicate}
use Rattle.std.proofs.Math.Bool.{and-true, and-false}
use Rattle.std.proofs.Math.Decide.{ℕ_discrete}
use Rattle.std.proofs.lemmas.List.{length-replicate}
use Rattle.words.specs.Tests.{same_test, and_iff}
use Rattle.words.specs.Rows.{bit, with_bit, without_bit, or_words}
use Rattle.words.specs.RowLaws.{bit-with, bit-without, with-length, without-length, or_length, bit_or_in, bit_or_out, zeros_bit}
use Rattle.trace.specs.Limits.{records}
use Rattle.order.specs.declared.Rows.{Rows}
use Rattle.order.specs.Limits.{tickets, table_words}
use Rattle.order.specs.Counting.{In}
use Rattle.order.specs.Befores.{Access, access, accessed, some_access, before}
use Rattle.order.specs.BeforeLaws.{before_self}
use Rattle.order.specs.Scratch.{Tells, Takes, accessors_long, has_ticket, has_accessor, has_before}

-- before the first event
pub tells_none : Tells [] (record { accessors = replicate accessors_long 0; befores = replicate table_words 0; due = replicate 8 0 })
unfolding accessed some_access before
tells_none =
    record {
      long_accessors = length-replicate {A = ℕ} accessors_long 0;
      befores_long = length-replicate {A = ℕ} table_words 0;
      due_long = length-replicate {A = ℕ} 8 0;
      accessors_say = λ i r h l. zeros_bit accessors_long (tickets * r + (i - 1));
      befores_say = λ i j h k. zeros_bit table_words (tickets * (j - 1) + (i - 1));
      due_say = λ i h. zeros_bit 8 (i - 1);
    }

-- two tickets have the same bit
pub same_ticket : (i t : ℕ) → In tickets i → In tickets t → (i - 1) == (t - 1) ≡ t == i
same_ticket i t hi ht =
    same_test ((i - 1) == (t - 1)) (t == i)
    (λ p. let e = eqb-true (i - 1) (t - 1) p in eq-eqb t i (omega arith)) (λ p. let e = eqb-true t i p in eq-eqb (i - 1) (t - 1) (omega arith))

-- two bits of rows are the same
same_bit : (i t q r : ℕ) → In tickets i → In tickets t → (tickets * q + (i - 1)) == (tickets * r + (t - 1)) ≡ (t == i && r == q)
same_bit i t q r hi ht =
    same_test ((tickets * q + (i - 1)) == (tickets * r + (t - 1))) (t == i && r == q)
    (λ p.
    let e = eqb-true (tickets * q + (i - 1)) (tickets * r + (t - 1)) p in
    (and_iff (t == i) (r == q)).1 (eq-eqb t i (omega arith), eq-eqb r q (omega arith)))
    (λ p.
    let both = (and_iff (t == i) (r == q)).0 p in
    let e = eqb-true t i both.0 in
    let f = eqb-true r q both.1 in
    eq-eqb (tickets * q + (i - 1)) (tickets * r + (t - 1)) (omega arith))

nothing : (b e f g : Bool) → (b && not (e && false)) ≡ (b || (not f && (false && g)))
nothing true true f g = refl
nothing true false f g = refl
nothing false e true g = refl
nothing false e false g = refl

module _ {ts : List Access} {rows : Rows} (told : Tells ts rows) (t r : ℕ) (ht : In tickets t) (hr : r < records) where
  accessors_after : (i q : ℕ) → In tickets i → q < records → has_accessor (with_bit rows.accessors (tickets * r + (t - 1))) i q ≡ accessed (access t r ∷ ts) i q
  unfolding accessed
  accessors_after i q hi hq =
      bit-with rows.accessors (tickets * r + (t - 1)) (tickets * q + (i - 1)) (omega (arith, told.long_accessors))
      ∙ ap₂ ◌||◌ (told.accessors_say i q hi hq) (same_bit i t q r hi ht)

  due_after : (i : ℕ) → In tickets i → has_ticket (with_bit rows.due (t - 1)) i ≡ some_access (access t r ∷ ts) i
  unfolding some_access
  due_after i hi =
      bit-with rows.due (t - 1) (i - 1) (omega (arith, told.due_long))
      ∙ ap₂ ◌||◌ (told.due_say i hi) (same_ticket i t hi ht)

  -- the befores with the accessors of r joined to t's row
  abbrev joined : List ℕ
  joined = or_words 8 rows.befores (8 * (t - 1)) rows.accessors (8 * r)

  own_row : (i : ℕ) → In tickets i → bit joined (tickets * (t - 1) + (i - 1)) ≡ (before ts i t || accessed ts i r)
  own_row i hi =
      let e : tickets * (t - 1) + (i - 1) ≡ 32 * (8 * (t - 1)) + (i - 1) = omega arith in
      let g : tickets * r + (i - 1) ≡ 32 * (8 * r) + (i - 1) = omega arith in
      ap (bit (or_words 8 rows.befores (8 * (t - 1)) rows.accessors (8 * r))) e
      ∙ bit_or_in 8 rows.befores (8 * (t - 1)) rows.accessors (8 * r) (i - 1) (omega (arith, told.befores_long)) (omega arith)
      ∙ ap₂ ◌||◌ (ap (bit rows.befores) (sym e) ∙ told.befores_say i t hi ht) (ap (bit rows.accessors) (sym g) ∙ told.accessors_say i r hi hr)

  other_row : (i j : ℕ) → In tickets i → In tickets j → (j ≡ t → ⊥) → bit joined (tickets * (j - 1) + (i - 1)) ≡ before ts i j
  other_row i j hi hj ne =
      bit_or_out 8 rows.befores (8 * (t - 1)) rows.accessors (8 * r) (tickets * (j - 1) + (i - 1)) (λ p q. omega arith) ∙ told.befores_say i j hi hj

  befores_after : (i j : ℕ) → In tickets i → In tickets j → has_before (without_bit joined (tickets * (t - 1) + (t - 1))) i j ≡ before (access t r ∷ ts) i j
  unfolding before
  befores_after i j hi hj =
      bit-without joined (tickets * (t - 1) + (t - 1)) (tickets * (j - 1) + (i - 1)) (omega (arith, told.befores_long, or_length 8 rows.befores (8 * (t - 1)) rows.accessors (8 * r)))
      ∙ ap (λ (x : Bool). bit joined (tickets * (j - 1) + (i - 1)) && not x) (same_bit i t (j - 1) (t - 1) hi ht)
      ∙ go (ℕ_discrete j t) (ℕ_discrete i t)
    where
      go : Dec (j ≡ t) → Dec (i ≡ t)
          → (bit joined (tickets * (j - 1) + (i - 1)) && not (t == i && (t - 1) == (j - 1))) ≡ (before ts i j || (not (i == j) && (t == j && accessed ts i r)))
      go (no nj) di =
          ap₂ (λ (x y : Bool). x && not (t == i && y)) (other_row i j hi hj nj) (ne_eqb (t - 1) (j - 1) (λ e. nj (omega arith)))
          ∙ nothing (before ts i j) (t == i) (i == j) (accessed ts i r)
          ∙ ap (λ (x : Bool). before ts i j || (not (i == j) && (x && accessed ts i r))) (sym (ne_eqb t j (λ e. nj (sym e))))
      go (yes ej) (yes ei) =
          ap₂ (λ (x y : Bool). bit joined (tickets * (j - 1) + (i - 1)) && not (x && y)) (eq-eqb t i (sym ei)) (eq-eqb (t - 1) (j - 1) (omega arith))
          ∙ and-false (bit joined (tickets * (j - 1) + (i - 1)))
          ∙ sym (ap₂ (λ (x y : Bool). x || (not y && (t == j && accessed ts i r))) (ap (before ts i) (ej ∙ sym ei) ∙ before_self ts i) (eq-eqb i j (ei ∙ sym ej)))
      go (yes ej) (no ni) =
          ap₂ (λ (x y : Bool). x && not (y && (t - 1) == (j - 1))) (ap (λ (y : ℕ). bit joined (tickets * (y - 1) + (i - 1))) ej ∙ own_row i hi) (ne_eqb t i (λ e. ni (sym e)))
          ∙ and-true (before ts i t || accessed ts i r)
          ∙ sym (ap₂ (λ (x : Bool) (y : ℕ). before ts i y || (not x && (t == y && accessed ts i r))) (ne_eqb i j (λ e. ni (e ∙ ej))) ej
          ∙ ap (λ (x : Bool). before ts i t || (x && accessed ts i r)) (eq-eqb t t refl))

  -- an access of r by t: r's accessors join t's befores but for t itself, t joins r's accessors, and t has an access
  tells-access :
      Tells (access t r ∷ ts) (record { accessors = with_bit rows.accessors (tickets * r + (t - 1)); befores = without_bit joined (tickets * (t - 1) + (t - 1)); due = with_bit rows.due (t - 1) })
  tells-access =
      record {
        long_accessors = with-length rows.accessors (tickets * r + (t - 1)) ∙ told.long_accessors;
        befores_long = without-length joined (tickets * (t - 1) + (t - 1)) ∙ or_length 8 rows.befores (8 * (t - 1)) rows.accessors (8 * r) ∙ told.befores_long;
        due_long = with-length rows.due (t - 1) ∙ told.due_long;
        accessors_say = accessors_after;
        befores_say = befores_after;
        due_say = due_after;
      }

-- the same, of rows that the code has changed
pub noted : {rows : Rows} {accessors joined befores due : List ℕ} {t r : ℕ}
    → joined ≡ or_words 8 rows.befores (8 * (t - 1)) rows.accessors (8 * r) → befores ≡ without_bit joined (tickets * (t - 1) + (t - 1))
    → accessors ≡ with_bit rows.accessors (tickets * r + (t - 1)) → due ≡ with_bit rows.due (t - 1) → In tickets t → r < records
    → Takes (λ ts. access t r ∷ ts) rows (record { accessors = accessors; befores = befores; due = due })
noted {t = t} {r = r} j b c d ht hr ts told = rw (c, b, j, d) (tells-access told t r ht hr)
