-- Lengths and offsets fit the value of an answer.
use Rattle.std.proofs.Common.{◌≡◌, sym, ap, ◌∙◌, ℕ, List, ◌<◌}
use Rattle.std.specs.Prelude.{Result, Ok, Err, Option, Some}
use Rattle.words.specs.Parts.{Bytes}
use Rattle.trace.specs.Answers.{reading_said, writing_said}
use Rattle.trace.specs.Events.{read_at, Wrote, wrote, write_at}
use Rattle.trace.specs.declared.Event.{Event}
use Rattle.trace.specs.declared.Fault.{Fault}
use Rattle.order.specs.Answers.{Call, called, order_said, offset}
use Rattle.order.specs.Order.{order_of}
use Rattle.order.specs.declared.Refusal.{Refusal}
use Rattle.saltlicker.specs.CallLaws.{read_small, written_small, offset_small}

-- the length of an event that is read
pub read_fits : (rest : List ℕ) {x : Result (Option (Event × ℕ)) Fault} (f : Event) (n : ℕ) → Bytes rest → reading_said x ≡ read_at rest → x ≡ Ok (Some (f, n)) → n < 4294967296
read_fits rest f n by a p = read_small rest by (sym a ∙ ap reading_said p)

-- of one that is written
pub written_fits : (room : List ℕ) (e : Event) {x : Result ℕ Fault} {out : List ℕ} {n : ℕ} → x ≡ Ok n → wrote x out ≡ write_at e room → n < 4294967296
written_fits room e p q = written_small e room (sym (ap (λ (w : Wrote). w.says) q) ∙ ap writing_said p)

-- the offset of an order that is refused
pub offset_fits : (trace table list : List ℕ) {x : Result ℕ Refusal} {why : Refusal} {t l : List ℕ} → Bytes trace → called x t l ≡ order_of trace table list → x ≡ Err why → offset why < 4294967296
offset_fits trace table list by a p = offset_small trace table list by (sym (ap (λ (c : Call). c.says) a) ∙ ap order_said p)
