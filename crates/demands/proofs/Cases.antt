-- Each case of the table holds, most of them by what the definitions say.
use Rattle.std.specs.Prelude.{ℕ, ◌≤◌, ◌≡◌, refl, List, length}
use Rattle.std.proofs.Common.{arith}
use Rattle.words.specs.Tests.{pick}
use Rattle.words.specs.Word.{has, with, without, within}
use Rattle.trace.specs.History.{History}
use Rattle.trace.specs.Numbers.{spell_number, judge, read_third, read_second, read_number}
use Rattle.trace.specs.Events.{as_ticket, as_record, read_ticket, after_ticket, read_pair, of_ticket, of_pair, by_kind, read_at}
use Rattle.desk.specs.Step.{fitting, clearing, begin_step, ruled, about, set_bit, lock_rule, with_lock, lock_step, hold_rule, release_step, gone, finish_step, step}
use Rattle.order.specs.Answers.{ordered}
use Rattle.order.specs.Counting.{all, count, lowest}
use Rattle.order.specs.Listing.{elem, ready, next, places, complete}
use Rattle.order.specs.Befores.{accesses, accessed, some_access, before}
use Rattle.order.specs.Limits.{longest}
use Rattle.order.specs.Walk.{whole, walk_from, walk}
use Rattle.order.specs.Causes.{Fit}
use Rattle.order.specs.Order.{settled, order_of}
use Rattle.order.specs.OrderLaws.{order_settles}
use Rattle.demands.specs.Run.{after_all}
use Rattle.demands.specs.Cases.{All, table}

-- a trace that is walked whole, whatever the table and the list that are lent
settled_so : (trace : List ℕ) {xs : List ℕ} {h : History} {K : ℕ} → length trace ≤ longest → walk trace ≡ whole h
    → (settled (before (accesses h)) (some_access (accesses h))).says ≡ ordered K → (settled (before (accesses h)) (some_access (accesses h))).list ≡ xs
    → (t l : List ℕ) → Fit t l → ((order_of trace t l).says ≡ ordered K) × ((order_of trace t l).list ≡ xs)
settled_so trace short w says list t l f = rw (order_settles (record { fit = f; short = short; walked = w })) (says, list)

-- every case of the table holds
pub cases : All table
unfolding after_all pick fitting clearing begin_step ruled about set_bit lock_rule with_lock lock_step hold_rule release_step gone finish_step step has with without within spell_number judge read_third read_second read_number as_ticket as_record read_ticket after_ticket read_pair of_ticket of_pair by_kind read_at settled complete all elem places next lowest ready count before some_access accessed accesses walk walk_from
cases = ((refl, refl), ((refl, refl), ((refl, refl), ((refl, refl), ((refl, refl), ((refl, refl), ((refl, refl), ((refl, refl), ((refl, refl), ((refl, refl), ((refl, refl), ((refl, refl), ((refl, refl), ((refl, refl), ((refl, refl), ((refl, refl), (refl, (refl, (refl, (settled_so _ (omega arith) refl refl refl, (settled_so _ (omega arith) refl refl refl, (settled_so _ (omega arith) refl refl refl, ((refl, refl), ((refl, refl), ((refl, refl), ((refl, refl), ((refl, refl), (refl, (refl, tt)))))))))))))))))))))))))))))
