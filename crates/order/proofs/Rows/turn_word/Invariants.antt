-- After s turns s bits are in the table.
use Rattle.std.proofs.Common.{◌≡◌, ◌*◌, length}
use Rattle.order.specs.Limits.{table_words}
use Rattle.order.specs.Scratch.{Turns}
use Rattle.order.proofs.Rows.turn_word.Given as goal

abbrev pub invariant-loop-s : goal.invariant-loop-s
invariant-loop-s l = record { long : length l.table ≡ table_words; turned : Turns l.self.befores l.initial.table l.table (32 * l.w) l.s }
