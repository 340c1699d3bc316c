-- The bits of the words passed are in the table, and a word without bits has none to turn.
use Rattle.std.proofs.Common.{◌∙◌, arith, rules}
use Rattle.order.proofs.Table.{turned_none, turned-next, turned_skip, turned-all}
use Rattle.order.proofs.Settled.{turned-table}
use Rattle.order.proofs.Rows.fill_table.Goals.{then-word-ne0, else-word-ne0}
use Rattle.order.proofs.Rows.fill_table.Goals as goal

pub loop-w-init : goal.loop-w-init
loop-w-init c = turned_none (rw c.requires at (c.fill.ensures.after (λ y h. search rules)))

pub loop-w-preserved : goal.loop-w-preserved
loop-w-preserved c =
    let filled = c.loop-w.invariant in
    let w = c.loop-w.w in
    elim c.if-word-ne0.branch [ then-word-ne0 v ↦ turned-next w v.table-is (v.turn_word.ensures filled) | else-word-ne0 v ↦ turned-next w v.table-is (turned_skip w v.if-word-ne0.false filled) ]

pub returns : goal.returns
returns c = turned-all c.loop-w.invariant (omega arith) ∙ turned-table _
