-- The history of a run is lawful, so its befores close no ring, and its trace is listed.
use Rattle.std.specs.Prelude.{ℕ, ◌≤◌, length}
use Rattle.std.proofs.Common.{sym, ap, subst, arith}
use mathlib.Core.List.{reverse, reverse-reverse, Memᴰ}
use Rattle.words.specs.Chains.{Ring}
use Rattle.trace.specs.declared.Event.{Event}
use Rattle.trace.specs.Events.{Wrote}
use Rattle.trace.specs.EventLaws.{write_done}
use Rattle.trace.specs.Causes.{ticket_of}
use Rattle.trace.specs.History.{Accesses, Before}
use Rattle.trace.specs.Traces.{none, fair_each, fair-onto, trace_back}
use Rattle.desk.specs.Limits.{seats}
use Rattle.rules.proofs.Facts.{event_started}
use Rattle.rules.proofs.NoRing.{no_ring}
use Rattle.rules.proofs.JunctionLaws.{junction_ring}
use Rattle.order.specs.Causes.{Near}
use Rattle.order.specs.Order.{OrderList, order_of}
use Rattle.order.specs.WalkLaws.{near_fair, near_onto}
use Rattle.order.specs.Theorems.{spelled_order, each_once, befores_first}
use Rattle.demands.specs.Run.{Moment}
use Rattle.demands.specs.Keeps.{Good}
use Rattle.demands.proofs.Runs.{good_run}
use Rattle.demands.specs.DemandThree.{past, bytes, NoRunRing, NoJunction, EachWritten, TraceReads, TraceListed}

-- in a good moment every ticket is at most the number begun
counted : {n : ℕ} {m : Moment} → Good n m → (e : Event) → Memᴰ e m.history → ticket_of e ≤ m.state.desk.begun
counted G e s = G.sound.reads.seats.counted (ticket_of e) (event_started G.sound.lawful s)

pub demand_three : NoRunRing
demand_three h l fits qs = no_ring (past h l qs) (good_run seats h l qs fits).sound.lawful

pub no_junction : NoJunction
no_junction h l fits qs e = demand_three h l fits qs (subst (λ k. Ring (Before Accesses k)) (sym e) junction_ring)

pub each_written : EachWritten
each_written h l fits qs e s room long = ap (λ (w : Wrote). w.says) (write_done e room (fair_each (good_run seats h l qs fits).fair s) long)

pub trace_reads : TraceReads
trace_reads h l fits qs = trace_back (reverse (past h l qs)) (length (reverse (past h l qs))) (fair-onto (good_run seats h l qs fits).fair none) (omega arith)

pub demand_three_order : TraceListed
demand_three_order h l fits qs table list fit short few =
    let G = good_run seats h l qs fits in
    let n : Near (past h l qs) = near_fair G.fair (λ e s. let k = counted G e s in omega arith) in
    let o = spelled_order (near_onto n Near.none) fit short (subst (λ k. ¬ Ring (Before Accesses k)) (sym (reverse-reverse (past h l qs))) (demand_three h l fits qs)) in
    let list-is = subst (λ k. OrderList k o.0 (order_of (bytes h l qs) table list).list) (reverse-reverse (past h l qs)) o.2 in
    record {
      K = o.0;
      says = o.1;
      names = list-is.every;
      once = each_once list-is;
      zeros = list-is.zeros;
      forward = befores_first list-is;
      may = list-is.may;
      lowest = list-is.lowest_may;
    }
