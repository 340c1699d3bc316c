-- Whatever is turned away is so for a listed cause only: the laws of causes, each of its own crate.
use Rattle.std.proofs.Common.{ap}
use Rattle.trace.specs.CauseLaws.{number_refused, read_refused, write_refused, write_kept}
use Rattle.desk.specs.Limits.{seats}
use Rattle.desk.specs.CauseLaws.{refused_exactly, clearing_refused_exactly}
use Rattle.desk.specs.Promises.{quiet, quiet_keeps, clearing_keeps}
use Rattle.order.specs.Theorems.{causes, unchanged}
use Rattle.demands.specs.DemandOne.{RequestTurnedAway, RequestUnchanged, ClearingTurnedAway, ClearingUnchanged, NumberTurnedAway, ReadingTurnedAway, WritingTurnedAway, WritingUnchanged, OrderTurnedAway, OrderUnchanged}

pub demand_one : RequestTurnedAway
demand_one = refused_exactly seats

pub demand_one_unchanged : RequestUnchanged
demand_one_unchanged st q k e = quiet_keeps seats st q (ap quiet e)

pub clearing_refused : ClearingTurnedAway
clearing_refused = clearing_refused_exactly seats

pub clearing_unchanged : ClearingUnchanged
clearing_unchanged = clearing_keeps seats

pub number-turned_away : NumberTurnedAway
number-turned_away = number_refused

pub reading_turned_away : ReadingTurnedAway
reading_turned_away = read_refused

pub writing_turned_away : WritingTurnedAway
writing_turned_away = write_refused

pub writing_unchanged : WritingUnchanged
writing_unchanged e room k = write_kept e room

pub order_turned_away : OrderTurnedAway
order_turned_away = causes

pub order_unchanged : OrderUnchanged
order_unchanged trace table list by k at = unchanged trace table list by
