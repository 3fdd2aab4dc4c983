-- What passes between a player and where its orders come from.
use Rattle.std.specs.Prelude.{ℕ, Bool, Option}
use Rattle.sacn_replay.specs.declared.orders.PlayOrder.{PlayOrder}
use Rattle.sacn_replay.specs.declared.replay.ReplayCore.{ReplayCore}

-- it waits until a moment, for orders or for none; asks for an order at a reading, and gets one or none; shows what it knows; asks whether no order will come any more
pub data Talk : Type 0 where
  Waited : ℕ → Talk
  Rested : ℕ → Talk
  Asked : ℕ → Option PlayOrder → Talk
  Looked : ReplayCore → Talk
  EndAsked : Bool → Talk
