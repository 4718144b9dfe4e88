-- Inside: no public contract cites what stands in this file, and no reader has to believe it.
use Rattle.std.specs.Prelude.{ℕ, ◌≡◌, List, length}
use Rattle.std.specs.Borrow.{MutBor}

-- it is the room that was lent, and has its length
pub record SameRoom (room room' : MutBor (List ℕ)) : Type 0 where
  pub lent : room'.ghost_name ≡ room.ghost_name
  pub size : length room'.now ≡ length room.now
