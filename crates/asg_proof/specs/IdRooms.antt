-- Where the ids of a list stand.
use Rattle.std.specs.Prelude.{⊤, ℕ, ◌≤◌, List, take}
use Rattle.asg_proof.specs.declared.row_ids.Room.{Room}
use Rattle.asg_proof.specs.declared.row_ids.Room.TheVariants.{Few, Many}
use Rattle.asg_proof.specs.RowIds.{AreIds}

-- the ids that stand there: the first so many of few, or all of many
abbrev pub ids_in : Room → List ℕ
ids_in (Few count ids) = take count ids
ids_in (Many ids) = ids.items

-- so many are no more than there is room for
abbrev pub IsCounted : Room → Type 0
IsCounted (Few count ids) = count ≤ 7
IsCounted (Many ids) = ⊤

-- the room keeps that, and its ids are such
pub record IsRoom (room : Room) : Type 0 where
  pub counted : IsCounted room
  pub ids : AreIds (ids_in room)
