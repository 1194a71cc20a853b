-- The table of the records of a region. No public clause cites this module.
use Rattle.std.specs.Prelude.{◌≡◌, ◌≢◌, ℕ, ◌+◌, ◌-◌, ◌<◌, ◌≤◌, List, length, All, AllPairs, Option, None, slice_index_or}
use Rattle.asg_pool.specs.declared.links.Link.{Link}

-- for how many records there is memory, how many that were freed are free still, and what each
-- record has
pub record Table : Type 0 where
  pub room : ℕ
  pub vacant : ℕ
  pub slots : List (Option Link)

-- the record at a place
abbrev pub link_at : List (Option Link) → ℕ → Option Link
link_at slots k = slice_index_or slots k None

-- how many more records there is memory for
abbrev pub spare_of : Table → ℕ
spare_of L = L.vacant + (L.room - length L.slots)

-- rooms are below this, so that the number of each record and the length of each list fit in 32
-- bits
abbrev pub most_room : ℕ
most_room = 4294967294

-- different places of the table, all free
pub record AreVacant (slots : List (Option Link)) (vacant : List ℕ) : Type 0 where
  pub below : All (λ k. k < length slots) vacant
  pub free : All (λ k. link_at slots k ≡ None) vacant
  pub apart : AllPairs ◌≢◌ vacant
  pub few : length vacant ≤ length slots

-- the table and the list of its free places stand within the memory taken
pub record IsTable (room : ℕ) (slots : List (Option Link)) (vacant : List ℕ) (slots_room vacant_room : ℕ) : Type 0 where
  pub most : room ≤ most_room
  pub used : length slots ≤ room
  pub slots_fit : room ≤ slots_room
  pub vacant_fit : room ≤ vacant_room
  pub free : AreVacant slots vacant
