use Rattle.std.specs.Prelude.{ℕ, ◌-◌, Bool, nat_lt, length, sum_by, count_by, slice_get}
use Rattle.std.specs.Option.{option_map_or}
use Rattle.asg_model.specs.declared.parts.Place.{Place}
use Rattle.asg_model.specs.declared.parts.Place.TheVariants.{All, Exactly}
use Rattle.asg_model.specs.Problem.{Problem}
use Rattle.asg_model.specs.Live.{is_active}

-- the capacity of the column at this place, 0 past the last
abbrev pub capacity_at : Problem → ℕ → ℕ
capacity_at X c = option_map_or (λ column. column.cap) (slice_get X.columns c) 0

-- the capacities of all columns, closed ones too, added up
abbrev pub total_capacity : Problem → ℕ
total_capacity X = sum_by (λ column. column.cap) X.columns

-- the number of active rows
abbrev pub active_count : Problem → ℕ
active_count X = count_by (λ row. row.active) X.rows

-- how many rows the rule places, where there are so many active rows
abbrev pub placed_by : Place → ℕ → ℕ
placed_by All active = active
placed_by (Exactly k) active = k

-- how many rows a valid choice places
abbrev pub placed : Problem → ℕ
placed X = placed_by X.place (active_count X)

-- how many rows the rule counts, of so many active rows among so many rows
abbrev pub counted_by : Place → ℕ → ℕ → ℕ
counted_by All active rows = active
counted_by (Exactly k) active rows = rows

-- the number of counted rows: the active ones where all are placed, else all rows
abbrev pub counted_count : Problem → ℕ
counted_count X = counted_by X.place (active_count X) (length X.rows)

-- how many counted rows a valid choice leaves out
abbrev pub slack : Problem → ℕ
slack X = counted_count X - placed X

-- the rule counts a row that is active or not, and there or not
abbrev pub is_counted_by : Place → Bool → Bool → Bool
is_counted_by All active there = active
is_counted_by (Exactly k) active there = there

-- the row at this place is counted
abbrev pub is_counted : Problem → ℕ → Bool
is_counted X r = is_counted_by X.place (is_active X r) (nat_lt r (length X.rows))
