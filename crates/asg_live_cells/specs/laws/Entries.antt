-- Entries of live cells, and places among them.
use Rattle.std.proofs.Common.{◌≡◌, ℕ, ◌+◌, ◌<◌, ◌≤◌, ◌⊎◌, inl, inr, ⊎_elim, ◌∙◌, arith, List, length, Some, Contains}
use Rattle.std.proofs.lemmas.Bool.{cases_lt}
use Rattle.std.proofs.lemmas.List.{get_or_default}
use Rattle.asg_square.specs.Grid.{Grid, cell_at}
use Rattle.asg_live_cells.specs.declared.live_cells.Entry.{Entry}
use Rattle.asg_live_cells.specs.LiveCells.{entry_of, entry_at, IsBefore, AreEntriesUnder, AreEntries, IsPlaceOf}

-- a place before the next one comes before it or is there
pub before_next : (r c row column : ℕ) → IsBefore r c row (column + 1) → IsBefore r c row column ⊎ ((r ≡ row) × (c ≡ column))
before_next r c row column before =
    ⊎_elim
    (λ h. inl (inl h))
    (λ h. ⊎_elim (λ (less : c < column). inl (inr (h.0, less))) (λ (more : column ≤ c). let upto = h.1 in inr (h.0, omega (arith, upto, more))) (cases_lt c column))
    before

-- the place of an entry
pub place_of_entry : (entries : List Entry) (entry : Entry) → Contains entries entry → (k : ℕ) × (k < length entries) × (entry_at entries k ≡ entry)
place_of_entry entries entry at = (at.0, at.1, get_or_default entries at.0 (entry_of 0 0 0) entry at.1 ∙ at.2)

-- with a limit past all grades the entries are those of all live cells
pub all_under : (Q : Grid ℕ) (limit : ℕ) (entries : List Entry) → ((r c grade : ℕ) → 0 < grade → cell_at Q r c ≡ Some grade → grade < limit) → AreEntriesUnder Q limit entries → AreEntries Q entries
all_under Q limit entries past e = record {
  each = e.each;
  every = λ r c grade row column live cell. e.every r c grade row column live (past r c grade live cell) cell;
  ascending = e.ascending;
}

-- before the place of a bound stand exactly the grades below it
pub below_place : (entries : List Entry) (bound place k : ℕ) → IsPlaceOf entries bound place → k < length entries → (entry_at entries k).grade < bound → k < place
below_place entries bound place k p within less =
    ⊎_elim (λ h. h) (λ past. let more = p.from k past within in absurd (omega (arith, less, more))) (cases_lt k place)

pub from_place : (entries : List Entry) (bound place k : ℕ) → IsPlaceOf entries bound place → bound ≤ (entry_at entries k).grade → place ≤ k
from_place entries bound place k p upto =
    ⊎_elim (λ h. let less = p.below k h in absurd (omega (arith, less, upto))) (λ h. h) (cases_lt k place)

-- a greater bound has no earlier place
pub places_ordered : (entries : List Entry) (low high first end : ℕ) → low ≤ high → IsPlaceOf entries low first → IsPlaceOf entries high end → first ≤ end
places_ordered entries low high first end h p q =
    ⊎_elim
    (λ (less : end < first).
    let below = p.below end less in
    let from = q.from end (omega arith) (omega (arith, less, p.within)) in
    absurd (omega (arith, h, below, from)))
    (λ more. more)
    (cases_lt end first)
