-- The names that proofs of this crate cite most, passed on from one place. Declares nothing.
pub use Rattle.asg_model.proofs.Kit.{Bool, Fits, IfNone, IsSome, IsTrue, List, Option, Some, [], ap, arith, bit_and, bit_at, cases_eq, cases_lt, cond, eq-eqb, eqb, eqb-true, eqb_tells, false, false≢true, get_or, get_or-map-range_with_len, get_or-set_at, get_or-set_other, get_or-set_same, get_or_append_left, get_or_read, inl, inr, length, length-map-range_with_len, length-set, ne_eqb, refl, replicate, rules, same_Some, set, set-get_or, shr_and_one, slice_get-get_or, slice_index, subst, sym, true, true≢false, unwrap_or, vec_capacity, vec_len, w64, with_items_is, ℕ, ⊎_elim, ◌%◌, ◌*◌, ◌+◌, ◌-◌, ◌/◌, ◌<◌, ◌^◌, ◌↔◌, ◌∙◌, ◌∷◌, ◌≡◌, ◌≢◌, ◌≤◌, ◌⊎◌}
pub use Rattle.asg_bit_rows.specs.laws.Bits.{HasBit-and, HasBit-without, HasBit-zero, with_bit, without_bit}
pub use Rattle.asg_growth.specs.Growths.{CanRenew, Enters, HasNoLead, IsReady, IsSearch, Renews, Searches, leads_in, never}
pub use Rattle.asg_growth.specs.Leads.{IsLeast, IsOffered, KeepsKey, KeepsLead, Leads, OffersRow, Picks, Relaxes, TakesKey, lead_at, leads_of, place_at}
pub use Rattle.asg_growth.specs.Nearest.{AreNearest, HasKey, IsAnswered, IsWithin}
pub use Rattle.asg_growth.specs.Scanned.{AreValued, IsBoth, values_of}
pub use Rattle.asg_growth.specs.Underway.{IsUnderway}
pub use Rattle.asg_growth.specs.laws.GrowthLaws.{all_rows, column_below, few_rows, key_read, least, search_climbed, search_leads, search_looked, some_value}
pub use Rattle.asg_growth.specs.laws.LeadLemmas.{Relaxes-given, Relaxes-iff, Relaxes-join, Relaxes-none, Relaxes-soon, lead_has, lead_none, lead_same, lead_there}
pub use Rattle.asg_growth.specs.laws.NearestLemmas.{AreNearest-set, HasKey-given, HasKey-set, IsApproached, IsBelow, Picks-approached, Picks-itself, Picks-key, Picks-nearest, Picks-same, key_is}
pub use Rattle.asg_growth.specs.laws.WordLemmas.{IsAmong, bit_in, column_in, column_word, left_out, next_among, next_below, next_bit, next_cases, next_column, next_gone, next_has, next_in, next_kept, next_more, next_place, next_smaller, next_there, next_under, next_word}
pub use Rattle.asg_kept.specs.KeptRows.{IsWordOf}
pub use Rattle.asg_match.specs.ColumnSet.{HasBit, HasColumn, IsColumnSet}
pub use Rattle.asg_model.specs.Limits.{most_side}
pub use Rattle.asg_order.specs.Monoid.{IsLe, IsOrderedMonoid, IsValue, Monoid}
pub use Rattle.asg_square.specs.Grid.{Grid, IsGrid, cell_at}
