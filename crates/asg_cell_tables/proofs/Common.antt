-- The names that proofs of this crate cite most, passed on from one place. Declares nothing.
pub use Rattle.asg_model.proofs.Kit.{Bool, Decides-eqb, Decides-int_eq, FitsSigned, IfSome, IsSome, IsTrue, List, None, Option, SFits, Some, [], ap, append-nil, arith, bit_at, bit_at-zero, bit_at_ones, bit_at_set_other, bit_at_set_same, bit_mask_l, bit_or, bitmask_splat, bool_byte, cases_Bool, cases_eq, cases_lt, cases_order, cond, div-add-mod', div-mul-add, drop, drop-drop, drop_all, eq-eqb, eqb, false, false≢true, get_or, get_or-drop, get_or-map, get_or-map-range_with_len, get_or-replicate, get_or-set_other, get_or-set_same, get_or-take, get_or_default, get_or_past, if◌then◌else◌, inl, inr, int_eq, is_some, le-ltb, length, length-drop, length-map, length-map-range_with_len, length-replicate, length-set, length-take, length-take-le, lt-ltb, ltb, map, mask_l, min, mod-mul-add, mul-add-lt, ne_eqb, none-some, not, of_z, option_map, option_map_or, or_zero_r, pos, refl, replicate, rules, same_lists, set, shr_and_one, slice_get, slice_get-get_or, slice_get_cases, slice_get_past, slice_get_read, slice_index, slice_set, subst, suc, sym, take, take-append-drop, take_all, to_z, to_z-of_z, true, zero, zero-add, zero-mul, ℕ, ℤ, ⊎_elim, ◌%◌, ◌&&◌, ◌*◌, ◌++◌, ◌+◌, ◌-◌, ◌/◌, ◌<◌, ◌==◌, ◌^◌, ◌||◌, ◌∙◌, ◌∷◌, ◌≡◌, ◌≢◌, ◌≤◌, ◌⊎◌}
pub use Rattle.asg_bit_rows.specs.BitTable.{AreWordsOf, BitTable, IsBitTable, PutsBit, PutsWord, has_bit, is_bit_set, word_count}
pub use Rattle.asg_bit_rows.specs.laws.Places.{place_hit, place_missed, same_place}
pub use Rattle.asg_cell_tables.specs.CellTable.{AreAllValuesOf, AreValuesOf, CellTable, IsCellTable, IsStored, entry_at, is_present_at, piece_cell, stored_cell, stored_cells, table_at}
pub use Rattle.asg_cell_tables.specs.Changes.{Becomes, ChangesValues, MapsTableRow, MayChange, MayMapRow}
pub use Rattle.asg_cell_tables.specs.Filling.{AreBitsOf, ArePieceOf, ArePlain, FillsPiece, FillsRow, IsLiveRow}
pub use Rattle.asg_cell_tables.specs.LabelledCells.{Entering, EntersAs, MayEnterEach, has_corner, is_labelled_within, labelled_cell, leaves_rows}
pub use Rattle.asg_cell_tables.specs.RowPieces.{AreKnownAs, ArePieceParts, AreTwice, entered_value, gathered_item, is_there, live_cost}
pub use Rattle.asg_model.specs.Live.{cost_at, is_active, is_open, live_at}
pub use Rattle.asg_model.specs.Problem.{Problem}
pub use Rattle.asg_model.specs.Table.{AreRowParts, absent, table_cost}
pub use Rattle.asg_model.specs.declared.bands.Band.TheVariants.{Whole}
pub use Rattle.asg_model.specs.declared.parts.Cost.{Cost}
pub use Rattle.asg_model.specs.declared.parts.Place.{Place}
pub use Rattle.std.proofs.lemmas.List.{length-append}
pub use Rattle.std.specs.Int.{w64}
