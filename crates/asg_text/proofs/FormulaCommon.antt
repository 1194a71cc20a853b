-- The names that proofs of this crate cite most, passed on from one place. Declares nothing.
pub use Rattle.asg_model.proofs.Kit.{All, All-map, All-nil, FitsSigned, List, [], ap, arith, cond, div-add-mod', div_below, enumerate_from, flat_map, get_or, get_or-append-add, get_or-le-sum_by, get_or-map-range_with_len, get_or_append_left, inr, length, length-append, length-map-range_with_len, map, map-range_with_len_more, mod_below, of_z, pos, range_with_len, refl, rules, same_lists, subst, suc, sym, to_z, to_z-of_z, w64, zero, ℕ, ℤ, ◌%◌, ◌*◌, ◌++◌, ◌+◌, ◌/◌, ◌<◌, ◌^◌, ◌∙◌, ◌∷◌, ◌≡◌, ◌≤◌}
pub use Rattle.asg_text.specs.Places.{cost_of_place}
