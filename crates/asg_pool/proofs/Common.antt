-- The names that proofs of this crate cite most, passed on from one place. Declares nothing.
pub use Rattle.asg_model.proofs.Kit.{All, All-append, All-cons, All-from_get_or, All-nil, All-push, All-set, AllPairs, AllPairs-cons, Err, IfOk-weaker, IfSome, IsSome, List, None, Ok, OnErr, OnOk, Option, Result, Some, [], all_pairs_push, ap, append_assoc, arith, cases_eq, cases_lt, cond, drop, drop-append-le, drop-drop, drop-take, get_or, get_or-append_seam, get_or-map-range_with_len, get_or-set_other, get_or-set_same, get_or_default, get_or_past, inl, inr, is_some, length, length-append, length-drop, length-map-range_with_len, length-replicate, length-set, length-take-le, map, max, mul-le, nil_from_length, on_err_weaker, on_ok_weaker, option_and_then, put_mid, range_with_len, refl, reverse, reverse-append, row_fits, rules, same_len_mid, set, subst, suc, sym, take, take-append-le, take_all, take_at, unwrap_or, vec_len, with_items_is, zero, ℕ, ◌*◌, ◌++◌, ◌+◌, ◌-◌, ◌<◌, ◌∙◌, ◌∷◌, ◌≡◌, ◌≢◌, ◌≤◌}
pub use Rattle.std.proofs.Common.{option_map}
pub use Rattle.asg_model.specs.laws.Listing.{length-le_from_below}
pub use Rattle.asg_pool.specs.Forest.{Branch, Changes, Forest, IsForest, IsGrown, IsLeaf, IsLive, grown_on, last_phase, parent_of, phases_of, phases_to, trail_at}
pub use Rattle.asg_pool.specs.Links.{AreVacant, Table, link_at, most_room, spare_of}
pub use Rattle.asg_pool.specs.Paths.{AreRooted, AreRowsFor, IsRegion, IsRooted, branch_at, depth_at, forest_of, parent_at, path, phase_at}
pub use Rattle.asg_pool.specs.Strips.{IsWider, Rows, row_at, rows_of, with_row}
pub use Rattle.asg_pool.specs.declared.links.Link.{Link}
pub use Rattle.asg_proof.specs.Phases.{PhaseOf, phase_of}
pub use Rattle.asg_proof.specs.PromisedProofs.{IsPhaseOver}
