-- The names that proofs of this crate cite most, passed on from one place. Declares nothing.
pub use Rattle.asg_model.proofs.Kit.{Fits-lt-pow, IsTrue, List, Option, Some, ap, arith, bit_at, cases_eq, get_or, get_or_from_slice_get, is_some, length, pow-suc, slice_get_within, slice_index, subst, suc, sym, take, ℕ, ⊎_elim, ◌%◌, ◌*◌, ◌+◌, ◌/◌, ◌<◌, ◌^◌, ◌∙◌, ◌≡◌, ◌≤◌}
pub use Rattle.asg_bit_rows.specs.WordBits.{HasBit}
pub use Rattle.asg_duals.specs.Tight.{IsRowTight, Reaches}
