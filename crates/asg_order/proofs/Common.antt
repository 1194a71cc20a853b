-- The names that proofs of this crate cite most, passed on from one place. Declares nothing.
pub use Rattle.asg_model.proofs.Kit.{All, All-get_or, All-head, All-map, All-replicate, All-set, All-tail, All-weaker, IsPermutation, IsPermutation-keeps, List, [], ap, arith, cases_eq, get_or, inl, inr, length, map, refl, replicate, set, set-get_or, set-set, subst, suc, swap, sym, take, zero, zero-add, ℕ, ◌+◌, ◌<◌, ◌∙◌, ◌∷◌, ◌≡◌, ◌≢◌}
pub use Rattle.asg_order.specs.Monoid.{IsOrderedMonoid, IsValue, Monoid, fold_of}
pub use Rattle.asg_order.specs.laws.Products.{exchanged, fold-cons, fold_is_value, fold_of-append}
