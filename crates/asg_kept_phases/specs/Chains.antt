-- Regions in which each trail grew on the one before it.
use Rattle.std.specs.Prelude.{◌≡◌, ℕ, Option, Some, IfSome}
use Rattle.asg_pool.specs.Forest.{Forest, IsLive, IsLeaf, parent_of}

-- the live trails are those on the way to the last one: that is a leaf, and no two grew on the same one
pub record IsChain {V : Type 0} (F : Forest V) (last : Option ℕ) : Type 0 where
  pub live : IfSome last (IsLive F)
  pub leaf : IfSome last (IsLeaf F)
  pub single : (s t p : ℕ) → parent_of F s ≡ Some p → parent_of F t ≡ Some p → s ≡ t
