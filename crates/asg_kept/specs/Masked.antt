-- Reduced squares without some cells, which rows of bits tell.
use Rattle.std.specs.Prelude.{ℕ, List}
use Rattle.asg_admit.specs.declared.reduced.Reduced.{Reduced}
use Rattle.asg_square.specs.Masked.{masked_grid}

-- the reduced square with the cells that rows of bits keep
abbrev pub masked_reduced : {V : Type 0} → Reduced V → List ℕ → Reduced V
masked_reduced reduced words = record { now = masked_grid reduced.now words; index = reduced.index }
