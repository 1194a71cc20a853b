-- What a search for a start keeps from limit to limit.
use Rattle.std.specs.Prelude.{◌≡◌, ℕ, length}
use Rattle.asg_lex.specs.declared.guesses.Search.{Search}

-- the parts of a search are over a square of this side
pub record IsOver (side : ℕ) (search : Search) : Type 0 where
  pub marks : search.marks.side ≡ side
  pub matching : length search.matching ≡ side
  pub tree : search.tree.side ≡ side
