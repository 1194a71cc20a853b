-- What a node keeps.
use Rattle.std.specs.Prelude.{⊤, ◌<◌, ◌^◌, List, All}
use Rattle.asg_rankings.specs.declared.nodes.Mark.{Mark}
use Rattle.asg_rankings.specs.declared.nodes.Mark.TheVariants.{Answered, Open, Empty}
use Rattle.asg_rankings.specs.declared.nodes.Node.{Node}
use Rattle.asg_proof.specs.Phases.{ArePhases}
use Rattle.asg_proof.specs.RowIds.{AreIds}

-- what a mark keeps: the number of an answer below 2^32, or ids of rows
abbrev pub IsMarkPart : Mark → Type 0
IsMarkPart (Answered a) = a < 2 ^ 32
IsMarkPart Open = ⊤
IsMarkPart (Empty rows) = AreIds rows

-- what a node keeps: a parent and a branch below 2^32, a mark that keeps its part, and phases that
-- keep theirs
pub record IsNodePart (node : Node) : Type 0 where
  pub parent_fits : node.parent < 2 ^ 32
  pub branch_fits : node.branch < 2 ^ 32
  pub mark_is : IsMarkPart node.mark
  pub own_are : ArePhases node.own

-- each node of the list keeps it
abbrev pub AreNodeParts : List Node → Type 0
AreNodeParts nodes = All IsNodePart nodes
