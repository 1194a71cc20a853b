use Rattle.asg_rankings.proofs.TreeTops.{IsSearchTree-by_top}
use Rattle.asg_rankings.proofs.laws.tree_tops_law.Goals as goal

pub returns : goal.returns
returns c low high word_of enter X count answers nodes le same tree =
    IsSearchTree-by_top low high le word_of enter X count answers nodes same tree
