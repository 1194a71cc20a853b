use Rattle.asg_values.proofs.DescendingLists.{IsPermutation-descending, IsDescending-descending, descending_only}
use Rattle.asg_values.proofs.laws.descending_law.Goals as goal

pub returns : goal.returns
returns c = record { rearranged = IsPermutation-descending; down = IsDescending-descending; only = descending_only }
