use Rattle.asg_trees.proofs.Common.{length, sym, ap, ◌∙◌}
use Rattle.asg_trees.proofs.ChoiceLemmas.{length-choices_in}
use Rattle.asg_trees.proofs.choice_lists.Choices.len.Goals as goal

pub returns-clause-count : goal.returns-clause-count
returns-clause-count c = sym (length-choices_in c.self.inside.rows c.self.inside.count c.self.inside.numbers.items) ∙ ap length c.self.view_is
