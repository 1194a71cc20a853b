use Rattle.asg_trees.proofs.Common.{◌<◌, length, sym, ap, ◌∙◌, subst}
use Rattle.asg_trees.proofs.ChoiceLemmas.{length-choices_in}
use Rattle.asg_trees.proofs.choice_lists.Choices.choice.Goals as goal

pub numbers_at-requires-clause-below : goal.numbers_at-requires-clause-below
numbers_at-requires-clause-below c =
    subst (λ n. c.args.place < n) (ap length (sym c.self.view_is) ∙ length-choices_in c.self.inside.rows c.self.inside.count c.self.inside.numbers.items) c.requires
