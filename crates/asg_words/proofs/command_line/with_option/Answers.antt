-- The argument is added at the end of those before.
use Rattle.asg_words.proofs.Common.{ap, ◌∙◌, IfOk-weaker, app_of, with_rule, Rule}
use Rattle.asg_words.proofs.command_line.with_option.Goals as goal

pub returns : goal.returns
returns c =
    IfOk-weaker c.arg.result _ _ (λ command adds. adds.shape c.option.ensures.local ∙ ap (λ (rule : Rule). with_rule (app_of c.args.command) rule) c.option.ensures.rule) c.arg.ensures
