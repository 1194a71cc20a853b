-- The options come behind the words.
use Rattle.asg_words.proofs.Common.{fold, ap, ◌∙◌, IfOk-weaker, App, with_rule}
use Rattle.asg_words.specs.CommandLine.{command_line, doing_options, reading_options, words_alone}
use Rattle.asg_words.proofs.command_line.command_line.Goals as goal

pub returns : goal.returns
unfolding command_line words_alone reading_options doing_options
returns c =
    let reading = c.in_ok-reading.ensures ∙ ap (λ (app : App). fold with_rule app reading_options) c.in_ok-words.ensures in
    IfOk-weaker c.with_doing.result _ _ (λ command is. is ∙ ap (λ (app : App). fold with_rule app doing_options) reading) c.with_doing.ensures
