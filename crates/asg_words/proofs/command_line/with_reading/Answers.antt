-- Each argument is added at the end of those before.
use Rattle.asg_words.proofs.Common.{◌∙◌, ap₂, refl, IfOk-weaker, with_rule}
use Rattle.asg_words.specs.CommandLine.{reading_options}
use Rattle.asg_words.proofs.command_line.with_reading.Goals as goal

pub returns : goal.returns
unfolding reading_options
returns c =
    let first = c.in_ok-format.ensures in
    let second = c.in_ok-place.ensures ∙ ap₂ with_rule first refl in
    IfOk-weaker c.with_option-3.result _ _ (λ command is. is ∙ ap₂ with_rule second refl) c.with_option-3.ensures
