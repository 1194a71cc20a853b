-- Each argument is added at the end of those before.
use Rattle.asg_words.proofs.Common.{◌≡◌, true, codes, ap, ◌∙◌, ap₂, IfOk-weaker, App, Shape, app_of, app_of_fields, new_app, on_top, with_rule}
use Rattle.asg_words.specs.CommandLine.{words_alone}
use Rattle.asg_words.proofs.command_line.words_alone.Goals as goal

abbrev without_own_name : App → App
without_own_name = on_top (λ (shape : Shape). record shape { no_binary_name = true })

pub returns : goal.returns
unfolding words_alone
returns c =
    let named : app_of c.no_binary_name.result ≡ without_own_name (new_app (codes "asg")) =
    ap app_of_fields c.no_binary_name.ensures ∙ ap without_own_name c.new.ensures.app in
    let first = c.in_ok-arg.ensures.shape c.positional.ensures.local ∙ ap₂ with_rule named c.positional.ensures.rule in
    IfOk-weaker c.arg-2.result _ _ (λ command adds. adds.shape c.positional-2.ensures.local ∙ ap₂ with_rule first c.positional-2.ensures.rule) c.arg-2.ensures
