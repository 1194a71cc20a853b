use Rattle.asg_grammar.proofs.Common.{sym, ◌∙◌, no_line}
use Rattle.asg_grammar.specs.laws.LineCuts.{one_line}
use Rattle.asg_grammar.proofs.line_cursor.Lines.first.Goals as goal

pub returns-in_err-rest : goal.returns-in_err-rest
returns-in_err-rest c = rw c.from_residual.ensures
    (sym c.self.view_is ∙ no_line c.self.inside.rest.now c.cut.result.0.now c.cut.result.1.now c.cut.ensures.whole c.cut.ensures.front c.cut.ensures.rest c.in_err-rest.ensures)

pub returns : goal.returns
returns c = sym c.self.view_is ∙ one_line c.self.inside.rest.now c.cut.result.0.now c.cut.result.1.now c.in_ok-rest.rest.now c.cut.ensures.whole c.cut.ensures.front c.in_ok-rest.ensures
