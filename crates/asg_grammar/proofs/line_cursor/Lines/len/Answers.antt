use Rattle.asg_grammar.proofs.Common.{length, sym, ap, ◌∙◌, length-whole_lines}
use Rattle.asg_grammar.proofs.line_cursor.Lines.len.Goals as goal

pub returns : goal.returns
returns c = c.count_ends.ensures ∙ sym (length-whole_lines c.self.inside.rest.now) ∙ ap length c.self.view_is
