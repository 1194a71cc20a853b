use Rattle.asg_grammar.proofs.Common.{subst, whole_lines, one_line, IsRead, pair_spelling, Reads-line, IsLegible-pair}
use Rattle.asg_grammar.proofs.ReadLines.{IsRead-pair}
use Rattle.asg_grammar.proofs.line_cursor.Lines.pair.Goals as goal

pub returns : goal.returns
returns c = Reads-line IsLegible-pair c.read.result (λ p r met. met) c.read.ensures

pub returns-in-Some : goal.returns-in-Some
returns-in-Some c = subst (λ lines. IsRead (one_line pair_spelling) lines (whole_lines c.in-Some.rest.now) c.in-Some.pair) c.self.view_is
    (IsRead-pair c.self.inside.rest.now c.in-Some.rest.now c.in-Some.pair c.in-Some.ensures.0 c.in-Some.ensures.1)
