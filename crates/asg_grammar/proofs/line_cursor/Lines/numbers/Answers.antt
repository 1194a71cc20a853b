use Rattle.asg_grammar.proofs.Common.{subst, whole_lines, one_line, IsRead, behind, list_spelling, Halts-front, Halts-text, IsLegible-list}
use Rattle.asg_grammar.specs.laws.PartLaws.{ReadsOrFails-err}
use Rattle.asg_grammar.proofs.ReadLines.{IsRead-list}
use Rattle.asg_grammar.proofs.line_cursor.Lines.numbers.Goals as goal

pub returns-in-Some : goal.returns-in-Some
returns-in-Some c =
    let found = rw c.in-Some.is at c.in_ok-listed.ensures in
    subst (λ lines. IsRead (one_line (behind c.args.front.now list_spelling)) lines (whole_lines c.in-Some.rest.now) c.in-Some.listed) c.self.view_is
    (IsRead-list c.self.inside.rest.now c.args.front.now c.in-Some.rest.now c.in-Some.listed c.requires found.0 found.1)

pub returns-in_err-text : goal.returns-in_err-text
returns-in_err-text c = ReadsOrFails-err c.from_residual-in_err-text.result c.from_residual-in_err-text.ensures.1 (Halts-front c.args.front.now IsLegible-list c.in_err-text.ensures)

pub returns-in_err-numbers : goal.returns-in_err-numbers
returns-in_err-numbers c = ReadsOrFails-err c.from_residual-in_err-numbers.result c.from_residual-in_err-numbers.ensures.1 (Halts-text c.args.front.now _ IsLegible-list c.in_ok-text.ensures c.in_err-numbers.ensures)
