use Rattle.asg_tokens.proofs.Common.{◌+◌, ◌-◌, not, ◌∷◌, length, take, drop, ◌==◌, sym, ap, ◌∙◌, arith, false-eqb, lines, prefix_len-le-length}
use Rattle.asg_tokens.specs.laws.LineCuts.{last_line, line_before}
use Rattle.asg_tokens.proofs.lines.first_line.Goals as goal

pub returns-then-len-text-clause-first : goal.returns-then-len-text-clause-first
returns-then-len-text-clause-first c =
    last_line c.args.text.now c.len_before_end-len.result c.len_before_end-len.ensures (omega arith) (omega (arith, false-eqb _ 0 c.if-is_empty.ensures))

pub returns-clause-first : goal.returns-clause-first
returns-clause-first c =
    line_before c.args.text.now c.len_before_end-len.result c.len_before_end-len.ensures (omega (arith, prefix_len-le-length (λ byte. not (byte == 10)) c.args.text.now, c.len_before_end-len.ensures))
    ∙ ap (λ line. line ∷ lines (take (length c.args.text.now - (c.len_before_end-len.result + 1)) (drop (c.len_before_end-len.result + 1) c.args.text.now))) (sym c.without_return.ensures)
