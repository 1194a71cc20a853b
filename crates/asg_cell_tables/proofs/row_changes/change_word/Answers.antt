use Rattle.asg_cell_tables.proofs.Common.{◌-◌, true, sym, ap, ◌∙◌, is_bit_set}
use Rattle.asg_cell_tables.proofs.ChangeLemmas.{changes_by, ones_have}
use Rattle.asg_cell_tables.proofs.row_changes.change_word.Goals as goal

pub change_all-requires-clause-changes : goal.change_all-requires-clause-changes
change_all-requires-clause-changes g c = λ k x low high is read.
    let bit = ap (λ w. is_bit_set w (k - c.args.from)) c.if-word-eq18446744073709551615.true in
    c.requires.changes k x low high (bit ∙ sym (ones_have k c.args.from c.args.to low high c.requires.word)) read

pub returns-then-word-eq18446744073709551615 : goal.returns-then-word-eq18446744073709551615
returns-then-word-eq18446744073709551615 g c =
    changes_by c.args.values.now c.change_all.new.values c.args.start c.args.from c.args.to (λ k. is_bit_set c.args.word (k - c.args.from)) (λ _. true) _
    (λ k low high. ones_have k c.args.from c.args.to low high c.requires.word ∙ ap (λ w. is_bit_set w (k - c.args.from)) (sym c.if-word-eq18446744073709551615.true))
    c.change_all.ensures
