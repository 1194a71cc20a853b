use Rattle.asg_cell_tables.proofs.Common.{false, not, ◌&&◌, length, get_or, is_some, None, sym, refl, subst, AreBitsOf}
use Rattle.asg_cell_tables.proofs.CountedPieces.{none_pass}
use Rattle.asg_cell_tables.proofs.piece_words.extra_bits.Goals as goal

pub returns-then-are_there : goal.returns-then-are_there
returns-then-are_there c =
    let columns = c.args.columns.now in
    subst (λ b. AreBitsOf (length columns) (λ k. b && not (is_some (get_or columns k None))) c.unlabelled_bits.result) (sym c.if-are_there.true) c.unlabelled_bits.ensures

pub returns-else-are_there : goal.returns-else-are_there
returns-else-are_there c =
    let columns = c.args.columns.now in
    subst (λ b. AreBitsOf (length columns) (λ k. b && not (is_some (get_or columns k None))) 0) (sym c.if-are_there.false) (none_pass (length columns) _ (λ k h. refl))
