use Rattle.asg_cell_tables.proofs.Common.{Bool, ◌||◌, length, get_or, is_some, None, sym, subst, AreBitsOf}
use Rattle.asg_cell_tables.proofs.piece_words.free_bits.Goals as goal

pub returns-then-are_all : goal.returns-then-are_all
returns-then-are_all c =
    let columns = c.args.columns.now in
    subst (λ (b : Bool). AreBitsOf (length columns) (λ k. b || is_some (get_or columns k None)) c.equal_bits.result) (sym c.if-are_all.true) c.equal_bits.ensures

pub returns-else-are_all : goal.returns-else-are_all
returns-else-are_all c =
    let columns = c.args.columns.now in
    subst (λ (b : Bool). AreBitsOf (length columns) (λ k. b || is_some (get_or columns k None)) c.known_bits.result) (sym c.if-are_all.false) c.known_bits.ensures
