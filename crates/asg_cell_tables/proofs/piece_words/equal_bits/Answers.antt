use Rattle.asg_cell_tables.proofs.Common.{Bool, sym, refl, subst, AreBitsOf}
use Rattle.asg_cell_tables.proofs.CountedPieces.{first_pass, none_pass}
use Rattle.asg_cell_tables.proofs.piece_words.equal_bits.Goals as goal

pub returns-then-are_set : goal.returns-then-are_set
returns-then-are_set c =
    subst (λ (b : Bool). AreBitsOf c.args.count (λ _. b) c.first_bits.result) (sym c.if-are_set.true) (first_pass c.args.count c.first_bits.result c.requires c.first_bits.ensures)

pub returns-else-are_set : goal.returns-else-are_set
returns-else-are_set c =
    subst (λ (b : Bool). AreBitsOf c.args.count (λ _. b) 0) (sym c.if-are_set.false) (none_pass c.args.count _ (λ k h. refl))
