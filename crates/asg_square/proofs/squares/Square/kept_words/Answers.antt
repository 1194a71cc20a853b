use Rattle.asg_square.proofs.Common.{◌*◌, subst}
use Rattle.asg_square.specs.Masked.{AreBoth}
use Rattle.asg_square.specs.laws.Masks.{AreWordsOf-masked}
use Rattle.asg_square.proofs.squares.Square.kept_words.Goals as goal

pub returns : goal.returns
returns g c =
    let present = c.row_words-present.result.now in
    let are = c.row_words-present.ensures in
    AreWordsOf-masked c.args.self.now c.args.words.now c.args.r present c.write_both.new.both are
    (subst (λ n. AreBoth present c.args.words.now (c.args.r * n) c.write_both.new.both) are.count c.write_both.ensures)
