use Rattle.asg_hall_windows.proofs.Common.{◌≡◌, ◌+◌, ◌*◌, get_or, sym, subst, get_or_read, HasBit, HasBit-and}
use Rattle.asg_hall_windows.proofs.cells.pass_word.Goals as goal

pub returns-clause-marked : goal.returns-clause-marked
returns-clause-marked c k bit has =
    let words = c.args.named.now.words.items in
    let place = c.args.row * c.args.named.now.width + c.args.number in
    let read : c.index-word.result.now ≡ get_or words place 0 = get_or_read words place c.index-word.result.now c.requires.row_within c.index-word.ensures 0 in
    c.add.ensures.added k ((HasBit-and c.index-word.result.now c.args.bits k).1 (subst (λ n. HasBit n k) (sym read) has, bit))
