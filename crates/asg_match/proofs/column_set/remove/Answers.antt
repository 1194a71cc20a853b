use Rattle.asg_match.proofs.Common.{◌/◌, ◌<◌, length, arith, get_or_read, IsColumnSet-removed, HasColumn-removed}
use Rattle.asg_match.proofs.column_set.remove.Goals as goal

pub returns-clause-set : goal.returns-clause-set
returns-clause-set c =
    let words = c.args.words.now.items in
    let within : c.args.column / 64 < length words = omega (arith, c.requires.set.count) in
    let read = get_or_read words (c.args.column / 64) _ within c.index_mut.ensures.value 0 in
    IsColumnSet-removed words c.args.column _ within read c.args.side c.requires.set

pub returns-clause-others : goal.returns-clause-others
returns-clause-others c =
    let words = c.args.words.now.items in
    let within : c.args.column / 64 < length words = omega (arith, c.requires.set.count) in
    let read = get_or_read words (c.args.column / 64) _ within c.index_mut.ensures.value 0 in
    HasColumn-removed words c.args.column _ within read
