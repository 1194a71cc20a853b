use Rattle.asg_tokens.proofs.Common.{◌+◌, tokens}
use Rattle.asg_tokens.proofs.MorePlaces.{more_read}
use Rattle.asg_tokens.proofs.tables.fill_costs.Goals as goal

pub make_places-requires-clause-seconds : goal.make_places-requires-clause-seconds
make_places-requires-clause-seconds c = c.parts.invariant.read.seconds_are

pub fill_upto-requires-clause-before : goal.fill_upto-requires-clause-before
fill_upto-requires-clause-before c =
    let header = c.args.cells.header + 1 in
    let all = tokens c.args.cells.text.now in
    let made = c.in_ok-make_places.ensures in
    c.read_pair_blocks-pairs.ensures.read header all
    (c.read_blocks-numbers.ensures.read header all c.make_places.new.seconds.items
    (more_read header c.parts.place all (tokens c.parts.rest.now) c.parts.firsts.items c.parts.seconds.items c.make_places.new.firsts.items c.make_places.new.seconds.items
    c.parts.invariant.within made.count made.firsts made.same made.seconds c.parts.invariant.read))
