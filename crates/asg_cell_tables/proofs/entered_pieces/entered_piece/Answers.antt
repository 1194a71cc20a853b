use Rattle.asg_cell_tables.proofs.Common.{length, arith}
use Rattle.asg_cell_tables.proofs.CountedPieces.{all_there, full_count, present_bits}
use Rattle.asg_cell_tables.proofs.entered_pieces.entered_piece.Goals as goal

pub present_word-word-requires : goal.present_word-word-requires
present_word-word-requires g c = omega (arith, c.requires.parts.count, c.requires.count, c.requires.few)

pub enter_present-requires-clause-present : goal.enter_present-requires-clause-present
enter_present-requires-clause-present g c = λ k h.
    all_there c.args.parts.firsts.now c.present_word-word.result c.present_word-word.ensures c.if-word.true (omega (arith, c.requires.parts.count, c.requires.count, c.requires.few)) k
    (omega (arith, h, c.requires.parts.count, c.requires.count))

pub enter_present-requires-clause-full : goal.enter_present-requires-clause-full
enter_present-requires-clause-full g c =
    let full = full_count (length c.args.parts.firsts.now) c.present_word-word.result _ c.present_word-word.ensures c.if-word.true (omega (arith, c.requires.parts.count, c.requires.count, c.requires.few)) in
    omega (arith, full, c.requires.parts.count, c.requires.count)

pub returns-then-word-clause-present : goal.returns-then-word-clause-present
returns-then-word-clause-present g c =
    present_bits c.args.inst.now c.args.r (length c.args.values.now) c.args.columns.now c.args.parts.firsts.now c.args.parts.seconds.now c.present_word-word.result c.requires.parts c.requires.count c.present_word-word.ensures

pub returns-clause-present : goal.returns-clause-present
returns-clause-present g c =
    present_bits c.args.inst.now c.args.r (length c.args.values.now) c.args.columns.now c.args.parts.firsts.now c.args.parts.seconds.now c.present_word-word.result c.requires.parts c.requires.count c.present_word-word.ensures
