use Rattle.asg_window.proofs.Common.{◌≡◌, Some, arith, cell_at}
use Rattle.asg_window.proofs.FreeLemmas.{free_put, free_skip}
use Rattle.asg_window.proofs.band_moves.mark_free_cell.Goals as goal

pub returns-in-Some-eq0-clause-marks : goal.returns-in-Some-eq0-clause-marks
returns-in-Some-eq0-clause-marks c =
    let Q = c.args.square.now in
    let here : cell_at Q c.args.row c.args.column ≡ Some 0 = cc in
    free_put Q c.args.row c.args.column c.args.bits.now c.put.new.self c.requires.row_below c.requires.column_below here c.requires.before c.put.ensures

pub returns-clause-marks : goal.returns-clause-marks
returns-clause-marks c =
    free_skip c.args.square.now c.args.row c.args.column c.args.bits.now (λ here. grind arith) c.requires.before

pub returns-2-clause-marks : goal.returns-2-clause-marks
returns-2-clause-marks c =
    free_skip c.args.square.now c.args.row c.args.column c.args.bits.now (λ here. cc) c.requires.before
