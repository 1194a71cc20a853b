use Rattle.asg_window.proofs.Common.{subst, OnFalse_at, IsDeficient, IsWithin, GetNoColumn}
use Rattle.asg_window.specs.declared.band_cells.BandCells.{BandCells}
use Rattle.asg_window.proofs.ReachLemmas.{IsDeficient-marks, IsDeficient-next}
use Rattle.asg_window.proofs.seeker.Seeker.test.Goals as goal

pub returns-clause-deficient : goal.returns-clause-deficient
returns-clause-deficient c =
    let Q = c.args.cells.now.square.now in
    let band = c.move_to.new.self in
    let marks = c.move_to.ensures.band in
    let rows = c.seek.new.self.rows.items in
    let next = c.next_grade-next.result in
    let short = OnFalse_at c.if-branch.false c.in_ok-seek.ensures.deficient in
    let before = IsDeficient-marks Q band.low band.high band.marks.side band.marks.bits rows marks.side marks.marks short in
    let none =
    subst (λ (x : BandCells). GetNoColumn Q x.low x.high next rows) c.in_ok-seek.ensures.band
    (subst (GetNoColumn Q c.seek.new.self.band.low c.seek.new.self.band.high next) c.as_slice.ensures.value c.next_grade-next.ensures.none) in
    subst (λ n. IsDeficient (IsWithin Q n next) Q.side rows) c.move_to.ensures.low (IsDeficient-next Q band.low band.high next rows none before)
