use Rattle.asg_verdicts.proofs.Common.{◌≤◌, ℕ, sym, subst, arith, square_side, bounded_sums, bounded_difference, plain_word, sum_entered, top_of, HaveIndex, square_cell}
use Rattle.asg_table_phases.specs.TableRows.{bound_of}
use Rattle.asg_verdicts.proofs.SumBounds.{index_within}
use Rattle.asg_verdicts.proofs.sum_indices.sum_index.Goals as goal

pub returns : goal.returns
returns c =
    let X = c.args.inst.now in
    let top = top_of c.args.objective in
    let square = square_cell X 0 (sum_entered c.args.objective) in
    let totals = c.take_all.new.totals in
    let few : totals.sum ≤ top = omega (arith, c.sum-sum.ensures, c.is_within.ensures c.if-not-is_within.false) in
    subst (λ (index : ℕ). HaveIndex (bounded_sums top) bounded_difference plain_word (square_side X) square index c.args.phases.now) (sym c.sum-sum.ensures)
    (index_within (bound_of c.args.objective) top (square_side X) square c.args.phases.now totals
    c.lesser_tops_law.ensures.admitted c.lesser_tops_law.ensures.index
    (c.in_ok-take_all.ensures.taken c.if-not-branch.false)
    (c.fits_table.ensures.admitted c.if-not-fits_table.false)
    (c.fits_table.ensures.index c.if-not-fits_table.false) few)
