use Rattle.asg_kept.proofs.Common.{ℕ, is_some, Option, subst, Reduced, AreWordsOf, numbered_grid, words_are, cells_are, cell_at}
use Rattle.asg_kept.proofs.DualPhases.{dual_words}
use Rattle.asg_kept.proofs.dual_squares.DualSquare.row_words.Goals as goal

pub returns : goal.returns
returns g c =
    let words = c.row_words.result.now in
    let s = c.self.inside in
    let are =
    subst (λ (square : ℕ → ℕ → Option ℕ). AreWordsOf (λ k. is_some (square c.args.r k)) s.kept.now.side words) (cells_are g.met.N.SumNumber.present_law g.met.N.SumNumber.cells_law s.kept.now)
    (words_are g.met.N.SumNumber.present_law (cell_at s.kept.now c.args.r) s.kept.now.side words c.row_words.ensures) in
    subst (λ (R : Reduced ℕ). AreWordsOf (λ k. is_some (cell_at R.now c.args.r k)) R.now.side words) c.self.view_is
    (dual_words c.self.invariant.duals c.args.r words are)
