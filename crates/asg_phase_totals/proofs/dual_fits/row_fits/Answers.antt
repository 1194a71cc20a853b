use Rattle.asg_phase_totals.proofs.Common.{◌≡◌, ℕ, ◌+◌, ◌<◌, length, sym, refl, subst, arith, FitCells, sum_before, count_is, read_is, sum_rises, cell_at}
use Rattle.asg_phase_totals.proofs.dual_fits.row_fits.Goals as goal

pub returns-then-enter-steps : goal.returns-then-enter-steps
returns-then-enter-steps g c = (
  λ _ below. absurd (omega (arith, below, count_is g.met.N.SumNumber.numbers_law c.args.steps.now, c.if-enter-steps.true)),
  λ _. refl,
)

pub plus-requires : goal.plus-requires
plus-requires g c =
    let N = g.N.SumNumber in
    let law = g.met.N.SumNumber.numbers_law in
    let steps = c.args.steps.now in
    let enter = c.args.enter in
    let at = read_is law c.args.sums.now enter c.index-sums-enter.result (omega (arith, c.if-enter-steps.false, c.requires.room)) c.index-sums-enter.is in
    let is_sum = c.requires.sums enter (omega (arith, c.if-enter-steps.false, count_is law steps)) in
    let rises = sum_rises law steps enter (length steps) (omega (arith, c.if-enter-steps.false)) (omega arith) in
    omega (arith, at, is_sum, rises, c.requires.few_rows, g.met.N.SumNumber.wide_law)

pub fit_cells-requires-clause-few : goal.fit_cells-requires-clause-few
fit_cells-requires-clause-few g c =
    let N = g.N.SumNumber in
    let law = g.met.N.SumNumber.numbers_law in
    let steps = c.args.steps.now in
    let enter = c.args.enter in
    let at = read_is law c.args.sums.now enter c.index-sums-enter.result (omega (arith, c.if-enter-steps.false, c.requires.room)) c.index-sums-enter.is in
    let is_sum = c.requires.sums enter (omega (arith, c.if-enter-steps.false, count_is law steps)) in
    let rises = sum_rises law steps enter (length steps) (omega (arith, c.if-enter-steps.false)) (omega arith) in
    omega (arith, c.plus.ensures, at, is_sum, rises, c.requires.few_rows)

pub returns : goal.returns
returns g c =
    let N = g.N.SumNumber in
    let law = g.met.N.SumNumber.numbers_law in
    let Q = c.args.square.now in
    let steps = c.args.steps.now in
    let enter = c.args.enter in
    let at = read_is law c.args.sums.now enter c.index-sums-enter.result (omega (arith, c.if-enter-steps.false, c.requires.room)) c.index-sums-enter.is in
    let below : enter < length (N.numbers steps) = omega (arith, c.if-enter-steps.false, count_is law steps) in
    let is_sum = c.requires.sums enter (omega (arith, below)) in
    let same : N.number c.plus.result ≡ N.number c.args.dual + sum_before (N.numbers steps) enter = omega (arith, c.plus.ensures, at, is_sum) in
    let Fit = λ (raise : ℕ). FitCells Q.side (λ (k : ℕ). N.present (cell_at Q c.args.row k)) raise (N.numbers c.args.columns.now) in (
      λ yes _. subst Fit same (c.fit_cells.ensures.0 yes),
      λ fits. c.fit_cells.ensures.1 (subst Fit (sym same) (fits below)),
    )
