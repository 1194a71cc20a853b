use Rattle.asg_verdicts.proofs.LevelCommon.{◌≡◌, ◌+◌, ◌-◌, ◌*◌, ◌<◌, ◌≤◌, false, ◌==◌, sym, ap, ◌∙◌, subst, ⊎_elim, arith, bit_at-zero, cases_lt, has_bit, is_bit_set, bits_at, value_in, cell_at}
use Rattle.asg_verdicts.proofs.BitSquares.{value_none}
use Rattle.asg_verdicts.proofs.level_bits.split_word.Goals as goal

-- no cell of the word is left
pub returns-then-word-eq0-clause-cells : goal.returns-then-word-eq0-clause-cells
returns-then-word-eq0-clause-cells c d from to inside =
    let walk = c.args.walk.now in
    let k = d - 64 * c.args.number in
    let place : 64 * c.args.number + k ≡ d = omega (arith, from) in
    let none : has_bit walk.left c.args.row d ≡ false =
    sym (ap (has_bit walk.left c.args.row) place)
    ∙ sym (c.requires.word k (omega (arith, to)))
    ∙ ap (λ w. is_bit_set w k) c.if-word-eq0.true
    ∙ ap (λ n. n == 1) (bit_at-zero k) in
    c.requires.clear d from ∙ value_none (has_bit walk.left c.args.row d) walk.before c.args.level.now.cost (cell_at c.args.square.now c.args.row d) none

pub split_cell-requires-clause-clear : goal.split_cell-requires-clause-clear
split_cell-requires-clause-clear c =
    let inv = c.loop-column.invariant in
    let from = c.loop-column.auto.column in
    inv.others c.args.row c.loop-column.column (λ e f g. omega (arith, g)) ∙ c.requires.clear c.loop-column.column (omega (arith, from))

pub loop-column-preserved : goal.loop-column-preserved
loop-column-preserved c =
    let inv = c.loop-column.invariant in
    let column = c.loop-column.column in
    let row = c.args.row in
    let one = c.split_cell.ensures in
    let start = c.loop-column.auto.column in
    record {
      within = inv.within;
      last = inv.last;
      whole = inv.whole;
      upto = omega (arith, inv.last, c.loop-column-test.true);
      sized = one.sized;
      done = λ d from to.
          ⊎_elim
          (λ (early : d < column). one.others row d (λ e f g. omega (arith, f, early)) ∙ inv.done d from early)
          (λ (late : column ≤ d).
          let here : column ≡ d = omega (arith, late, to) in
          subst (λ k. bits_at c.split_cell.new.bits row k ≡ value_in c.args.square.now c.args.walk.now c.args.level.now row k) here one.here)
          (cases_lt d column);
      others = λ r d apart.
          one.others r d (λ e f g. apart e (omega (arith, start, f)) g)
          ∙ inv.others r d (λ e f g. apart e f (omega (arith, g)));
    }

pub returns-clause-cells : goal.returns-clause-cells
returns-clause-cells c d from to inside =
    let inv = c.loop-column.invariant in
    let end = inv.whole d to inside in
    inv.done d from (omega (arith, end, c.loop-column-test.false))

pub returns-clause-others : goal.returns-clause-others
returns-clause-others c r d apart =
    let inv = c.loop-column.invariant in
    inv.others r d (λ e f g. apart e f (omega (arith, g, inv.upto)))
