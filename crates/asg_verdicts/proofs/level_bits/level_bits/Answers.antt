use Rattle.asg_verdicts.proofs.LevelCommon.{◌≡◌, ℕ, ◌<◌, ◌≤◌, cond, Some, None, Option, sym, ap, ◌∙◌, subst, ⊎_elim, arith, cases_lt, has_bit, AreSizedBits, bits_at, value_in, square_side}
use Rattle.asg_verdicts.proofs.BitSquares.{level_is}
use Rattle.asg_verdicts.proofs.level_bits.level_bits.Goals as goal

pub loop-row-init : goal.loop-row-init
loop-row-init c =
    let side = c.side-side.ensures.side in
    record {
      end = side;
      sized = record {
        zero_rows = c.in_ok-zeros.ensures.rows ∙ side;
        zero_columns = c.in_ok-zeros.ensures.columns ∙ side;
        one_rows = c.in_ok-ones.ensures.rows ∙ side;
        one_columns = c.in_ok-ones.ensures.columns ∙ side;
      };
      done = λ r d h. absurd (omega (arith, h));
      ahead = λ r d h.
          ap (λ b. cond {A = Option ℕ} b (Some 0) (cond (has_bit c.in_ok-ones.ones r d) (Some 1) None)) (c.in_ok-zeros.ensures.clear r d)
          ∙ ap (λ b. cond {A = Option ℕ} b (Some 1) None) (c.in_ok-ones.ensures.clear r d);
    }

pub loop-row-preserved : goal.loop-row-preserved
loop-row-preserved c =
    let inv = c.loop-row.invariant in
    let row = c.loop-row.row in
    let one = c.split_any.ensures in
    record {
      end = inv.end;
      sized = one.sized;
      done = λ r d h inside.
          ⊎_elim
          (λ (early : r < row). one.others r d (λ e. omega (arith, early, e)) ∙ inv.done r d early inside)
          (λ (late : row ≤ r).
          let at : row ≡ r = omega (arith, h, late) in
          subst (λ k. bits_at c.split_any.new.bits k d ≡ value_in c.args.square.now c.args.walk.now c.args.level.now k d) at (one.cells d inside))
          (cases_lt r row);
      ahead = λ r d h. one.others r d (λ e. omega (arith, h, e)) ∙ inv.ahead r d (omega (arith, h));
    }

pub returns-clause-sized : goal.returns-clause-sized
returns-clause-sized c = subst (λ n. AreSizedBits n c.loop-row.bits) c.requires.square.labels.side c.loop-row.invariant.sized

pub returns-clause-cells : goal.returns-clause-cells
returns-clause-cells c left is =
    let X = c.args.inst.now in
    let Q = c.args.square.now in
    let inv = c.loop-row.invariant in
    let side : Q.side ≡ square_side X = c.requires.square.labels.side in
    let past : Q.side ≤ c.loop-row.row = omega (arith, c.loop-row-test.false, inv.end) in
    let bits = c.loop-row.bits in
    level_is X c.requires.instance Q c.requires.square c.args.walk.now c.args.level.now left is bits.zeros bits.ones c.bits_within.ensures c.bits_within-2.ensures
    (inv.sized.zero_rows ∙ side) (inv.sized.zero_columns ∙ side) (inv.sized.one_rows ∙ side) (inv.sized.one_columns ∙ side)
    (λ r d hr hd. let h : r < Q.side = subst (λ n. r < n) (sym side) hr in inv.done r d (omega (arith, h, past)) (subst (λ n. d < n) (sym side) hd))
