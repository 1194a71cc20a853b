use Rattle.asg_verdicts.proofs.LevelCommon.{◌≡◌, ◌<◌, sym, refl, ◌∙◌, subst, arith, square_side}
use Rattle.asg_verdicts.proofs.level_walks.first_walk.Goals as goal

pub returns : goal.returns
returns c =
    let X = c.args.inst.now in
    let Q = c.args.square.now in
    let inv = c.loop-row.invariant in
    let side : Q.side ≡ square_side X = c.requires.square.labels.side in
    let all : c.loop-row.row ≡ Q.side = omega (arith, c.loop-row-test.false, inv.side, c.loop-row.auto.row-end) in
    record {
      left_is = record {
        rows = inv.rows ∙ side;
        columns = inv.columns ∙ side;
        each = λ r d hr hd. inv.done r d (subst (λ n. r < n) (sym side ∙ sym all) hr) (subst (λ n. d < n) (sym side) hd) ∙ c.requires.present r d;
      };
      before_is = refl;
    }
