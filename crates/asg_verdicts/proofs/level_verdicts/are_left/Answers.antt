use Rattle.asg_verdicts.proofs.LevelCommon.{◌≡◌, ◌<◌, ◌≤◌, get_or, IsTrue, sym, refl, ◌∙◌, subst, ⊎_elim, arith, cases_lt, false≢true, has_bit}
use Rattle.asg_verdicts.proofs.level_verdicts.are_left.Goals as goal

pub loop-row-preserved : goal.loop-row-preserved
loop-row-preserved c =
    let perm = c.args.perm.now in
    let left = c.args.walk.now.left in
    let row = c.loop-row.row in
    let here : IsTrue (has_bit left row (get_or perm row 0)) = sym c.has.ensures ∙ c.if-not-has.false in
    record {
      left = λ r h.
          ⊎_elim
          (λ (before : r < row). c.loop-row.invariant.left r before)
          (λ (from : row ≤ r). let at : row ≡ r = omega (arith, h, from) in subst (λ k. IsTrue (has_bit left k (get_or perm k 0))) at here)
          (cases_lt r row);
    }

-- a cell isn't left
pub returns-then-not-has : goal.returns-then-not-has
returns-then-not-has c =
    let perm = c.args.perm.now in
    let left = c.args.walk.now.left in
    let row = c.loop-row.row in (
      λ yes. absurd (false≢true yes),
      λ each. absurd (false≢true (sym c.if-not-has.true ∙ c.has.ensures ∙ each row c.loop-row-test.true)),
    )

-- all are
pub returns : goal.returns
returns c = (
  λ yes r h. c.loop-row.invariant.left r (omega (arith, h, c.loop-row-test.false)),
  λ each. refl,
)
