-- A column that is chosen is there, so the columns that are there are all that matter.
use Rattle.asg_values.proofs.Common.{◌<◌, ◌≤◌, length, refl, ap, ⊎_elim, arith, cases_lt}
use Rattle.asg_values.proofs.Takers.{none_past}
use Rattle.asg_values.proofs.validity.are_within.Goals as goal

pub returns : goal.returns
returns c =
    let X = c.args.inst.now in
    let all = ap length c.columns-column-items.ensures.columns in (
      λ _ col.
          ⊎_elim
          (λ (here : col < c.loop-place.place). c.loop-place.invariant col here)
          (λ (past : c.loop-place.place ≤ col). none_past X c.args.choice.now col c.requires (omega (arith, past, all, c.loop-place-test.false)))
          (cases_lt col c.loop-place.place),
      λ _. refl,
    )
