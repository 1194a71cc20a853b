use Rattle.asg_verdicts.proofs.LevelCommon.{None, sym, refl, ◌∙◌, arith, get_or_default, same_lists}
use Rattle.asg_verdicts.proofs.level_choices.is_same_choice.Goals as goal

-- all rows choose the same
pub returns : goal.returns
returns c =
    let f = c.args.chosen.now in
    let g = c.args.choice.now in (
      λ _. same_lists f g c.requires
          (λ k d h.
          get_or_default f k d None h
          ∙ c.loop-row.invariant.same k (omega (arith, h, c.loop-row-test.false, c.loop-row.auto.row-end, c.len-row-end.ensures))
          ∙ sym (get_or_default g k d None (omega (arith, h, c.requires)))),
      λ _. refl,
    )
