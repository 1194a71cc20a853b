use Rattle.asg_verdicts.proofs.LevelCommon.{sym, ◌∙◌, subst, inl, inr, eq-eqb, eqb-true, false≢true, bounded_difference, plain_word, level_sums, AreReplayed, IsFirstBad, cell_at}
use Rattle.asg_verdicts.proofs.level_verdicts.are_counted.Goals as goal

-- a phase is bad
pub returns-in-Some-clause-refused : goal.returns-in-Some-clause-refused
returns-in-Some-clause-refused c =
    let start = c.args.reduced.now in
    let bad = rw c.in-Some.is at c.in_ok-_place.ensures.bad in
    λ off. inl (c.in-Some._place, subst (λ words. IsFirstBad level_sums bounded_difference plain_word start.now.side (cell_at start.now) words c.in-Some._place) c.as_slice.ensures.items bad)

-- all are admitted
pub returns-in-None-clause-applied : goal.returns-in-None-clause-applied
returns-in-None-clause-applied c =
    let start = c.args.reduced.now in
    let after = c.first_bad.new.square in
    let led = c.in_ok-_place.ensures.none c.in-None.is in
    λ is. (
      subst (λ words. AreReplayed level_sums bounded_difference plain_word words start after) c.as_slice.ensures.items led,
      eqb-true after.index c.from.result is ∙ c.from.ensures,
    )

pub returns-in-None-clause-refused : goal.returns-in-None-clause-refused
returns-in-None-clause-refused c =
    let start = c.args.reduced.now in
    let after = c.first_bad.new.square in
    let led = c.in_ok-_place.ensures.none c.in-None.is in
    λ off. inr (
      after,
      (
        subst (λ words. AreReplayed level_sums bounded_difference plain_word words start after) c.as_slice.ensures.items led,
        λ e. false≢true (sym off ∙ eq-eqb after.index c.from.result (e ∙ sym c.from.ensures)),
      ),
    )
