use Rattle.asg_verdicts.proofs.LevelCommon.{sym, ◌∙◌, subst, inl, arith, false≢true, AreColumns, LevelsStand, no_columns_told, Tells, level_reasons}
use Rattle.asg_verdicts.proofs.level_verdicts.levels_verdict.Goals as goal

-- the columns aren't different ones of the square
pub returns-then-not-branch : goal.returns-then-not-branch
returns-then-not-branch c =
    let X = c.args.inst.now in
    let f = c.args.choice.now in
    let perm = c.args.perm.now in
    let levels = c.args.levels.now in
    subst (Tells (LevelsStand X f perm levels) level_reasons) (sym c.verdict.ensures)
    (inl (no_columns_told X f perm levels (λ columns. false≢true (sym c.if-not-branch.true ∙ c.in_ok-is_column_list.ensures.1 (subst (λ n. AreColumns n perm) (sym c.side.ensures.side) columns)))))

-- the columns are different ones of the square
pub chosen_by-requires-clause-columns : goal.chosen_by-requires-clause-columns
chosen_by-requires-clause-columns c =
    subst (λ n. AreColumns n c.args.perm.now) c.side.ensures.side (c.in_ok-is_column_list.ensures.0 c.if-not-branch.false)

pub walked_verdict-requires-clause-columns : goal.walked_verdict-requires-clause-columns
walked_verdict-requires-clause-columns c =
    subst (λ n. AreColumns n c.args.perm.now) c.side.ensures.side (c.in_ok-is_column_list.ensures.0 c.if-not-branch.false)

-- before the first level all present cells are left
pub walked_verdict-requires-clause-first : goal.walked_verdict-requires-clause-first
walked_verdict-requires-clause-first c = record { none = λ m less. absurd (omega (arith, less)); behind = c.in_ok-walk.ensures }
