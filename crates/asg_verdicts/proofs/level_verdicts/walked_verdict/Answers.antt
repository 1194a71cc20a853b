use Rattle.asg_verdicts.proofs.LevelCommon.{◌≡◌, suc, ◌+◌, length, pos, sym, ap, ◌∙◌, subst, inl, arith, false≢true, LevelsStand, left_before, IsLeft, free_cost, hold_tells, level_tells, not_in_all_told, within_all, square_side, is_between, without, Tells, level_reasons}
use Rattle.asg_verdicts.specs.declared.verdicts.Verdict.TheVariants.{No}
use Rattle.asg_verdicts.proofs.LevelWhole.{in_the_end}
use Rattle.asg_verdicts.proofs.level_verdicts.walked_verdict.Goals as goal

-- the walk has the size of the square
pub leave_between-requires-clause-sized : goal.leave_between-requires-clause-sized
leave_between-requires-clause-sized c =
    let passed = rw c.in_default.is at c.in_ok-place.ensures.stops in
    record { rows = passed.behind.left_is.rows; columns = passed.behind.left_is.columns }

-- a level is none
pub returns-in-Some : goal.returns-in-Some
returns-in-Some c =
    let X = c.args.inst.now in
    let f = c.args.choice.now in
    let perm = c.args.perm.now in
    let levels = c.args.levels.now in
    let place = c.in-Some.place in
    let stops = rw c.in-Some.is at c.in_ok-place.ensures.stops in
    let more : place + 1 ≡ suc place = omega arith in
    subst (Tells (LevelsStand X f perm levels) level_reasons) (sym (c.verdict_at_part.ensures ∙ ap (No 9) (ap pos more)))
    (level_tells X f perm levels place c.requires.columns stops.0 stops.1)

-- behind all levels the walk has what is left in the end
pub hold_in_all-requires-clause-left : goal.hold_in_all-requires-clause-left
hold_in_all-requires-clause-left c =
    let X = c.args.inst.now in
    let perm = c.args.perm.now in
    let levels = c.args.levels.now in
    let passed = rw c.in_default.is at c.in_ok-place.ensures.stops in
    in_the_end X c.requires.instance levels c.leave_between.new.walk.left
    (subst (λ before. IsLeft (square_side X) (without X (is_between before free_cost) (left_before X levels (length levels))) c.leave_between.new.walk.left) passed.behind.before_is
    (c.leave_between.ensures.left (left_before X levels (length levels)) passed.behind.left_is))

-- they hold in all
pub returns-then-hold_in_all : goal.returns-then-hold_in_all
returns-then-hold_in_all c =
    let passed = rw c.in_default.is at c.in_ok-place.ensures.stops in
    hold_tells c.args.inst.now c.args.choice.now c.args.perm.now c.args.levels.now passed.none (c.hold_in_all.ensures.0 c.if-hold_in_all.true)

-- or they don't
pub returns : goal.returns
returns c =
    let X = c.args.inst.now in
    let f = c.args.choice.now in
    let perm = c.args.perm.now in
    let levels = c.args.levels.now in
    let passed = rw c.in_default.is at c.in_ok-place.ensures.stops in
    subst (Tells (LevelsStand X f perm levels) level_reasons) (sym c.verdict.ensures)
    (inl (not_in_all_told X f perm levels (within_all X f perm levels passed.none) (λ holds. false≢true (sym c.if-hold_in_all.false ∙ c.hold_in_all.ensures.1 holds))))
