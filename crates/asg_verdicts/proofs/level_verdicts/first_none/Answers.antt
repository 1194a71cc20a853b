use Rattle.asg_verdicts.proofs.LevelCommon.{◌≡◌, length, sym, ap, ◌∙◌, subst, arith, false≢true, length-map-range_with_len, cost_before, left_before, HasPassed, chosen_by}
use Rattle.asg_verdicts.proofs.LevelWhole.{none_there, passed_next}
use Rattle.asg_verdicts.proofs.level_verdicts.first_none.Goals as goal

-- the choice has a place for each row
pub take_level-requires-clause-rows : goal.take_level-requires-clause-rows
take_level-requires-clause-rows c =
    let X = c.args.inst.now in
    ap length c.requires.chosen ∙ length-map-range_with_len (chosen_by X c.args.perm.now) 0 (length X.rows)

pub loop-place-init : goal.loop-place-init
loop-place-init c = record {
  sized = record { rows = c.requires.first.behind.left_is.rows; columns = c.requires.first.behind.left_is.columns };
  passed = c.requires.first;
}

pub loop-place-preserved : goal.loop-place-preserved
loop-place-preserved c =
    let X = c.args.inst.now in
    let levels = c.args.levels.now in
    let perm = c.args.perm.now in
    let n = c.loop-place.place in
    let level = c.index-levels-place.result in
    let inv = c.loop-place.invariant in
    let taken = c.in_ok-take_level.ensures in
    let told = c.if-not-branch.false in
    let is = (taken.level perm (cost_before levels n) (left_before X levels n) (sym c.requires.chosen) inv.passed.behind).0 told in
    record {
      sized = taken.sized told;
      passed = passed_next X perm levels n level c.loop-place-test.true c.index-levels-place.is c.loop-place.walk c.take_level.new.walk inv.passed is
          (taken.behind (cost_before levels n) (left_before X levels n) inv.passed.behind told);
    }

pub returns-then-not-branch-clause-stops : goal.returns-then-not-branch-clause-stops
returns-then-not-branch-clause-stops c =
    let X = c.args.inst.now in
    let levels = c.args.levels.now in
    let perm = c.args.perm.now in
    let n = c.loop-place.place in
    let inv = c.loop-place.invariant in
    let test = c.in_ok-take_level.ensures.level perm (cost_before levels n) (left_before X levels n) (sym c.requires.chosen) inv.passed.behind in (
      none_there X perm levels n c.index-levels-place.result c.loop-place-test.true c.index-levels-place.is (λ is. false≢true (sym c.if-not-branch.true ∙ test.1 is)),
      inv.passed.none,
    )

pub returns-clause-stops : goal.returns-clause-stops
returns-clause-stops c =
    let all : c.loop-place.place ≡ length c.args.levels.now = omega (arith, c.loop-place-test.false, c.loop-place.auto.place-end) in
    subst (λ n. HasPassed c.args.inst.now c.args.perm.now c.args.levels.now n c.loop-place.walk) all c.loop-place.invariant.passed
