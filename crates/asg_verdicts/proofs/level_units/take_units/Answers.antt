use Rattle.asg_verdicts.proofs.LevelCommon.{◌≡◌, length, ℤ, Some, Option, sym, ap, ◌∙◌, subst, to_z-of_z, w64, to_z, of_z, rules, BitTable, Walk, AreUnits, MarkZeros, square_side}
use Rattle.asg_verdicts.proofs.UnitLevels.{left_by, phases_are}
use Rattle.asg_verdicts.proofs.level_units.take_units.Goals as goal

abbrev walk_of : BitTable → Option ℤ → Walk
walk_of left before = record { left = left; before = before }

-- the walk stays
pub returns-then-not-branch-clause-same : goal.returns-then-not-branch-clause-same
returns-then-not-branch-clause-same c no_more = ap (λ left. walk_of left c.args.walk.now.before) (c.in_ok-apply_units.ensures.stay c.if-not-branch.true)

pub returns-clause-sized : goal.returns-clause-sized
returns-clause-sized c is =
    let side : c.side-side.result ≡ square_side c.args.inst.now = c.side-side.ensures.side ∙ c.requires.square.labels.side in
    let zero = c.in_ok-apply_units.ensures.marks c.if-not-branch.false in
    record { rows = zero.rows ∙ side; columns = zero.columns ∙ side }

pub returns-clause-phases : goal.returns-clause-phases
returns-clause-phases c before left behind is =
    let X = c.args.inst.now in
    let level = c.args.level.now in
    let bits = c.in_ok-bits.bits in
    let side : c.side-side.result ≡ square_side X = c.side-side.ensures.side ∙ c.requires.square.labels.side in
    let count : length level.phases ≡ level.count = sym (ap length c.as_slice-phases.ensures.items) ∙ c.if-phases-level.false in
    phases_are X c.args.walk.now.before before left level bits.zeros bits.ones behind.before_is (c.in_ok-bits.ensures.cells left behind.left_is) c.side-side.result side
    (subst (AreUnits c.side-side.result bits.zeros bits.ones) c.as_slice-phases.ensures.items (c.in_ok-apply_units.ensures.units c.if-not-branch.false)) count

pub returns-clause-behind : goal.returns-clause-behind
returns-clause-behind c before left behind is =
    let X = c.args.inst.now in
    let level = c.args.level.now in
    let bits = c.in_ok-bits.bits in
    let side : c.side-side.result ≡ square_side X = c.side-side.ensures.side ∙ c.requires.square.labels.side in
    let cost : to_z w64 (of_z w64 level.cost) ≡ level.cost = to_z-of_z w64 level.cost (search rules) in
    record {
      left_is = left_by X c.args.walk.now.before before left level bits.zeros bits.ones behind.before_is (c.in_ok-bits.ensures.cells left behind.left_is) c.side-side.result c.apply_units.new.marks side
          (subst (MarkZeros c.side-side.result bits.zeros bits.ones c.apply_units.new.marks) c.as_slice-phases.ensures.items (c.in_ok-apply_units.ensures.marks c.if-not-branch.false));
      before_is = ap Some cost;
    }
