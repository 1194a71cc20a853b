use Rattle.asg_levels.proofs.Common.{ℕ, ◌*◌, List, length, get_or, sym, ap, ◌∙◌, subst, arith, word_count, AreCountedUnits, marks_after, tightens_by}
use Rattle.asg_levels.proofs.ListLemmas.{no_units}
use Rattle.asg_levels.proofs.unit_lists.apply_units.Goals as goal

pub returns-clause-units : goal.returns-clause-units
returns-clause-units c is =
    let so : AreCountedUnits c.args.side c.args.zeros.now c.args.ones.now c.take_units.new.ins.items c.take_units.new.outs.items c.args.phases.now =
    subst (λ n. AreCountedUnits n c.args.zeros.now c.args.ones.now c.take_units.new.ins.items c.take_units.new.outs.items c.args.phases.now) c.requires.rows
    (c.in_ok-take_units.ensures.taken c.if-not-branch.false) in
    so.units

pub returns-clause-marks : goal.returns-clause-marks
returns-clause-marks c is =
    let so : AreCountedUnits c.args.side c.args.zeros.now c.args.ones.now c.take_units.new.ins.items c.take_units.new.outs.items c.args.phases.now =
    subst (λ n. AreCountedUnits n c.args.zeros.now c.args.ones.now c.take_units.new.ins.items c.take_units.new.outs.items c.args.phases.now) c.requires.rows
    (c.in_ok-take_units.ensures.taken c.if-not-branch.false) in
    marks_after c.args.side c.args.zeros.now c.args.ones.now c.tighten.new.marks c.take_units.new.ins.items c.take_units.new.outs.items c.args.phases.now so
    (tightens_by c.tighten.new.marks c.args.zeros.now c.args.ones.now c.as_slice.result.now c.take_units.new.ins.items c.as_slice-2.result.now c.take_units.new.outs.items
    _ c.args.side c.as_slice.ensures.value c.as_slice-2.ensures.value c.requires.mark_rows c.in_ok-tighten.ensures.bits)

pub take_units-requires-clause-start : goal.take_units-requires-clause-start
take_units-requires-clause-start c =
    no_units c.args.zeros.now.rows _ _ c.args.zeros.now c.args.ones.now c.in_ok-ins.ins.items c.in_ok-outs.outs.items
    (c.in_ok-ins.ensures.items_if_clones_equal (λ y same. same)) (c.in_ok-outs.ensures.items_if_clones_equal (λ y same. same))

pub tighten-requires-clause-ins : goal.tighten-requires-clause-ins
tighten-requires-clause-ins c =
    omega (arith, ap length c.as_slice.ensures.value, c.in_ok-take_units.ensures.ins, c.requires.rows, c.requires.mark_rows)

pub tighten-requires-clause-outs : goal.tighten-requires-clause-outs
tighten-requires-clause-outs c =
    ap length c.as_slice-2.ensures.value ∙ c.in_ok-take_units.ensures.outs ∙ ap (λ n. 64 * word_count n) (c.requires.rows ∙ sym c.requires.mark_columns)

pub tighten-requires-clause-few_ins : goal.tighten-requires-clause-few_ins
tighten-requires-clause-few_ins c = λ r h.
    let so = c.in_ok-take_units.ensures.taken c.if-not-branch.false in
    let at = ap (λ (xs : List ℕ). get_or xs r 0) c.as_slice.ensures.value in
    let few = so.duals.few_ins r (omega (arith, h, ap length c.as_slice.ensures.value, c.in_ok-take_units.ensures.ins)) in
    omega (arith, at, few)
