use Rattle.asg_levels.proofs.Common.{◌≡◌, ℕ, ◌+◌, ◌<◌, List, [], ◌∷◌, ◌++◌, length, take, sym, ap, ◌∙◌, subst, arith, length-take, take_all, take_more, AreCountedUnits}
use Rattle.asg_levels.proofs.unit_lists.take_units.Goals as goal

taken : {A : Type 0} (xs : List A) (n : ℕ) → n < length xs → length (take n xs) ≡ n
taken xs n h = let long = length-take n xs in omega (arith, long, h)

pub take_unit-requires-clause-few_ins : goal.take_unit-requires-clause-few_ins
take_unit-requires-clause-few_ins c r h =
    let long = taken c.args.phases.now c.loop-place.place c.loop-place-test.true in
    omega (arith, c.loop-place.invariant.counted.duals.few_ins r h, long)

pub take_unit-requires-clause-few_outs : goal.take_unit-requires-clause-few_outs
take_unit-requires-clause-few_outs c k =
    let long = taken c.args.phases.now c.loop-place.place c.loop-place-test.true in
    omega (arith, c.loop-place.invariant.counted.duals.few k, long)

pub loop-place-preserved : goal.loop-place-preserved
loop-place-preserved c =
    let phases = c.args.phases.now in
    let place = c.loop-place.place in
    let phase = c.index-phases-place.result in
    let one = c.in_ok-take_unit.ensures in
    let more = one.taken c.if-not-branch.false (take place phases) (taken phases place c.loop-place-test.true) c.loop-place.invariant.counted in
    let list : take place phases ++ phase ∷ [] ≡ take (place + 1) phases =
    ap (λ p. take place phases ++ p ∷ []) c.index-phases-place.is ∙ sym (take_more phases place phase c.loop-place-test.true) in
    record {
      ins = one.ins;
      outs = one.outs;
      stay_rows = one.stay_rows;
      stay_columns = one.stay_columns;
      counted = subst (AreCountedUnits c.args.zeros.now.rows c.args.zeros.now c.args.ones.now c.take_unit.new.ins.items c.take_unit.new.outs.items) list more;
    }

pub returns-clause-taken : goal.returns-clause-taken
returns-clause-taken c = λ is.
    let all : take c.loop-place.place c.args.phases.now ≡ c.args.phases.now = take_all c.loop-place.place c.args.phases.now (omega (arith, c.loop-place-test.false)) in
    subst (AreCountedUnits c.args.zeros.now.rows c.args.zeros.now c.args.ones.now c.loop-place.ins.items c.loop-place.outs.items) all c.loop-place.invariant.counted
