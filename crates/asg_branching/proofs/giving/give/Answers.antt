use Rattle.asg_branching.proofs.Common.{◌≡◌, ◌+◌, length, sym, refl, ap, ◌∙◌, subst, arith, with_item, with_items, with_items_is, IsChosenBy, Search, IsPerfect, with_state, rules_of, Answered, room_small, IsPresent, cell_at}
use Rattle.asg_branching.proofs.GivenAnswers.{node_from, node_upto, perfect_base, chosen_over, given_answer, given_least, memory_given}
use Rattle.asg_branching.proofs.GivenSearches.{growing_now, one_more}
use Rattle.asg_branching.proofs.giving.give.Goals as goal

pub write_choice-requires-clause-perfect : goal.write_choice-requires-clause-perfect
write_choice-requires-clause-perfect g c =
    let m = c.args.m.now in
    let M = g.M.Ordered.monoid_of m in
    let S = c.args.search.now in
    let r = c.requires.ready in
    subst (IsPerfect (IsPresent (cell_at S.base.now)) S.base.now.side) (sym (c.matching.ensures.matching M.unit))
    (perfect_base (rules_of M (g.M.DMonoid.difference m) r.0) (g.met.M.Ordered.laws m) c.args.inst.now c.rows-rows.ensures.instance r.1 S r.2 c.requires.some)

pub overflow_add-search : goal.overflow_add-search
overflow_add-search g c =
    let S = c.args.search.now in
    let r = c.requires.ready in
    let some = c.requires.some in
    let u = r.2.memory.used_fit in
    let small = room_small c.args.inst.now c.rows-rows.ensures.instance r.2.rankable.place S.slots.room r.2.memory.small in
    omega (arith, some, u, small)

pub set_state-requires-clause-from : goal.set_state-requires-clause-from
set_state-requires-clause-from g c =
    let m = c.args.m.now in
    let M = g.M.Ordered.monoid_of m in
    let r = c.requires.ready in
    let low = node_from (rules_of M (g.M.DMonoid.difference m) r.0) (g.met.M.Ordered.laws m) c.args.inst.now c.rows-rows.ensures.instance r.1 c.args.search.now r.2 c.requires.some in
    let is = c.node-node.ensures M.unit in
    omega (arith, low, is)

pub set_state-requires-clause-upto : goal.set_state-requires-clause-upto
set_state-requires-clause-upto g c =
    let m = c.args.m.now in
    let M = g.M.Ordered.monoid_of m in
    let r = c.requires.ready in
    let high = node_upto (rules_of M (g.M.DMonoid.difference m) r.0) (g.met.M.Ordered.laws m) c.args.inst.now c.rows-rows.ensures.instance r.1 c.args.search.now r.2 c.requires.some in
    let is = c.node-node.ensures M.unit in
    let count : length c.deref_mut-2.result.now ≡ length c.args.search.now.tree.entries.items = ap (λ xs. length xs) c.deref_mut-2.ensures.value in
    omega (arith, high, is, count)

pub returns-clause-growing : goal.returns-clause-growing
returns-clause-growing g c enter count ready =
    let m = c.args.m.now in
    let M = g.M.Ordered.monoid_of m in
    let R = rules_of M (g.M.DMonoid.difference m) enter in
    let laws = g.met.M.Ordered.laws m in
    let X = c.args.inst.now in
    let instance = c.rows-rows.ensures.instance in
    let S = c.args.search.now in
    let less = c.requires.some in
    let f = c.write_choice.new.out in
    let U : Search _ = record {
      given = S.given + 1;
      choices = with_item S.choices S.given f;
      slots = S.slots;
      tree = record { entries = with_items S.tree.entries c.set_state.new.entries; region = S.tree.region; halls = S.tree.halls };
      base = S.base;
      desk = record S.desk { columns = with_items S.desk.columns c.write_choice.new.columns };
    } in
    let chosen = subst (λ matching. IsChosenBy S.base.now matching f) (c.matching.ensures.matching M.unit) c.write_choice.ensures.chosen in
    let square = c.square_law.ensures in
    let answer = given_answer R laws X instance count S ready less f chosen c.fold_law.ensures (c.lower_bound_law.ensures.bound enter) square.choices square.folds square.presence c.grid_law.ensures.choice in
    let least = given_least R laws X instance count S ready less f chosen c.fold_law.ensures (c.lower_bound_law.ensures.bound enter) square.choices square.folds square.presence c.grid_law.ensures.choice in
    let count_now : length c.set_state.new.entries ≡ S.tree.entries.len = omega (arith, c.set_state.auto.entries, ap (λ xs. length xs) c.deref_mut-2.ensures.value, S.tree.entries.ok.0) in
    let entries_are = with_items_is S.tree.entries c.set_state.new.entries count_now ∙ c.set_state.ensures M.unit ∙ (λ i. with_state M.unit (c.deref_mut-2.ensures.value i) (c.node-node.ensures M.unit i) (Answered (S.given + 1))) in
    let d = ready.memory.desk in
    let memory = memory_given X S U ready.memory less f (chosen_over R laws X instance count S ready less f chosen) refl refl refl refl refl refl
    (record { work = d.work; bit_rows = d.bit_rows; bit_columns = d.bit_columns; bench = d.bench; trial = d.trial; steps = d.steps; columns = d.columns; ids = d.ids }) in
    growing_now R X count S U ready less f refl refl refl refl entries_are refl refl refl memory answer least refl refl

pub returns-clause-more : goal.returns-clause-more
returns-clause-more g c enter count ready =
    let m = c.args.m.now in
    let M = g.M.Ordered.monoid_of m in
    let R = rules_of M (g.M.DMonoid.difference m) enter in
    let laws = g.met.M.Ordered.laws m in
    let X = c.args.inst.now in
    let instance = c.rows-rows.ensures.instance in
    let S = c.args.search.now in
    let less = c.requires.some in
    let f = c.write_choice.new.out in
    let U : Search _ = record {
      given = S.given + 1;
      choices = with_item S.choices S.given f;
      slots = S.slots;
      tree = record { entries = with_items S.tree.entries c.set_state.new.entries; region = S.tree.region; halls = S.tree.halls };
      base = S.base;
      desk = record S.desk { columns = with_items S.desk.columns c.write_choice.new.columns };
    } in
    let chosen = subst (λ matching. IsChosenBy S.base.now matching f) (c.matching.ensures.matching M.unit) c.write_choice.ensures.chosen in
    let square = c.square_law.ensures in
    let answer = given_answer R laws X instance count S ready less f chosen c.fold_law.ensures (c.lower_bound_law.ensures.bound enter) square.choices square.folds square.presence c.grid_law.ensures.choice in
    let least = given_least R laws X instance count S ready less f chosen c.fold_law.ensures (c.lower_bound_law.ensures.bound enter) square.choices square.folds square.presence c.grid_law.ensures.choice in
    let count_now : length c.set_state.new.entries ≡ S.tree.entries.len = omega (arith, c.set_state.auto.entries, ap (λ xs. length xs) c.deref_mut-2.ensures.value, S.tree.entries.ok.0) in
    let entries_are = with_items_is S.tree.entries c.set_state.new.entries count_now ∙ c.set_state.ensures M.unit ∙ (λ i. with_state M.unit (c.deref_mut-2.ensures.value i) (c.node-node.ensures M.unit i) (Answered (S.given + 1))) in
    let d = ready.memory.desk in
    let memory = memory_given X S U ready.memory less f (chosen_over R laws X instance count S ready less f chosen) refl refl refl refl refl refl
    (record { work = d.work; bit_rows = d.bit_rows; bit_columns = d.bit_columns; bench = d.bench; trial = d.trial; steps = d.steps; columns = d.columns; ids = d.ids }) in
    one_more R X count S U ready less f refl refl refl refl entries_are refl refl refl memory answer least
