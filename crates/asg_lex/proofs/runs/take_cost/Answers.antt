use Rattle.asg_lex.proofs.Common.{◌≡◌, ℕ, ◌+◌, ◌-◌, ◌≤◌, false, List, length, get_or, All, sym, refl, ap, ◌∙◌, subst, arith, All-push, BitTable, AreSized, LeavesOut, TakesLevel, AreMarksOf, cost_of, entry_of, entry_at, IsPlaceOf, IsMarked, Entry, Marks, IsPerfect, square_side, IsUnitLevel, IsUnitPhase}
use Rattle.asg_lex.proofs.RunLemmas.{marks_out, marks_level}
use Rattle.asg_lex.proofs.runs.take_cost.Goals as goal

-- the place of the first entry of the last one's grade
lower_by : (entries : List Entry) (to last from : ℕ) → last + 1 ≡ to → IsPlaceOf entries (get_or entries (to - 1) (entry_of 0 0 0)).grade from → IsPlaceOf entries (entry_at entries last).grade from
lower_by entries to last from end is =
    let place : to - 1 ≡ last = omega (arith, end) in
    subst (λ k. IsPlaceOf entries (entry_at entries k).grade from) place is

grade_is : (entries : List Entry) (to last : ℕ) → last + 1 ≡ to → (get_or entries (to - 1) (entry_of 0 0 0)).grade ≡ (entry_at entries last).grade
grade_is entries to last end =
    let place : to - 1 ≡ last = omega (arith, end) in
    ap (λ k. (entry_at entries k).grade) place

-- its grade is under the limit
reach_by : (entries : List Entry) (bound to last limit : ℕ) → last + 1 ≡ to → IsPlaceOf entries bound to → bound ≤ limit → (entry_at entries last).grade ≤ limit
reach_by entries bound to last limit end upper reach =
    let below = upper.below last (omega (arith, end)) in
    omega (arith, below, reach)

pub returns-then-not-branch-clause-run : goal.returns-then-not-branch-clause-run
returns-then-not-branch-clause-run c =
    let last = c.args.to - 1 in
    let end : last + 1 ≡ c.args.to = omega (arith, c.requires.some) in
    let X = c.args.inst.now in
    let side = square_side X in
    let run = c.requires.run.1 in
    let entries = c.args.cells.now.entries.now in
    let lower = lower_by entries c.args.to last c.place_of-from.result end c.place_of-from.ensures in
    let out = subst (λ n. LeavesOut n c.args.run.now.work.marks.bits c.take_group.new.work.marks.bits entries c.place_of-from.result c.args.to) run.matching_side (c.in_ok-take_group.ensures.left_out c.if-not-branch.true) in (
      (entry_at entries last).grade,
      record {
        reach = reach_by entries c.requires.run.0 c.args.to last c.args.cells.now.limit end run.upper run.reach;
        upper = lower;
        marks =
            marks_out X c.rows-rows.ensures.instance (λ enter r k. c.square_law.ensures.presence X false enter r k)
            c.args.cells.now.square.now c.requires.square c.args.cells.now.limit entries c.requires.entries c.requires.run.0 (entry_at entries last).grade c.place_of-from.result c.args.to last
            run.reach run.upper lower end refl c.args.run.now.levels.items c.args.run.now.work.marks.bits run.marks c.take_group.new.work.marks.bits out;
        parts = run.parts;
        units = run.units;
        sized = subst (λ n. AreSized n c.take_group.new.work) run.matching_side c.in_ok-take_group.ensures.sized;
        matching_side = c.in_ok-take_group.ensures.side ∙ run.matching_side;
        tree_side = c.in_ok-take_group.ensures.tree_side ∙ run.tree_side;
        perfect = subst (λ n. IsPerfect (IsMarked c.take_group.new.work.marks.bits c.take_group.new.work.marks.side) n c.take_group.new.matching) run.matching_side c.in_ok-take_group.ensures.perfect;
      },
    )

pub add_level-requires-clause-phases : goal.add_level-requires-clause-phases
add_level-requires-clause-phases c = (c.in_ok-take_group.ensures.level c.if-not-branch.false).underway.phases_are

pub returns-clause-run : goal.returns-clause-run
returns-clause-run c =
    let last = c.args.to - 1 in
    let end : last + 1 ≡ c.args.to = omega (arith, c.requires.some) in
    let X = c.args.inst.now in
    let side = square_side X in
    let run = c.requires.run.1 in
    let entries = c.args.cells.now.entries.now in
    let lower = lower_by entries c.args.to last c.place_of-from.result end c.place_of-from.ensures in
    let takes = subst (λ n. TakesLevel n c.args.run.now.work c.take_group.new.work entries c.place_of-from.result c.args.to) run.matching_side (c.in_ok-take_group.ensures.level c.if-not-branch.false) in
    let added = c.in_ok-add_level.ensures.level in
    let cost = added.cost_is ∙ ap cost_of (grade_is entries c.args.to last end) in
    let marks = marks_level X c.rows-rows.ensures.instance (λ enter r k. c.square_law.ensures.presence X false enter r k)
    c.args.cells.now.square.now c.requires.square c.args.cells.now.limit entries c.requires.entries c.requires.run.0 (entry_at entries last).grade c.place_of-from.result c.args.to last
    run.reach run.upper lower end refl c.args.run.now.levels.items c.args.run.now.work.marks.bits run.marks
    c.args.run.now.work c.take_group.new.work added.level refl takes cost (added.count ∙ ap length (sym added.phases)) (sym added.phases) in
    let sized = subst (λ n. AreSized n c.take_group.new.work) run.matching_side c.in_ok-take_group.ensures.sized in
    let same = ap (λ (m : Marks). m.bits) added.marks in
    let same_side = ap (λ (m : Marks). m.side) added.marks in (
      (entry_at entries last).grade,
      record {
        reach = reach_by entries c.requires.run.0 c.args.to last c.args.cells.now.limit end run.upper run.reach;
        upper = lower;
        marks = subst (λ B. AreMarksOf X side (entry_at entries last).grade c.add_level.new.levels.items B) (sym same) (subst (λ levels. AreMarksOf X side (entry_at entries last).grade levels c.take_group.new.work.marks.bits) (sym added.pushed) marks);
        parts = c.in_ok-add_level.ensures.parts;
        units =
            subst (All (IsUnitLevel side)) (sym added.pushed)
            (All-push (IsUnitLevel side) c.args.run.now.levels.items added.level run.units
            (record { count = ap length added.phases ∙ sym added.count; each = subst (All (IsUnitPhase side)) (sym added.phases) takes.underway.units }));
        sized = record {
          zero_rows = ap (λ (B : BitTable). B.rows) added.zeros ∙ sized.zero_rows;
          zero_columns = ap (λ (B : BitTable). B.columns) added.zeros ∙ sized.zero_columns;
          one_rows = ap (λ (B : BitTable). B.rows) added.ones ∙ sized.one_rows;
          one_columns = ap (λ (B : BitTable). B.columns) added.ones ∙ sized.one_columns;
          mark_rows = ap (λ (B : BitTable). B.rows) same ∙ sized.mark_rows;
          mark_columns = ap (λ (B : BitTable). B.columns) same ∙ sized.mark_columns;
          marks_side = same_side ∙ sized.marks_side;
          ins = ap (λ v. length v.items) added.ins ∙ sized.ins;
          outs = ap (λ v. length v.items) added.outs ∙ sized.outs;
        };
        matching_side = c.in_ok-take_group.ensures.side ∙ run.matching_side;
        tree_side = c.in_ok-take_group.ensures.tree_side ∙ run.tree_side;
        perfect =
            subst (λ B. IsPerfect (IsMarked B c.add_level.new.work.marks.side) side c.take_group.new.matching) (sym same)
            (subst (λ n. IsPerfect (IsMarked c.take_group.new.work.marks.bits n) side c.take_group.new.matching) (sym same_side)
            (subst (λ n. IsPerfect (IsMarked c.take_group.new.work.marks.bits c.take_group.new.work.marks.side) n c.take_group.new.matching) run.matching_side c.in_ok-take_group.ensures.perfect));
      },
    )
