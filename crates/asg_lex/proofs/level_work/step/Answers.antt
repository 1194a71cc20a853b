use Rattle.asg_lex.proofs.Common.{ℕ, ◌<◌, ◌≤◌, Bool, true, false, cond, [], ◌∷◌, ◌++◌, length, All, sym, refl, ap, ◌∙◌, subst, arith, All-push, Tightens, CountsStep, counts_more, IsUnderway, square_now, Work, IsMarked, IsStuck, AllAllowed, Word, PhaseOf, IsPhase, ArePhases, IsUnitPhase}
use Rattle.asg_lex.proofs.WorkSteps.{ArePhasesSoFar, phases_more, matched_more}
use Rattle.asg_lex.proofs.StepMarks.{zeros_tight, next_by}
use Rattle.asg_lex.proofs.level_work.step.Goals as goal

-- the phases so far, of work under way
so_far : (side : ℕ) (work : Work) → IsUnderway side work → ArePhasesSoFar side work.zeros work.ones work.marks.bits work.ins.items work.outs.items work.phases.items
so_far side work u = record { counted = record { units = record { plain = u.plain; admitted = u.admitted; index = u.index }; duals = u.duals }; zeros_marked = u.marks }

module _ (c : goal.In_ok-push) where
  abbrev side : ℕ
  side = length c.args.matching.now

  abbrev phase : PhaseOf Word
  phase = c.in_ok-phase.phase

  stuck_here : IsStuck (IsMarked c.args.work.now.marks.bits side) c.args.matching.now c.args.root c.args.rows.now
  stuck_here = subst (λ n. IsStuck (IsMarked c.args.work.now.marks.bits n) c.args.matching.now c.args.root c.args.rows.now) c.requires.underway.marks_side c.requires.stuck

  counts : CountsStep side phase.enters phase.leaves c.args.work.now.ins.items c.args.work.now.outs.items c.count_zeros.new.counts.items c.count_zeros-2.new.counts.items
  counts =
      counts_more side phase.enters phase.leaves c.args.work.now.ins.items c.args.work.now.outs.items c.count_zeros.new.counts.items c.count_zeros-2.new.counts.items
      c.enters.result.now c.leaves.result.now c.enters.ensures.enters c.leaves.ensures.leaves c.in_ok-phase.ensures.split.row_count c.in_ok-phase.ensures.split.column_count
      c.count_zeros.ensures.each c.count_zeros-2.ensures.each c.count_zeros-2.ensures.rest

  tight_before : Tightens c.args.work.now.marks.bits c.args.work.now.zeros c.args.work.now.ones c.args.work.now.ins.items c.args.work.now.outs.items side side
  tight_before =
      let u = c.requires.underway in
      zeros_tight side (length c.args.work.now.phases.items) c.args.work.now.zeros c.args.work.now.ones c.args.work.now.marks.bits c.args.work.now.ins.items c.args.work.now.outs.items (square_now c.args.work.now)
      u.marked_rows u.marked_columns c.rows-marks.ensures.table u.duals u.marks

  tight : Tightens c.tighten_more.new.marks c.args.work.now.zeros c.args.work.now.ones c.count_zeros.new.counts.items c.count_zeros-2.new.counts.items side side
  tight =
      let u = c.requires.underway in
      next_by c.args.work.now.marks.bits c.tighten_more.new.marks c.args.work.now.zeros c.args.work.now.ones _ side
      c.enters-2.result.now phase.enters c.leaves-2.result.now phase.leaves c.as_slice.result.now c.count_zeros.new.counts.items c.as_slice-2.result.now c.count_zeros-2.new.counts.items
      u.marked_rows c.enters-2.ensures.enters c.leaves-2.ensures.leaves c.as_slice.ensures.value c.as_slice-2.ensures.value c.tighten_more.ensures.bits
      (length c.args.work.now.phases.items) c.args.work.now.ins.items c.args.work.now.outs.items (square_now c.args.work.now) u.duals tight_before counts

  more : ArePhasesSoFar side c.args.work.now.zeros c.args.work.now.ones c.tighten_more.new.marks c.count_zeros.new.counts.items c.count_zeros-2.new.counts.items (c.args.work.now.phases.items ++ phase ∷ [])
  more =
      let u = c.requires.underway in
      phases_more side c.args.work.now.zeros c.args.work.now.ones c.args.work.now.marks.bits c.tighten_more.new.marks c.args.work.now.ins.items c.args.work.now.outs.items c.count_zeros.new.counts.items c.count_zeros-2.new.counts.items
      c.args.work.now.phases.items phase c.args.matching.now c.args.root c.args.rows.now u.zeros u.ones u.few c.requires.few (so_far side c.args.work.now u)
      c.side-side.ensures.matching refl stuck_here c.requires.below c.requires.apart c.in_ok-phase.ensures.steps c.in_ok-phase.ensures.split counts tight

  pushed : ArePhasesSoFar side c.args.work.now.zeros c.args.work.now.ones c.tighten_more.new.marks c.count_zeros.new.counts.items c.count_zeros-2.new.counts.items c.push.new.self.items
  pushed = subst (ArePhasesSoFar side c.args.work.now.zeros c.args.work.now.ones c.tighten_more.new.marks c.count_zeros.new.counts.items c.count_zeros-2.new.counts.items) (sym c.in_ok-push.ensures.items) more

one_if_few : (b : Bool) → cond {A = ℕ} b 1 0 ≤ 1
one_if_few true = omega arith
one_if_few false = omega arith

pub count_zeros-requires-clause-few : goal.count_zeros-requires-clause-few
count_zeros-requires-clause-few c r h =
    let u = c.requires.underway in
    let long = ap length c.enters.ensures.enters in
    let inside : r < length c.args.matching.now = omega (arith, h, long, c.in_ok-phase.ensures.split.row_count) in
    let before = u.duals.few_ins r inside in
    let few = c.requires.few in
    let most = u.few in
    omega (arith, before, few, most)

pub count_zeros-requires-2-clause-few : goal.count_zeros-requires-2-clause-few
count_zeros-requires-2-clause-few c r h =
    let u = c.requires.underway in
    let before = u.duals.few r in
    let few = c.requires.few in
    let most = u.few in
    omega (arith, before, few, most)

-- the marks keep their size
pub invariant_of-work : goal.invariant_of-work
invariant_of-work c =
    let u = c.requires.underway in
    record {
      rows = c.tighten_more.ensures.rows ∙ u.marked_rows ∙ sym u.marks_side;
      columns = c.tighten_more.ensures.columns ∙ u.marked_columns ∙ sym u.marks_side;
    }

pub returns-clause-underway : goal.returns-clause-underway
returns-clause-underway c =
    let u = c.requires.underway in
    let so = pushed c in
    record {
      few = u.few;
      zeros = u.zeros;
      ones = u.ones;
      marked_rows = c.tighten_more.ensures.rows ∙ u.marked_rows;
      marked_columns = c.tighten_more.ensures.columns ∙ u.marked_columns;
      marks_side = u.marks_side;
      ins = c.count_zeros.ensures.count ∙ u.ins;
      outs = c.count_zeros-2.ensures.count ∙ u.outs;
      phases_are = subst ArePhases (sym c.in_ok-push.ensures.items) (All-push IsPhase c.args.work.now.phases.items (phase c) u.phases_are c.in_ok-phase.ensures.phase);
      units = subst (All (IsUnitPhase (side c))) (sym c.in_ok-push.ensures.items)
          (All-push (IsUnitPhase (side c)) c.args.work.now.phases.items (phase c) u.units
          (record { step = c.in_ok-phase.ensures.steps; enters = c.in_ok-phase.ensures.split.row_count; leaves = c.in_ok-phase.ensures.split.column_count }));
      plain = so.counted.units.plain;
      admitted = so.counted.units.admitted;
      index = so.counted.units.index;
      duals = so.counted.duals;
      marks = so.zeros_marked;
    }

pub returns-clause-cells : goal.returns-clause-cells
returns-clause-cells c =
    let u = c.requires.underway in
    let cells = subst (λ n. AllAllowed (IsMarked c.args.work.now.marks.bits n) c.args.matching.now) u.marks_side c.requires.cells in
    let after = matched_more (side c) c.args.work.now.zeros c.args.work.now.ones c.args.work.now.marks.bits c.tighten_more.new.marks c.args.work.now.ins.items c.args.work.now.outs.items c.count_zeros.new.counts.items c.count_zeros-2.new.counts.items
    c.args.work.now.phases.items (phase c) c.args.matching.now c.args.root c.args.rows.now u.zeros u.ones u.few c.requires.few (so_far (side c) c.args.work.now u)
    c.side-side.ensures.matching refl (stuck_here c) c.requires.below c.requires.apart c.in_ok-phase.ensures.steps c.in_ok-phase.ensures.split (counts c) (tight c) cells in
    subst (λ n. AllAllowed (IsMarked c.tighten_more.new.marks n) c.args.matching.now) (sym u.marks_side) after
