use Rattle.asg_lex.proofs.Common.{◌≡◌, ℕ, [], All, sym, ◌∙◌, subst, arith, All-nil, AreSized, AreMarksOf, free_grade, grade_of, IsMarked, Marks, IsPerfect, square_side, AreLevelParts, IsLevelPart, IsUnitLevel}
use Rattle.asg_lex.proofs.StartLemmas.{first_place, first_marks}
use Rattle.asg_lex.proofs.starts.first_run.Goals as goal

pub returns : goal.returns
returns c =
    let X = c.args.inst.now in
    let Q = c.args.cells.now.square.now in
    let square = c.requires.square in
    let presence = λ (r k : ℕ). c.square_law.ensures.presence X free_grade grade_of r k in
    let n = square_side X in
    let side = c.requires.side ∙ square.labels.side in
    let none : c.new.result.items ≡ [] = c.new.ensures.items in
    let limit = c.args.cells.now.limit in
    let marks = c.args.marks in
    let same = sym c.in_ok-work.ensures.marks in
    let are = subst (λ k. AreMarksOf X k limit [] marks.bits) square.labels.side (first_marks X c.rows-rows.ensures.instance Q square presence limit c.requires.some marks.bits c.requires.marked) in
    let perfect = subst (λ k. IsPerfect (IsMarked marks.bits marks.side) k c.args.matching) square.labels.side c.requires.perfect in (
      limit,
      record {
        reach = omega arith;
        upper = first_place Q limit c.args.cells.now.entries.now c.requires.entries;
        marks = subst (λ levels. AreMarksOf X n limit levels c.in_ok-work.work.marks.bits) (sym none) (subst (λ (m : Marks). AreMarksOf X n limit [] m.bits) same are);
        parts = subst AreLevelParts (sym none) (All-nil IsLevelPart);
        units = subst (All (IsUnitLevel n)) (sym none) (All-nil (IsUnitLevel n));
        sized = subst (λ k. AreSized k c.in_ok-work.work) side c.in_ok-work.ensures.sized;
        matching_side = c.requires.perfect.rows ∙ square.labels.side;
        tree_side = c.in_ok-tree.ensures.side ∙ side;
        perfect = subst (λ (m : Marks). IsPerfect (IsMarked m.bits m.side) n c.args.matching) same perfect;
      },
    )
