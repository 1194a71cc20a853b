use Rattle.asg_lex.proofs.Common.{sym, ap, ◌∙◌, subst, arith, IsMarked, MarksUnder, IsPerfect}
use Rattle.asg_lex.proofs.guesses.guessed_start.Goals as goal

pub returns-then-is_served : goal.returns-then-is_served
returns-then-is_served c =
    let Q = c.args.square.now in
    let found = c.is_served.new.search in
    let start = c.into_start.result in
    let limit = c.into_start.ensures.limit in
    let marks = sym c.into_start.ensures.marks in
    record {
      some = omega (arith, limit, c.saturating_add-bound.ensures);
      side = ap (λ m. m.side) c.into_start.ensures.marks ∙ c.is_served.ensures.over.marks;
      cells =
          subst (λ n. MarksUnder Q n start.marks.bits) (sym limit)
          (subst (λ m. MarksUnder Q c.saturating_add-bound.result m.bits) marks c.is_served.ensures.cells);
      perfect =
          subst (λ m. IsPerfect (IsMarked m.bits m.side) Q.side start.matching) marks
          (subst (IsPerfect (IsMarked found.marks.bits found.marks.side) Q.side) (sym c.into_start.ensures.matching)
          (c.is_served.ensures.perfect c.if-is_served.true));
    }
