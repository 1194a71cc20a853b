use Rattle.asg_verdicts.proofs.LevelCommon.{◌<◌, true, false, length, get_or, sym, refl, ap, ◌∙◌, subst, eq-eqb, eqb-true, false≢true, length-map-range_with_len, chosen_by}
use Rattle.asg_verdicts.proofs.LevelWhole.{left_by_bits}
use Rattle.asg_verdicts.proofs.level_verdicts.hold_in_all.Goals as goal

pub are_left-requires-clause-sized : goal.are_left-requires-clause-sized
are_left-requires-clause-sized c = record {
  rows = c.requires.left.rows ∙ sym c.requires.columns.over;
  columns = c.requires.left.columns ∙ sym c.requires.columns.over;
}

pub are_left-requires-clause-columns : goal.are_left-requires-clause-columns
are_left-requires-clause-columns c = record {
  over = refl;
  apart = c.requires.columns.apart;
  within = λ r d h. subst (λ n. get_or c.args.perm.now r d < n) (sym c.requires.columns.over) (c.requires.columns.within r d h);
}

pub is_same_choice-requires : goal.is_same_choice-requires
is_same_choice-requires c =
    let X = c.args.inst.now in
    ap length c.requires.chosen ∙ length-map-range_with_len (chosen_by X c.args.perm.now) 0 (length X.rows) ∙ sym c.requires.rows

-- a cell isn't left
pub returns-then-not-are_left : goal.returns-then-not-are_left
returns-then-not-are_left c =
    let X = c.args.inst.now in
    let bits = left_by_bits X (λ enter r k. c.square_law.ensures.presence X 0 enter r k) c.args.perm.now c.args.levels.now (λ r k. c.square_law-2.ensures.presence X false (λ cost. true) r k) c.args.walk.now.left c.requires.columns c.requires.left in (
      λ yes. absurd (false≢true yes),
      λ w. absurd (false≢true (sym c.if-not-are_left.true ∙ c.are_left.ensures.1 (bits.1 w.assignment))),
    )

-- another choice
pub returns-then-not-is_same_choice : goal.returns-then-not-is_same_choice
returns-then-not-is_same_choice c = (
  λ yes. absurd (false≢true yes),
  λ w. absurd (false≢true (sym c.if-not-is_same_choice.true ∙ c.is_same_choice.ensures.1 (c.requires.chosen ∙ w.chosen))),
)

-- the counts decide
pub returns : goal.returns
returns c =
    let X = c.args.inst.now in
    let bits = left_by_bits X (λ enter r k. c.square_law.ensures.presence X 0 enter r k) c.args.perm.now c.args.levels.now (λ r k. c.square_law-2.ensures.presence X false (λ cost. true) r k) c.args.walk.now.left c.requires.columns c.requires.left in (
      λ h. record {
        assignment = bits.0 (c.are_left.ensures.0 c.if-not-are_left.false);
        chosen = sym c.requires.chosen ∙ c.is_same_choice.ensures.0 c.if-not-is_same_choice.false;
        total = sym c.total.ensures ∙ eqb-true c.total.result c.from.result h ∙ c.from.ensures ∙ c.placed.ensures;
      },
      λ w. eq-eqb c.total.result c.from.result (c.total.ensures ∙ w.total ∙ sym (c.from.ensures ∙ c.placed.ensures)),
    )
