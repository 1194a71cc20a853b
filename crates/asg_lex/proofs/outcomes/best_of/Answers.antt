use Rattle.asg_lex.proofs.Common.{◌≡◌, ℕ, true, List, length, is_some, Option, sym, ap, ◌∙◌, subst, arith, count_by-le-length, free_grade, grade_of, Problem, square_side, IsValid, ProvesLevels, Level, choice_of, Grid, IsPerm, grid_choice}
use Rattle.asg_lex.proofs.StartLemmas.{perm_of_left}
use Rattle.asg_lex.proofs.outcomes.best_of.Goals as goal

pub choice_of-requires : goal.choice_of-requires
choice_of-requires c =
    let X = c.args.inst.now in
    record {
      perm =
          subst (IsPerm c.args.square.now) (sym c.as_slice.ensures.value)
          (perm_of_left X c.args.square.now c.requires.square (λ r k. c.square_law.ensures.presence X _ (λ cost. true) r k) (λ r k. c.square_law-2.ensures.presence X free_grade grade_of r k) c.args.perm.items c.args.levels c.requires.left);
    }

pub returns : goal.returns
returns c =
    let X : Problem = c.args.inst.now in
    let Q : Grid ℕ = c.args.square.now in
    let perm : List ℕ = c.args.perm.items in
    let levels : List Level = c.args.levels in
    let f : List (Option ℕ) = c.in_ok-choice.choice in
    let side : ℕ = square_side X in
    let instance = c.rows-rows.ensures.instance in
    let is_perm : IsPerm Q perm = perm_of_left X Q c.requires.square (λ r k. c.square_law.ensures.presence X _ (λ cost. true) r k) (λ r k. c.square_law-2.ensures.presence X free_grade grade_of r k) perm levels c.requires.left in
    let choice : f ≡ choice_of X perm =
    c.in_ok-choice.ensures.choice ∙ ap (grid_choice Q) c.as_slice.ensures.value
    ∙ c.grid_law.ensures.choice X Q perm instance (c.grid_law.ensures.within X free_grade grade_of Q c.requires.square) is_perm in
    let valid : IsValid X f =
    (c.square_law-2.ensures.choices X free_grade grade_of f instance).1
    (perm, (c.grid_law.ensures.perms X free_grade grade_of Q perm c.requires.square).0 is_perm, sym choice) in
    let hold = c.levels_law.ensures.hold X perm levels instance c.requires.proved c.requires.left in
    let proves : ProvesLevels X f perm levels =
    record { levels_hold = hold; assignment = c.requires.left; chosen = sym choice; total = c.levels_law.ensures.total X perm levels instance hold c.requires.left } in
    let few = count_by-le-length is_some f in
    record {
      outcome = record {
        valid = valid;
        proved = subst (λ p. ProvesLevels X f p levels) (sym c.from_vec.ensures) proves;
      };
      levels = (
        ap length c.from_vec.ensures ∙ c.requires.count,
        record {
          few = omega (arith, proves.total, valid.counted, valid.over, few, c.requires.few_rows);
          each = c.requires.units;
        },
      );
    }
