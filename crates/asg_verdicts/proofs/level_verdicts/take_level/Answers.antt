use Rattle.asg_verdicts.proofs.LevelCommon.{◌≡◌, ℕ, [], Some, sym, refl, ap, ◌∙◌, subst, to_z-of_z, w64, to_z, of_z, rules, false≢true, IsBehind, IsDue, IsLeft, IsSized, square_side, is_between, is_zero, left_for, level_square, without, choice_of, cell_at}
use Rattle.asg_verdicts.proofs.LevelTaken.{is_one, left_is, not_due, refused_phases}
use Rattle.asg_verdicts.proofs.level_verdicts.take_level.Goals as goal

pub leave_between-requires-clause-sized : goal.leave_between-requires-clause-sized
leave_between-requires-clause-sized c = subst (IsSized (square_side c.args.inst.now)) (sym (c.in_ok-take_units.ensures.same c.if-branch.false)) c.requires.sized

pub keep_zeros-requires : goal.keep_zeros-requires
keep_zeros-requires c =
    let led = (c.in_ok-are_counted.ensures.applied c.if-not-branch.false).0 in
    record { sized = subst (λ n. IsSized n c.leave_between.new.walk) (sym (led.labels.side ∙ c.in_ok-reduced.ensures.side)) c.leave_between.ensures.sized }

pub returns-clause-sized : goal.returns-clause-sized
returns-clause-sized c so =
    let led = (c.in_ok-are_counted.ensures.applied c.if-not-branch.false).0 in
    subst (λ n. IsSized n c.keep_zeros.new.walk) (led.labels.side ∙ c.in_ok-reduced.ensures.side) c.keep_zeros.ensures.sized

-- its phases each have one step, by 1
pub returns-then-branch-clause-level : goal.returns-then-branch-clause-level
returns-then-branch-clause-level c perm before left same behind =
    let X = c.args.inst.now in
    let level = c.args.level.now in
    let has = c.in_ok-take_units.ensures.phases before left behind c.if-branch.true in
    let due = subst (λ f. IsDue X f before level) (sym same) (subst (λ b. IsDue X c.args.chosen.now b level) behind.before_is (c.is_due.ensures.0 c.if-not-is_due.false)) in (
      λ yes. record { proved = record { falls = due.0; some = due.1.0; plain = has.plain; admitted = has.admitted; index = has.index }; cells = due.1.1 },
      λ is. refl,
    )

pub returns-then-branch-clause-behind : goal.returns-then-branch-clause-behind
returns-then-branch-clause-behind c before left behind is = c.in_ok-take_units.ensures.behind before left behind c.if-branch.true

-- the level isn't due
pub returns-then-not-is_due-clause-level : goal.returns-then-not-is_due-clause-level
returns-then-not-is_due-clause-level c perm before left same behind =
    let X = c.args.inst.now in
    let level = c.args.level.now in (
      λ yes. absurd (false≢true yes),
      λ is. absurd
          (not_due X perm before left level
          (λ due. false≢true (sym c.if-not-is_due.true ∙ c.is_due.ensures.1 (subst (λ f. IsDue X f c.args.walk.now.before level) same (subst (λ b. IsDue X (choice_of X perm) b level) (sym behind.before_is) due))))
          is),
    )

-- its phases are refused
pub returns-then-not-branch-clause-level : goal.returns-then-not-branch-clause-level
returns-then-not-branch-clause-level c perm before left same behind =
    let X = c.args.inst.now in
    let level = c.args.level.now in
    let start = c.in_ok-reduced.reduced in
    let cost : to_z w64 (of_z w64 level.cost) ≡ level.cost = to_z-of_z w64 level.cost (search rules) in
    let still : IsBehind X before left c.take_units.new.walk = subst (IsBehind X before left) (sym (c.in_ok-take_units.ensures.same c.if-branch.false)) behind in
    let between : IsLeft (square_side X) (left_for X before left level) c.leave_between.new.walk.left =
    subst (λ z. IsLeft (square_side X) (without X (is_between before z) left) c.leave_between.new.walk.left) cost
    (subst (λ b. IsLeft (square_side X) (without X (is_between b (to_z w64 (of_z w64 level.cost))) left) c.leave_between.new.walk.left) still.before_is (c.leave_between.ensures.left left still.left_is)) in
    let cells : (r k : ℕ) → cell_at start.now r k ≡ level_square X (left_for X before left level) level.cost r k =
    λ r k. c.in_ok-reduced.ensures.cells (left_for X before left level) between r k ∙ ap (λ z. level_square X (left_for X before left level) z r k) cost in (
      λ yes. absurd (false≢true yes),
      λ is. absurd (refused_phases X perm before left level start c.in_ok-reduced.ensures.side cells c.in_ok-reduced.ensures.index (c.in_ok-are_counted.ensures.refused c.if-not-branch.true) is),
    )

-- it is one
pub returns-clause-level : goal.returns-clause-level
returns-clause-level c perm before left same behind =
    let X = c.args.inst.now in
    let level = c.args.level.now in
    let start = c.in_ok-reduced.reduced in
    let cost : to_z w64 (of_z w64 level.cost) ≡ level.cost = to_z-of_z w64 level.cost (search rules) in
    let still : IsBehind X before left c.take_units.new.walk = subst (IsBehind X before left) (sym (c.in_ok-take_units.ensures.same c.if-branch.false)) behind in
    let between : IsLeft (square_side X) (left_for X before left level) c.leave_between.new.walk.left =
    subst (λ z. IsLeft (square_side X) (without X (is_between before z) left) c.leave_between.new.walk.left) cost
    (subst (λ b. IsLeft (square_side X) (without X (is_between b (to_z w64 (of_z w64 level.cost))) left) c.leave_between.new.walk.left) still.before_is (c.leave_between.ensures.left left still.left_is)) in
    let cells : (r k : ℕ) → cell_at start.now r k ≡ level_square X (left_for X before left level) level.cost r k =
    λ r k. c.in_ok-reduced.ensures.cells (left_for X before left level) between r k ∙ ap (λ z. level_square X (left_for X before left level) z r k) cost in
    let counted = c.in_ok-are_counted.ensures.applied c.if-not-branch.false in
    let due = subst (λ b. IsDue X c.args.chosen.now b level) behind.before_is (c.is_due.ensures.0 c.if-not-is_due.false) in (
      λ yes. is_one X perm before left level start c.in_ok-reduced.ensures.side cells c.are_counted.new.reduced counted.0 (subst (λ f. IsDue X f before level) (sym same) due) c.in_ok-reduced.ensures.index counted.1,
      λ is. refl,
    )

-- and the walk stands behind it
pub returns-clause-behind : goal.returns-clause-behind
returns-clause-behind c before left behind so =
    let X = c.args.inst.now in
    let level = c.args.level.now in
    let start = c.in_ok-reduced.reduced in
    let cost : to_z w64 (of_z w64 level.cost) ≡ level.cost = to_z-of_z w64 level.cost (search rules) in
    let still : IsBehind X before left c.take_units.new.walk = subst (IsBehind X before left) (sym (c.in_ok-take_units.ensures.same c.if-branch.false)) behind in
    let between : IsLeft (square_side X) (left_for X before left level) c.leave_between.new.walk.left =
    subst (λ z. IsLeft (square_side X) (without X (is_between before z) left) c.leave_between.new.walk.left) cost
    (subst (λ b. IsLeft (square_side X) (without X (is_between b (to_z w64 (of_z w64 level.cost))) left) c.leave_between.new.walk.left) still.before_is (c.leave_between.ensures.left left still.left_is)) in
    let cells : (r k : ℕ) → cell_at start.now r k ≡ level_square X (left_for X before left level) level.cost r k =
    λ r k. c.in_ok-reduced.ensures.cells (left_for X before left level) between r k ∙ ap (λ z. level_square X (left_for X before left level) z r k) cost in
    let led = (c.in_ok-are_counted.ensures.applied c.if-not-branch.false).0 in
    let after = c.are_counted.new.reduced in
    record {
      left_is = left_is X [] before left level start c.in_ok-reduced.ensures.side cells after led (square_side X) c.keep_zeros.new.walk.left
          (subst (λ n. IsLeft n (λ r d. is_zero (cell_at after.now r d)) c.keep_zeros.new.walk.left) (led.labels.side ∙ c.in_ok-reduced.ensures.side) c.keep_zeros.ensures.left);
      before_is = c.keep_zeros.ensures.before ∙ ap Some cost;
    }
