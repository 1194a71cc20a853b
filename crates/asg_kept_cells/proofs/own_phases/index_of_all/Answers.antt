use Rattle.asg_kept_cells.proofs.Common.{◌≡◌, ℕ, subst, KeepsLabels, cell_at, masked_grid}
use Rattle.asg_kept_cells.proofs.OwnPhases.{index_bad, index_led, taken_reduced}
use Rattle.asg_kept_cells.proofs.own_phases.index_of_all.Goals as goal

pub first_bad-requires : goal.first_bad-requires
first_bad-requires g c =
    let m = c.args.m.now in
    let R = c.take_out.new.square in
    let labels = subst (λ Q. KeepsLabels Q R) c.in_ok-now.ensures c.take_out.ensures.labels in
    let cells = subst (λ Q. (r k : ℕ) → cell_at R r k ≡ cell_at (masked_grid Q c.args.kept.now.words) r k) c.in_ok-now.ensures c.take_out.ensures.cells in
    taken_reduced (g.M.Ordered.monoid_of m) (g.met.M.Ordered.laws m) (g.M.DMonoid.difference m) (g.M.Written.word_of m) c.args.square.now c.args.kept.now c.args.before c.requires.before R labels cells c.requires.values

pub returns-in-Some-clause-none : goal.returns-in-Some-clause-none
returns-in-Some-clause-none g c = λ none all.
    let m = c.args.m.now in
    let R = c.take_out.new.square in
    let labels = subst (λ Q. KeepsLabels Q R) c.in_ok-now.ensures c.take_out.ensures.labels in
    let cells = subst (λ Q. (r k : ℕ) → cell_at R r k ≡ cell_at (masked_grid Q c.args.kept.now.words) r k) c.in_ok-now.ensures c.take_out.ensures.cells in
    let bad = rw c.in-Some.is at c.in_ok-_place.ensures.bad in
    index_bad (g.M.Ordered.monoid_of m) (g.met.M.Ordered.laws m) (g.M.DMonoid.difference m) (g.M.Written.word_of m) c.args.square.now c.args.kept.now c.args.before c.requires.before R labels cells c.args.own.now c.in-Some._place bad all

pub returns-clause-some : goal.returns-clause-some
returns-clause-some g c =
    let m = c.args.m.now in
    let R = c.take_out.new.square in
    let labels = subst (λ Q. KeepsLabels Q R) c.in_ok-now.ensures c.take_out.ensures.labels in
    let cells = subst (λ Q. (r k : ℕ) → cell_at R r k ≡ cell_at (masked_grid Q c.args.kept.now.words) r k) c.in_ok-now.ensures c.take_out.ensures.cells in
    index_led (g.M.Ordered.monoid_of m) (g.met.M.Ordered.laws m) (g.M.DMonoid.difference m) (g.M.Written.word_of m) c.args.square.now c.args.kept.now c.args.before c.requires.before R labels cells c.args.own.now c.first_bad.new.square (c.in_ok-_place.ensures.none c.in-None.is)
