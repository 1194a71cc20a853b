use Rattle.asg_match.proofs.Common.{◌≡◌, ◌<◌, length, None, sym, ap, subst, arith, column_at, IsFree}
use Rattle.asg_match.proofs.PairedLemmas.{IsPaired-set, AreFree-taken, IsFree-listed}
use Rattle.asg_match.proofs.matching.Matching.set.Goals as goal

pub remove-requires-clause-below : goal.remove-requires-clause-below
remove-requires-clause-below c = omega (arith, ap length c.self.view_is, c.self.invariant.0.columns_len, c.requires.column_below)

pub invariant_of-self : goal.invariant_of-self
invariant_of-self c =
    let m = c.self.inside in
    let side = ap length c.self.view_is in
    let row_within : c.args.r < length m.columns.items = omega (arith, side) in
    let column_within : c.args.c < length m.rows.items = omega (arith, side, c.self.invariant.0.columns_len, c.self.invariant.0.rows_len) in
    let row_free : column_at m.columns.items c.args.r ≡ None = subst (λ matching. column_at matching c.args.r ≡ None) (sym c.self.view_is) c.requires.row_free in
    let column_free = (IsFree-listed c.self.invariant.0 c.args.c).1 (subst (λ matching. IsFree matching c.args.c) (sym c.self.view_is) c.requires.column_free) in (
      IsPaired-set c.args.r c.args.c c.self.invariant.0 row_within column_within row_free column_free,
      AreFree-taken c.remove.new.words.items c.args.r c.args.c c.self.invariant.1 column_within c.remove.ensures.set c.remove.ensures.others,
    )
