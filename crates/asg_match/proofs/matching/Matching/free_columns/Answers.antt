use Rattle.asg_match.proofs.Common.{◌+◌, ◌*◌, ◌<◌, length, sym, ap, subst, arith, get_or_read, HasBit, IsFree, HasColumn-at, HasBit-of}
use Rattle.asg_match.proofs.PairedLemmas.{IsFree-listed}
use Rattle.asg_match.proofs.matching.Matching.free_columns.Goals as goal

pub index-requires : goal.index-requires
index-requires c =
    let m = c.self.inside in
    omega (arith, ap length c.self.view_is, c.self.invariant.0.columns_len, c.self.invariant.1.set.count, m.free.ok.0, c.requires)

pub returns-clause-below : goal.returns-clause-below
returns-clause-below c = λ k has.
    let m = c.self.inside in
    let side = ap length c.self.view_is in
    let within : c.args.number < length m.free.items = omega (arith, side, c.self.invariant.0.columns_len, c.self.invariant.1.set.count) in
    let read = get_or_read m.free.items c.args.number _ within c.index.ensures 0 in
    omega (arith, side, c.self.invariant.0.columns_len, c.self.invariant.1.set.below c.args.number k (subst (λ n. HasBit n k) read has))

pub returns-clause-free : goal.returns-clause-free
returns-clause-free c = λ k bit below.
    let m = c.self.inside in
    let column = 64 * c.args.number + k in
    let side = ap length c.self.view_is in
    let within : c.args.number < length m.free.items = omega (arith, side, c.self.invariant.0.columns_len, c.self.invariant.1.set.count) in
    let read = get_or_read m.free.items c.args.number _ within c.index.ensures 0 in
    let listed = IsFree-listed c.self.invariant.0 column in
    let exact = c.self.invariant.1.exact column (omega (arith, side, c.self.invariant.0.columns_len, below)) in (
      λ has. subst (λ matching. IsFree matching column) c.self.view_is (listed.0 (exact.0 (HasColumn-at m.free.items c.args.number k bit (subst (λ n. HasBit n k) read has)))),
      λ free. subst (λ n. HasBit n k) (sym read) (HasBit-of m.free.items c.args.number k bit (exact.1 (listed.1 (subst (λ matching. IsFree matching column) (sym c.self.view_is) free)))),
    )
