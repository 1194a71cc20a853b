use Rattle.asg_window.proofs.Common.{◌≡◌, ℕ, ◌+◌, ◌<◌, ◌≤◌, IfNone, sym, subst, arith, IfOk-weaker, IsDeficient, from_if_some, IsAscent, AddsGap, IsAssignmentWithin, IsSpread, IsWithin}
use Rattle.asg_window.proofs.GapLemmas.{chained_less}
use Rattle.asg_window.proofs.gaps.ascend.Goals as goal

pub returns-in-None-clause-ascent : goal.returns-in-None-clause-ascent
returns-in-None-clause-ascent c =
    let Q = c.args.cells.now.square.now in
    let a = c.args.ascent.now in
    let shown = c.requires.ascent.gaps in
    let found = subst (λ o. IfNone o (IsAssignmentWithin Q a.low (a.low + a.spread) c.test.new.self.perm.items)) c.in-None.is c.in_ok-test.ensures.assignment in
    let less = c.spread_of-spread.ensures.least a.low a.spread c.requires.some (subst (IsAssignmentWithin Q a.low (a.low + a.spread)) (sym c.as_slice.ensures.value) found) in
    record {
      seeker = c.in_ok-test.ensures.seeker;
      low = omega (arith, c.in_ok-test.ensures.low);
      spread = subst (λ p. IsSpread Q p c.spread_of-spread.result) c.as_slice.ensures.value c.spread_of-spread.ensures;
      gaps = record { each = shown.each; chained = chained_less a.gaps.items a.low a.spread c.spread_of-spread.result (omega (arith, less)) shown.chained };
      low_fits = c.requires.ascent.low_fits;
      spread_fits = let fits = c.requires.ascent.spread_fits in omega (arith, less, fits);
    }

pub returns-in-None-clause-nearer : goal.returns-in-None-clause-nearer
returns-in-None-clause-nearer c =
    let Q = c.args.cells.now.square.now in
    let a = c.args.ascent.now in
    let found = subst (λ o. IfNone o (IsAssignmentWithin Q a.low (a.low + a.spread) c.test.new.self.perm.items)) c.in-None.is c.in_ok-test.ensures.assignment in
    let less = c.spread_of-spread.ensures.least a.low a.spread c.requires.some (subst (IsAssignmentWithin Q a.low (a.low + a.spread)) (sym c.as_slice.ensures.value) found) in
    omega (arith, less)

pub add_gap-requires-clause-above : goal.add_gap-requires-clause-above
add_gap-requires-clause-above c =
    let a = c.args.ascent.now in
    from_if_some (λ bound. a.low + a.spread ≤ bound) c.in_ok-test.field-0 c.in-Some.next c.in-Some.is c.in_ok-test.ensures.above

pub returns-in-Some-clause-ascent : goal.returns-in-Some-clause-ascent
returns-in-Some-clause-ascent c =
    let Q = c.args.cells.now.square.now in
    let entries = c.args.cells.now.entries.now in
    let a = c.args.ascent.now in
    let next = c.in-Some.next in
    let state = c.test.new.self in
    let inv = c.requires.ascent in
    let stay = from_if_some (λ (_ : ℕ). state.perm.items ≡ c.args.seeker.now.perm.items) c.in_ok-test.field-0 next c.in-Some.is c.in_ok-test.ensures.columns_stay in
    let short = from_if_some (λ bound. IsDeficient (IsWithin Q a.low bound) Q.side state.rows.items) c.in_ok-test.field-0 next c.in-Some.is c.in_ok-test.ensures.deficient in
    IfOk-weaker c.add_gap.result (λ _. AddsGap a c.add_gap.new.ascent next c.as_slice-in-Some.result.now) (λ _. IsAscent Q entries state c.add_gap.new.ascent)
    (λ _ adds. record {
      seeker = c.in_ok-test.ensures.seeker;
      low = let up = adds.up in omega (arith, up, c.in_ok-test.ensures.low);
      spread = subst (IsSpread Q state.perm.items) (sym adds.spread) (subst (λ p. IsSpread Q p a.spread) (sym stay) inv.spread);
      gaps = adds.gaps Q (subst (IsDeficient (IsWithin Q a.low next) Q.side) (sym c.as_slice-in-Some.ensures.value) short) inv.gaps;
      low_fits = adds.fits;
      spread_fits = let same = adds.spread in let fits = inv.spread_fits in omega (arith, same, fits);
    })
    c.add_gap.ensures

pub returns-in-Some-clause-nearer : goal.returns-in-Some-clause-nearer
returns-in-Some-clause-nearer c =
    let a = c.args.ascent.now in
    IfOk-weaker c.add_gap.result (λ _. AddsGap a c.add_gap.new.ascent c.in-Some.next c.as_slice-in-Some.result.now) (λ _. c.add_gap.new.ascent.spread + a.low < a.spread + c.add_gap.new.ascent.low)
    (λ _ adds. let up = adds.up in let same = adds.spread in omega (arith, up, same))
    c.add_gap.ensures
