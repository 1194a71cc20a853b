use Rattle.asg_verdicts.proofs.LevelCommon.{◌≡◌, ℕ, ◌<◌, ◌≢◌, get_or, IsTrue, sym, refl, ◌∙◌, subst, arith, false≢true, has_bit}
use Rattle.asg_verdicts.proofs.LevelColumns.{apart_next, columns_by, none_by, only_next, seen_next, within_next}
use Rattle.asg_verdicts.proofs.level_verdicts.is_column_list.Goals as goal

-- a column more, below the side and not seen
pub loop-place-preserved : goal.loop-place-preserved
loop-place-preserved c =
    let columns = c.args.columns.now in
    let place = c.loop-place.place in
    let inv = c.loop-place.invariant in
    let column = get_or columns place 0 in
    let read : column ≡ get_or columns place 0 = refl in
    let new = c.is_fresh.ensures.0 c.if-not-is_fresh.false in
    let fresh : (i : ℕ) → i < place → get_or columns i 0 ≢ column =
    λ i h e. false≢true (sym new.1 ∙ subst (λ k. IsTrue (has_bit c.loop-place.seen 0 k)) e (inv.seen i h)) in
    record {
      count = inv.count;
      rows = c.put.ensures.rows ∙ inv.rows;
      width = c.put.ensures.columns ∙ inv.width;
      within = within_next columns place column read c.args.side new.0 inv.within;
      apart = apart_next columns place column read fresh inv.apart;
      seen = seen_next columns place column read c.loop-place.seen c.put.new.self c.put.ensures inv.seen;
      only = only_next columns place column read c.loop-place.seen c.put.new.self c.put.ensures inv.only;
    }

-- a column isn't below the side, or was seen
pub returns-then-not-is_fresh : goal.returns-then-not-is_fresh
returns-then-not-is_fresh c =
    let columns = c.args.columns.now in
    let place = c.loop-place.place in
    let column = get_or columns place 0 in
    let read : column ≡ get_or columns place 0 = refl in (
      λ yes. absurd (false≢true yes),
      λ are. absurd (none_by c.args.side columns place column c.loop-place.seen read c.loop-place-test.true c.loop-place.invariant.only (λ new. false≢true (sym c.if-not-is_fresh.true ∙ c.is_fresh.ensures.1 new)) are),
    )

-- all are
pub returns : goal.returns
returns c =
    let columns = c.args.columns.now in
    let inv = c.loop-place.invariant in
    let past = c.loop-place-test.false in (
      λ yes. columns_by c.args.side columns inv.count (λ i h. inv.within i (omega (arith, h, past))) (λ i j before h. inv.apart i j before (omega (arith, h, past))),
      λ are. refl,
    )

-- there aren't as many as the side
pub returns-then-columns-side : goal.returns-then-columns-side
returns-then-columns-side c = (λ yes. absurd (false≢true yes), λ are. absurd (omega (arith, are.over, c.if-columns-side.true)))
