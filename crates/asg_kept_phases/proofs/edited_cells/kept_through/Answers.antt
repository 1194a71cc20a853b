use Rattle.asg_kept_phases.proofs.Common.{◌≡◌, ◌<◌, ◌≤◌, length, IfSome, sym, ◌∙◌, subst, AreOfValues, admitted_values, AreLeft, IsAtRow, phases_in, phases_along, edited, named_row, square_side, HasValues, square_cell}
use Rattle.asg_kept_phases.specs.laws.LedEdits.{row_of_square}
use Rattle.asg_kept_phases.proofs.KeptThrough.{edited_values, kept_of_rows}
use Rattle.asg_kept_phases.proofs.edited_cells.kept_through.Goals as goal

pub rows_at-seen-requires : goal.rows_at-seen-requires
rows_at-seen-requires g c =
    subst (λ n. IfSome c.args.places.row (λ p. p < n)) (sym c.side-side.ensures.side)
    (subst (λ o. IfSome o (λ p. p < square_side c.args.inst.now)) (λ i. (sym c.requires.places i).row)
    (row_of_square c.args.inst.now c.rows-rows.ensures.instance (named_row c.args.edit)))

pub returns : goal.returns
returns g c =
    let kind = c.args.kind.now in
    let m = g.K.Kind.monoid kind in
    let M = g.K.M.Ordered.monoid_of m in
    let d = g.K.M.DMonoid.difference m in
    let enter = g.K.Kind.entered kind in
    let X = c.args.inst.now in
    let F = c.args.chain.now.region in
    let way = c.requires.chain.told c.requires.told in
    let seen = c.rows_at-seen.result in
    let before = square_cell X M.unit enter in
    let after = square_cell (edited X c.args.edit) M.unit enter in
    let along : phases_along F c.deref.result.now ≡ phases_in c.args.chain.now = (λ i. phases_along F (c.deref.ensures.value i)) ∙ way.along in
    let left = subst (λ k. AreLeft (g.K.M.Ordered.monoid_of k) (g.K.M.DMonoid.difference k) (phases_along F c.deref.result.now) c.side-side.result before after (λ r j. (seen.0 ≤ r) × (r < seen.1)) (length c.deref.result.now) c.kept_count.result) c.monoid-m.ensures c.kept_count.ensures in
    kept_of_rows M (g.met.K.M.Ordered.laws m) d enter (g.K.Kind.objective kind) X c.rows-rows.ensures.instance c.args.edit c.requires.passes
    c.side-side.result seen.0 seen.1 c.kept_count.result c.side-side.ensures.side F c.deref.result.now (phases_in c.args.chain.now) along c.requires.admitted
    (λ r low.
    let rows = c.rows_at-seen.ensures.rows r low in (
      λ within. subst (λ o. IsAtRow o r) (λ i. (c.requires.places i).row) (rows.0 within),
      λ at. rows.1 (subst (λ o. IsAtRow o r) (λ i. (sym c.requires.places i).row) at),
    ))
    left

pub kept_count-requires-clause-values : goal.kept_count-requires-clause-values
kept_count-requires-clause-values g c =
    let m = g.K.Kind.monoid c.args.kind.now in
    let M = g.K.M.Ordered.monoid_of m in
    let F = c.args.chain.now.region in
    let P = phases_in c.args.chain.now in
    let along : phases_along F c.deref.result.now ≡ P = (λ i. phases_along F (c.deref.ensures.value i)) ∙ (c.requires.chain.told c.requires.told).along in
    subst (λ k. AreOfValues (g.K.M.Ordered.monoid_of k) (phases_along F c.deref.result.now)) (sym c.monoid-m.ensures)
    (subst (AreOfValues M) (sym along)
    (admitted_values M (g.K.M.DMonoid.difference m) (square_side c.args.inst.now) P (square_cell c.args.inst.now M.unit (g.K.Kind.entered c.args.kind.now)) c.requires.admitted))

pub kept_count-requires-clause-cells : goal.kept_count-requires-clause-cells
kept_count-requires-clause-cells g c =
    let kind = c.args.kind.now in
    let m = g.K.Kind.monoid kind in
    let M = g.K.M.Ordered.monoid_of m in
    let X = c.args.inst.now in
    let enter = g.K.Kind.entered kind in
    let side = c.args.chain.now.region.side in
    subst (λ k. HasValues (g.K.M.Ordered.monoid_of k) side (square_cell (edited X c.args.edit) M.unit enter)) (sym c.monoid-m.ensures)
    (edited_values M (g.met.K.M.Ordered.laws m) (g.K.M.DMonoid.difference m) enter (g.K.Kind.objective kind) X c.rows-rows.ensures.instance c.args.edit c.requires.passes side c.requires.region_side c.requires.live)
