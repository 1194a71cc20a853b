use Rattle.asg_admit.proofs.Common.{◌≡◌, ◌<◌, length, slice_index, sym, refl, ◌∙◌, subst, arith, MergesRow, held_at, lesser_of, place_of, row_read, cell_at}
use Rattle.asg_admit.proofs.LeastLemmas.{place_few, merges_none, merged_values, merges_more}
use Rattle.asg_admit.proofs.blocks.merge_row.Goals as goal

pub loop-column-init : goal.loop-column-init
loop-column-init g c =
    let m = c.args.m.now in
    let M = g.M.Ordered.monoid_of m in
    record {
      room = refl;
      held = refl;
      merged = merges_none M (g.met.M.Ordered.laws m) (cell_at c.args.square.now c.args.row) (place_of c.args.end c.args.leaves.now) (held_at M c.args.room.now c.args.held.now) c.requires.values;
    }

pub merge_cell-requires-clause-room : goal.merge_cell-requires-clause-room
merge_cell-requires-clause-room g c =
    let l = c.loop-column in
    let few = place_few (length c.args.leaves.now) c.args.end (slice_index c.args.leaves.now l.column) l.column c.loop-column-test.true in
    omega (arith, few.1, c.column_place-place.ensures, l.invariant.room, c.requires.room)

pub merge_cell-requires-clause-held : goal.merge_cell-requires-clause-held
merge_cell-requires-clause-held g c =
    let l = c.loop-column in
    let few = place_few (length c.args.leaves.now) c.args.end (slice_index c.args.leaves.now l.column) l.column c.loop-column-test.true in
    omega (arith, few.0, c.column_place-place.ensures, l.invariant.held, c.requires.held, c.requires.leaves)

pub merge_cell-requires-clause-values : goal.merge_cell-requires-clause-values
merge_cell-requires-clause-values g c =
    let m = c.args.m.now in
    let M = g.M.Ordered.monoid_of m in
    let l = c.loop-column in
    merged_values M (g.met.M.Ordered.laws m) (cell_at c.args.square.now c.args.row) (place_of c.args.end c.args.leaves.now) (held_at M c.args.room.now c.args.held.now) c.requires.values
    l.column (held_at M l.room l.held) l.invariant.merged (λ k x h e. c.requires.cells k (omega (arith, h, c.loop-column-test.true, c.requires.leaves)) x e)

pub merge_cell-requires-clause-cell : goal.merge_cell-requires-clause-cell
merge_cell-requires-clause-cell g c = λ x is.
    let k = c.loop-column.column in
    let below : k < c.args.square.now.side = omega (arith, c.loop-column-test.true, c.requires.leaves) in
    c.requires.cells k below x
    (row_read (cell_at c.args.square.now c.args.row) c.args.square.now.side c.row_values-values.result.now c.row_words-words.result.now c.row_values-values.ensures c.row_words-words.ensures k below
    ∙ sym c.stored_cell-cell.ensures ∙ is)

pub loop-column-preserved : goal.loop-column-preserved
loop-column-preserved g c =
    let m = c.args.m.now in
    let M = g.M.Ordered.monoid_of m in
    let l = c.loop-column in
    let k = l.column in
    let below : k < c.args.square.now.side = omega (arith, c.loop-column-test.true, c.requires.leaves) in
    let read = row_read (cell_at c.args.square.now c.args.row) c.args.square.now.side c.row_values-values.result.now c.row_words-words.result.now c.row_values-values.ensures c.row_words-words.ensures k below in
    let e = c.merge_cell.ensures in
    let mid = held_at M l.room l.held in
    let after = held_at M c.merge_cell.new.room c.merge_cell.new.held in
    let at = c.column_place-place.ensures in
    record {
      room = e.room ∙ l.invariant.room;
      held = e.held ∙ l.invariant.held;
      merged = merges_more M (g.met.M.Ordered.laws m) (cell_at c.args.square.now c.args.row) (place_of c.args.end c.args.leaves.now) (held_at M c.args.room.now c.args.held.now) c.requires.values
          k mid after c.stored_cell-cell.result l.invariant.merged
          (λ j x h is. c.requires.cells j (omega (arith, h, below)) x is)
          (c.stored_cell-cell.ensures ∙ sym read)
          (subst (λ p. after p ≡ lesser_of M (mid p) c.stored_cell-cell.result) at e.here)
          (λ s apart. e.others s (λ i. apart (i ∙ at)));
    }

pub returns-clause-merged : goal.returns-clause-merged
returns-clause-merged g c =
    let m = c.args.m.now in
    let M = g.M.Ordered.monoid_of m in
    let l = c.loop-column in
    let all : l.column ≡ c.args.square.now.side = omega (arith, c.loop-column-test.false, l.auto.column-end, c.requires.leaves) in
    subst (λ n. MergesRow M (cell_at c.args.square.now c.args.row) (place_of c.args.end c.args.leaves.now) n (held_at M c.args.room.now c.args.held.now) (held_at M l.room l.held)) all l.invariant.merged
