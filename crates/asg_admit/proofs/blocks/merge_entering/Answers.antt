use Rattle.asg_admit.proofs.Common.{◌≡◌, ◌+◌, ◌≤◌, Bool, List, length, sym, refl, ap, ◌∙◌, subst, arith, MergesRows, held_at, place_of}
use Rattle.asg_admit.proofs.LeastLemmas.{rows_none, rows_values, rows_skip, rows_more}
use Rattle.asg_admit.proofs.blocks.merge_entering.Goals as goal
use Rattle.asg_admit.proofs.blocks.merge_entering.Goals.{then-enters-row, else-enters-row}

pub loop-row-init : goal.loop-row-init
loop-row-init g c =
    let m = c.args.m.now in
    let M = g.M.Ordered.monoid_of m in
    record {
      room = refl;
      held = refl;
      merged = rows_none M (g.met.M.Ordered.laws m) c.args.square.now c.args.enters.now c.args.from (place_of c.args.end c.args.leaves.now) (held_at M c.args.room.now c.args.held.now) c.requires.values;
    }

pub merge_row-requires-clause-values : goal.merge_row-requires-clause-values
merge_row-requires-clause-values g c =
    let m = c.args.m.now in
    let M = g.M.Ordered.monoid_of m in
    let l = c.loop-row in
    rows_values M (g.met.M.Ordered.laws m) c.args.square.now c.args.enters.now c.args.from (place_of c.args.end c.args.leaves.now) (held_at M c.args.room.now c.args.held.now) c.requires.values
    c.requires.cells l.row (omega arith) (held_at M l.room l.held) l.invariant.merged

pub loop-row-preserved : goal.loop-row-preserved
loop-row-preserved g c =
    let m = c.args.m.now in
    let M = g.M.Ordered.monoid_of m in
    let laws = g.met.M.Ordered.laws m in
    let Q = c.args.square.now in
    let place = place_of c.args.end c.args.leaves.now in
    let before = held_at M c.args.room.now c.args.held.now in
    let l = c.loop-row in
    let inv = l.invariant in
    let Merged = λ (room : List g.row.M-Value.Denot) (held : List Bool). MergesRows M Q c.args.enters.now c.args.from place (l.row + 1) before (held_at M room held) in
    let inside : l.row ≤ Q.side = omega arith in
    elim c.if-enters-row.branch [
      | then-enters-row w ↦
          let e = w.merge_row.ensures in
          let new = w.merge_row.new in
          record {
            room = ap length w.room-is ∙ e.room ∙ inv.room;
            held = ap length w.held-is ∙ e.held ∙ inv.held;
            merged = subst (λ room. Merged room c.if-enters-row.held) (sym w.room-is) (subst (Merged new.room) (sym w.held-is)
                (rows_more M laws Q c.args.enters.now c.args.from place before c.requires.values c.requires.cells l.row inside (held_at M l.room l.held) inv.merged
                (omega arith) w.if-enters-row.true (held_at M new.room new.held) e.merged));
          }
      | else-enters-row w ↦
          record {
            room = ap length w.room-is ∙ inv.room;
            held = ap length w.held-is ∙ inv.held;
            merged = subst (λ room. Merged room c.if-enters-row.held) (sym w.room-is) (subst (Merged l.room) (sym w.held-is)
                (rows_skip M laws Q c.args.enters.now c.args.from place before c.requires.values c.requires.cells l.row inside (held_at M l.room l.held) inv.merged
                w.if-enters-row.false));
          }
    ]

pub returns-clause-merged : goal.returns-clause-merged
returns-clause-merged g c =
    let m = c.args.m.now in
    let M = g.M.Ordered.monoid_of m in
    let l = c.loop-row in
    let all : l.row ≡ c.args.square.now.side = omega arith in
    subst (λ n. MergesRows M c.args.square.now c.args.enters.now c.args.from (place_of c.args.end c.args.leaves.now) n (held_at M c.args.room.now c.args.held.now) (held_at M l.room l.held)) all l.invariant.merged
