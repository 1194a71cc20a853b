use Rattle.asg_kept_cells.proofs.Common.{◌≡◌, ℕ, ◌%◌, ◌≤◌, Bool, true, false, arith, is_bit_set, kept_cells, one}
use Rattle.asg_kept_cells.proofs.MetColumns.{met_counted, met_next}
use Rattle.asg_kept_cells.proofs.hall_tests.met_columns.Goals as goal

one_most : (b : Bool) (n : ℕ) → n ≡ one b → n ≤ 1
one_most true n e = omega (arith, e)
one_most false n e = omega (arith, e)

pub loop-column-preserved : goal.loop-column-preserved
loop-column-preserved g c =
    let has = kept_cells c.args.square.now c.args.kept.now in
    let rows = c.args.rows.now in
    let l = c.loop-column in
    let met = c.met_near-met.result in
    let more = c.one_of-count in
    let most = one_most (is_bit_set met (l.column % 64)) more.result more.ensures in
    record {
      few = omega (arith, l.invariant.few, most);
      counted = met_counted has rows l.column met l.count more.result l.invariant.counted c.met_near-met.ensures more.ensures;
      known = λ inner. met_next has rows l.column met inner c.met_near-met.ensures;
    }
