use Rattle.asg_kept_cells.proofs.Common.{ℕ, List, ap, ◌∙◌, arith, ltb-true, lt-ltb, list_any, kept_cells, count_below}
use Rattle.asg_kept_cells.proofs.HallLemmas.{outnumber_from, outnumber_to}
use Rattle.asg_kept_cells.proofs.hall_tests.outnumber.Goals as goal

pub returns : goal.returns
returns g c =
    let X = c.args.inst.now in
    let has = kept_cells c.args.square.now c.args.kept.now in
    let rows = c.in-Some.rows.items in
    let are = rw c.in-Some.is at c.in_ok-rows.ensures.some in
    let met = c.met_columns.ensures
    ∙ ap (λ (rs : List ℕ). count_below (λ k. list_any (λ row. has row k) rs) c.args.square.now.side) c.as_slice.ensures.value
    ∙ ap (count_below (λ k. list_any (λ row. has row k) rows)) c.requires.side in (
      λ ok. outnumber_from X has c.args.ids.now rows are c.met_columns.result met (omega (arith, ltb-true c.met_columns.result c.len.result ok, c.len.ensures, c.in-Some.rows.ok)),
      λ out. lt-ltb c.met_columns.result c.len.result (omega (arith, outnumber_to X has c.args.ids.now rows are c.met_columns.result met out, c.len.ensures, c.in-Some.rows.ok)),
    )
