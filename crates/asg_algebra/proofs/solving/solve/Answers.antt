use Rattle.asg_algebra.proofs.solving.solve.Goals as goal

pub serve_all-requires-clause-rest : goal.serve_all-requires-clause-rest
serve_all-requires-clause-rest g c =
    let r = c.requires in
    record {
      values = r.reduced.cells;
      index_is_value = r.reduced.index;
      matching_side = r.matching_side;
      columns = c.side-2.ensures.matching;
      absorbed = r.absorbed;
    }
