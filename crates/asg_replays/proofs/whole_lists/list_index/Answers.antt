use Rattle.asg_replays.proofs.Common.{sym, ◌∙◌, arith}
use Rattle.asg_replays.proofs.whole_lists.list_index.Goals as goal

pub none-requires : goal.none-requires
none-requires g c =
    let few = c.side.ensures.grid.table.few in
    omega (arith, few, c.side.ensures.side)

pub returns : goal.returns
returns g c = λ top above.
    let are = c.in_ok-take_all.ensures.taken c.if-not-branch.false in
    record {
      admitted = record {
        phases = are.phases;
        written = are.written;
        admitted = c.fits.ensures.admitted c.if-not-fits.false top are.phases above are.come;
      };
      same = c.fits.ensures.index top are.phases above are.come ∙ sym c.sum.ensures;
    }
