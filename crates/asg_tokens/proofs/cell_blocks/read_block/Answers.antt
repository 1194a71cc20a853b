use Rattle.asg_tokens.proofs.Common.{◌<◌, ◌≤◌, length, sym, ◌∙◌, arith, Fits-lt-pow}
use Rattle.asg_tokens.proofs.BlockLemmas.{end_low, end_past, digits_before, none_up_to, same_past}
use Rattle.asg_tokens.proofs.BlockCells.{one_more_cell}
use Rattle.asg_tokens.proofs.cell_blocks.read_block.Goals as goal

pub cell_between-requires-clause-order : goal.cell_between-requires-clause-order
cell_between-requires-clause-order c =
    let some : 0 < c.cells.ends = omega (arith, c.cells-test.true) in
    let inv = c.cells.invariant in
    end_past c.args.text.now c.cells.start c.cells.ends some (Fits-lt-pow c.cells.auto.ends-fits) inv.none inv.digits

pub cell_between-requires-clause-block : goal.cell_between-requires-clause-block
cell_between-requires-clause-block c =
    let some : 0 < c.cells.ends = omega (arith, c.cells-test.true) in
    let inv = c.cells.invariant in
    end_low c.args.text.now c.cells.start c.cells.ends some (Fits-lt-pow c.cells.auto.ends-fits) inv.none inv.digits

pub cell_between-requires-clause-digits : goal.cell_between-requires-clause-digits
cell_between-requires-clause-digits c =
    let some : 0 < c.cells.ends = omega (arith, c.cells-test.true) in
    let inv = c.cells.invariant in
    digits_before c.args.text.now c.cells.start c.cells.ends some (Fits-lt-pow c.cells.auto.ends-fits) inv.none inv.digits

pub index_mut-requires : goal.index_mut-requires
index_mut-requires c =
    let inv = c.cells.invariant in
    omega (arith, inv.placed, inv.read.room, c.requires.room, c.in-Some.ensures.order, c.in-Some.ensures.block)

pub cells-smaller : goal.cells-smaller
cells-smaller c = omega (arith, c.in-Some.ensures.order, c.in-Some.ensures.block)

pub cells-preserved : goal.cells-preserved
cells-preserved c =
    let inv = c.cells.invariant in
    let end = c.in-Some.cell.end in
    let from : c.cells.start ≤ end = c.in-Some.ensures.order in
    let low : end < 64 = c.in-Some.ensures.block in
    let room : c.cells.place < length c.cells.firsts.items = omega (arith, inv.placed, inv.read.room, c.requires.room, from, low) in
    record {
      low = omega (arith, low);
      placed = omega (arith, inv.placed, from);
      none = λ k before. none_up_to c.cells.ends end low k (omega arith);
      digits = λ k behind below unset. inv.digits k (omega (arith, from)) below (sym (same_past c.cells.ends end low k (omega arith) below) ∙ unset);
      read = one_more_cell inv.read room c.in-Some.ensures.cell;
    }
