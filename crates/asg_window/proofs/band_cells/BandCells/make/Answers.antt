use Rattle.asg_window.proofs.Common.{◌≡◌, ℕ, List, refl, ◌∙◌, subst, arith, entry_of, AreEntries, IsPlaceOf, Entry, Grid, MarksFreeBefore}
use Rattle.asg_window.proofs.FreeLemmas.{free_none, free_all}
use Rattle.asg_window.proofs.band_cells.BandCells.make.Goals as goal

-- no grade is less than the least one
first_place : (Q : Grid ℕ) (entries : List Entry) → AreEntries Q entries → IsPlaceOf entries 1 0
first_place Q entries are = record {
  within = omega arith;
  below = λ k none. absurd (omega (arith, none));
  from = λ k _ within. let entry = are.each k (entry_of 0 0 0) within in entry.live;
}

pub loop-row-init : goal.loop-row-init
loop-row-init c =
    let side = c.side-side.ensures.side in
    record {
      rows = c.in_ok-bits.ensures.rows ∙ side;
      columns = c.in_ok-bits.ensures.columns ∙ side;
      marks = free_none c.args.cells.now.square.now c.in_ok-bits.bits c.in_ok-bits.ensures.clear;
    }

pub mark_free_row-requires : goal.mark_free_row-requires
mark_free_row-requires c =
    let inv = c.loop-row.invariant in
    record {
      row_below = omega (arith, c.loop-row-test.true, c.side-side.ensures.side);
      rows = inv.rows;
      columns = inv.columns;
      before = inv.marks;
    }

pub loop-row-preserved : goal.loop-row-preserved
loop-row-preserved c = c.mark_free_row.ensures

pub returns : goal.returns
returns c =
    let Q = c.args.cells.now.square.now in
    let bits = c.loop-row.bits in
    let all : c.loop-row.row ≡ Q.side = omega (arith, c.loop-row-test.false, c.loop-row.auto.row-end, c.side-side.ensures.side) in
    let first = first_place Q c.args.cells.now.entries.now c.requires in
    record {
      band = record {
        entries = c.requires;
        side = c.side-side.ensures.side;
        order = omega arith;
        fits = omega arith;
        marks = free_all Q bits (subst (λ row. MarksFreeBefore Q row 0 bits) all c.loop-row.invariant.marks);
        first = first;
        end = first;
      };
      low = refl;
    }
