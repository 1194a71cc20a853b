use Rattle.asg_window.proofs.Common.{get_or, refl, subst, ⊎_elim, arith, below_more, get_or_default, IsRowMarked}
use Rattle.asg_window.proofs.next_grades.Reached.take.Goals as goal

pub loop-place-init : goal.loop-place-init
loop-place-init c = record {
  end = refl;
  room = c.clear.ensures.room c.args.band.now.marks.side c.requires.room;
  marked = λ k none. absurd (omega (arith, none));
  columns = λ column has. absurd (c.clear.ensures.none column has);
}

pub add_row-requires : goal.add_row-requires
add_row-requires c = record {
  room = c.loop-place.invariant.room;
  below = c.requires.below c.loop-place.place 0 c.loop-place-test.true;
}

pub loop-place-preserved : goal.loop-place-preserved
loop-place-preserved c =
    let inv = c.loop-place.invariant in
    let rows = c.args.rows.now in
    let place = c.loop-place.place in
    let added = c.add_row.ensures in
    record {
      end = inv.end;
      room = added.room;
      marked = below_more (λ k. IsRowMarked c.add_row.new.self (get_or rows k 0)) place
          (λ k h. added.kept (get_or rows k 0) (inv.marked k h)) added.marked;
      columns = λ column has.
          ⊎_elim (λ old. inv.columns column old)
          (λ new. (get_or rows place 0, (place, c.loop-place-test.true, get_or_default rows place (get_or rows place 0) 0 c.loop-place-test.true), new))
          (added.columns column has);
    }

pub returns : goal.returns
returns c =
    let inv = c.loop-place.invariant in
    let rows = c.args.rows.now in
    record {
      room = inv.room;
      reaches = record {
        marked = λ k d within. subst (IsRowMarked c.loop-place.self) (get_or_default rows k 0 d within) (inv.marked k (omega (arith, within, c.loop-place-test.false)));
        columns = inv.columns;
      };
    }
