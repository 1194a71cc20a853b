use Rattle.asg_window.proofs.Common.{◌≡◌, ◌++◌, length, sym, refl, ap, ◌∙◌, subst, arith, OnFalse_at, OnTrue_at, with_items_is, IsMarked, IsDeficient, IsPerfect, IsMarkedAssignment}
use Rattle.asg_window.proofs.AssignmentLemmas.{IsMarkedAssignment-perfect}
use Rattle.asg_window.proofs.seeker.Seeker.is_completed.Goals as goal

pub complete-requires : goal.complete-requires
complete-requires c =
    let sides = c.requires.sides in
    let side = c.prune.ensures.side ∙ sides.matching_side in
    record {
      side = sym side;
      tree_side = sides.tree_side ∙ sym side;
      cells = c.prune.ensures.cells;
    }

pub copy_columns-requires : goal.copy_columns-requires
copy_columns-requires c =
    let sides = c.requires.sides in
    let perfect = OnTrue_at c.if-complete.true c.complete.ensures.perfect in
    record {
      count = ap length c.deref_mut.ensures.value ∙ sides.columns_side ∙ sym (c.complete.ensures.side ∙ c.prune.ensures.side ∙ sides.matching_side);
      all = λ r below. perfect.all r (omega (arith, below, c.complete.ensures.side));
    }

pub returns-then-complete : goal.returns-then-complete
returns-then-complete c =
    let sides = c.requires.sides in
    let band = c.args.self.now.band in
    let perm = c.args.self.now.perm in
    let columns = c.copy_columns.new.columns in
    let matching = c.complete.new.matching in
    let side = c.prune.ensures.side ∙ sides.matching_side in
    let count : length columns ≡ band.marks.side = omega (arith, c.copy_columns.auto.columns, ap length c.deref_mut.ensures.value, sides.columns_side) in
    let same = with_items_is perm columns (omega (arith, c.copy_columns.auto.columns, c.deref_mut.ensures.len)) in
    let perfect = subst (λ n. IsPerfect (IsMarked band.marks.bits band.marks.side) n matching) side (OnTrue_at c.if-complete.true c.complete.ensures.perfect) in
    record {
      sides = record {
        band_side = refl;
        matching_side = c.complete.ensures.side ∙ side;
        tree_side = c.complete.ensures.tree_side ∙ sides.tree_side;
        room = sides.room;
        columns_side = ap length same ∙ count;
      };
      band = refl;
      assignment = subst (IsMarkedAssignment band.marks.bits band.marks.side) (sym same)
          (IsMarkedAssignment-perfect band.marks.bits band.marks.side matching columns perfect count
          (λ r below. c.copy_columns.ensures r (omega (arith, below, c.complete.ensures.side, side))));
      deficient = tt;
      columns_stay = tt;
    }

pub returns : goal.returns
returns c =
    let sides = c.requires.sides in
    let band = c.args.self.now.band in
    let tree = c.complete.new.tree in
    let side = c.prune.ensures.side ∙ sides.matching_side in
    let rows = c.in_ok-extend_from_slice.ensures.items ∙ ap (λ xs. xs ++ c.rows.result.now) c.clear.ensures.items ∙ c.rows.ensures.rows in
    let short = subst (λ n. IsDeficient (IsMarked band.marks.bits band.marks.side) n tree.rows) side (OnFalse_at c.if-complete.false c.complete.ensures.deficient) in
    record {
      sides = record {
        band_side = refl;
        matching_side = c.complete.ensures.side ∙ side;
        tree_side = c.complete.ensures.tree_side ∙ sides.tree_side;
        room = sides.room;
        columns_side = sides.columns_side;
      };
      band = refl;
      assignment = tt;
      deficient = subst (IsDeficient (IsMarked band.marks.bits band.marks.side) band.marks.side) (sym rows) short;
      columns_stay = refl;
    }
