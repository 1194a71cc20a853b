use Rattle.asg_cell_tables.proofs.Common.{ℕ, Bool, not, ◌&&◌, ◌||◌, length, get_or, pos, is_some, Some, None, ap, ◌∙◌, subst, arith, AreBitsOf, leaves_rows, is_labelled_within, live_cost, absent, Whole}
use Rattle.asg_cell_tables.proofs.CountedPieces.{bits_or, gathered_parts, label_bit}
use Rattle.asg_cell_tables.proofs.GatherLemmas.{clear_room}
use Rattle.asg_cell_tables.proofs.PieceLemmas.{bits_same}
use Rattle.asg_cell_tables.proofs.pieces.mixed_piece.Goals as goal

pub entered_piece-word-requires-clause-parts : goal.entered_piece-word-requires-clause-parts
entered_piece-word-requires-clause-parts g c =
    gathered_parts c.args.inst.now c.args.r c.args.columns.now c.args.parts.firsts.now c.args.parts.seconds.now c.gather_items.new.room c.gather_items-2.new.room c.requires.live c.gather_items.ensures.items c.gather_items-2.ensures.items (omega (arith, c.requires.count, c.requires.few, c.gather_items.ensures.room))

pub gather_items-requires-clause-clear : goal.gather_items-requires-clause-clear
gather_items-requires-clause-clear g c = clear_room absent

pub gather_items-requires-2-clause-clear : goal.gather_items-requires-2-clause-clear
gather_items-requires-2-clause-clear g c = clear_room (pos 0)

pub returns-clause-present : goal.returns-clause-present
returns-clause-present g c =
    let X = c.args.inst.now in
    let columns = c.args.columns.now in
    let count = length c.args.values.now in
    let leaves = c.leaves_rows.ensures ∙ ap leaves_rows c.place.ensures in
    let costs = λ (k : ℕ). is_some (live_cost X c.args.r (get_or columns k None)) in
    let extras = λ (k : ℕ). leaves_rows X.place && not (is_some (get_or columns k None)) in
    let extra = subst (λ (b : Bool). AreBitsOf (length columns) (λ k. b && not (is_some (get_or columns k None))) c.extra_bits.result) leaves c.extra_bits.ensures in
    bits_same count _ (λ k. costs k || extras k) (λ k. is_labelled_within X Whole (Some c.args.r) (get_or columns k None))
    (bits_or count c.entered_piece-word.result c.extra_bits.result costs extras c.entered_piece-word.ensures.present
    (subst (λ n. AreBitsOf n extras c.extra_bits.result) c.requires.count extra))
    (λ k h. label_bit X c.args.r (get_or columns k None))
