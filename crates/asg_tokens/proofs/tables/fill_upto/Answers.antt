use Rattle.asg_tokens.proofs.Common.{◌≡◌, ◌+◌, [], length, FitsSigned, sym, refl, ◌∙◌, subst, arith, to_z-of_z, w64, rules, length-set, IsPartInRange, IsCell, tokens, IsEarliest, AreSeconds, faults_of_cells, one_more_read, none_next, refused_next, second_in_range, handed_on}
use Rattle.asg_tokens.proofs.tables.fill_upto.Goals as goal
use Rattle.asg_tokens.proofs.tables.fill_upto.Goals.{In-Some}

pub returns-in_err-cell-clause-refused : goal.returns-in_err-cell-clause-refused
returns-in_err-cell-clause-refused c =
    handed_on c.from_residual.result c.in_err-cell.field-0.0 (IsEarliest (faults_of_cells c.args.cells.header c.args.cells.count (tokens c.args.cells.text.now))) c.from_residual.ensures.1
    (refused_next c.loop-place.invariant.read c.loop-place.rest.now (c.args.cells.header + c.loop-place.place + 1) c.args.cells.header c.args.cells.count c.in_err-cell.field-0.0 refl (omega arith) refl (omega arith) c.in_err-cell.ensures.refused)

pub returns-in_default-clause-refused : goal.returns-in_default-clause-refused
returns-in_default-clause-refused c =
    let none : tokens c.loop-place.rest.now ≡ [] = rw c.in_default.is at c.in_ok-cell.ensures.none in
    none_next c.loop-place.invariant.read c.args.cells.header c.args.cells.count refl (omega arith) none

-- the cell that is read
next : (c : In-Some) → IsCell (c.args.cells.header + c.loop-place.place + 1) c.loop-place.rest.now c.in-Some.cell.cost c.in-Some.cell.rest.now
next c = rw c.in-Some.is at c.in_ok-cell.ensures.cell

pub put_second-requires-clause-in_range : goal.put_second-requires-clause-in_range
put_second-requires-clause-in_range c =
    let cell = next (goal.at.put_second-requires-clause-in_range c).In-Some in
    let fits : FitsSigned w64 c.second_part.result = search rules in
    subst IsPartInRange (sym c.second_part.ensures ∙ sym (to_z-of_z w64 c.second_part.result fits)) (second_in_range _ _ _ _ cell)

pub loop-place-preserved : goal.loop-place-preserved
loop-place-preserved c =
    let cell = next (goal.at.loop-place-preserved c).In-Some in
    let first_fits : FitsSigned w64 c.first_part.result = search rules in
    let second_fits : FitsSigned w64 c.second_part.result = search rules in
    let inv = c.loop-place.invariant in
    let puts = c.in_ok-put_second.ensures in
    let len : length c.loop-place.firsts.items ≡ c.len-room.result = omega (arith, inv.room, c.len-room.ensures) in
    record {
      room = length-set c.loop-place.firsts.items c.loop-place.place _ ∙ inv.room;
      read = one_more_read inv.read c.loop-place.rest.now c.in-Some.cell.rest.now c.in-Some.cell.cost (c.args.cells.header + c.loop-place.place + 1) _ _ _ _ (omega (arith, len)) refl (omega arith) cell (to_z-of_z w64 c.first_part.result first_fits ∙ c.first_part.ensures) (to_z-of_z w64 c.second_part.result second_fits ∙ c.second_part.ensures) refl puts.put (subst (λ n. AreSeconds n c.put_second.new.seconds.items) (sym len) puts.seconds);
    }
