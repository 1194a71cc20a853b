use Rattle.asg_check.proofs.Common.{eqb, length, sym, ap, ◌∙◌, subst, nil_from_length, not_from_Decides, cells_by_id, IsValid}
use Rattle.std.proofs.Common.{eqb-true}
use Rattle.asg_check.proofs.Reading.{cells-read, written-read}
use Rattle.asg_check.proofs.written_choices.written_choice.Goals as goal

pub returns-then-not-is_empty-clause-none : goal.returns-then-not-is_empty-clause-none
returns-then-not-is_empty-clause-none c = λ none f w.
    let read = c.in_ok-choice.ensures ∙ written-read c.args.inst.now c.args.cells.now f c.rows.ensures.instance w in
    absurd (cc (ap (λ r. eqb (length r.1) 0) read))

pub returns-then-is_valid-clause-some : goal.returns-then-is_valid-clause-some
returns-then-is_valid-clause-some c =
    let read = c.in_ok-choice.ensures in
    let none = nil_from_length c.in_ok-choice.left.now (eqb-true _ 0 (sym c.is_empty.ensures ∙ c.if-not-is_empty.false)) in
    record {
      valid = c.is_valid.ensures.0 c.if-is_valid.true;
      written = cells-read c.args.inst.now c.args.cells.now (sym (ap (λ r. r.1) read) ∙ none) ∙ sym (ap (λ r. cells_by_id c.args.inst.now r.0) read);
    }

pub returns-else-is_valid-clause-none : goal.returns-else-is_valid-clause-none
returns-else-is_valid-clause-none c = λ none f w.
    let read = c.in_ok-choice.ensures ∙ written-read c.args.inst.now c.args.cells.now f c.rows.ensures.instance w in
    not_from_Decides c.is_valid.result c.is_valid.ensures c.if-is_valid.false (subst (IsValid c.args.inst.now) (sym (ap (λ r. r.0) read)) w.valid)
