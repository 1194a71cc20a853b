use Rattle.asg_window.proofs.Common.{sym, ◌∙◌, subst, false≢true, HasColumn}
use Rattle.asg_window.proofs.empty_lines.empty_column.Goals as goal

pub returns-then-not-has_column-clause-empty : goal.returns-then-not-has_column-clause-empty
returns-then-not-has_column-clause-empty c =
    record {
      column = c.loop-column-test.true;
      none = λ r row marked.
          false≢true
          (sym c.if-not-has_column.true
          ∙ c.has_column.ensures.1 (subst (λ ws. HasColumn ws c.loop-column.column) (sym c.as_slice.ensures.value) (c.join.ensures.all r c.loop-column.column row marked)));
    }
