use Rattle.asg_lex.proofs.Common.{◌≡◌, ◌*◌, length, refl, rules, word_count}
use Rattle.asg_lex.proofs.starts.first_work.Goals as goal

pub returns : goal.returns
returns c =
    let side = c.args.marks.side in
    record {
      sized = record {
        zero_rows = c.in_ok-zeros.ensures.rows;
        zero_columns = c.in_ok-zeros.ensures.columns;
        one_rows = c.in_ok-ones.ensures.rows;
        one_columns = c.in_ok-ones.ensures.columns;
        mark_rows = c.args.marks.rows;
        mark_columns = c.args.marks.columns;
        marks_side = refl;
        ins = (let count : length c.in_ok-ins.ins.items ≡ side = search rules in count);
        outs = (let count : length c.in_ok-outs.outs.items ≡ 64 * word_count side = search rules in count);
      };
      marks = refl;
    }
