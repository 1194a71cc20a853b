use Rattle.asg_text.proofs.Common.{◌≡◌, ◌≤◌, ◌++◌, length, flat_map, sym, ap, ◌∙◌, subst, range_with_len, longest_file, row_line, size_line, Rect}
use Rattle.asg_text.specs.RectTexts.{rect_text}
use Rattle.asg_text.specs.Texts.{reading_of}
use Rattle.asg_text.proofs.rect_texts.write_rect.Goals as goal
use Rattle.asg_text.proofs.rect_texts.write_rect.Goals.{In_ok-put_rows}

-- what is written
written : (c : In_ok-put_rows) → c.put_rows.new.text.items ≡ rect_text c.args.inst.now
unfolding rect_text
written c =
    let rows = flat_map (row_line c.args.inst.now) (range_with_len 0 (length c.args.inst.now.rows)) in
    c.in_ok-put_rows.ensures ∙ ap (λ text. text ++ rows) (c.in_ok-put_sizes.ensures ∙ ap (λ text. text ++ size_line c.args.inst.now) c.in_ok-text.ensures.items)

pub returns-clause-text : goal.returns-clause-text
returns-clause-text c = written (goal.at.returns-clause-text c).In_ok-put_rows

pub returns-clause-read : goal.returns-clause-read
returns-clause-read c =
    ap (reading_of Rect) (written (goal.at.returns-clause-read c).In_ok-put_rows) ∙ c.rect_law.ensures.read c.args.inst.now c.rows.ensures.instance c.requires

pub returns-clause-short : goal.returns-clause-short
returns-clause-short c =
    subst (λ text. length text ≤ longest_file) (sym (written (goal.at.returns-clause-short c).In_ok-put_rows)) (c.rect_law.ensures.short c.args.inst.now c.rows.ensures.instance c.requires)
