use Rattle.asg_doc.proofs.Common.{[], ◌∷◌, ◌++◌, codes, sym, ap, ◌∙◌, subst, HasTreeText, HaveAnswerText, ended, listed_lines, tree_lines, has_grades, Wrote-append, Wrote-as, Wrote-lines}
use Rattle.asg_doc.proofs.document_writer.emit_ranked.Goals as goal

pub emit_answers-requires : goal.emit_answers-requires
emit_answers-requires g c = (c.args.objective, subst (HaveAnswerText c.args.objective) (sym c.as_slice.ensures) c.requires.answers)

pub emit_tree-requires : goal.emit_tree-requires
emit_tree-requires g c =
    subst (HasTreeText c.has_grades.result) (sym c.as_slice-2.ensures.items)
    (subst (λ graded. HasTreeText graded c.args.nodes.now) (sym c.has_grades.ensures) c.requires.nodes)

pub returns : goal.returns
returns g c =
    let graded = has_grades c.args.objective in
    let answers = listed_lines c.args.answers.now in
    let tree = tree_lines graded c.args.nodes.now in
    let same = ap (λ is. ended (tree_lines is c.as_slice-2.result.now)) c.has_grades.ensures ∙ ap (λ nodes. ended (tree_lines graded nodes)) c.as_slice-2.ensures.items in
    Wrote-append c.emit.ensures (Wrote-append c.emit_number_line.ensures
    (Wrote-lines answers (tree ++ codes "end" ∷ []) (Wrote-as (ap (λ listed. ended (listed_lines listed)) c.as_slice.ensures) c.emit_answers.ensures)
    (Wrote-lines tree (codes "end" ∷ []) (Wrote-as same c.emit_tree.ensures) c.emit-2.ensures)))
