use Rattle.asg_doc.proofs.Common.{[], ◌∷◌, codes, sym, append_assoc, spaced_columns, Wrote-append, Wrote-as}
use Rattle.asg_doc.proofs.level_writer.emit_perm.Goals as goal

pub returns : goal.returns
returns g c =
    Wrote-as (sym (append_assoc (codes "perm") (spaced_columns c.args.perm.now) (10 ∷ [])))
    (Wrote-append c.emit.ensures (Wrote-append c.emit_columns.ensures c.emit-2.ensures))
