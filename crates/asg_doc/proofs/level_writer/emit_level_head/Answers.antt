use Rattle.asg_doc.proofs.Common.{[], ◌∷◌, ◌++◌, length, codes, sym, ap, append_assoc, to_z-of_z, signed_decimal, cell_line, Wrote-append, Wrote-as, w64}
use Rattle.asg_doc.proofs.level_writer.emit_level_head.Goals as goal

pub returns : goal.returns
returns g c =
    let level = c.args.level.now in
    let counts = cell_line (level.count, length level.phases) in
    Wrote-as (ap (λ bytes. codes "level " ++ bytes) (sym (append_assoc (signed_decimal level.cost) (32 ∷ counts) (10 ∷ []))))
    (Wrote-append c.emit.ensures
    (Wrote-append (Wrote-as (ap signed_decimal (to_z-of_z w64 level.cost c.requires.cost_fits)) c.emit_bound.ensures)
    (Wrote-append c.emit-2.ensures
    (Wrote-as (ap (λ n. cell_line (level.count, n) ++ 10 ∷ []) c.len.ensures.count) c.emit_pair.ensures))))
