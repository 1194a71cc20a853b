use Rattle.asg_match.proofs.Common.{Some, sym, ap, ◌∙◌, arith, get_or_read, parent-listed}
use Rattle.asg_match.proofs.path.parent.Goals as goal

pub index-requires : goal.index-requires
index-requires c =
    let t = c.args.tree.now in
    let at = parent-listed t.parents.items t.unseen.items c.args.column c.requires in
    omega (arith, at.0, t.parents.ok.0)

pub returns : goal.returns
returns c =
    let t = c.args.tree.now in
    let at = parent-listed t.parents.items t.unseen.items c.args.column c.requires in
    at.1 ∙ ap Some (sym (get_or_read t.parents.items c.args.column _ at.0 c.index.ensures 0))
