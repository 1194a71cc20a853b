use Rattle.asg_square.proofs.Common.{◌≡◌, IfOk-weaker, perm_list, IsPermOf}
use Rattle.asg_square.proofs.SquareAssignments.{perm_serves}
use Rattle.asg_square.proofs.squares.Square.perm_of.Goals as goal

pub returns : goal.returns
returns g c =
    IfOk-weaker c.perm_list.result (λ p. p.items ≡ perm_list c.args.inst.now c.args.choice.now)
    (λ p. IsPermOf c.args.self.now c.args.choice.now p.items)
    (λ p is. perm_serves c.args.inst.now c.args.self.now c.args.choice.now p.items c.requires.covers c.requires.valid c.rows-rows.ensures.instance.well_formed.place_in_range is)
    c.perm_list.ensures
