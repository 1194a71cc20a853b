use Rattle.asg_networks.proofs.Common.{◌∷◌, map, sym, ap, ◌∙◌, lines, line_of}
use Rattle.asg_networks.proofs.asn.first_said_of_any.Goals as goal

pub returns-clause-says : goal.returns-clause-says
returns-clause-says c =
    ap (map line_of) c.in_ok-first.ensures.first
    ∙ ap (λ line. line ∷ map line_of (lines c.in_ok-first.first.rest.now)) (sym c.read_line.ensures.says)
