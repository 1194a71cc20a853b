use Rattle.asg_networks.proofs.Common.{◌∷◌, sym, ap, ◌∙◌, arc_of, fields}
use Rattle.asg_networks.proofs.FieldLemmas.{no_fourth}
use Rattle.asg_networks.proofs.asn_lines.read_arc.Goals as goal

pub returns-then-not-is_at_end : goal.returns-then-not-is_at_end
returns-then-not-is_at_end c =
    let source = c.in_ok-source.source.bytes.now in
    let target = c.in_ok-target.target.bytes.now in
    let cost = c.in_ok-cost.cost.bytes.now in
    let last = ap (λ more. target ∷ more) c.in_ok-cost.ensures.first in
    let all = c.in_ok-source.ensures.first ∙ ap (λ more. source ∷ more) (c.in_ok-target.ensures.first ∙ last) in
    sym (ap arc_of all ∙ no_fourth source target cost (fields c.in_ok-cost.cost.rest.now) (sym c.if-not-is_at_end.ensures))
