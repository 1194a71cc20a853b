use Rattle.asg_networks.proofs.Common.{◌∷◌, sym, ap, ◌∙◌, sizes_of, fields}
use Rattle.asg_networks.proofs.FieldLemmas.{no_fifth}
use Rattle.asg_networks.proofs.asn_lines.read_sizes.Goals as goal

pub returns-then-not-is_at_end : goal.returns-then-not-is_at_end
returns-then-not-is_at_end c =
    let word = c.in_ok-word.word.bytes.now in
    let nodes = c.in_ok-nodes.nodes.bytes.now in
    let arcs = c.in_ok-arcs.arcs.bytes.now in
    let last = ap (λ more. nodes ∷ more) c.in_ok-arcs.ensures.first in
    let all = c.in_ok-word.ensures.first ∙ ap (λ more. word ∷ more) (c.in_ok-nodes.ensures.first ∙ last) in
    sym (ap sizes_of all ∙ no_fifth word nodes arcs (fields c.in_ok-arcs.arcs.rest.now) (sym c.if-not-is_at_end.ensures))
