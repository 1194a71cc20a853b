use Rattle.asg_pool.proofs.Common.{◌<◌, length, Some, ap, ◌∙◌, rules, Table, with_row, Link}
use Rattle.asg_pool.proofs.LinkLemmas.{set_is_with_row}
use Rattle.asg_pool.proofs.links.Links.insert.Goals as goal

pub returns-in-Some-clause-slots : goal.returns-in-Some-clause-slots
returns-in-Some-clause-slots c =
    let slots = c.self.inside.slots.items in
    let below : c.in-Some.k < length slots = search rules in
    let link : Link = record { parent = c.args.parent; depth = c.args.depth } in
    set_is_with_row slots c.in-Some.k (Some link) below ∙ ap (λ (L : Table). with_row L.slots c.in-Some.k (Some link)) c.self.view_is
