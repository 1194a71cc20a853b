use Rattle.asg_networks.proofs.Common.{length, get_or, sym, ap, ◌∙◌, no_link}
use Rattle.asg_networks.proofs.LayoutLemmas.{length-firsts_between}
use Rattle.asg_networks.proofs.TableFills.{fill_more, fill_twice}
use Rattle.asg_networks.proofs.TwiceLemmas.{link_at}
use Rattle.asg_networks.proofs.layouts.Layout.fill.Goals as goal

pub put-requires-clause-whole : goal.put-requires-clause-whole
put-requires-clause-whole c =
    ap length c.loop-link.invariant.firsts_are ∙ length-firsts_between _ c.args.self.now.sources.now c.args.self.now.targets.now

pub returns-then-not-put-clause-refused : goal.returns-then-not-put-clause-refused
returns-then-not-put-clause-refused c =
    let links = c.args.links.now in
    let i = c.loop-link.link-index in
    fill_twice c.args.self.now links i (get_or links i no_link) c.loop-link-test.true (link_at links i c.loop-link-test.true) c.requires.cells c.args.self.now.sources.now c.args.self.now.targets.now c.loop-link.firsts.items c.loop-link.invariant
    (λ known is in_range. sym c.if-not-put.true ∙ c.put.ensures.alike known is in_range)

pub loop-link-preserved : goal.loop-link-preserved
loop-link-preserved c =
    let links = c.args.links.now in
    let i = c.loop-link.link-index in
    fill_more c.args.self.now links i (get_or links i no_link) c.loop-link-test.true (link_at links i c.loop-link-test.true) c.requires.cells c.args.self.now.sources.now c.args.self.now.targets.now c.loop-link.firsts.items c.loop-link.invariant c.put.new.firsts.items
    (λ known is in_range. sym c.if-not-put.false ∙ c.put.ensures.alike known is in_range) c.put.ensures.put
