use Rattle.asg_match.proofs.Common.{subst, get_or_read, IsOpen}
use Rattle.asg_match.proofs.search.exit_from.Goals as goal

pub returns-in-Some : goal.returns-in-Some
returns-in-Some g c =
    let rows = c.args.tree.now.rows.items in
    let row = get_or_read rows c.args.place _ c.requires.place_within c.index-row.ensures 0 in
    record {
      within = c.requires.place_within;
      open_cell = subst (λ r. IsOpen (g.A.Allowed.allows c.args.allowed.now) c.args.matching.now r c.in-Some.column) row c.in-Some.ensures;
    }
