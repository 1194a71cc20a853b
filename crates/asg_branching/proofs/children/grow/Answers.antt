use Rattle.asg_branching.proofs.Common.{◌≡◌, length, slice_set, None, sym, ap, ◌∙◌, subst, arith, length-set, get_or-set_same, Branches, stage_of, IsRestOf, masked_reduced, column_at}
use Rattle.asg_branching.proofs.GrowStarts.{branch_length}
use Rattle.asg_branching.proofs.children.grow.Goals as goal

pub clear-requires : goal.clear-requires
clear-requires g c =
    let D = c.args.desk.now in
    let matching = c.args.matching.now in
    let rows : length matching ≡ D.work.now.side = c.requires.rest.matching_side in
    let row = c.requires.row in
    let t = ap length c.take.ensures in omega (arith, t, rows, row)

pub branch_from-requires-clause-rest : goal.branch_from-requires-clause-rest
branch_from-requires-clause-rest g c =
    let m = c.args.m.now in
    let M = g.M.Ordered.monoid_of m in
    let D = c.args.desk.now in
    let matching = c.args.matching.now in
    let rows : length matching ≡ D.work.now.side = c.requires.rest.matching_side in
    let row = c.requires.row in
    let m_is = c.clear.ensures ∙ ap (λ t. slice_set t c.args.row None) c.take.ensures in
    let words = c.words.ensures.words in
    subst (λ w. IsRestOf M (masked_reduced D.work w) c.clear.new.self) (sym words)
    (subst (IsRestOf M (masked_reduced D.work D.bits.words)) (sym m_is)
    (c.branch_law.ensures.masked D.work D.bits.words matching c.args.row (omega (arith, rows, row)) c.requires.rest c.requires.kept))

pub branch_from-requires-clause-root_free : goal.branch_from-requires-clause-root_free
branch_from-requires-clause-root_free g c =
    let D = c.args.desk.now in
    let matching = c.args.matching.now in
    let rows : length matching ≡ D.work.now.side = c.requires.rest.matching_side in
    let row = c.requires.row in
    let m_is = c.clear.ensures ∙ ap (λ t. slice_set t c.args.row None) c.take.ensures in
    ap (λ t. column_at t c.args.row) m_is ∙ get_or-set_same matching c.args.row None None (omega (arith, rows, row))

pub returns-clause-branches : goal.returns-clause-branches
returns-clause-branches g c =
    let m = c.args.m.now in
    let M = g.M.Ordered.monoid_of m in
    let D = c.args.desk.now in
    let m_is = c.clear.ensures ∙ ap (λ t. slice_set t c.args.row None) c.take.ensures in
    let words = c.words.ensures.words in
    subst (λ t. Branches M (g.M.DMonoid.difference m) (stage_of (masked_reduced D.work D.bits.words) t c.args.region.now) (stage_of (masked_reduced D.work D.bits.words) c.branch_from.new.matching c.branch_from.new.region) c.args.limit c.args.trail c.args.row c.branch_from.new.bench.rows c.branch_from.result) m_is
    (subst (λ w. Branches M (g.M.DMonoid.difference m) (stage_of (masked_reduced D.work w) c.clear.new.self c.args.region.now) (stage_of (masked_reduced D.work w) c.branch_from.new.matching c.branch_from.new.region) c.args.limit c.args.trail c.args.row c.branch_from.new.bench.rows c.branch_from.result) words c.branch_from.ensures.branches)

pub returns-clause-trial : goal.returns-clause-trial
returns-clause-trial g c =
    let m = c.args.m.now in
    let M = g.M.Ordered.monoid_of m in
    let D = c.args.desk.now in
    let matching = c.args.matching.now in
    let rows : length matching ≡ D.work.now.side = c.requires.rest.matching_side in
    let m_is = c.clear.ensures ∙ ap (λ t. slice_set t c.args.row None) c.take.ensures in
    let before : length c.clear.new.self ≡ length matching = ap length m_is ∙ length-set matching c.args.row None in
    branch_length M (g.M.DMonoid.difference m) (stage_of (masked_reduced D.work c.words.result.now) c.clear.new.self c.args.region.now) (stage_of (masked_reduced D.work c.words.result.now) c.branch_from.new.matching c.branch_from.new.region) c.args.limit c.args.trail c.args.row c.branch_from.new.bench.rows c.branch_from.result (before ∙ rows) c.branch_from.ensures.branches
    ∙ before ∙ sym c.requires.trial
