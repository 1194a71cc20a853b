use Rattle.asg_trees.proofs.Common.{◌≡◌, sym, refl, ◌∙◌, arith, tree_by}
use Rattle.asg_trees.proofs.DescentLemmas.{below_none, tallied_fallen, whole_below, whole_first}
use Rattle.asg_trees.proofs.TallyLemmas.{fair_of}
use Rattle.asg_trees.proofs.descents.judge_rest.Goals as goal

pub returns-then-so_far-le1 : goal.returns-then-so_far-le1
returns-then-so_far-le1 g c =
    let T = tree_by g.K.M.Ordered.monoid_of g.K.M.DMonoid.difference g.K.M.Written.word_of g.K.Kind.monoid g.K.Kind.entered c.args.kind.now c.args.tree.now in
    whole_first T c.args.so_far c.if-so_far-le1.true c.requires.tallied

pub returns-then-not-has_answer : goal.returns-then-not-has_answer
returns-then-not-has_answer g c =
    let T = tree_by g.K.M.Ordered.monoid_of g.K.M.DMonoid.difference g.K.M.Written.word_of g.K.Kind.monoid g.K.Kind.entered c.args.kind.now c.args.tree.now in
    whole_below T c.args.so_far c.requires.tallied (below_none T 1 c.args.so_far c.requires.tallied.places (sym c.has_answer.ensures ∙ c.if-not-has_answer.true))

pub has_answer-requires-clause-upto : goal.has_answer-requires-clause-upto
has_answer-requires-clause-upto g c =
    omega (arith, c.if-so_far-le1.false, c.requires.tallied.upto)

pub judge_below-requires-clause-upto : goal.judge_below-requires-clause-upto
judge_below-requires-clause-upto g c =
    omega (arith, c.if-so_far-le1.false, c.requires.tallied.upto)

pub judge_below-requires-clause-at : goal.judge_below-requires-clause-at
judge_below-requires-clause-at g c =
    record { sound = c.requires.tallied.sound 1 (omega arith) c.if-so_far-le1.false refl; stands = c.requires.root c.if-so_far-le1.false; kept = c.requires.kept }

pub judge_below-requires-clause-fair : goal.judge_below-requires-clause-fair
judge_below-requires-clause-fair g c =
    let T = tree_by g.K.M.Ordered.monoid_of g.K.M.DMonoid.difference g.K.M.Written.word_of g.K.Kind.monoid g.K.Kind.entered c.args.kind.now c.args.tree.now in
    fair_of T (λ n. n ≡ 1) c.args.so_far c.requires.tallied

pub returns : goal.returns
returns g c =
    let T = tree_by g.K.M.Ordered.monoid_of g.K.M.DMonoid.difference g.K.M.Written.word_of g.K.Kind.monoid g.K.Kind.entered c.args.kind.now c.args.tree.now in
    whole_below T c.in_ok-tally.tally (tallied_fallen T (λ n. n ≡ 1) c.args.so_far c.in_ok-tally.tally c.requires.tallied c.in_ok-tally.ensures.fair c.in_ok-tally.ensures.falls) c.in_ok-tally.ensures.settled
