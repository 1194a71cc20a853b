use Rattle.asg_rank.proofs.Common.{ℕ, ◌≤◌, length, IfOk, sym, subst, IfOk-weaker, given_of, square_side, entry_at, rules_of, Ranking, AreCountable, IsExhausted, HaveFewPhases, LeaveLastOpen, IsTold, AreWrittenNodes, AreListed, IsSearchTree}
use Rattle.asg_rank.proofs.LastTrees.{kind_bridge, told_now, listed_now, tree_now, few_now, countable_now, last_now}
use Rattle.asg_rank.proofs.ranker.Ranker.nodes.Goals as goal

pub written_nodes-requires : goal.written_nodes-requires
written_nodes-requires g c =
    let s = c.self.inside in
    let m = g.K.Kind.monoid s.kind in
    let R = rules_of (g.K.M.Ordered.monoid_of m) (g.K.M.DMonoid.difference m) (g.K.Kind.entered s.kind) in
    subst (λ n. (k : ℕ) → 1 ≤ k → k ≤ length s.search.tree.entries.items → IsTold (g.K.M.Ordered.monoid_of n) s.search.tree (entry_at (g.K.M.Ordered.monoid_of n).unit s.search.tree.entries.items k)) (sym c.monoid.ensures)
    (told_now R s.inst s.count s.search c.self.invariant.ready c.rows-rows.ensures.instance)

pub returns-clause-listed : goal.returns-clause-listed
returns-clause-listed g c =
    let s = c.self.inside in
    let v = c.self.view_is in
    let m = g.K.Kind.monoid s.kind in
    let R = rules_of (g.K.M.Ordered.monoid_of m) (g.K.M.DMonoid.difference m) (g.K.Kind.entered s.kind) in
    let is = c.self.invariant in
    let instance = c.rows-rows.ensures.instance in
    let some = subst (λ (r : Ranking _). 1 ≤ length r.given) (sym v) c.requires.some in
    let done = subst (λ (r : Ranking _). IsExhausted r.problem r.count r.given) (sym v) c.requires.done in
    let bridge = kind_bridge R (g.K.Kind.objective s.kind) (g.K.Kind.reach s.kind) s.inst (g.met.K.Kind.bridge s.kind) is.reaches instance is.passes in
    subst (λ (r : Ranking _). AreListed (g.K.Kind.objective r.kind) r.problem r.count r.given) v
    (listed_now R s.inst s.count s.search is.ready instance (g.K.M.Written.word_of m) (g.met.K.M.Ordered.laws m) some done c.square_law.ensures.choices (λ fs. c.counting_law.ensures s.inst fs is.ready.rankable.place) (g.K.Kind.objective s.kind) bridge)

pub returns-clause-tree : goal.returns-clause-tree
returns-clause-tree g c =
    let s = c.self.inside in
    let v = c.self.view_is in
    let m = g.K.Kind.monoid s.kind in
    let word_of = g.K.M.Written.word_of m in
    let R = rules_of (g.K.M.Ordered.monoid_of m) (g.K.M.DMonoid.difference m) (g.K.Kind.entered s.kind) in
    let is = c.self.invariant in
    let some = subst (λ (r : Ranking _). 1 ≤ length r.given) (sym v) c.requires.some in
    let done = subst (λ (r : Ranking _). IsExhausted r.problem r.count r.given) (sym v) c.requires.done in
    let result = c.written_nodes.result in
    let written = subst (λ n. IfOk result (AreWrittenNodes (g.K.M.Ordered.monoid_of n).unit (g.K.M.Written.word_of n) s.search.tree)) c.monoid.ensures c.written_nodes.ensures in
    subst (λ (r : Ranking _). let n = g.K.Kind.monoid r.kind in IfOk result (IsSearchTree (g.K.M.Ordered.monoid_of n) (g.K.M.DMonoid.difference n) (g.K.M.Written.word_of n) (g.K.Kind.entered r.kind) r.problem r.count r.given)) v
    (IfOk-weaker result (AreWrittenNodes R.monoid.unit word_of s.search.tree) (IsSearchTree R.monoid R.difference word_of R.enter s.inst s.count (given_of s.search))
    (tree_now R s.inst s.count s.search is.ready c.rows-rows.ensures.instance word_of (g.met.K.M.Ordered.laws m) some done c.square_law.ensures.choices (λ fs. c.counting_law.ensures s.inst fs is.ready.rankable.place)) written)

pub returns-clause-phases : goal.returns-clause-phases
returns-clause-phases g c =
    let s = c.self.inside in
    let m = g.K.Kind.monoid s.kind in
    let word_of = g.K.M.Written.word_of m in
    let R = rules_of (g.K.M.Ordered.monoid_of m) (g.K.M.DMonoid.difference m) (g.K.Kind.entered s.kind) in
    let result = c.written_nodes.result in
    let written = subst (λ n. IfOk result (AreWrittenNodes (g.K.M.Ordered.monoid_of n).unit (g.K.M.Written.word_of n) s.search.tree)) c.monoid.ensures c.written_nodes.ensures in
    subst (λ (r : Ranking _). IfOk result (HaveFewPhases (square_side r.problem))) c.self.view_is
    (IfOk-weaker result (AreWrittenNodes R.monoid.unit word_of s.search.tree) (HaveFewPhases (square_side s.inst))
    (λ nodes w. few_now R s.inst s.count s.search c.self.invariant.ready c.rows-rows.ensures.instance word_of nodes w c.spare-spare.ensures.forest) written)

pub returns-clause-last : goal.returns-clause-last
returns-clause-last g c =
    let s = c.self.inside in
    let m = g.K.Kind.monoid s.kind in
    let word_of = g.K.M.Written.word_of m in
    let R = rules_of (g.K.M.Ordered.monoid_of m) (g.K.M.DMonoid.difference m) (g.K.Kind.entered s.kind) in
    let result = c.written_nodes.result in
    let written = subst (λ n. IfOk result (AreWrittenNodes (g.K.M.Ordered.monoid_of n).unit (g.K.M.Written.word_of n) s.search.tree)) c.monoid.ensures c.written_nodes.ensures in
    subst (λ (r : Ranking _). IfOk result (LeaveLastOpen r.count r.given)) c.self.view_is
    (IfOk-weaker result (AreWrittenNodes R.monoid.unit word_of s.search.tree) (LeaveLastOpen s.count (given_of s.search))
    (last_now R s.inst s.count s.search c.self.invariant.ready c.rows-rows.ensures.instance word_of) written)

pub returns-clause-countable : goal.returns-clause-countable
returns-clause-countable g c =
    let s = c.self.inside in
    let m = g.K.Kind.monoid s.kind in
    let word_of = g.K.M.Written.word_of m in
    let R = rules_of (g.K.M.Ordered.monoid_of m) (g.K.M.DMonoid.difference m) (g.K.Kind.entered s.kind) in
    let result = c.written_nodes.result in
    let written = subst (λ n. IfOk result (AreWrittenNodes (g.K.M.Ordered.monoid_of n).unit (g.K.M.Written.word_of n) s.search.tree)) c.monoid.ensures c.written_nodes.ensures in
    IfOk-weaker result (AreWrittenNodes R.monoid.unit word_of s.search.tree) AreCountable
    (countable_now R s.inst s.count s.search c.self.invariant.ready c.rows-rows.ensures.instance word_of) written
