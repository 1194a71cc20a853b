use Rattle.asg_match.proofs.Common.{ℕ, ◌<◌, List, length, set, sym, ◌∙◌, subst, arith, length-set, length_push, IsTree, parent_of, IsColumnSet, parent-unseen, parent-here, parent-others, length-le_from_below}
use Rattle.asg_match.specs.laws.Trees.{IsTree-push}
use Rattle.asg_match.proofs.search.reach.Goals as goal

pub push_reserved-requires : goal.push_reserved-requires
push_reserved-requires c =
    let t = c.args.tree.now in
    let s = c.requires.grown in
    let column = c.args.column in
    let within : column < length t.parents.items = omega (arith, s.side) in
    let unreached = parent-unseen t.parents.items t.unseen.items column c.requires.unseen in
    let here = parent-here t.parents.items t.unseen.items c.remove.new.words.items c.args.place column within c.remove.ensures.others in
    let others = parent-others t.parents.items t.unseen.items c.remove.new.words.items c.args.place column within c.remove.ensures.others in
    let grown = IsTree-push c.args.matching.now t.rows.items _ _ c.args.place column c.in-Some.next s.grown c.requires.place_within unreached here others c.in-Some.ensures.taken in
    omega (arith, length-le_from_below _ _ grown.apart grown.below, length_push t.rows.items c.in-Some.next, s.room, t.rows.ok.0)

pub returns-in-Some-clause-grown : goal.returns-in-Some-clause-grown
returns-in-Some-clause-grown c =
    let t = c.args.tree.now in
    let s = c.requires.grown in
    let column = c.args.column in
    let within : column < length t.parents.items = omega (arith, s.side) in
    let after = parent_of (set t.parents.items column c.args.place) c.remove.new.words.items in
    let items = sym {A = List ℕ} c.push_reserved.ensures.items in
    let unreached = parent-unseen t.parents.items t.unseen.items column c.requires.unseen in
    let here = parent-here t.parents.items t.unseen.items c.remove.new.words.items c.args.place column within c.remove.ensures.others in
    let others = parent-others t.parents.items t.unseen.items c.remove.new.words.items c.args.place column within c.remove.ensures.others in
    let grown = IsTree-push c.args.matching.now t.rows.items _ _ c.args.place column c.in-Some.next s.grown c.requires.place_within unreached here others c.in-Some.ensures.taken in
    record {
      side = length-set t.parents.items column c.args.place ∙ s.side;
      room = omega (arith, c.push_reserved.ensures.capacity, s.room);
      unseen = subst (λ n. IsColumnSet n c.remove.new.words.items) (omega (arith, c.len-side.ensures, t.parents.ok.0, s.side)) c.remove.ensures.set;
      grown = subst (λ xs. IsTree c.args.matching.now xs after) items grown;
    }
