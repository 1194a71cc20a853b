-- What solving a square from the unit on shows.
use Rattle.asg_roots.proofs.Common.{◌≡◌, ℕ, ◌≤◌, cond, List, [], ◌∷◌, length, replicate, is_none, IfSome, IfOk, Some, None, Option, Result, sym, refl, ap, ◌∙◌, subst, arith, IfOk-weaker, IfSome_then, length-replicate, sum_by-replicate, HasValues, IsSolvedRoot, IsInstanceRoot, root_of, Grid, cell_at, IsSquareOf}
use Rattle.asg_model.specs.declared.parts.Cost.{Cost}
use Rattle.asg_model.specs.Problem.{Problem}
use Rattle.asg_order.specs.Monoid.{Monoid, IsValue, IsOrderedMonoid}
use Rattle.asg_match.specs.Matching.{Matches}
use Rattle.asg_match.specs.laws.Matchings.{Matches-empty}
use Rattle.asg_pool.specs.Forest.{Forest, phases_to}
use Rattle.asg_proof.specs.Phases.{PhaseOf}
use Rattle.asg_admit.specs.Reduced.{IsReduced}
use Rattle.asg_admit.specs.declared.reduced.Reduced.{Reduced}
use Rattle.asg_algebra.specs.declared.square_solvers.SolvedSquare.{SolvedSquare}
use Rattle.asg_algebra.specs.Ended.{EndsIn, last_of}
use Rattle.asg_algebra.specs.Solved.{ArePushed, LeadTo, HasSolved, unmatched}
use Rattle.asg_roots.specs.declared.roots.Root.{Root}
use Rattle.asg_algebra.specs.declared.workplaces.Workplace.{Workplace}
use Rattle.asg_algebra.specs.Workplaces.{IsFresh}

-- phases that are pushed keep the side of the region
pub pushed_side : {V : Type 0} (phases : List (PhaseOf V)) (before after : Forest V) (trail last : Option ℕ) → ArePushed phases before after trail last → after.side ≡ before.side
pushed_side {V} [] before after trail last p = ap (λ (f : Forest V). f.side) p.0
pushed_side (phase ∷ rest) before after trail last p = pushed_side rest p.0 after (Some p.1) last p.3 ∙ p.2.side

-- a square of values with the unit is reduced
pub unit_reduced : {V : Type 0} (M : Monoid V) → IsOrderedMonoid M → (Q : Grid V) (index : V) → index ≡ M.unit → HasValues M Q.side (cell_at Q) → IsReduced M (record { now = Q; index = index })
unit_reduced M laws Q index unit values = record { cells = values; index = subst (IsValue M) (sym unit) laws.unit_is_value }

-- where no row has a column, no cell is matched
pub unmatched_cells : (side : ℕ) (matching : List (Option ℕ)) → matching ≡ replicate side None → (r c : ℕ) → Matches matching r c → ⊥
unmatched_cells side matching is r c e = Matches-empty side r c (subst (λ xs. Matches xs r c) is e)

-- and all rows are counted
pub unmatched_rows : (side : ℕ) (matching : List (Option ℕ)) → matching ≡ replicate side None → unmatched matching ≡ side
unmatched_rows side matching is = ap unmatched is ∙ omega (arith, sum_by-replicate (λ (o : Option ℕ). cond (is_none o) 1 0) side None)

-- and the list is as long as the side
pub empty_side : (side : ℕ) (matching : List (Option ℕ)) → matching ≡ replicate side None → length matching ≡ side
empty_side side matching is = ap (λ (xs : List (Option ℕ)). length xs) is ∙ length-replicate side None

-- what was solved in a fresh workplace is solved from the unit on
pub solved_root : {V : Type 0} (M : Monoid V) (difference : V → V → V) (Q : Grid V) (index : V) (fresh place : Workplace V) (solved : SolvedSquare V) → index ≡ M.unit → IsFresh Q.side fresh → place.bench.side ≡ fresh.bench.side → HasSolved M difference (record { now = Q; index = index }) solved.reduced fresh.matching place.matching fresh.region place.region None (last_of solved.ended) → EndsIn M solved.reduced place.matching place.bench.rows solved.ended → IsSolvedRoot M difference Q fresh.region.spare (root_of solved place)
solved_root {V} M difference Q index fresh place solved unit is bench has ends =
    let last = last_of solved.ended in
    let before : Reduced V = record { now = Q; index = index } in
    let few = has.few in
    let rows = unmatched_rows Q.side fresh.matching is.matching_empty in
    let list : phases_to place.region last ≡ has.phases = has.list in
    let count : length (phases_to place.region last) ≡ length has.phases = ap (λ (xs : List (PhaseOf V)). length xs) list in
    record {
      before = before;
      forest = fresh.region;
      fresh = is.trails_none;
      start = refl;
      at_unit = unit;
      lead = subst (λ phases. LeadTo M difference phases before solved.reduced fresh.region place.region None last) (sym list) has.lead;
      live = has.live;
      few = omega (arith, few, rows, count);
      spare = let s = has.spare in omega (arith, s, few, rows);
      region_side = pushed_side has.phases fresh.region place.region None last has.lead.pushed ∙ is.region_side;
      bench_side = bench ∙ is.bench_side;
      matching_side = has.rows.side ∙ empty_side Q.side fresh.matching is.matching_empty;
      ends = ends;
    }

-- the same of what may be found
pub found_root : {V : Type 0} (M : Monoid V) (difference : V → V → V) (Q : Grid V) (index : V) (fresh place : Workplace V) (found : Option (SolvedSquare V)) → index ≡ M.unit → IsFresh Q.side fresh → place.bench.side ≡ fresh.bench.side → IfSome found (λ solved. HasSolved M difference (record { now = Q; index = index }) solved.reduced fresh.matching place.matching fresh.region place.region None (last_of solved.ended)) → IfSome found (λ solved. EndsIn M solved.reduced place.matching place.bench.rows solved.ended) → IfSome found (λ solved. IsSolvedRoot M difference Q fresh.region.spare (root_of solved place))
found_root M difference Q index fresh place None unit is bench has ends = tt
found_root M difference Q index fresh place (Some solved) unit is bench has ends = solved_root M difference Q index fresh place solved unit is bench has ends

-- what follows of each root follows where there is one
pub IfOk-weaker_some : {A E : Type 0} (r : Result (Option A) E) (P Q : A → Type 0) → ((x : A) → P x → Q x) → IfOk r (λ found. IfSome found P) → IfOk r (λ found. IfSome found Q)
IfOk-weaker_some r P Q follows = IfOk-weaker r (λ found. IfSome found P) (λ found. IfSome found Q) (λ found has. IfSome_then found has follows)

-- a square that was solved is that of its instance
pub root_of_instance : {V : Type 0} (M : Monoid V) (difference : V → V → V) (enter : Cost → V) (X : Problem) (records : ℕ) (Q : Grid V) → IsSquareOf X M.unit enter Q → (root : Root V) → IsSolvedRoot M difference Q records root → IsInstanceRoot M difference enter X records root
root_of_instance M difference enter X records Q square root solved = record { square = Q; of_instance = square; solved = solved }
