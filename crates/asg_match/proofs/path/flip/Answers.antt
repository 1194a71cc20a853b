use Rattle.asg_match.proofs.Common.{ℕ, ◌<◌, List, length, set, is_some, Some, None, Option, sym, refl, ap, ◌∙◌, subst, inl, ⊎_elim, arith, length-set, set-set, get_or_read, none-some, same_Some, Flips, IsFree, parents_in, Matches-set_cases}
use Rattle.asg_match.proofs.PathLemmas.{IsFlipping, row_below, parent_of, IsFlipping-step, Flips-done}
use Rattle.asg_match.proofs.path.flip.Goals as goal

-- a free column stays free when a row is cleared
IsFree-cleared : (m : List (Option ℕ)) (r c : ℕ) → IsFree m c → IsFree (set m r None) c
IsFree-cleared m r c free s e =
    ⊎_elim (λ here. none-some c here.1) (λ there. free s there.1) (Matches-set_cases m r None s c e)

pub links-init : goal.links-init
links-init c =
    let t = c.args.tree.now in
    let row = get_or_read t.rows.items c.args.exit.place _ c.requires.place_within c.index-row.ensures 0 in
    record {
      side = refl;
      within = c.requires.place_within;
      row_there = row;
      below = c.requires.column_below;
      free = c.requires.column_free;
      kept = λ r e. e;
      only = λ r e. e;
      waiting = λ k h. refl;
      cells = λ r d e. inl e;
      link = inl (row, refl);
    }

pub column_of-requires : goal.column_of-requires
column_of-requires c = row_below _ _ _ _ _ _ _ _ _ c.requires.grown c.links.invariant

pub set-requires-clause-column_below : goal.set-requires-clause-column_below
set-requires-clause-column_below c =
    omega (arith, c.links.invariant.below, ap length c.clear.ensures, length-set c.links.matching c.links.row None)

pub set-requires-clause-column_free : goal.set-requires-clause-column_free
set-requires-clause-column_free c =
    subst (λ m. IsFree m c.links.column) (sym c.clear.ensures) (IsFree-cleared c.links.matching c.links.row c.links.column c.links.invariant.free)

pub parent-place-requires : goal.parent-place-requires
parent-place-requires c =
    let has = sym c.column_of.ensures.value ∙ c.in-Some.is in
    let from = parent_of _ _ _ _ _ _ _ _ _ c.requires.grown c.links.invariant c.in-Some.former has in
    ap (is_some {T = ℕ}) from.2

pub index-row-requires-in-Some : goal.index-row-requires-in-Some
index-row-requires-in-Some c =
    let has = sym c.column_of.ensures.value ∙ c.in-Some.is in
    let from = parent_of _ _ _ _ _ _ _ _ _ c.requires.grown c.links.invariant c.in-Some.former has in
    let same = same_Some from.0 c.parent-place.result (sym from.2 ∙ c.parent-place.ensures) in
    omega (arith, from.1, same, c.links.invariant.within, c.args.tree.now.rows.ok.0)

pub links-smaller : goal.links-smaller
links-smaller c =
    let has = sym c.column_of.ensures.value ∙ c.in-Some.is in
    let from = parent_of _ _ _ _ _ _ _ _ _ c.requires.grown c.links.invariant c.in-Some.former has in
    let same = same_Some from.0 c.parent-place.result (sym from.2 ∙ c.parent-place.ensures) in
    omega (arith, from.1, same)

pub links-preserved : goal.links-preserved
links-preserved c =
    let t = c.args.tree.now in
    let now = c.links.matching in
    let row = c.links.row in
    let p = c.parent-place.result in
    let has = sym c.column_of.ensures.value ∙ c.in-Some.is in
    let from = parent_of _ _ _ _ _ _ _ _ _ c.requires.grown c.links.invariant c.in-Some.former has in
    let same = same_Some from.0 p (sym from.2 ∙ c.parent-place.ensures) in
    let nearer : p < c.links.place = omega (arith, from.1, same) in
    let within : p < length t.rows.items = omega (arith, nearer, c.links.invariant.within) in
    let next = get_or_read t.rows.items p _ within c.index-row-in-Some.ensures 0 in
    let after = c.set.ensures ∙ (ap (λ m. set m row (Some c.links.column)) c.clear.ensures ∙ set-set now row None (Some c.links.column)) in
    let step = IsFlipping-step _ _ _ _ _ _ _ _ _ c.requires.grown c.links.invariant c.column_of.ensures.matching c.in-Some.former p has c.parent-place.ensures nearer in
    subst (λ m. IsFlipping t.rows.items (parents_in t) c.args.exit.place c.args.exit.column c.args.matching.now m p c.index-row-in-Some.result.now c.in-Some.former) (sym after)
    (subst (λ r. IsFlipping t.rows.items (parents_in t) c.args.exit.place c.args.exit.column c.args.matching.now (set now row (Some c.links.column)) p r c.in-Some.former) (sym next) step)

pub set-requires-2 : goal.set-requires-2
set-requires-2 c =
    record {
      row_below = row_below _ _ _ _ _ _ _ _ _ c.requires.grown c.links.invariant;
      column_below = c.links.invariant.below;
      row_free = sym c.column_of.ensures.value ∙ c.in_default.is;
      column_free = c.links.invariant.free;
    }

pub returns : goal.returns
returns c =
    let t = c.args.tree.now in
    let unmatched = sym c.column_of.ensures.value ∙ c.in_default.is in
    subst (λ m. Flips t.rows.items (parents_in t) c.args.exit.place c.args.exit.column c.args.matching.now m) (sym c.set-2.ensures)
    (Flips-done _ _ _ _ _ _ _ _ _ c.requires.grown c.links.invariant c.column_of.ensures.matching unmatched)
