-- Trails that a region keeps, and one that grew.
use Rattle.std.proofs.Common.{◌≡◌, ℕ, ◌+◌, ◌≤◌, inl, inr, List, [], ◌∷◌, ◌++◌, Option, Some, None, refl, sym, ◌∙◌, ap, subst, arith, ⊎_elim, is_some}
use Rattle.std.specs.Prelude.{IfSome, option_and_then, option_map, unwrap_or}
use Rattle.std.proofs.lemmas.List.{append-nil}
use Rattle.asg_model.specs.Problem.{Problem}
use Rattle.asg_model.specs.Shapes.{square_side}
use Rattle.asg_match.specs.Matching.{IsPerfect}
use Rattle.asg_growth.specs.Growing.{IsAbsorbed}
use Rattle.asg_algebra.specs.Served.{made_of}
use Rattle.asg_algebra.specs.Solved.{ArePushed, IsPush}
use Rattle.asg_pool.specs.Forest.{Forest, Branch, trail_at, IsLive, parent_of, phases_to}
use Rattle.asg_pool.specs.laws.Trails.{live_differs, IsLive-pushed, phases_pushed}
use Rattle.asg_proof.specs.Phases.{PhaseOf, AreAdmittedPhases, after_phases, index_of}
use Rattle.asg_square.specs.Cells.{square_cell}
use Rattle.asg_nodes.specs.Entries.{IsNext}
use Rattle.asg_nodes.specs.Rules.{Rules, Leads, IsSolved, GrewOn, KeepsTrails}

module _ {V : Type 0} (F G : Forest V) (keeps : KeepsTrails F G) where
  pub live_kept : (t : ℕ) → IsLive F t → IsLive G t
  live_kept t live = ap is_some (keeps t live) ∙ live

  pub trail_kept : (trail : Option ℕ) → IfSome trail (IsLive F) → IfSome trail (IsLive G)
  trail_kept None live = tt
  trail_kept (Some t) live = live_kept t live

  pub phases_same : (trail : Option ℕ) → IfSome trail (IsLive F) → phases_to G trail ≡ phases_to F trail
  phases_same None live = refl
  phases_same (Some t) live = ap (λ (o : Option (Branch V)). unwrap_or (option_map (λ b. b.phases) o) []) (keeps t live)

  pub GrewOn-kept : (before : Option ℕ) (t : ℕ) → GrewOn F before t → GrewOn G before t
  GrewOn-kept before t grew = record {
    live = live_kept t grew.live;
    parent = ap (option_and_then (λ (b : Branch V). b.parent)) (keeps t grew.live) ∙ grew.parent;
  }

  pub IsNext-kept : (before trail : Option ℕ) → IsNext F before trail → IsNext G before trail
  IsNext-kept before trail next =
      ⊎_elim
      (λ (same : trail ≡ before). inl same)
      (λ (grew : (t : ℕ) × (trail ≡ Some t) × GrewOn F before t). inr (grew.0, grew.1, GrewOn-kept before grew.0 grew.2))
      next

  module _ (R : Rules V) (Y : Problem) (trail : Option ℕ) (index : V) where
    pub Leads-kept : Leads R F Y trail index → Leads R G Y trail index
    Leads-kept leads =
        let same = sym (phases_same trail leads.live) in
        record {
          live = trail_kept trail leads.live;
          admitted = subst (λ phases. AreAdmittedPhases R.monoid R.difference (square_side Y) phases (square_cell Y R.monoid.unit R.enter)) same leads.admitted;
          index_is = leads.index_is ∙ ap (index_of R.monoid) same;
        }

    pub IsSolved-kept : IfSome trail (IsLive F) → (matching : List (Option ℕ)) → IsSolved R F Y trail index matching → IsSolved R G Y trail index matching
    IsSolved-kept live matching solved =
        subst (λ phases. IsPerfect (IsAbsorbed R.monoid index (after_phases R.monoid R.difference phases (square_cell Y R.monoid.unit R.enter))) (square_side Y) matching) (sym (phases_same trail live)) solved

-- what a phase that was pushed, if it has a step, makes of a region
pub record Pushes {V : Type 0} (phase : PhaseOf V) (F G : Forest V) (trail last : Option ℕ) : Type 0 where
  pub keeps : KeepsTrails F G
  pub next : IsNext G trail last
  pub list : phases_to G last ≡ phases_to F trail ++ made_of phase phase.steps
  pub live : IfSome last (IsLive G)
  pub spare : F.spare ≤ G.spare + 1
  pub side : G.side ≡ F.side

module _ {V : Type 0} (F G : Forest V) (trail last : Option ℕ) (phase : PhaseOf V) (live : IfSome trail (IsLive F)) where
  pushed_none : (G ≡ F) × (last ≡ trail) → (phases_to G last ≡ phases_to F trail ++ []) × KeepsTrails F G × IsNext G trail last × IfSome last (IsLive G) × (F.spare ≤ G.spare + 1) × (G.side ≡ F.side)
  pushed_none same =
      let e = same.0 in
      let t = same.1 in (
        ap (λ H. phases_to H last) e ∙ ap (phases_to F) t ∙ sym (append-nil (phases_to F trail)),
        (λ u l. ap (λ H. trail_at H u) e),
        inl t,
        subst (λ H. IfSome last (IsLive H)) (sym e) (subst (λ o. IfSome o (IsLive F)) (sym t) live),
        (let s = ap (λ (H : Forest V). H.spare) e in omega (arith, s)),
        ap (λ (H : Forest V). H.side) e,
      )

  pushed_one : (middle : Forest V) (next : ℕ) → IsPush F middle trail phase next → (G ≡ middle) × (last ≡ Some next) → (phases_to G last ≡ phases_to F trail ++ phase ∷ []) × KeepsTrails F G × IsNext G trail last × IfSome last (IsLive G) × (F.spare ≤ G.spare + 1) × (G.side ≡ F.side)
  pushed_one middle next push same =
      let e = same.0 in
      let t = same.1 in
      let there : IsLive middle next = IsLive-pushed push.trails in
      let up : parent_of middle next ≡ trail = ap (option_and_then (λ (b : Branch V). b.parent)) push.trails.changed in (
        ap (λ H. phases_to H last) e ∙ ap (phases_to middle) t ∙ phases_pushed push.trails,
        (λ u l. ap (λ H. trail_at H u) e ∙ push.trails.others u (live_differs F next u push.new l)),
        inr (next, t, subst (λ H. GrewOn H trail next) (sym e) (record { live = there; parent = up })),
        subst (λ H. IfSome last (IsLive H)) (sym e) (subst (λ o. IfSome o (IsLive middle)) (sym t) there),
        (let s = ap (λ (H : Forest V). H.spare) e in let one = push.spare in omega (arith, s, one)),
        ap (λ (H : Forest V). H.side) e ∙ push.side,
      )

  by_steps : (steps : List V) → ArePushed (made_of phase steps) F G trail last → (phases_to G last ≡ phases_to F trail ++ made_of phase steps) × KeepsTrails F G × IsNext G trail last × IfSome last (IsLive G) × (F.spare ≤ G.spare + 1) × (G.side ≡ F.side)
  by_steps [] pushed = pushed_none pushed
  by_steps (c ∷ steps) pushed = pushed_one pushed.0 pushed.1 pushed.2 pushed.3

  pub pushes : ArePushed (made_of phase phase.steps) F G trail last → Pushes phase F G trail last
  pushes pushed =
      let all = by_steps phase.steps pushed in record {
        keeps = all.1;
        next = all.2;
        list = all.0;
        live = all.3;
        spare = all.4;
        side = all.5;
      }
