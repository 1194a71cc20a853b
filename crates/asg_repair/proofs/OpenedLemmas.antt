-- What the solved square of an instance shows of what a session is opened with.
use Rattle.asg_repair.proofs.Common.{◌≡◌, ℕ, ◌+◌, ◌≤◌, true, List, [], length, slice_index_or, Some, None, Option, option_map, sym, refl, ap, ◌∙◌, subst, arith, IsReduced, last_of, IsChain, IsLed, IsWayTo, Problem, square_side, Cost, Monoid, IsOrderedMonoid, Branch, Forest, parent_of, phases_to, EntersValues, PhaseOf, IsOpened, AreAbsorbed, Opened, instance_side, IsSquareOf}
use Rattle.std.proofs.Common.{unwrap_or}
use Rattle.std.specs.Option.{option_and_then}
use Rattle.asg_roots.specs.declared.roots.Root.{Root}
use Rattle.asg_roots.specs.Roots.{IsInstanceRoot}
use Rattle.asg_repair.proofs.PushLemmas.{IsLinked, IsLinked-all}
use Rattle.asg_repair.proofs.SessionLemmas.{IsLed-filled, IsLed-more}

-- no trail in a region without trails grew on another
no_parent : {V : Type 0} (F : Forest V) (t : ℕ) → F.trails ≡ [] → parent_of F t ≡ None
no_parent {V} F t fresh =
    ap (λ (trails : List (Option (Branch V))). option_and_then (λ (b : Branch V). b.parent) (slice_index_or trails t None)) fresh

IsLinked-fresh : {V : Type 0} (F : Forest V) → F.trails ≡ [] → IsLinked F None
IsLinked-fresh F fresh = record {
  chain = record {
    live = tt;
    leaf = tt;
    single = λ s t p e f. absurd (let none = sym (no_parent F s fresh) ∙ e in cc);
  };
  parents = λ t p e. absurd (let none = sym (no_parent F t fresh) ∙ e in cc);
}

-- a region of the same trails
module _ {V : Type 0} (F G : Forest V) (same : G.trails ≡ F.trails) where
  IsChain-same : (last : Option ℕ) → IsChain F last → IsChain G last
  IsChain-same last chain =
      subst (λ (trails : List (Option (Branch V))). IsChain (record { side = G.side; spare = G.spare; trails = trails }) last) (sym same)
      (record { live = chain.live; leaf = chain.leaf; single = chain.single })

  phases_same : (last : Option ℕ) → phases_to G last ≡ phases_to F last
  phases_same None = refl
  phases_same (Some t) =
      ap (λ (trails : List (Option (Branch V))). unwrap_or (option_map (λ (b : Branch V). b.phases) (slice_index_or trails t None)) []) same

module _ {V : Type 0} (M : Monoid V) (laws : IsOrderedMonoid M) (difference : V → V → V) (enter : Cost → V) (X : Problem) (live : EntersValues M enter X)
    (records : ℕ) (root : Root V) (is : IsInstanceRoot M difference enter X records root)
  where
    abbrev last : Option ℕ
    last = last_of root.ended

    solved_side : is.square.side ≡ square_side X
    solved_side = is.of_instance.labels.side

    start : IsLed M difference enter X [] is.solved.before
    start =
        IsLed-filled M laws difference enter X is.solved.before.now is.solved.before.index is.solved.at_unit
        (subst (IsSquareOf X M.unit enter) (sym is.solved.start) is.of_instance) live

    -- its phases lead to it
    root_led : IsLed M difference enter X (phases_to root.region last) root.reduced
    root_led =
        IsLed-more M laws difference enter X [] (phases_to root.region last) is.solved.before root.reduced is.solved.forest root.region None last start is.solved.lead

    root_chain : IsChain root.region last
    root_chain =
        let linked = IsLinked-all (phases_to root.region last) is.solved.forest root.region None last is.solved.lead.pushed (IsLinked-fresh is.solved.forest is.solved.fresh) in
        linked.chain

    pub root_reduced : IsReduced M root.reduced
    root_reduced = is.solved.lead.reduced

    pub root_matching : length root.matching ≡ root.reduced.now.side
    root_matching = is.solved.matching_side ∙ solved_side ∙ sym (instance_side is)

    -- what is opened from it
    pub root_opened : (opened : Opened V) → opened.work.reduced ≡ root.reduced → opened.work.bench ≡ root.bench → length opened.work.columns.items ≡ square_side X → length opened.work.room.items ≡ square_side X + 1 → opened.phases.region.trails ≡ root.region.trails → opened.phases.region.side ≡ root.region.side → square_side X ≤ opened.phases.region.spare → opened.phases.last ≡ last → (opened.phases.is_told ≡ true → IsWayTo opened.phases.region opened.phases.last opened.phases.way.items) → AreAbsorbed M opened.work.reduced opened.work.matching → IsOpened M difference enter X opened
    root_opened opened reduced bench columns room trails side spare at_last told absorbed =
        let led : IsLed M difference enter X (phases_to opened.phases.region opened.phases.last) opened.work.reduced =
        subst (λ o. IsLed M difference enter X (phases_to opened.phases.region o) opened.work.reduced) (sym at_last)
        (subst (λ list. IsLed M difference enter X list opened.work.reduced) (sym (phases_same root.region opened.phases.region trails last))
        (subst (IsLed M difference enter X (phases_to root.region last)) (sym reduced) root_led)) in
        let phases : phases_to opened.phases.region opened.phases.last ≡ phases_to root.region last =
        ap (phases_to opened.phases.region) at_last ∙ phases_same root.region opened.phases.region trails last in
        record {
          sized = record {
            square = record { side = led.labels.side; columns = led.labels.column_labels };
            matching_side = absorbed.side ∙ led.labels.side;
            is_matching = absorbed.columns;
            bench_side = let same : opened.work.bench.side ≡ root.bench.side = λ i. (bench i).side in same ∙ is.solved.bench_side ∙ solved_side;
            columns_side = columns;
            steps_room = omega (arith, room);
          };
          chain = record {
            chain = subst (IsChain opened.phases.region) (sym at_last) (IsChain-same root.region opened.phases.region trails last root_chain);
            told = told;
          };
          region_side = side ∙ is.solved.region_side ∙ solved_side;
          spare = spare;
          led = led;
          absorbed = absorbed;
          few =
              let size : length (phases_to opened.phases.region opened.phases.last) ≡ length (phases_to root.region last) = ap (λ (list : List (PhaseOf V)). length list) phases in
              let most = is.solved.few in
              omega (arith, size, most, solved_side);
        }
