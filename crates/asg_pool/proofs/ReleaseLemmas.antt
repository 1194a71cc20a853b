-- A region after one of its records was freed.
use Rattle.asg_pool.proofs.Common.{◌≡◌, ℕ, ◌≢◌, length, set, is_some, IfSome, Some, None, sym, refl, ap, ◌∙◌, subst, inl, inr, arith, length-set, get_or-set_other, get_or-set_same, cases_eq, option_map, Forest, parent_of, Changes, IsLeaf, Table, link_at, path, parent_at, phase_at, forest_of, IsRooted, AreRooted, AreRowsFor, IsRegion, Rows, PhaseOf}
use Rattle.asg_pool.proofs.LinkLemmas.{link_within}
use Rattle.asg_pool.proofs.PathLemmas.{IsThere}
use Rattle.asg_pool.proofs.ForestLemmas.{parent_shown}
use Rattle.asg_pool.proofs.ChangeLemmas.{AreRooted-changed, trails_changed}

-- no record grew on that of a leaf
pub leaf_in : {V : Type 0} (side : ℕ) (L : Table) (phase : ℕ → PhaseOf V) (F : Forest V) (trail k : ℕ) → forest_of side L phase ≡ F → IsLeaf F trail → k ≡ trail → (j : ℕ) → parent_at L.slots j ≢ Some k
leaf_in side L phase F trail k shows leaf same j e =
    leaf j (ap (λ G. parent_of G j) (sym shows) ∙ parent_shown side L phase j ∙ e ∙ ap Some same)

module _ (L M : Table) (k : ℕ) (there : IsThere L.slots k) (leaf : (j : ℕ) → parent_at L.slots j ≢ Some k) (freed : M.slots ≡ set L.slots k None) where
  others : (j : ℕ) → j ≢ k → link_at M.slots j ≡ link_at L.slots j
  others j other = ap (λ xs. link_at xs j) freed ∙ get_or-set_other L.slots k j None None other

  gone : link_at M.slots k ≡ None
  gone = ap (λ xs. link_at xs k) freed ∙ get_or-set_same L.slots k None None (link_within L.slots k there)

  as_long : length M.slots ≡ length L.slots
  as_long = ap length freed ∙ length-set L.slots k None

  module _ {V : Type 0} (side : ℕ) (steps : Rows V) (enters leaves : Rows ℕ) (rooted : AreRooted L.slots) where
    rows_stay : {T : Type 0} (S : Rows T) → M.room ≡ L.room → AreRowsFor side L S → AreRowsFor side M S
    rows_stay S room were = record { width = were.width; count = were.count ∙ sym as_long; room = omega (arith, room, were.room) }

    still_there : (j : ℕ) → IsThere M.slots j → IsThere L.slots j
    still_there j now =
        elim (cases_eq j k) [
          | inl same ↦ absurd (let none = ap (link_at M.slots) same ∙ gone in cc)
          | inr other ↦ ap is_some (sym (others j other)) ∙ now
        ]

    pub IsRegion-released : M.room ≡ L.room → IsRegion side L steps enters leaves → IsRegion side M steps enters leaves
    IsRegion-released room was =
        record {
          rooted =
              AreRooted-changed L.slots M.slots (phase_at steps enters leaves) (phase_at steps enters leaves) k others (λ j other. refl) rooted leaf
              (subst (λ o. IfSome o (IsRooted M.slots)) (sym gone) tt);
          over = λ j now. was.over j (still_there j now);
          steps_rows = rows_stay steps room was.steps_rows;
          enters_rows = rows_stay enters room was.enters_rows;
          leaves_rows = rows_stay leaves room was.leaves_rows;
          used = omega (arith, as_long, room, was.used);
          most = omega (arith, room, was.most);
        }

    pub trails_released : Changes (forest_of side L (phase_at steps enters leaves)) (forest_of side M (phase_at steps enters leaves)) k None
    trails_released =
        trails_changed L.slots M.slots (phase_at steps enters leaves) (phase_at steps enters leaves) k others (λ j other. refl) rooted leaf side L M refl refl None
        (ap (option_map (λ link. record { parent = link.parent; phases = path M.slots (phase_at steps enters leaves) link.depth (Some k) })) gone)
