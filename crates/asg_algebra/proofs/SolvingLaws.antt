-- Rows that are served one after another.
use Rattle.asg_algebra.proofs.Common.{◌≡◌, ℕ, ◌+◌, ◌<◌, ◌≤◌, cond, List, [], ◌∷◌, ◌++◌, length, take, drop, is_some, is_none, IfSome, IsSome, Some, None, Option, sym, refl, ap, ◌∙◌, subst, ⊎_elim, arith, take-append-drop, cases_lt, count_by-le-length, false≢true, sum_by-append, take_more, IsReduced, Reduced, IsServed, LeadTo, KeepsRows, HasSolved, unmatched, stage_of, IsAbsorbed, IsRestOf, column_at, IsMatched, IsMatching, AllAllowed, IsPerfect, Monoid, IsOrderedMonoid, Forest, IsLive, PhaseOf, cell_at}
use Rattle.std.proofs.lemmas.List.{length-append}
use Rattle.asg_algebra.proofs.SolvedLaws.{LeadTo-none, LeadTo-join, ArePushed-live, ArePushed-spare, ArePushed-side, ArePushed-list, ArePushed-kept}

-- the rows below a place were served
pub record IsSolving {V : Type 0} (M : Monoid V) (difference : V → V → V) (before now : Reduced V) (m m' : List (Option ℕ)) (f f' : Forest V) (trail last : Option ℕ) (root : ℕ) : Type 0 where
  pub phases : List (PhaseOf V)
  pub lead : LeadTo M difference phases before now f f' trail last
  pub few : length phases ≤ unmatched (take root m)
  pub rows : KeepsRows M now m m'
  pub served : (r : ℕ) → r < root → IsMatched m' r

-- a row that had a column has one
fewer : (o o' : Option ℕ) → (IsSome o → IsSome o') → unmatched (o' ∷ []) ≤ unmatched (o ∷ [])
fewer None o' keeps = count_by-le-length is_none (o' ∷ [])
fewer (Some x) None keeps = absurd (false≢true (keeps refl))
fewer (Some x) (Some y) keeps = omega arith

unmatched-more : (m : List (Option ℕ)) (root : ℕ) → root < length m → unmatched (take (root + 1) m) ≡ unmatched (take root m) + unmatched (column_at m root ∷ [])
unmatched-more m root h =
    ap unmatched (take_more m root None h)
    ∙ sum_by-append (λ o. cond (is_none o) 1 0) (take root m) (column_at m root ∷ [])

unmatched-le : (m : List (Option ℕ)) (n : ℕ) → unmatched (take n m) ≤ unmatched m
unmatched-le m n = omega (arith, sum_by-append (λ o. cond (is_none o) 1 0) (take n m) (drop n m), ap unmatched (take-append-drop n m))

pub IsReduced-rest : {V : Type 0} (M : Monoid V) (reduced : Reduced V) (m : List (Option ℕ)) → IsRestOf M reduced m → IsReduced M reduced
IsReduced-rest M reduced m rest = record { cells = rest.values; index = rest.index_is_value }

module _ {V : Type 0} (M : Monoid V) (laws : IsOrderedMonoid M) (difference : V → V → V) (before : Reduced V) (m : List (Option ℕ)) (f : Forest V) (trail : Option ℕ) (is : IsReduced M before) where
  pub IsSolving-start : IsMatching m → AllAllowed (IsAbsorbed M before.index (cell_at before.now)) m → IsSolving M difference before before m m f f trail trail 0
  IsSolving-start columns absorbed = record {
    phases = [];
    lead = LeadTo-none M laws difference before f trail is;
    few = omega arith;
    rows = record { side = refl; columns = columns; absorbed = absorbed; kept = λ r h. h };
    served = λ r h. absurd (omega (arith, h));
  }

  -- a row that has a column is served by no phase
  pub IsServed-none : (m' : List (Option ℕ)) → IsMatching m' → AllAllowed (IsAbsorbed M before.index (cell_at before.now)) m' → (root : ℕ) → IsMatched m' root → IsServed M difference (stage_of before m' f) (stage_of before m' f) trail trail root
  IsServed-none m' columns absorbed root has = record {
    phases = [];
    one = omega arith;
    lead = LeadTo-none M laws difference before f trail is;
    rows = record { side = refl; columns = columns; absorbed = absorbed; kept = λ r h. h };
    served = has;
  }

module _ {V : Type 0} {M : Monoid V} {difference : V → V → V} {before now : Reduced V} {m m' : List (Option ℕ)} {f f' : Forest V} {trail last : Option ℕ} {root : ℕ} (s : IsSolving M difference before now m m' f f' trail last root) where
  pub IsSolving-next : (laws : IsOrderedMonoid M) → IsReduced M before → root < length m → (new : Reduced V) (m'' : List (Option ℕ)) (f'' : Forest V) (last' : Option ℕ) → IsServed M difference (stage_of now m' f') (stage_of new m'' f'') last last' root → IsSolving M difference before new m m'' f f'' trail last' (root + 1)
  IsSolving-next laws is h new m'' f'' last' one = record {
    phases = s.phases ++ one.phases;
    lead = LeadTo-join M laws difference s.phases one.phases before now new f f' f'' trail last last' is s.lead one.lead;
    few = omega (arith, length-append s.phases one.phases, s.few, one.one, fewer (column_at m root) (column_at m' root) (s.rows.kept root), unmatched-more m root h);
    rows = record {
      side = one.rows.side ∙ s.rows.side;
      columns = one.rows.columns;
      absorbed = one.rows.absorbed;
      kept = λ r has. one.rows.kept r (s.rows.kept r has);
    };
    served = λ r low.
        ⊎_elim
        (λ earlier. one.rows.kept r (s.served r earlier))
        (λ here. let at : root ≡ r = omega (arith, here, low) in subst (IsMatched m'') at one.served)
        (cases_lt r root);
  }

  -- a record is spare for each row that has no column yet
  pub solving_spare : root < length m → unmatched m ≤ f.spare → column_at m' root ≡ None → 1 ≤ f'.spare
  solving_spare h room free =
      let old : column_at m root ≡ None = none_before (column_at m root) (λ has. false≢true (sym (ap is_some free) ∙ s.rows.kept root has)) in
      omega (arith, ArePushed-spare s.phases f f' trail last s.lead.pushed, s.few, unmatched-more m root h, ap (λ o. unmatched (o ∷ [])) old, unmatched-le m (root + 1), room)
    where
      none_before : (o : Option ℕ) → (IsSome o → ⊥) → o ≡ None
      none_before None n = refl
      none_before (Some x) n = absurd (n refl)

  pub solving_live : IfSome trail (IsLive f) → IfSome last (IsLive f')
  solving_live live = ArePushed-live s.phases f f' trail last s.lead.pushed live

  pub solving_side : f'.side ≡ f.side
  solving_side = ArePushed-side s.phases f f' trail last s.lead.pushed

  -- all phases so far
  pub HasSolved-from : IfSome trail (IsLive f) → HasSolved M difference before now m m' f f' trail last
  HasSolved-from live = record {
    phases = s.phases;
    lead = s.lead;
    few = omega (arith, s.few, unmatched-le m root);
    list = ArePushed-list s.phases f f' trail last s.lead.pushed;
    spare = ArePushed-spare s.phases f f' trail last s.lead.pushed;
    kept = ArePushed-kept s.phases f f' trail last s.lead.pushed;
    live = ArePushed-live s.phases f f' trail last s.lead.pushed live;
    rows = s.rows;
  }

  -- when all rows were served each has an absorbed cell
  pub IsPerfect-from : length m ≡ now.now.side → length m ≤ root → IsPerfect (IsAbsorbed M now.index (cell_at now.now)) now.now.side m'
  IsPerfect-from side all = record {
    rows = s.rows.side ∙ side;
    columns = s.rows.columns;
    all = λ r h. s.served r (omega (arith, h, side, all));
    cells = s.rows.absorbed;
  }
