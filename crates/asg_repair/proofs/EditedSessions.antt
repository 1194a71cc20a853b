-- What a session keeps is kept by an edit.
use Rattle.asg_repair.proofs.Common.{◌≡◌, ℕ, ◌≤◌, Bool, true, false, ◌&&◌, ◌||◌, length, take, nat_eq, nat_lt, Some, None, sym, ap, ◌∙◌, subst, arith, take_all, eqb-true, and_parts, edited_rows, edited_side, Touches, NamesPlaces, IsLed, IsLedBut, places_of, phases_in, IsCutTo, IsPrepared, NamedPlaces, PhaseChain, column_at, edited, refusal_of, IsInstance, Problem, square_side, Edit, Objective, Cost, MayEnter, Monoid, IsValue, AreKept, AreAdmittedPhases, IsClearedOf, AreAbsorbedAfter, IsGiven, IsSession, parts_of, IsSized, ids_in, sure_columns, AnswerRoom, Open, Work, square_cell}
use Rattle.asg_repair.proofs.EditSteps.{MaySolve-edited, absorbed_edited, column_kept, length-sure, still_whole, sure_kept, uncut}
use Rattle.asg_kept_phases.specs.laws.LedEdits.{IsLedBut-edited}
use Rattle.asg_kept_phases.specs.laws.PassedEdits.{NamesPlaces-passed}

module _ {V : Type 0} (M : Monoid V) (difference : V → V → V) (enter : Cost → V) (objective : Objective) (reach : ℕ) (X : Problem) (work : Work V) (phases : PhaseChain V) (led cut : Bool) (room : AnswerRoom)
    (session : IsSession M difference enter objective reach X (parts_of work phases led cut room))
  where
    -- the phases are prepared
    pub IsSession-prepared : (after : PhaseChain V) → IsPrepared phases after → IsSession M difference enter objective reach X (parts_of work after led cut room)
    IsSession-prepared after is =
        let same = sym is.phases in
        let columns = sure_columns cut work.matching in
        let together = session.together in
        record {
          may_solve = session.may_solve;
          sized = session.sized;
          chain = is.chain;
          region_side = is.side ∙ session.region_side;
          together = record {
            admitted = subst (λ list. AreAdmittedPhases M difference (square_side X) list (square_cell X M.unit enter)) same together.admitted;
            is_led = λ h. subst (λ list. IsLed M difference enter X list work.reduced) same (together.is_led h);
            is_told = λ h. is.kept (together.is_told h);
            is_whole = together.is_whole;
            absorbed = λ h. subst (λ list. AreAbsorbedAfter M difference enter X list work.matching) same (together.absorbed h);
          };
          spare = λ h. let few = session.spare h in let more = is.more in omega (arith, few, more);
          answer_room = session.answer_room;
          given_is = subst (λ list. IsGiven M difference enter X list columns room.given room.choice (ids_in room)) same session.given_is;
        }

    -- an edit is applied, and so many of the phases are kept
    module _ (edit : Edit) (passes : refusal_of objective X edit ≡ None) (prepared : PhaseChain V) (is : IsPrepared phases prepared) (count kept : ℕ) (size : count ≡ length (phases_in prepared))
        (are_kept : AreKept M difference (square_side X) (phases_in prepared) (square_cell (edited X edit) M.unit enter) kept)
      where
        abbrev Y : Problem
        Y = edited X edit

        instance : IsInstance X
        instance = session.may_solve.instance

        names : NamesPlaces X edit
        names = NamesPlaces-passed objective X edit passes

        side_same : square_side Y ≡ square_side X
        side_same = edited_side X edit

        taken_are : take kept (phases_in prepared) ≡ take kept (phases_in phases)
        taken_are = ap (take kept) is.phases

        kept_of : AreKept M difference (square_side Y) (phases_in phases) (square_cell Y M.unit enter) kept
        kept_of =
            subst (λ n. AreKept M difference n (phases_in phases) (square_cell Y M.unit enter) kept) (sym side_same)
            (subst (λ list. AreKept M difference (square_side X) list (square_cell Y M.unit enter) kept) is.phases are_kept)

        region_prepared : prepared.region.side ≡ square_side Y
        region_prepared = is.side ∙ session.region_side ∙ sym side_same

        -- ---- the square was led, and all phases are kept

        module _ (stays : Bool) (stays_is : stays ≡ (led && nat_eq kept count)) (h : stays ≡ true) where
          both : (led ≡ true) × (nat_eq kept count ≡ true)
          both = and_parts led (nat_eq kept count) (sym stays_is ∙ h)

          count_is : count ≡ length (phases_in phases)
          count_is = size ∙ ap length is.phases

          every : kept ≡ length (phases_in phases)
          every = eqb-true kept count both.1 ∙ count_is

          all_taken : take kept (phases_in phases) ≡ phases_in phases
          all_taken = take_all kept (phases_in phases) (let e = every in omega (arith, e))

          -- only the cells that the edit names may differ
          pub IsLedBut-kept : (places : NamedPlaces) → places ≡ places_of X edit → (q : ℕ) → places.column ≡ Some q → IsLedBut M difference enter Y (take kept (phases_in prepared)) places.row q work.reduced
          IsLedBut-kept places places_are q at =
              subst (λ list. IsLedBut M difference enter Y list places.row q work.reduced) (sym (taken_are ∙ all_taken))
              (IsLedBut-edited M difference enter X instance edit names places places_are (phases_in phases) work.reduced (session.together.is_led both.0)
              (subst (λ list. AreAdmittedPhases M difference (square_side Y) list (square_cell Y M.unit enter)) all_taken kept_of.admitted)
              q at)

          -- no phase was cut
          uncut_still : (cut || nat_lt kept count) ≡ false
          uncut_still =
              still_whole (phases_in phases) cut kept count count_is (let e = every in let f = count_is in omega (arith, e, f)) all_taken
              ∙ session.together.is_whole both.0

        -- ---- the phases are cut to those that are kept

        module _ (after : PhaseChain V) (is_cut : IsCutTo kept prepared after) where
          phases_are : phases_in after ≡ take kept (phases_in phases)
          phases_are = is_cut.phases ∙ taken_are

          -- a prefix is kept, the longest that is admitted
          pub kept_phases : (n : ℕ) × (phases_in after ≡ take n (phases_in phases)) × AreKept M difference (square_side Y) (phases_in phases) (square_cell Y M.unit enter) n
          kept_phases = (kept, phases_are, kept_of)

          -- rows whose cells the edit names lose their columns

          module _ (places : NamedPlaces) (places_are : places ≡ places_of X edit) (later : Work V) (sized : IsSized Y later)
              (cleared : IsClearedOf places work.reduced.now work.matching later.matching) (now_cut : Bool) (now_cut_is : now_cut ≡ (cut || nat_lt kept count))
            where
              long : length later.matching ≡ length work.matching
              long = sized.matching_side ∙ side_same ∙ sym session.sized.matching_side

              -- as many columns are seen as before
              pub kept_count : length (sure_columns now_cut later.matching) ≡ length (sure_columns cut work.matching)
              kept_count = length-sure now_cut later.matching ∙ long ∙ sym (length-sure cut work.matching)

              -- where all phases are kept, each row that isn't touched keeps its column
              pub kept_columns : phases_in after ≡ phases_in phases → (r : ℕ) → ((k : ℕ) → Touches X edit r k → ⊥) → column_at (sure_columns now_cut later.matching) r ≡ column_at (sure_columns cut work.matching) r
              kept_columns all r apart =
                  let whole = still_whole (phases_in prepared) cut kept count size (let few = are_kept.within in omega (arith, few, size)) (sym is_cut.phases ∙ all ∙ sym is.phases) in
                  ap (λ b. column_at (sure_columns b later.matching) r) (now_cut_is ∙ whole)
                  ∙ sure_kept cut work.matching later.matching r long
                  (column_kept X edit names work.reduced.now session.sized.square places places_are work.matching later.matching session.sized.matching_side session.sized.is_matching cleared r apart)

              still_absorbed : now_cut ≡ false → AreAbsorbedAfter M difference enter Y (phases_in after) later.matching
              still_absorbed h =
                  let whole = uncut (phases_in prepared) cut kept count size (sym now_cut_is ∙ h) in
                  subst (λ list. AreAbsorbedAfter M difference enter Y list later.matching) (sym (is_cut.phases ∙ whole.1 ∙ is.phases))
                  (absorbed_edited X edit names work.reduced.now session.sized.square places places_are work.matching later.matching session.sized.matching_side session.sized.is_matching cleared
                  M difference enter (phases_in phases) instance (session.together.absorbed whole.0))

              -- what a session keeps
              pub IsSession-edited : ((cost : Cost) → MayEnter objective reach cost → IsValue M (enter cost)) → IsInstance Y → square_side X ≤ prepared.region.spare → (stays now_led : Bool) → stays ≡ (led && nat_eq kept count) → (now_led ≡ true → stays ≡ true) → (now_led ≡ true → IsLed M difference enter Y (phases_in after) later.reduced) → IsSession M difference enter objective reach Y (parts_of later after now_led now_cut (record room { given = Open }))
              IsSession-edited values now spare stays now_led stays_is only led_is = record {
                may_solve = MaySolve-edited M enter objective reach X edit session.may_solve passes values now;
                sized = sized;
                chain = is_cut.chain;
                region_side = is_cut.side ∙ region_prepared;
                together = record {
                  admitted =
                      subst (λ list. AreAdmittedPhases M difference (square_side Y) list (square_cell Y M.unit enter)) (sym phases_are) kept_of.admitted;
                  is_led = led_is;
                  is_told = λ h. is_cut.told;
                  is_whole = λ h. now_cut_is ∙ uncut_still stays stays_is (only h);
                  absorbed = still_absorbed;
                };
                spare = λ h. let more = is_cut.spare in omega (arith, spare, more, side_same);
                answer_room = record {
                  choice_rows = session.answer_room.choice_rows ∙ sym (edited_rows X edit);
                  ids_room = session.answer_room.ids_room;
                };
                given_is = tt;
              }
