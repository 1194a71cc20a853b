-- A phase is admitted where its first steps are, and those after them from where these lead.
use Rattle.std.proofs.Common.{◌≡◌, ℕ, zero, suc, ◌+◌, ◌-◌, ◌<◌, ◌≤◌, Bool, leb, ltb, List, [], ◌∷◌, ◌++◌, length, take, drop, map, get_or, Option, Some, None, refl, sym, ap, subst, ◌∙◌, arith, ⊎_elim}
use Rattle.std.specs.Prelude.{All}
use Rattle.std.specs.Cmp.{both_ways}
use Rattle.std.proofs.Math.Path.{fun_ext}
use Rattle.std.proofs.Math.ListN.{get_or-map}
use Rattle.std.proofs.lemmas.Bool.{cases_lt, leb-true, le-leb, ltb-true, lt-ltb}
use Rattle.std.proofs.lemmas.List.{drop-append-le, get_or-drop, get_or-take, get_or_append_left, get_or-append-add, length-drop, length-append, length-map, length-take-le, map-append, take-append-drop, take-map, take_all, take_more, drop-map}
use Rattle.asg_order.specs.declared.words.Word.{Word}
use Rattle.asg_order.specs.Monoid.{Monoid, IsValue, IsOrderedMonoid, fold_of}
use Rattle.asg_order.specs.Words.{HasWords}
use Rattle.asg_order.specs.laws.Products.{fold_is_value, fold_of-append}
use Rattle.asg_proof.specs.Phases.{PhaseOf, phase_of, worded, entered_at, staying_at, square_after, after_phase, IsAdmittedPhase}
use Rattle.asg_proof.specs.Steps.{IsAdmittedStep, stepped}
use Rattle.asg_proof.specs.laws.PhaseSteps.{phase_has_values}
use Rattle.asg_square.specs.Grid.{Grid, cell_at}
use Rattle.asg_admit.specs.declared.reduced.Reduced.{Reduced}
use Rattle.asg_admit.specs.Reduced.{IsReduced}
use Rattle.asg_replays.specs.PhaseParts.{counted_from, first_part, part_of, steps_between}
use Rattle.asg_replays.specs.Replays.{IsAdmittedFrom, IsReplayed}
use Rattle.asg_replays.specs.laws.PhaseWords.{phase-once, take-take}
use Rattle.asg_replays.specs.laws.Replaying.{none_at, phase-words}
use Rattle.asg_admit.specs.laws.KeptLabels.{chained_labels}

-- ---- marks that are counted from a place on

leb-later : (n s mark : ℕ) → leb mark (n + s) ≡ leb (mark - n) s
leb-later n s mark =
    both_ways (leb mark (n + s)) (leb (mark - n) s)
    (λ is. le-leb (mark - n) s (let l = leb-true mark (n + s) is in omega (arith, l)))
    (λ is. le-leb mark (n + s) (let l = leb-true (mark - n) s is in omega (arith, l)))

ltb-later : (n s mark : ℕ) → ltb (n + s) mark ≡ ltb s (mark - n)
ltb-later n s mark =
    both_ways (ltb (n + s) mark) (ltb s (mark - n))
    (λ is. lt-ltb s (mark - n) (let l = ltb-true (n + s) mark is in omega (arith, l)))
    (λ is. lt-ltb (n + s) mark (let l = ltb-true s (mark - n) is in omega (arith, l)))

module _ (n : ℕ) (marks : List ℕ) where
  mark-later : (i : ℕ) → get_or (counted_from n marks) i 0 ≡ get_or marks i 0 - n
  mark-later i = ap (get_or (counted_from n marks) i) (let none : 0 ≡ 0 - n = omega arith in none) ∙ get_or-map (λ mark. mark - n) marks i 0

  entered-later : (s : ℕ) → entered_at marks (n + s) ≡ entered_at (counted_from n marks) s
  entered-later s = fun_ext (λ r. leb-later n s (get_or marks r 0) ∙ ap (λ mark. leb mark s) (sym (mark-later r)))

  staying-later : (s : ℕ) → staying_at marks (n + s) ≡ staying_at (counted_from n marks) s
  staying-later s = fun_ext (λ k. ltb-later n s (get_or marks k 0) ∙ ap (λ mark. ltb s mark) (sym (mark-later k)))

-- ---- a phase whose steps are two lists, one after the other

module _ {V : Type 0} (M : Monoid V) (difference : V → V → V) (front back : List V) (enters leaves : List ℕ) (square : ℕ → ℕ → Option V) where
  abbrev whole : PhaseOf V
  whole = phase_of (front ++ back) enters leaves

  abbrev first : PhaseOf V
  first = phase_of front enters leaves

  abbrev later : PhaseOf V
  later = phase_of back (counted_from (length front) enters) (counted_from (length front) leaves)

  abbrev between : ℕ → ℕ → Option V
  between = after_phase M difference first square

  first-step : (t : ℕ) → t < length front → get_or whole.steps t M.unit ≡ get_or front t M.unit
  first-step t h = get_or_append_left front back M.unit t h

  first-after : (t : ℕ) → t ≤ length front → square_after M difference whole square t ≡ square_after M difference first square t
  first-after zero h = refl
  first-after (suc t) h =
      ap (stepped M difference (entered_at enters t) (staying_at leaves t) (get_or whole.steps t M.unit)) (first-after t (omega (arith, h)))
      ∙ ap (λ c. stepped M difference (entered_at enters t) (staying_at leaves t) c (square_after M difference first square t)) (first-step t (omega (arith, h)))

  later-step : (s : ℕ) → get_or whole.steps (length front + s) M.unit ≡ get_or back s M.unit
  later-step s = get_or-append-add front back s M.unit

  later-after : (s : ℕ) → square_after M difference whole square (length front + s) ≡ square_after M difference later between s
  later-after zero =
      ap (square_after M difference whole square) (let none : length front + 0 ≡ length front = omega arith in none) ∙ first-after (length front) (omega arith)
  later-after (suc s) =
      let t = length front + s in
      ap (square_after M difference whole square) (let more : length front + suc s ≡ suc t = omega arith in more)
      ∙ ap (stepped M difference (entered_at enters t) (staying_at leaves t) (get_or whole.steps t M.unit)) (later-after s)
      ∙ ap (λ c. stepped M difference (entered_at enters t) (staying_at leaves t) c (square_after M difference later between s)) (later-step s)
      ∙ ap (λ e. stepped M difference e (staying_at leaves t) (get_or back s M.unit) (square_after M difference later between s)) (entered-later (length front) enters s)
      ∙ ap (λ j. stepped M difference (entered_at later.enters s) j (get_or back s M.unit) (square_after M difference later between s)) (staying-later (length front) leaves s)

  -- the square after both is that after the second from where the first leads
  pub after-parts : after_phase M difference whole square ≡ after_phase M difference later between
  after-parts = ap (square_after M difference whole square) (length-append front back) ∙ later-after (length back)

  module _ (side : ℕ) where
    abbrev StepAt : (ℕ → Bool) → (ℕ → Bool) → V → (ℕ → ℕ → Option V) → Type 0
    StepAt entered staying c cells = IsAdmittedStep M side entered staying c cells

    -- a step is admitted where its parts are the same
    same-step : (e e′ j j′ : ℕ → Bool) (c c′ : V) (q q′ : ℕ → ℕ → Option V) → e ≡ e′ → j ≡ j′ → c ≡ c′ → q ≡ q′ → StepAt e j c q → StepAt e′ j′ c′ q′
    same-step e e′ j j′ c c′ q q′ es js cs qs is =
        subst (λ x. StepAt x j′ c′ q′) es (subst (λ x. StepAt e x c′ q′) js (subst (λ x. StepAt e j x q′) cs (subst (StepAt e j c) qs is)))

    -- the first part is admitted where the whole is
    pub first-admitted : IsAdmittedPhase M difference side whole square → IsAdmittedPhase M difference side first square
    first-admitted one = record {
      rows = one.rows;
      columns = one.columns;
      admitted = λ t h.
          same-step (entered_at enters t) (entered_at enters t) (staying_at leaves t) (staying_at leaves t) (get_or whole.steps t M.unit) (get_or front t M.unit) (square_after M difference whole square t) (square_after M difference first square t)
          refl refl (first-step t h) (first-after t (omega (arith, h))) (one.admitted t (omega (arith, h, length-append front back)));
    }

    -- so is the second, from where the first leads
    pub later-admitted : IsAdmittedPhase M difference side whole square → IsAdmittedPhase M difference side later between
    later-admitted one = record {
      rows = length-map enters (λ mark. mark - length front) ∙ one.rows;
      columns = length-map leaves (λ mark. mark - length front) ∙ one.columns;
      admitted = λ s h.
          let t = length front + s in
          same-step (entered_at enters t) (entered_at later.enters s) (staying_at leaves t) (staying_at later.leaves s) (get_or whole.steps t M.unit) (get_or back s M.unit) (square_after M difference whole square t) (square_after M difference later between s)
          (entered-later (length front) enters s) (staying-later (length front) leaves s) (later-step s) (later-after s) (one.admitted t (omega (arith, h, length-append front back)));
    }

    -- and the whole where both are
    pub whole-admitted : IsAdmittedPhase M difference side first square → IsAdmittedPhase M difference side later between → IsAdmittedPhase M difference side whole square
    whole-admitted one two = record {
      rows = one.rows;
      columns = one.columns;
      admitted = λ t h. ⊎_elim
          (λ (early : t < length front).
          same-step (entered_at enters t) (entered_at enters t) (staying_at leaves t) (staying_at leaves t) (get_or front t M.unit) (get_or whole.steps t M.unit) (square_after M difference first square t) (square_after M difference whole square t)
          refl refl (sym (first-step t early)) (sym (first-after t (omega (arith, early)))) (one.admitted t early))
          (λ (late : length front ≤ t).
          let s = t - length front in
          let at : length front + s ≡ t = omega (arith, late) in
          subst (λ u. StepAt (entered_at enters u) (staying_at leaves u) (get_or whole.steps u M.unit) (square_after M difference whole square u)) at
          (let u = length front + s in
          same-step (entered_at later.enters s) (entered_at enters u) (staying_at later.leaves s) (staying_at leaves u) (get_or back s M.unit) (get_or whole.steps u M.unit) (square_after M difference later between s) (square_after M difference whole square u)
          (sym (entered-later (length front) enters s)) (sym (staying-later (length front) leaves s)) (sym (later-step s)) (sym (later-after s)) (two.admitted s (omega (arith, h, late, length-append front back)))))
          (cases_lt t (length front));
    }

-- ---- parts of a phase by its words

-- the first steps, and those after them
steps-append : {A : Type 0} (from to : ℕ) (steps : List A) → from ≤ to → take from steps ++ steps_between from to steps ≡ take to steps
steps-append from to steps order =
    ap (λ xs. xs ++ steps_between from to steps) (sym (take-take from to steps order)) ∙ take-append-drop from (take to steps)

first-length : {A : Type 0} (n : ℕ) (steps : List A) → n ≤ length steps → length (take n steps) ≡ n
first-length n steps within = length-take-le n steps within

module _ {V : Type 0} (M : Monoid V) (difference : V → V → V) (side : ℕ) (square : ℕ → ℕ → Option V) (phase : PhaseOf V) where
  -- the first steps of an admitted phase are admitted
  admitted-first : (n : ℕ) → IsAdmittedPhase M difference side phase square → IsAdmittedPhase M difference side (first_part n phase) square
  admitted-first n one =
      first-admitted M difference (take n phase.steps) (drop n phase.steps) phase.enters phase.leaves square side
      (subst (λ steps. IsAdmittedPhase M difference side (phase_of steps phase.enters phase.leaves) square) (sym (take-append-drop n phase.steps)) one)

  -- and so is a part of it, from where the steps before it lead
  admitted-part : (from to : ℕ) → from ≤ to → to ≤ length phase.steps → IsAdmittedPhase M difference side phase square
      → IsAdmittedPhase M difference side (part_of from to phase) (after_phase M difference (first_part from phase) square)
  admitted-part from to order within one =
      let front = take from phase.steps in
      let back = steps_between from to phase.steps in
      let is = later-admitted M difference front back phase.enters phase.leaves square side
      (subst (λ steps. IsAdmittedPhase M difference side (phase_of steps phase.enters phase.leaves) square) (sym (steps-append from to phase.steps order)) (admitted-first to one)) in
      subst (λ n. IsAdmittedPhase M difference side (phase_of back (counted_from n phase.enters) (counted_from n phase.leaves)) (after_phase M difference (first_part from phase) square))
      (first-length from phase.steps (omega (arith, order, within))) is

module _ {V : Type 0} (word_of : V → Word) where
  worded-first : (n : ℕ) (phase : PhaseOf V) → worded word_of (first_part n phase) ≡ first_part n (worded word_of phase)
  worded-first n phase = ap (λ steps. phase_of steps phase.enters phase.leaves) (sym (take-map word_of n phase.steps))

  worded-part : (from to : ℕ) (phase : PhaseOf V) → worded word_of (part_of from to phase) ≡ part_of from to (worded word_of phase)
  worded-part from to phase =
      ap (λ steps. phase_of steps (counted_from from phase.enters) (counted_from from phase.leaves))
      (sym (drop-map word_of from (take to phase.steps)) ∙ ap (drop from) (sym (take-map word_of to phase.steps)))

  -- as many steps as words
  steps-length : (n : ℕ) (phase : PhaseOf V) (words : PhaseOf Word) → n ≤ length words.steps → worded word_of phase ≡ first_part n words → length phase.steps ≡ n
  steps-length n phase words within same =
      sym (length-map phase.steps word_of) ∙ ap (λ p. length p.steps) same ∙ first-length n words.steps within

-- none from a place to itself
pub none-between : {A : Type 0} (n : ℕ) (steps : List A) → steps_between n n steps ≡ []
none-between zero steps = refl
none-between (suc n) [] = refl
none-between (suc n) (x ∷ steps) = none-between n steps

-- one more
between-more : {A : Type 0} (from i : ℕ) (steps : List A) (d : A) → from ≤ i → i < length steps → steps_between from (i + 1) steps ≡ steps_between from i steps ++ get_or steps i d ∷ []
between-more from i steps d order below =
    ap (drop from) (take_more steps i d below)
    ∙ drop-append-le from (take i steps) (get_or steps i d ∷ []) (omega (arith, order, below, length-take-le i steps (omega (arith, below))))

module _ {V : Type 0} (M : Monoid V) (word_of : V → Word) (value_of : Word → Option V) (spelled : HasWords M word_of value_of) (words : List Word) where
  -- one value more
  pub values-between : (from i : ℕ) (d : Word) (values : List V) (v : V) → from ≤ i → i < length words → map word_of values ≡ steps_between from i words → value_of (get_or words i d) ≡ Some v → map word_of (values ++ v ∷ []) ≡ steps_between from (i + 1) words
  values-between from i d values v order below same is =
      map-append word_of values (v ∷ [])
      ∙ ap (λ ws. ws ++ word_of v ∷ []) same
      ∙ ap (λ w. steps_between from i words ++ w ∷ []) (spelled.found (get_or words i d) v is).1
      ∙ sym (between-more from i words d order below)

  -- where a word has no value, those around it are those of no values
  pub none_at-between : (from to i : ℕ) (d : Word) → from ≤ i → i < to → to ≤ length words → value_of (get_or words i d) ≡ None → (values : List V) → All (IsValue M) values → map word_of values ≡ steps_between from to words → ⊥
  none_at-between from to i d order below within none values vs same =
      let at : get_or (steps_between from to words) (i - from) d ≡ get_or words i d =
      get_or-drop from (take to words) (i - from) d
      ∙ ap (λ j. get_or (take to words) j d) (let there : from + (i - from) ≡ i = omega (arith, order) in there)
      ∙ get_or-take to words i d below in
      let count : i - from < length (steps_between from to words) = omega (arith, length-drop from (take to words), length-take-le to words within, order, below) in
      none_at M word_of value_of spelled (steps_between from to words) (i - from) d count (ap value_of at ∙ none) values vs same

module _ {V : Type 0} (M : Monoid V) (laws : IsOrderedMonoid M) (difference : V → V → V) (word_of : V → Word) (words : PhaseOf Word) (from to : ℕ) (order : from ≤ to) (within : to ≤ length words.steps) (start before after : Reduced V) where
  -- where the first steps are applied and then those up to another place, the steps up to it are
  pub replayed-part : IsReduced M start → IsReplayed M difference word_of (first_part from words) start before
      → IsReplayed M difference word_of (part_of from to words) before after → IsReplayed M difference word_of (first_part to words) start after
  replayed-part is one two =
      let p = one.first.phase in
      let q = two.first.phase in
      let side = start.now.side in
      let square = cell_at start.now in
      let n = steps-length word_of from p words (omega (arith, order, within)) one.first.written in
      let rows : q.enters ≡ counted_from (length p.steps) p.enters =
      ap (λ r. r.enters) two.first.written ∙ ap (counted_from from) (sym (ap (λ r. r.enters) one.first.written)) ∙ ap (λ m. counted_from m p.enters) (sym n) in
      let columns : q.leaves ≡ counted_from (length p.steps) p.leaves =
      ap (λ r. r.leaves) two.first.written ∙ ap (counted_from from) (sym (ap (λ r. r.leaves) one.first.written)) ∙ ap (λ m. counted_from m p.leaves) (sym n) in
      let behind : PhaseOf V = phase_of q.steps (counted_from (length p.steps) p.enters) (counted_from (length p.steps) p.leaves) in
      let same : q ≡ behind = ap (λ es. phase_of q.steps es q.leaves) rows ∙ ap (λ ls. phase_of q.steps (counted_from (length p.steps) p.enters) ls) columns in
      let cells : cell_at before.now ≡ after_phase M difference p square = fun_ext (λ r. fun_ext (λ k. one.leads.cells r k)) in
      let both : PhaseOf V = phase_of (p.steps ++ q.steps) p.enters p.leaves in
      let admitted : IsAdmittedPhase M difference side behind (after_phase M difference p square) =
      subst (λ n. IsAdmittedPhase M difference n behind (after_phase M difference p square)) one.leads.labels.side
      (subst (IsAdmittedPhase M difference before.now.side behind) cells
      (subst (λ r. IsAdmittedPhase M difference before.now.side r (cell_at before.now)) same two.first.admitted)) in
      let p_values = phase_has_values M difference side p square one.first.admitted in
      let q_values = phase_has_values M difference before.now.side q (cell_at before.now) two.first.admitted in
      record {
        first = record {
          phase = both;
          written = phase-words word_of (p.steps ++ q.steps) p.enters p.leaves (first_part to words)
              (map-append word_of p.steps q.steps
              ∙ ap (λ ws. ws ++ map word_of q.steps) (ap (λ r. r.steps) one.first.written)
              ∙ ap (λ ws. take from words.steps ++ ws) (ap (λ r. r.steps) two.first.written)
              ∙ steps-append from to words.steps order)
              (ap (λ r. r.enters) one.first.written) (ap (λ r. r.leaves) one.first.written);
          admitted = whole-admitted M difference p.steps q.steps p.enters p.leaves square side one.first.admitted admitted;
        };
        leads = record {
          cells = λ r k. two.leads.cells r k
              ∙ ap (λ cell. after_phase M difference q cell r k) cells
              ∙ ap (λ s. after_phase M difference s (after_phase M difference p square) r k) same
              ∙ ap (λ cell. cell r k) (sym (after-parts M difference p.steps q.steps p.enters p.leaves square));
          index = two.leads.index
              ∙ ap (λ z. M.product z (fold_of M q.steps)) one.leads.index
              ∙ laws.associative start.index (fold_of M p.steps) (fold_of M q.steps) is.index (fold_is_value M laws p.steps p_values) (fold_is_value M laws q.steps q_values)
              ∙ ap (M.product start.index) (sym (fold_of-append M laws p.steps q.steps p_values q_values));
          labels = chained_labels start.now before.now after.now one.leads.labels two.leads.labels;
          reduced = two.leads.reduced;
        };
      }

-- the first part of a phase up to its end is the phase
pub whole-part : (words : PhaseOf Word) (n : ℕ) → length words.steps ≤ n → first_part n words ≡ words
whole-part words n all = ap (λ steps. phase_of steps words.enters words.leaves) (take_all n words.steps all)

module _ {V : Type 0} (M : Monoid V) (difference : V → V → V) (word_of : V → Word) (value_of : Word → Option V) (spelled : HasWords M word_of value_of) (words : PhaseOf Word) where
  -- where the first steps aren't admitted, the phase isn't
  pub refused-first : (n side : ℕ) (square : ℕ → ℕ → Option V) → ¬ IsAdmittedFrom M difference word_of side square (first_part n words) → ¬ IsAdmittedFrom M difference word_of side square words
  refused-first n side square refused a = refused (record {
    phase = first_part n a.phase;
    written = worded-first word_of n a.phase ∙ ap (first_part n) a.written;
    admitted = admitted-first M difference side square a.phase n a.admitted;
  })

  -- where those after them aren't admitted from where they lead, the phase isn't
  pub refused-part : (from to : ℕ) → from ≤ to → to ≤ length words.steps → (start before : Reduced V) → IsReplayed M difference word_of (first_part from words) start before
      → ¬ IsAdmittedFrom M difference word_of before.now.side (cell_at before.now) (part_of from to words)
      → ¬ IsAdmittedFrom M difference word_of start.now.side (cell_at start.now) words
  refused-part from to order within start before one refused a =
      let side = start.now.side in
      let square = cell_at start.now in
      let p = a.phase in
      let many : to ≤ length p.steps = omega (arith, within, ap (λ r. length r.steps) a.written, length-map p.steps word_of) in
      let front = admitted-first M difference side square p from a.admitted in
      let once : one.first.phase ≡ first_part from p =
      phase-once M word_of value_of spelled difference side square one.first.phase (first_part from p) one.first.admitted
      (phase_has_values M difference side (first_part from p) square front)
      (one.first.written ∙ sym (worded-first word_of from p ∙ ap (first_part from) a.written)) in
      let cells : cell_at before.now ≡ after_phase M difference (first_part from p) square =
      fun_ext (λ r. fun_ext (λ k. one.leads.cells r k)) ∙ ap (λ r. after_phase M difference r square) once in
      let part = admitted-part M difference side square p from to order many a.admitted in
      refused (record {
        phase = part_of from to p;
        written = worded-part word_of from to p ∙ ap (part_of from to) a.written;
        admitted = subst (λ n. IsAdmittedPhase M difference n (part_of from to p) (cell_at before.now)) (sym one.leads.labels.side)
            (subst (IsAdmittedPhase M difference side (part_of from to p)) (sym cells) part);
      })
