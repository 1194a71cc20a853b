-- The tally of a tree, node by node, and the verdict at its end.
use Rattle.asg_trees.proofs.Common.{◌≡◌, ℕ, ◌+◌, ◌-◌, ◌<◌, ◌≤◌, min, true, cond, ◌⊎◌, [], length, IfSome, Some, None, All, Option, sym, refl, subst, ⊎_elim, arith, le-leb, All-get_or, cases_lt, lt-leb, IsValid, IsNumber, answer_number, node_answer, node_at, IsMarked, is_answered, Mark, Answered, Open, Empty, AreGiven, IsLacking, TellsTree, conclusion, conclusion_sound, Falls, HavePlaces, IsFair, IsTalliedBy, IsWholeTally, Judges, with_judgement, IsOpenWrongly, IsSound, MayBeOpen, TreeOf, Judgement, AtFault, LeftOpen, Fine, Tally, TreeVerdict, Tree, FaultAt, OpenAt}

-- a judgement lets no number rise
pub falls_with : (tally : Tally) (c : ℕ) (judgement : Judgement) → c < tally.fault → Falls tally (with_judgement tally c judgement)
falls_with tally c AtFault below = record { fault = omega (arith, below); left = omega arith }
falls_with tally c LeftOpen below = record { fault = omega arith; left = omega arith }
falls_with tally c Fine below = record { fault = omega arith; left = omega arith }

pub falls_none : (tally : Tally) → Falls tally tally
falls_none tally = record { fault = omega arith; left = omega arith }

pub falls_both : (a b c : Tally) → Falls a b → Falls b c → Falls a c
falls_both a b c first second = record { fault = omega (arith, first.fault, second.fault); left = omega (arith, first.left, second.left) }

module _ {V : Type 0} (T : TreeOf V) where
  -- what is tallied of nodes is tallied of some of them
  pub tally_fewer : (Judged Fewer : ℕ → Type 0) (tally : Tally) → IsTalliedBy T Judged tally → ((n : ℕ) → 1 ≤ n → n < tally.fault → Fewer n → Judged n) → IsTalliedBy T Fewer tally
  tally_fewer Judged Fewer tally t fewer = record {
    from = t.from;
    upto = t.upto;
    places = t.places;
    at_fault = t.at_fault;
    sound = λ n from below j. t.sound n from below (fewer n from below j);
    left_from = t.left_from;
    left_open = t.left_open;
    stay = λ n from below before j. t.stay n from below before (fewer n from below j);
  }

  module _ (Judged More : ℕ → Type 0) (tally : Tally) (t : IsTalliedBy T Judged tally) (c : ℕ) (from : 1 ≤ c) (below : c < tally.fault) (more : (n : ℕ) → 1 ≤ n → n < tally.fault → More n → (n ≡ c) ⊎ Judged n) where
    -- one node more
    pub tally_more : (judgement : Judgement) → Judges T c judgement → IsTalliedBy T More (with_judgement tally c judgement)
    tally_more AtFault h = record {
      from = from;
      upto = omega (arith, below, t.upto);
      places = λ n low high. t.places n low (omega (arith, high, below));
      at_fault = λ within. h;
      sound = λ n low high j. t.sound n low (omega (arith, high, below)) (before n low high j);
      left_from = t.left_from;
      left_open = t.left_open;
      stay = λ n low high left j. t.stay n low (omega (arith, high, below)) left (before n low high j);
    }
      where
        before : (n : ℕ) → 1 ≤ n → n < c → More n → Judged n
        before n low high j =
            ⊎_elim (λ (same : n ≡ c). absurd (omega (arith, same, high))) (λ (k : Judged n). k) (more n low (omega (arith, high, below)) j)
    tally_more LeftOpen h = record {
      from = t.from;
      upto = t.upto;
      places = t.places;
      at_fault = t.at_fault;
      sound = λ n low high j. ⊎_elim (λ (same : n ≡ c). subst (IsSound T) (sym same) h.0) (λ (k : Judged n). t.sound n low high k) (more n low high j);
      left_from = omega (arith, from, t.left_from);
      left_open = λ within.
          ⊎_elim
          (λ (less : tally.left < c).
          let is : tally.left ≡ min tally.left c = omega (arith, less) in
          subst (IsOpenWrongly T) is (t.left_open (omega (arith, within, is))))
          (λ (least : c ≤ tally.left).
          let is : c ≡ min tally.left c = omega (arith, least) in
          subst (IsOpenWrongly T) is h.1)
          (cases_lt tally.left c);
      stay = λ n low high left j.
          ⊎_elim
          (λ (same : n ≡ c). absurd (omega (arith, same, left)))
          (λ (k : Judged n). t.stay n low high (omega (arith, left)) k)
          (more n low high j);
    }
    tally_more Fine h = record {
      from = t.from;
      upto = t.upto;
      places = t.places;
      at_fault = t.at_fault;
      sound = λ n low high j. ⊎_elim (λ (same : n ≡ c). subst (IsSound T) (sym same) h.0) (λ (k : Judged n). t.sound n low high k) (more n low high j);
      left_from = t.left_from;
      left_open = t.left_open;
      stay = λ n low high left j. ⊎_elim (λ (same : n ≡ c). subst (MayBeOpen T) (sym same) h.1) (λ (k : Judged n). t.stay n low high left k) (more n low high j);
    }

  -- what is tallied of nodes is fair
  pub fair_of : (Judged : ℕ → Type 0) (tally : Tally) → IsTalliedBy T Judged tally → IsFair T tally
  fair_of Judged tally t = tally_fewer Judged (λ n. ⊥) tally t (λ n low high j. absurd j)

  -- nothing was judged
  pub tally_none : (tally : Tally) → 1 ≤ tally.fault → tally.fault ≤ length T.nodes + 1 → HavePlaces T tally.fault → (tally.fault ≤ length T.nodes → ¬ IsSound T tally.fault) → tally.left ≡ length T.nodes + 1 → IsTalliedBy T (λ n. ⊥) tally
  tally_none tally from upto places fault left = record {
    from = from;
    upto = upto;
    places = places;
    at_fault = fault;
    sound = λ n low high j. absurd j;
    left_from = omega (arith, left);
    left_open = λ within. absurd (omega (arith, within, left));
    stay = λ n low high before j. absurd j;
  }

  abbrev Tells : TreeVerdict → Type 0
  Tells = TellsTree T.monoid T.difference T.word_of T.enter T.problem T.count T.answers T.nodes

  -- the verdict at the end
  module _ (tally : Tally) (w : IsWholeTally T tally) (some : 1 ≤ length T.answers) where
    module _ (none : length T.nodes < tally.fault) where
      all_sound : (n : ℕ) → IsNumber T.nodes n → IsSound T n
      all_sound n number = w.sound n number.0 (omega (arith, number.1, none)) tt

      told_sound : (lacking : Option ℕ) → IfSome lacking (IsLacking T.answers T.nodes) → (lacking ≡ None → AreGiven T.answers T.nodes) → Tells (conclusion_sound tally.left (length T.nodes) lacking)
      told_sound (Some a) lacks given = (all_sound, record { number = a; from = lacks.from; upto = lacks.upto; none = lacks.none })
      told_sound None lacks given =
          ⊎_elim
          (λ (within : tally.left < length T.nodes + 1).
          subst (λ b. Tells (cond b (OpenAt tally.left) Tree)) (sym (le-leb tally.left (length T.nodes) (omega (arith, within)))) (
            all_sound,
            given refl,
            record {
              there = (w.left_from, omega (arith, within));
              marked = (w.left_open (omega (arith, within))).0;
              may_not = (w.left_open (omega (arith, within))).1;
            },
            λ m less o. o.may_not (w.stay m o.there.0 (omega (arith, o.there.1, none)) less tt o.marked),
          ))
          (λ (past : length T.nodes + 1 ≤ tally.left).
          let first = given refl 1 (omega arith) some in
          subst (λ b. Tells (cond b (OpenAt tally.left) Tree)) (sym (lt-leb tally.left (length T.nodes) (omega (arith, past))))
          (record {
            root = omega (arith, first.there.0, first.there.1);
            sound = all_sound;
            given = given refl;
            open_nodes = λ n number opened. w.stay n number.0 (omega (arith, number.1, none)) (omega (arith, number.1, past)) tt opened;
          }))
          (cases_lt tally.left (length T.nodes + 1))

    pub told : (lacking : Option ℕ) → IfSome lacking (IsLacking T.answers T.nodes) → (lacking ≡ None → AreGiven T.answers T.nodes) → Tells (conclusion tally (length T.nodes) lacking)
    told lacking lacks given =
        ⊎_elim
        (λ (within : tally.fault < length T.nodes + 1).
        subst (λ b. Tells (cond b (FaultAt tally.fault) (conclusion_sound tally.left (length T.nodes) lacking))) (sym (le-leb tally.fault (length T.nodes) (omega (arith, within)))) (
          record { there = (w.from, omega (arith, within)); fault = w.at_fault (omega (arith, within)) },
          λ m less a. a.fault (w.sound m a.there.0 less tt),
        ))
        (λ (past : length T.nodes + 1 ≤ tally.fault).
        subst (λ b. Tells (cond b (FaultAt tally.fault) (conclusion_sound tally.left (length T.nodes) lacking))) (sym (lt-leb tally.fault (length T.nodes) (omega (arith, past))))
        (told_sound (omega (arith, past)) lacking lacks given))
        (cases_lt tally.fault (length T.nodes + 1))

-- the number of a sound answered node's answer is that of one
pub answer_within : {V : Type 0} (T : TreeOf V) (n : ℕ) → IsSound T n → is_answered (node_at T.nodes n).mark ≡ true → (1 ≤ answer_number (node_at T.nodes n).mark) × (answer_number (node_at T.nodes n).mark ≤ length T.answers)
answer_within T n sound answered = by (node_at T.nodes n).mark sound.marked answered
  where
    by : (mark : Mark) → IsMarked T.monoid T.difference T.word_of T.enter T.problem T.answers T.nodes n mark → is_answered mark ≡ true → (1 ≤ answer_number mark) × (answer_number mark ≤ length T.answers)
    by (Answered a) marked is = (marked.0.from, marked.0.upto)
    by Open marked is = absurd (cc is)
    by (Empty rows) marked is = absurd (cc is)

-- the answer of a sound answered node is over the rows
pub answer_over : {V : Type 0} (T : TreeOf V) → All (IsValid T.problem) T.answers → (n : ℕ) → IsSound T n → is_answered (node_at T.nodes n).mark ≡ true → length (node_answer T.answers T.nodes n) ≡ length T.problem.rows
answer_over T valid n sound answered =
    let within = answer_within T n sound answered in
    (All-get_or (IsValid T.problem) T.answers (answer_number (node_at T.nodes n).mark - 1) [] (omega (arith, within.0, within.1)) valid).over
