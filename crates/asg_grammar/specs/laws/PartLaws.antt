-- What holds of parts of a text, whichever way they are made of others.
use Rattle.std.proofs.Common.{◌≡◌, ℕ, ◌+◌, ◌-◌, ◌<◌, List, [], ◌∷◌, ◌++◌, length, replicate, All, refl, sym, ap, ◌∙◌, append_assoc, subst, arith}
use Rattle.std.specs.Prelude.{Result, Ok, Err, IsErrAnd}
use Rattle.std.specs.List.{flat_map}
use Rattle.std.proofs.lemmas.List.{append-nil, length-append, length-replicate}
use Rattle.std.proofs.lemmas.List.Concat.{flat_map-append}
use Rattle.std.proofs.lemmas.List.Elements.{All-nil, All-cons, All-head, All-tail, All-append, All-push, All-replicate}
use Rattle.asg_grammar.specs.declared.faults.Fault.{Fault}
use Rattle.asg_grammar.specs.declared.faults.Refusal.{Refusal}
use Rattle.asg_grammar.specs.Lines.{Lacks}
use Rattle.asg_grammar.specs.Parts.{Part, no_lines, and_then, counted, IsReadable}
use Rattle.asg_grammar.specs.Reading.{Stops, IsRead, Halts, Reads, ReadsOrFails}

-- ---- no line

pub IsReadable-none : {A : Type 0} (a : A) → IsReadable (no_lines a)
IsReadable-none a = record { some = a; has = refl; unique = λ b c u v hb hc e. (hb ∙ sym hc, e); plain = λ b hb. All-nil (Lacks 10) }

-- ---- a part and one that its value tells

pub record Chain {A : Type 0} {B : A → Type 0} (first : Part A) (second : (a : A) → Part (B a)) : Type 0 where
  pub first_law : IsReadable first
  pub second_law : (a : A) → first.Has a → IsReadable (second a)

-- the lines of both, and others
both : {A : Type 0} {B : A → Type 0} (first : Part A) (second : (a : A) → Part (B a)) (ab : (a : A) × B a) (after : List (List ℕ))
    → (and_then first second).lines ab ++ after ≡ first.lines ab.0 ++ ((second ab.0).lines ab.1 ++ after)
both first second ab after = append_assoc (first.lines ab.0) ((second ab.0).lines ab.1) after

-- the other part, at an equal value
moved : {A : Type 0} {B : A → Type 0} (second : (a : A) → Part (B a)) (a b : A) → b ≡ a → (y : B b) → (second b).Has y → (after goal : List (List ℕ))
    → (second b).lines y ++ after ≡ goal → (z : B a) × (second a).Has z × ((second a).lines z ++ after ≡ goal)
moved {B} second a b e = subst (λ d. (y : B b) → (second b).Has y → (after goal : List (List ℕ)) → (second b).lines y ++ after ≡ goal → (z : B d) × (second d).Has z × ((second d).lines z ++ after ≡ goal)) e
    (λ y has after goal lines. (y, has, lines))

module _ {A : Type 0} {B : A → Type 0} {first : Part A} {second : (a : A) → Part (B a)} where
  pub IsReadable-chain : Chain first second → IsReadable (and_then first second)
  IsReadable-chain chain = record {
    some = (chain.first_law.some, (chain.second_law chain.first_law.some chain.first_law.has).some);
    has = (chain.first_law.has, (chain.second_law chain.first_law.some chain.first_law.has).has);
    unique = λ x y u v hx hy e.
        let heads = chain.first_law.unique x.0 y.0 ((second x.0).lines x.1 ++ u) ((second y.0).lines y.1 ++ v) hx.0 hy.0 (sym (both first second x u) ∙ e ∙ both first second y v) in
        same x.0 y.0 heads.0 hx.0 x.1 y.1 hx.1 hy.1 u v heads.1;
    plain = λ x hx. All-append (Lacks 10) (first.lines x.0) ((second x.0).lines x.1) (chain.first_law.plain x.0 hx.0) ((chain.second_law x.0 hx.0).plain x.1 hx.1);
  } where
    pair : (a : A) → B a → (a : A) × B a
    pair a b = (a, b)

    same : (a b : A) → a ≡ b → first.Has a → (x : B a) (y : B b) → (second a).Has x → (second b).Has y → (u v : List (List ℕ))
        → (second a).lines x ++ u ≡ (second b).lines y ++ v → (pair a x ≡ pair b y) × (u ≡ v)
    same a b e has x = subst
        (λ d. (y : B d) → (second a).Has x → (second d).Has y → (u v : List (List ℕ)) → (second a).lines x ++ u ≡ (second d).lines y ++ v → (pair a x ≡ pair d y) × (u ≡ v)) e
        (λ y hx hy u v lines. let found = (chain.second_law a has).unique x y u v hx hy lines in (ap (pair a) found.0, found.1))

  Stops-first : Chain first second → (old rest : List (List ℕ)) → Stops first old rest → Stops (and_then first second) old rest
  Stops-first chain old rest stop =
      let law = chain.second_law stop.begun stop.valid in
      let others = (second stop.begun).lines law.some in
      record {
        good = stop.good;
        split = stop.split;
        begun = (stop.begun, law.some);
        valid = (stop.valid, law.has);
        tail = stop.tail ++ others;
        begins = ap (λ ls. ls ++ others) stop.begins ∙ append_assoc stop.good stop.tail others;
        short = λ ab has after e. stop.short ab.0 has.0 ((second ab.0).lines ab.1 ++ after) (sym (both first second ab after) ∙ e);
        barred = λ line more is ab has after beyond e. stop.barred line more is ab.0 has.0 ((second ab.0).lines ab.1 ++ after) beyond (sym (both first second ab after) ∙ e);
      }

  Stops-second : Chain first second → (a : A) (old left rest : List (List ℕ)) → IsRead first old left a → Stops (second a) left rest → Stops (and_then first second) old rest
  Stops-second chain a old left rest read stop = record {
    good = first.lines a ++ stop.good;
    split = read.split ∙ ap (λ ls. first.lines a ++ ls) stop.split ∙ sym (append_assoc (first.lines a) stop.good rest);
    begun = (a, stop.begun);
    valid = (read.has, stop.valid);
    tail = stop.tail;
    begins = ap (λ ls. first.lines a ++ ls) stop.begins ∙ sym (append_assoc (first.lines a) stop.good stop.tail);
    short = λ ab has after e. let found = others ab has after stop.good e in stop.short found.0 found.1 after found.2;
    barred = λ line more is ab has after beyond e.
        let found = others ab has after (stop.good ++ line ∷ beyond) (e ∙ append_assoc (first.lines a) stop.good (line ∷ beyond)) in
        stop.barred line more is found.0 found.1 after beyond found.2;
  } where
    others : (ab : (a : A) × B a) → (and_then first second).Has ab → (after goal : List (List ℕ)) → (and_then first second).lines ab ++ after ≡ first.lines a ++ goal
        → (z : B a) × (second a).Has z × ((second a).lines z ++ after ≡ goal)
    others ab has after goal e =
        let heads = chain.first_law.unique ab.0 a ((second ab.0).lines ab.1 ++ after) goal has.0 read.has (sym (both first second ab after) ∙ e) in
        moved second a ab.0 heads.0 ab.1 has.1 after goal heads.1

  -- the first part isn't read
  pub Halts-first : Chain first second → {old rest : List (List ℕ)} {fault : Fault} → Halts first old rest fault → Halts (and_then first second) old rest fault
  Halts-first chain {old} {rest} stop = record { refused = λ is. Stops-first chain old rest (stop.refused is) }

  -- the first part is read, and the second isn't
  pub Halts-second : Chain first second → {a : A} {old left rest : List (List ℕ)} {fault : Fault} → IsRead first old left a → Halts (second a) left rest fault → Halts (and_then first second) old rest fault
  Halts-second chain {a} {old} {left} {rest} read stop = record { refused = λ is. Stops-second chain a old left rest read (stop.refused is) }

  -- both are read
  pub IsRead-both : Chain first second → {a : A} {b : B a} {old left rest : List (List ℕ)} → IsRead first old left a → IsRead (second a) left rest b → IsRead (and_then first second) old rest (a, b)
  IsRead-both chain {a} {b} {old} {left} {rest} read other = record {
    has = (read.has, other.has);
    split = read.split ∙ ap (λ ls. first.lines a ++ ls) other.split ∙ sym (append_assoc (first.lines a) ((second a).lines b) rest);
  }

-- ---- a value made of another

-- each value of `whole` that has a text is made of one of `part`, with its lines
pub record Shape {A C : Type 0} (part : Part A) (whole : Part C) : Type 0 where
  pub make : A → C
  pub has : (a : A) → part.Has a → whole.Has (make a)
  pub lines : (a : A) → part.Has a → whole.lines (make a) ≡ part.lines a
  pub back : (c : C) → whole.Has c → (a : A) × part.Has a × (c ≡ make a)

module _ {A C : Type 0} {part : Part A} {whole : Part C} (shape : Shape part whole) where
  shaped : (c : C) → whole.Has c → (a : A) × part.Has a × (c ≡ shape.make a) × (whole.lines c ≡ part.lines a)
  shaped c has = let found = shape.back c has in (found.0, found.1, found.2, ap whole.lines found.2 ∙ shape.lines found.0 found.1)

  pub IsReadable-shape : IsReadable part → IsReadable whole
  IsReadable-shape law = record {
    some = shape.make law.some;
    has = shape.has law.some law.has;
    unique = λ c d u v hc hd e.
        let x = shaped c hc in
        let y = shaped d hd in
        let found = law.unique x.0 y.0 u v x.1 y.1 (ap (λ ls. ls ++ u) (sym x.3) ∙ e ∙ ap (λ ls. ls ++ v) y.3) in
        (x.2 ∙ ap shape.make found.0 ∙ sym y.2, found.1);
    plain = λ c hc. let x = shaped c hc in subst (All (Lacks 10)) (sym x.3) (law.plain x.0 x.1);
  }

  pub Stops-shape : {old rest : List (List ℕ)} → Stops part old rest → Stops whole old rest
  Stops-shape stop = record {
    good = stop.good;
    split = stop.split;
    begun = shape.make stop.begun;
    valid = shape.has stop.begun stop.valid;
    tail = stop.tail;
    begins = shape.lines stop.begun stop.valid ∙ stop.begins;
    short = λ c has after e. let x = shaped c has in stop.short x.0 x.1 after (ap (λ ls. ls ++ after) (sym x.3) ∙ e);
    barred = λ line more is c has after beyond e. let x = shaped c has in stop.barred line more is x.0 x.1 after beyond (ap (λ ls. ls ++ after) (sym x.3) ∙ e);
  }

  pub Halts-shape : {old rest : List (List ℕ)} {fault : Fault} → Halts part old rest fault → Halts whole old rest fault
  Halts-shape {old} {rest} stop = record { refused = λ is. Stops-shape (stop.refused is) }

  pub IsRead-shape : {old new : List (List ℕ)} {a : A} → IsRead part old new a → IsRead whole old new (shape.make a)
  IsRead-shape {old} {new} {a} read = record { has = shape.has a read.has; split = read.split ∙ ap (λ ls. ls ++ new) (sym (shape.lines a read.has)) }

-- ---- so many, one after the other

module _ {A : Type 0} {part : Part A} (law : IsReadable part) where
  lines_then : (x : A) (xs : List A) (after : List (List ℕ)) → flat_map part.lines (x ∷ xs) ++ after ≡ part.lines x ++ (flat_map part.lines xs ++ after)
  lines_then x xs after = append_assoc (part.lines x) (flat_map part.lines xs) after

  counted_unique : (xs ys : List A) (u v : List (List ℕ)) → All part.Has xs → All part.Has ys → length xs ≡ length ys
      → flat_map part.lines xs ++ u ≡ flat_map part.lines ys ++ v → (xs ≡ ys) × (u ≡ v)
  counted_unique [] [] u v hx hy len e = (refl, e)
  counted_unique [] (y ∷ ys) u v hx hy len e = absurd (omega arith)
  counted_unique (x ∷ xs) [] u v hx hy len e = absurd (omega arith)
  counted_unique (x ∷ xs) (y ∷ ys) u v hx hy len e =
      let heads = law.unique x y (flat_map part.lines xs ++ u) (flat_map part.lines ys ++ v) (All-head part.Has x xs hx) (All-head part.Has y ys hy)
      (sym (lines_then x xs u) ∙ e ∙ lines_then y ys v) in
      let others = counted_unique xs ys u v (All-tail part.Has x xs hx) (All-tail part.Has y ys hy) (omega arith) heads.1 in
      (ap (λ z. z ∷ xs) heads.0 ∙ ap (λ zs. y ∷ zs) others.0, others.1)

  pub counted_plain : (xs : List A) → All part.Has xs → All (Lacks 10) (flat_map part.lines xs)
  counted_plain [] hx = All-nil (Lacks 10)
  counted_plain (x ∷ xs) hx = All-append (Lacks 10) (part.lines x) (flat_map part.lines xs) (law.plain x (All-head part.Has x xs hx)) (counted_plain xs (All-tail part.Has x xs hx))

  pub IsReadable-counted : (count : ℕ) → IsReadable (counted count part)
  IsReadable-counted count = record {
    some = replicate count law.some;
    has = (length-replicate count law.some, All-replicate part.Has count law.some law.has);
    unique = λ xs ys u v hx hy e. counted_unique xs ys u v hx.1 hy.1 (hx.0 ∙ sym hy.0) e;
    plain = λ xs hx. counted_plain xs hx.1;
  }

  -- what follows fewer members is a member's
  next_member : (xs ys : List A) (after goal : List (List ℕ)) → All part.Has xs → All part.Has ys → length xs < length ys
      → flat_map part.lines ys ++ after ≡ flat_map part.lines xs ++ goal → (a : A) × (others : List (List ℕ)) × part.Has a × (part.lines a ++ others ≡ goal)
  next_member [] [] after goal hx hy few e = absurd (omega arith)
  next_member [] (y ∷ ys) after goal hx hy few e = (y, flat_map part.lines ys ++ after, All-head part.Has y ys hy, sym (lines_then y ys after) ∙ e)
  next_member (x ∷ xs) [] after goal hx hy few e = absurd (omega arith)
  next_member (x ∷ xs) (y ∷ ys) after goal hx hy few e =
      let heads = law.unique y x (flat_map part.lines ys ++ after) (flat_map part.lines xs ++ goal) (All-head part.Has y ys hy) (All-head part.Has x xs hx)
      (sym (lines_then y ys after) ∙ e ∙ lines_then x xs goal) in
      next_member xs ys after goal (All-tail part.Has x xs hx) (All-tail part.Has y ys hy) (omega arith) heads.1

  Stops-counted : (count read : ℕ) (xs : List A) (old left rest : List (List ℕ)) → IsRead (counted read part) old left xs → read < count → Stops part left rest → Stops (counted count part) old rest
  Stops-counted count read xs old left rest so_far few stop =
      let front = flat_map part.lines xs in
      let more = replicate (count - (read + 1)) law.some in
      let many : length more ≡ count - (read + 1) = length-replicate (count - (read + 1)) law.some in
      let fits : All part.Has more = All-replicate part.Has (count - (read + 1)) law.some law.has in
      record {
        good = front ++ stop.good;
        split = so_far.split ∙ ap (λ ls. front ++ ls) stop.split ∙ sym (append_assoc front stop.good rest);
        begun = xs ++ stop.begun ∷ more;
        valid = (omega (arith, so_far.has.0, many, length-append xs (stop.begun ∷ more)), All-append part.Has xs (stop.begun ∷ more) so_far.has.1 (All-cons part.Has stop.begun more stop.valid fits));
        tail = stop.tail ++ flat_map part.lines more;
        begins = flat_map-append part.lines xs (stop.begun ∷ more)
            ∙ ap (λ ls. front ++ (ls ++ flat_map part.lines more)) stop.begins
            ∙ ap (λ ls. front ++ ls) (append_assoc stop.good stop.tail (flat_map part.lines more))
            ∙ sym (append_assoc front stop.good (stop.tail ++ flat_map part.lines more));
        short = λ ys has after e.
            let found = next_member xs ys after stop.good so_far.has.1 has.1 (omega (arith, so_far.has.0, has.0)) e in
            stop.short found.0 found.2 found.1 found.3;
        barred = λ line others is ys has after beyond e.
            let found = next_member xs ys after (stop.good ++ line ∷ beyond) so_far.has.1 has.1 (omega (arith, so_far.has.0, has.0)) (e ∙ append_assoc front stop.good (line ∷ beyond)) in
            stop.barred line others is found.0 found.2 found.1 beyond found.3;
      }

  -- fewer are read, and the next isn't
  pub Halts-counted : {count read : ℕ} {xs : List A} {old left rest : List (List ℕ)} {fault : Fault} → IsRead (counted read part) old left xs → read < count → Halts part left rest fault → Halts (counted count part) old rest fault
  Halts-counted {count} {read} {xs} {old} {left} {rest} so_far few stop = record { refused = λ is. Stops-counted count read xs old left rest so_far few (stop.refused is) }

pub IsRead-none : {A : Type 0} (part : Part A) (old : List (List ℕ)) → IsRead (counted 0 part) old old []
IsRead-none part old = record { has = (refl, All-nil part.Has); split = refl }

-- one more is read
pub IsRead-more : {A : Type 0} {part : Part A} {read : ℕ} {xs : List A} {x : A} {old left new : List (List ℕ)} → IsRead (counted read part) old left xs → IsRead part left new x
    → IsRead (counted (read + 1) part) old new (xs ++ x ∷ [])
IsRead-more {part = part} {read = read} {xs = xs} {x = x} {new = new} so_far next = record {
  has = (omega (arith, so_far.has.0, length-append xs (x ∷ [])), All-push part.Has xs x so_far.has.1 next.has);
  split = so_far.split ∙ ap (λ ls. flat_map part.lines xs ++ ls) (next.split ∙ ap (λ ls. ls ++ new) (sym (append-nil (part.lines x))))
      ∙ sym (append_assoc (flat_map part.lines xs) (part.lines x ++ []) new)
      ∙ ap (λ ls. ls ++ new) (sym (flat_map-append part.lines xs (x ∷ [])));
}

-- ---- what a function gives by `?`

pub Reads-err : {A : Type 0} {part : Part A} {old new : List (List ℕ)} {y : Refusal} (result : Result A Refusal) → IsErrAnd result (λ z. z ≡ y) → Stops part old new → Reads part old new result
Reads-err (Ok a) gives stop = absurd gives
Reads-err (Err z) gives stop = stop

pub ReadsOrFails-err : {A : Type 0} {part : Part A} {old new : List (List ℕ)} {fault : Fault} (result : Result A Fault) → IsErrAnd result (λ y. y ≡ fault) → Halts part old new fault → ReadsOrFails part old new result
ReadsOrFails-err (Ok a) gives stop = absurd gives
ReadsOrFails-err (Err y) gives stop = record { refused = λ is. stop.refused (sym gives ∙ is) }

-- one that takes no memory stops
pub Halts-stops : {A : Type 0} {part : Part A} {old rest : List (List ℕ)} {fault : Fault} → Stops part old rest → Halts part old rest fault
Halts-stops stop = record { refused = λ is. stop }
