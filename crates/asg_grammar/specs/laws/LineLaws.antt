-- Parts of one line, and their readers.
use Rattle.std.proofs.Common.{◌≡◌, ℕ, List, [], ◌∷◌, ◌++◌, Bor, refl, sym, ap, ◌∙◌, subst, true}
use Rattle.std.specs.Prelude.{Option, Some, None, Result, Ok, Err}
use Rattle.std.specs.Fn.{Once, FnOnceReturns, FnOnceReturnsAt}
use Rattle.std.proofs.lemmas.List.{append_cancel_left}
use Rattle.std.proofs.lemmas.List.Elements.{All-nil, All-cons}
use Rattle.asg_grammar.specs.declared.faults.Fault.{Fault}
use Rattle.asg_grammar.specs.declared.faults.Refusal.{Refusal}
use Rattle.asg_grammar.specs.Lines.{Lacks}
use Rattle.asg_grammar.specs.Parts.{one_line, the_line, IsReadable}
use Rattle.asg_grammar.specs.Reading.{Stops, Halts, IsRead, Reads, ReadsLine}
use Rattle.asg_grammar.specs.Spellings.{Spelling, Spells, SpellsOrFails, behind}
use Rattle.asg_grammar.specs.laws.SpellingLaws.{IsLegible, is_plain, Lacks-literal}

pub IsReadable-line : {A : Type 0} {spelling : Spelling A} → IsLegible spelling → IsReadable (one_line spelling)
IsReadable-line {spelling = spelling} law = record {
  some = law.some;
  has = law.has;
  unique = λ a b u v ha hb e.
      let heads : spelling.bytes a ≡ spelling.bytes b = cc (e) in
      let tails : u ≡ v = cc (e) in
      (law.same a b ha hb heads, tails);
  plain = λ a ha. All-cons (Lacks 10) (spelling.bytes a) [] (law.plain a ha) (All-nil (Lacks 10));
}

pub IsReadable-this : (line : List ℕ) → is_plain line ≡ true → IsReadable (the_line line)
IsReadable-this line test = record {
  some = tt;
  has = tt;
  unique = λ a b u v ha hb e. let tails : u ≡ v = cc (e) in (refl, tails);
  plain = λ a ha. All-cons (Lacks 10) line [] (Lacks-literal line test) (All-nil (Lacks 10));
}

-- ---- the next line is of no value

pub Stops-line : {A : Type 0} {spelling : Spelling A} (some : A) → spelling.Has some → {old : List (List ℕ)}
    → ((a : A) → spelling.Has a → (more : List (List ℕ)) → old ≡ spelling.bytes a ∷ more → ⊥) → Stops (one_line spelling) old old
Stops-line {spelling = spelling} some has other = record {
  good = [];
  split = refl;
  begun = some;
  valid = has;
  tail = spelling.bytes some ∷ [];
  begins = refl;
  short = λ a fits after same. absurd cc;
  barred = λ next more first a fits after others same.
      let heads : spelling.bytes a ≡ next = cc (same) in
      other a fits more (first ∙ ap (λ l. l ∷ more) (sym heads));
}

pub Stops-this : (line : List ℕ) → {old : List (List ℕ)} → ((more : List (List ℕ)) → old ≡ line ∷ more → ⊥) → Stops (the_line line) old old
Stops-this line other = record {
  good = [];
  split = refl;
  begun = tt;
  valid = tt;
  tail = line ∷ [];
  begins = refl;
  short = λ a fits after same. absurd cc;
  barred = λ next more first a fits after others same.
      let heads : line ≡ next = cc (same) in
      other more (first ∙ ap (λ l. l ∷ more) (sym heads));
}

-- ---- what a function reads of the next line

pub Reads-line : {A F : Type 0} {calls : Once F (Bor (List ℕ) × Unit {0}) (Option A)} {spelled : F} {front : List ℕ} {spelling : Spelling A} → IsLegible spelling
    → {old new : List (List ℕ)} (result : Result A Refusal) → ((p : Bor (List ℕ)) (r : Option A) → FnOnceReturns calls spelled (p, tt) r → Spells spelling p.now r)
    → ReadsLine calls spelled front old new result → Reads (one_line (behind front spelling)) old new result
Reads-line {front = front} {spelling = spelling} law {new = new} (Ok a) spells line =
    let met = line.read.given in
    let is = subst (λ t. Spells spelling t (Some a)) met.2 (spells met.0 (Some a) met.1) in
    record { has = is.0; split = line.read.next ∙ ap (λ t. (front ++ t) ∷ new) is.1 }
Reads-line {calls = calls} {spelled = spelled} {front = front} {spelling = spelling} law {old = old} {new = new} (Err refusal) spells line =
    subst (λ ls. Stops (one_line (behind front spelling)) old ls) (sym line.left.stays)
    (Stops-line law.some law.has (λ a fits more next. none a fits (line.left.given (spelling.bytes a) more next))) where
      none : (a : _) → spelling.Has a → FnOnceReturnsAt calls spelled (spelling.bytes a) None → ⊥
      none a fits met = (subst (λ t. Spells spelling t None) met.2 (spells met.0 None met.1)) a fits refl

-- ---- what is read behind the front of the next line

-- the next line has another front, or none is left
pub Halts-front : {A : Type 0} {spelling : Spelling A} (front : List ℕ) → IsLegible spelling → {old : List (List ℕ)} {fault : Fault}
    → ((text : List ℕ) (more : List (List ℕ)) → old ≡ (front ++ text) ∷ more → ⊥) → Halts (one_line (behind front spelling)) old old fault
Halts-front {spelling = spelling} front law other = record { refused = λ is. Stops-line law.some law.has (λ a fits more next. other (spelling.bytes a) more next) }

-- what follows the front spells no value
pub Halts-text : {A : Type 0} {spelling : Spelling A} (front text : List ℕ) → IsLegible spelling → {old left : List (List ℕ)} {fault : Fault}
    → old ≡ (front ++ text) ∷ left → SpellsOrFails spelling text (Err fault) → Halts (one_line (behind front spelling)) old old fault
Halts-text {spelling = spelling} front text law {left = left} {fault = fault} next spells = record {
  refused = λ is. Stops-line law.some law.has (λ a fits more same.
      let heads : front ++ text ≡ front ++ spelling.bytes a = cc (next, same) in
      (subst (λ f. SpellsOrFails spelling text (Err f)) is spells) a fits (append_cancel_left front text (spelling.bytes a) heads));
}

-- what follows the front spells a value
pub IsRead-text : {A : Type 0} (spelling : Spelling A) (front : List ℕ) {text : List ℕ} {old left : List (List ℕ)} {a : A}
    → old ≡ (front ++ text) ∷ left → spelling.Has a × (text ≡ spelling.bytes a) → IsRead (one_line (behind front spelling)) old left a
IsRead-text spelling front {left = left} next is = record { has = is.0; split = next ∙ ap (λ t. (front ++ t) ∷ left) is.1 }
