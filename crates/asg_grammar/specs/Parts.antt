-- Parts of a text, and how they are made of others.
use Rattle.std.specs.Prelude.{◌≡◌, ℕ, List, [], ◌∷◌, ◌++◌, length, All}
use Rattle.std.specs.List.{flat_map}
use Rattle.asg_grammar.specs.Lines.{Lacks}
use Rattle.asg_grammar.specs.Spellings.{Spelling}

-- a part of a text: the lines of a value, and which values have a text
pub record Part (A : Type 0) : Type 1 where
  pub lines : A → List (List ℕ)
  pub Has : A → Type 0

-- one line, which spells the value
abbrev pub one_line : {A : Type 0} → Spelling A → Part A
one_line spelling = record { lines = λ a. spelling.bytes a ∷ []; Has = spelling.Has }

-- this line
abbrev pub the_line : List ℕ → Part (Unit {0})
the_line line = record { lines = λ _. line ∷ []; Has = λ _. Unit {0} }

-- no line: nothing more to read, of this value
abbrev pub no_lines : {A : Type 0} → A → Part A
no_lines a = record { lines = λ _. []; Has = λ b. b ≡ a }

-- a part, and one that its value tells: a sequence, or after a first line a choice
abbrev pub and_then : {A : Type 0} {B : A → Type 0} → Part A → ((a : A) → Part (B a))
    → Part ((a : A) × B a)
and_then first second = record {
  lines = λ ab. first.lines ab.0 ++ (second ab.0).lines ab.1;
  Has = λ ab. first.Has ab.0 × (second ab.0).Has ab.1;
}

-- so many of a part, one after the other
abbrev pub counted : {A : Type 0} → ℕ → Part A → Part (List A)
counted count part = record {
  lines = flat_map part.lines;
  Has = λ members. (length members ≡ count) × All part.Has members;
}

-- a part that can be read in one way: some value has a text, no text begins with another's, and no
-- line holds LF
pub record IsReadable {A : Type 0} (part : Part A) : Type 0 where
  pub some : A
  pub has : part.Has some
  pub unique : (a b : A) (u v : List (List ℕ)) → part.Has a → part.Has b
      → part.lines a ++ u ≡ part.lines b ++ v → (a ≡ b) × (u ≡ v)
  pub plain : (a : A) → part.Has a → All (Lacks 10) (part.lines a)
