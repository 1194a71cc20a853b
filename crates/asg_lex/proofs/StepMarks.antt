-- Marks of the cells that are 0, by counts of steps.
use Rattle.asg_lex.proofs.Common.{◌≡◌, ℕ, ◌<◌, List, Option, subst, BitTable, IsBitTable, has_bit, Tightens, is_tight, AreDuals, CountsStep, tight_where, zero_where, MarksZeros}
use Rattle.asg_bit_rows.specs.laws.Words.{same_bool}

-- marks of the cells that are 0 are those by the counts
pub zeros_tight : (side count : ℕ) (zeros ones marks : BitTable) (ins outs : List ℕ) (square : ℕ → ℕ → Option ℕ) → marks.rows ≡ side → marks.columns ≡ side → IsBitTable marks → AreDuals side count zeros ones ins outs square → MarksZeros side marks square → Tightens marks zeros ones ins outs side side
zeros_tight side count zeros ones marks ins outs square rows columns table duals marked = record {
  rows = rows;
  columns = columns;
  done = λ r c h.
      same_bool (has_bit marks r c) (is_tight zeros ones ins outs r c)
      (λ set.
      let inside = table.inside r c set in
      tight_where side count zeros ones ins outs square duals r c
      ((marked r c).0 (record { row = subst (λ n. r < n) rows inside.0; column = subst (λ n. c < n) columns inside.1; bit = set })))
      (λ tight. ((marked r c).1 (zero_where side count zeros ones ins outs square duals r c tight)).bit);
}

-- what makes marks of the cells that are 0 those of one more step
abbrev pub MarksStep : ℕ → BitTable → BitTable → BitTable → BitTable → List ℕ → List ℕ → List ℕ → List ℕ → Type 0
MarksStep side before after zeros ones enters leaves ins outs =
    (count : ℕ) (ins_before outs_before : List ℕ) (square : ℕ → ℕ → Option ℕ) → AreDuals side count zeros ones ins_before outs_before square → Tightens before zeros ones ins_before outs_before side side
    → CountsStep side enters leaves ins_before outs_before ins outs → Tightens after zeros ones ins outs side side

-- the same by equal lists
pub next_by : (before after zeros ones : BitTable) (rows side : ℕ) (enters enters_is leaves leaves_is ins ins_is outs outs_is : List ℕ) → rows ≡ side → enters ≡ enters_is → leaves ≡ leaves_is → ins ≡ ins_is → outs ≡ outs_is → MarksStep rows before after zeros ones enters leaves ins outs → MarksStep side before after zeros ones enters_is leaves_is ins_is outs_is
next_by before after zeros ones rows side enters enters_is leaves leaves_is ins ins_is outs outs_is n e l i o marks =
    subst (MarksStep side before after zeros ones enters_is leaves_is ins_is) o
    (subst (λ xs. MarksStep side before after zeros ones enters_is leaves_is xs outs) i
    (subst (λ xs. MarksStep side before after zeros ones enters_is xs ins outs) l
    (subst (λ xs. MarksStep side before after zeros ones xs leaves ins outs) e (subst (λ k. MarksStep k before after zeros ones enters leaves ins outs) n marks))))
