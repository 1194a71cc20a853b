-- The laws of single lines.
use Rattle.asg_doc_reader.proofs.Common.{◌≡◌, ℕ, ◌+◌, ◌^◌, ◌<◌, Bool, true, false, cond, ◌≢◌, List, [], ◌∷◌, ◌++◌, take, drop, ℤ, pos, FitsSigned, Some, codes, decimal, Option, find, sym, refl, ap, ◌∙◌, arith, All-append, All-cons, decimal_is_IsNumeral_wide, digits_value, ints, signed_decimal, w128, command_part, objective_part, status_part, bound_spelling, column_spelling, perm_part, level_head_spelling, level_head_part, step_spelling, steps_part, enters_part, leaves_part, count_part, cell_part, hall_part, proof_head_part, proof_head_spelling, proof_head_text, HasProofHead, HasWord, cap_spelling, command_word, status_word, command_spelling, objective_spelling, status_spelling, Command, ProofHead, Status, Lacks, IsCutAt, the_line, IsReadable, behind, number_spelling, positive_spelling, pair_spelling, list_spelling, listed, joined_cut, IsLegible-joined, IsLegible-graded, heads_same, IsReadable-line, IsReadable-this, IsWord, IsLegible-listed, IsLegible, IsLegible-behind, IsLegible-decoded, IsLegible-number, IsLegible-wide, IsLegible-positive, IsLegible-signed, IsLegible-pair, IsLegible-list, is_plain, Lacks-literal, Lacks-decimal, Lacks-signed, decimal_same, Objective, w64}
use Rattle.asg_doc.specs.declared.documents.Command.TheVariants.{Solve, Rank, Edit}
use Rattle.asg_model.specs.declared.objectives.Objective.TheVariants.{Sum, SumMax, SumPair, Capped, Bottleneck, BottleneckMax, TimeCost, Balanced, Lex}
use Rattle.std.specs.Str.{bytes_eq}
use Rattle.asg_doc_reader.specs.declared.heads.Status.TheVariants.{Best, Nothing, Ranked}
use Rattle.asg_model.specs.Objectives.{objective_word}
use Rattle.asg_doc_reader.specs.declared.heads.ProofHead.TheVariants as heads

pub title_law : IsReadable (the_line (codes "assignment 1"))
title_law = IsReadable-this (codes "assignment 1") refl

pub end_law : IsReadable (the_line (codes "end"))
end_law = IsReadable-this (codes "end") refl

-- ---- words, each of which a decoder gives back

-- the first of a list that has this word
named : {A : Type 0} → (A → List ℕ) → List A → List ℕ → Option A
named word values bytes = find (λ a. bytes_eq (word a) bytes) values

pub command_legible : IsLegible command_spelling
unfolding named
command_legible = IsLegible-decoded (named command_word (Solve ∷ Rank ∷ Edit ∷ [])) Solve tt inverse plain where
  inverse : (c : Command) → Unit {0} → named command_word (Solve ∷ Rank ∷ Edit ∷ []) (command_word c) ≡ Some c
  inverse Solve has = refl
  inverse Rank has = refl
  inverse Edit has = refl

  plain : (c : Command) → Unit {0} → is_plain (command_word c) ≡ true
  plain Solve has = refl
  plain Rank has = refl
  plain Edit has = refl

pub command_law : IsReadable command_part
command_law = IsReadable-line (IsLegible-behind (codes "command ") refl command_legible)

-- the objective of a word: a cap behind its front, or the first with the word
objective_named : List ℕ → Option Objective
objective_named bytes =
    cond (bytes_eq (codes "capped=") (take 7 bytes)) (Some (Capped (digits_value 10 (drop 7 bytes))))
    (named objective_word (Sum ∷ SumMax ∷ SumPair ∷ Bottleneck ∷ BottleneckMax ∷ TimeCost ∷ Balanced ∷ Lex ∷ []) bytes)

pub cap_legible : IsLegible (behind (codes "capped=") cap_spelling)
cap_legible = IsLegible-behind (codes "capped=") refl (record {
  some = 1;
  has = (omega arith, omega arith);
  same = λ m n hm hn e. decimal_same m n (omega (arith, hm.1)) (omega (arith, hn.1)) e;
  plain = λ n hn. Lacks-decimal 10 n (omega arith) (omega (arith, hn.1));
})

pub objective_legible : IsLegible objective_spelling
unfolding named objective_named
objective_legible = record {
  some = Bottleneck;
  has = tt;
  same = λ a b ha hb e. let found : Some a ≡ Some b = sym (inverse a ha) ∙ ap objective_named e ∙ inverse b hb in cc (found);
  plain = plain;
} where
  inverse : (o : Objective) → HasWord o → objective_named (objective_word o) ≡ Some o
  inverse Sum has = refl
  inverse SumMax has = refl
  inverse SumPair has = refl
  inverse (Capped cap) has = ap (λ n. Some (Capped n)) (decimal_is_IsNumeral_wide cap (omega (arith, has.1))).1
  inverse Bottleneck has = refl
  inverse BottleneckMax has = refl
  inverse TimeCost has = refl
  inverse Balanced has = refl
  inverse Lex has = refl

  plain : (o : Objective) → HasWord o → Lacks 10 (objective_word o)
  plain Sum has = Lacks-literal (codes "sum") refl
  plain SumMax has = Lacks-literal (codes "sum-max") refl
  plain SumPair has = Lacks-literal (codes "pair") refl
  plain (Capped cap) has = cap_legible.plain cap has
  plain Bottleneck has = Lacks-literal (codes "bottleneck") refl
  plain BottleneckMax has = Lacks-literal (codes "bottleneck-max") refl
  plain TimeCost has = Lacks-literal (codes "time-cost") refl
  plain Balanced has = Lacks-literal (codes "balanced") refl
  plain Lex has = Lacks-literal (codes "lex") refl

pub objective_law : IsReadable objective_part
objective_law = IsReadable-line (IsLegible-behind (codes "objective ") refl objective_legible)

pub status_legible : IsLegible status_spelling
unfolding named
status_legible = IsLegible-decoded (named status_word (Best ∷ Nothing ∷ Ranked ∷ [])) Best tt inverse plain where
  inverse : (s : Status) → Unit {0} → named status_word (Best ∷ Nothing ∷ Ranked ∷ []) (status_word s) ≡ Some s
  inverse Best has = refl
  inverse Nothing has = refl
  inverse Ranked has = refl

  plain : (s : Status) → Unit {0} → is_plain (status_word s) ≡ true
  plain Best has = refl
  plain Nothing has = refl
  plain Ranked has = refl

pub status_law : IsReadable status_part
status_law = IsReadable-line (IsLegible-behind (codes "status ") refl status_legible)

-- ---- costs

-- a signed number of 64 bits is one of 128 bits
pub wider : (z : ℤ) → FitsSigned w64 z → FitsSigned w128 z
wider z fits = omega (arith, ints, fits)

pub no_space-signed : (z : ℤ) → FitsSigned w64 z → Lacks 32 (signed_decimal z)
no_space-signed z fits = Lacks-signed 32 z (omega arith) (wider z fits)

pub bound_legible : IsLegible bound_spelling
bound_legible = record {
  some = pos 0;
  has = omega arith;
  same = λ y z hy hz e. IsLegible-signed.same y z (wider y hy) (wider z hz) e;
  plain = λ z hz. IsLegible-signed.plain z (wider z hz);
}

pub bound_word : IsWord bound_spelling
bound_word = record { legible = bound_legible; no_space = no_space-signed }

pub costs_legible : IsLegible (listed bound_spelling)
costs_legible = IsLegible-listed bound_word

-- ---- counts, cells and lists

pub count_law : IsReadable count_part
count_law = IsReadable-line (IsLegible-behind (codes "cells ") refl IsLegible-positive)

pub cell_law : IsReadable cell_part
cell_law = IsReadable-line IsLegible-pair

pub hall_law : IsReadable hall_part
hall_law = IsReadable-line (IsLegible-behind (codes "hall") refl IsLegible-list)

-- ---- steps

no_space-decimal : (n : ℕ) → n < 2 ^ 128 → Lacks 32 (decimal n)
no_space-decimal n fits = Lacks-decimal 32 n (omega arith) (omega arith)

plain_word : IsWord (step_spelling false)
plain_word = record {
  legible = record {
    some = record { grade = 0; amount = 0 };
    has = (refl, omega arith);
    same = λ x y hx hy e.
        let amounts : x.amount ≡ y.amount = IsLegible-wide.same x.amount y.amount hx.1 hy.1 e in
        ap (λ g. record { grade = g; amount = x.amount }) (hx.0 ∙ sym hy.0) ∙ ap (λ a. record { grade = y.grade; amount = a }) amounts;
    plain = λ x hx. IsLegible-wide.plain x.amount hx.1;
  };
  no_space = λ x hx. no_space-decimal x.amount hx.1;
}

graded_word : IsWord (step_spelling true)
graded_word = record {
  legible = record {
    some = record { grade = 0; amount = 0 };
    has = (omega arith, omega arith);
    same = λ x y hx hy e.
        let both : (x.grade, x.amount) ≡ (y.grade, y.amount) = IsLegible-graded.same (x.grade, x.amount) (y.grade, y.amount) hx hy e in
        ap (λ p. record { grade = p.0; amount = p.1 }) both;
    plain = λ x hx. IsLegible-graded.plain (x.grade, x.amount) hx;
  };
  no_space = λ x hx. All-append (λ b. b ≢ 32) (decimal x.grade) (58 ∷ decimal x.amount)
      (no_space-decimal x.grade (omega (arith, hx.0)))
      (All-cons (λ b. b ≢ 32) 58 (decimal x.amount) (λ is. absurd (omega arith)) (no_space-decimal x.amount hx.1));
}

pub step_word : (graded : Bool) → IsWord (step_spelling graded)
step_word true = graded_word
step_word false = plain_word

pub steps_legible : (graded : Bool) → IsLegible (listed (step_spelling graded))
steps_legible graded = IsLegible-listed (step_word graded)

pub steps_law : (graded : Bool) → IsReadable (steps_part graded)
steps_law graded = IsReadable-line (IsLegible-behind (codes "steps") refl (steps_legible graded))

pub enters_law : IsReadable enters_part
enters_law = IsReadable-line (IsLegible-behind (codes "enters") refl IsLegible-list)

pub leaves_law : IsReadable leaves_part
leaves_law = IsReadable-line (IsLegible-behind (codes "leaves") refl IsLegible-list)

-- ---- levels

pub column_word : IsWord column_spelling
column_word = record {
  legible = record {
    some = 0;
    has = omega arith;
    same = λ c d hc hd e. let same : c + 1 ≡ d + 1 = decimal_same (c + 1) (d + 1) (omega (arith, hc)) (omega (arith, hd)) e in omega (arith, same);
    plain = λ c hc. Lacks-decimal 10 (c + 1) (omega arith) (omega (arith, hc));
  };
  no_space = λ c hc. Lacks-decimal 32 (c + 1) (omega arith) (omega (arith, hc));
}

pub perm_legible : IsLegible (listed column_spelling)
perm_legible = IsLegible-listed column_word

pub perm_law : IsReadable perm_part
perm_law = IsReadable-line (IsLegible-behind (codes "perm") refl perm_legible)

-- the text of a level's first line is cut behind its cost
pub level_head_cut : (text word rest : List ℕ) (head : ℤ × (ℕ × ℕ)) → text ≡ word ++ rest → Lacks 32 word → IsCutAt 32 rest → FitsSigned w64 head.0
    → text ≡ level_head_spelling.bytes head → (word ≡ signed_decimal head.0) × (rest ≡ 32 ∷ pair_spelling.bytes head.1)
level_head_cut = joined_cut bound_spelling pair_spelling 32 no_space-signed

pub level_head_legible : IsLegible level_head_spelling
level_head_legible = IsLegible-joined bound_spelling pair_spelling 32 no_space-signed (λ is. absurd (omega arith)) bound_legible IsLegible-pair

pub level_head_law : IsReadable level_head_part
level_head_law = IsReadable-line (IsLegible-behind (codes "level ") refl level_head_legible)

-- ---- the first line of a proof

below_legible : IsLegible (behind (codes "below") list_spelling)
below_legible = IsLegible-behind (codes "below") refl IsLegible-list

phases_legible : IsLegible (behind (codes "phases ") number_spelling)
phases_legible = IsLegible-behind (codes "phases ") refl IsLegible-number

windows_legible : IsLegible (behind (codes "windows ") number_spelling)
windows_legible = IsLegible-behind (codes "windows ") refl IsLegible-number

levels_legible : IsLegible (behind (codes "levels ") positive_spelling)
levels_legible = IsLegible-behind (codes "levels ") refl IsLegible-positive

pub proof_head_legible : IsLegible proof_head_spelling
proof_head_legible = record { some = heads.Below IsLegible-list.some; has = IsLegible-list.has; same = same; plain = plain } where
  same : (g h : ProofHead) → HasProofHead g → HasProofHead h → proof_head_text g ≡ proof_head_text h → g ≡ h
  same (heads.Phases m) (heads.Phases n) hm hn e = ap heads.Phases (phases_legible.same m n hm hn e)
  same (heads.Phases m) (heads.Below ys) hm hy e = absurd (omega (arith, heads_same 112 98 _ _ e))
  same (heads.Below xs) (heads.Phases n) hx hn e = absurd (omega (arith, heads_same 98 112 _ _ e))
  same (heads.Below xs) (heads.Below ys) hx hy e = ap heads.Below (below_legible.same xs ys hx hy e)
  same (heads.Windows m) (heads.Windows n) hm hn e = ap heads.Windows (windows_legible.same m n hm hn e)
  same (heads.Windows m) (heads.Phases n) hm hn e = absurd (omega (arith, heads_same 119 112 _ _ e))
  same (heads.Windows m) (heads.Below ys) hm hy e = absurd (omega (arith, heads_same 119 98 _ _ e))
  same (heads.Phases m) (heads.Windows n) hm hn e = absurd (omega (arith, heads_same 112 119 _ _ e))
  same (heads.Below xs) (heads.Windows n) hx hn e = absurd (omega (arith, heads_same 98 119 _ _ e))
  same (heads.Levels m) (heads.Levels n) hm hn e = ap heads.Levels (levels_legible.same m n hm hn e)
  same (heads.Levels m) (heads.Phases n) hm hn e = absurd (omega (arith, heads_same 108 112 _ _ e))
  same (heads.Levels m) (heads.Below ys) hm hy e = absurd (omega (arith, heads_same 108 98 _ _ e))
  same (heads.Levels m) (heads.Windows n) hm hn e = absurd (omega (arith, heads_same 108 119 _ _ e))
  same (heads.Phases m) (heads.Levels n) hm hn e = absurd (omega (arith, heads_same 112 108 _ _ e))
  same (heads.Below xs) (heads.Levels n) hx hn e = absurd (omega (arith, heads_same 98 108 _ _ e))
  same (heads.Windows m) (heads.Levels n) hm hn e = absurd (omega (arith, heads_same 119 108 _ _ e))

  plain : (h : ProofHead) → HasProofHead h → Lacks 10 (proof_head_text h)
  plain (heads.Phases n) hn = phases_legible.plain n hn
  plain (heads.Below xs) hx = below_legible.plain xs hx
  plain (heads.Windows n) hn = windows_legible.plain n hn
  plain (heads.Levels n) hn = levels_legible.plain n hn

pub proof_head_law : IsReadable proof_head_part
proof_head_law = IsReadable-line (IsLegible-behind (codes "proof ") refl proof_head_legible)
