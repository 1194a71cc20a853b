-- The parts of proofs, of claims and of documents.
use Rattle.asg_doc_reader.proofs.Common.{◌≡◌, ℕ, List, [], ◌∷◌, ◌++◌, map, length, codes, decimal, flat_map, sym, refl, ap, ◌∙◌, append_assoc, arith, flat_map_single, answer_part, claim_part, command_part, ended_part, objective_part, status_part, hall_part, proof_head_part, HasProofHead, phase_part, window_part, perm_part, level_part, proof_part, proved_part, ranking_part, document_part, HasProofText, HasClaimText, answer_lines, listed_lines, phase_lines, proof_lines, tree_lines, window_line, perm_line, level_lines, has_grades, Command, ProofHead, Status, Part, the_line, no_lines, and_then, counted, IsReadable, IsReadable-none, IsReadable-counted, IsReadable-chain, IsReadable-shape, Chain, Shape, Objective, Word, PhaseOf, Level, Window, Node}
use Rattle.asg_doc.specs.declared.documents.Claim.TheVariants.{Best, Nothing, Ranked}
use Rattle.asg_proof.specs.declared.outcomes.Proof.TheVariants.{Below, Levels, Phases, Windows}
use Rattle.asg_proof.specs.declared.outcomes.Proof.{Proof}
use Rattle.asg_doc.specs.declared.documents.Answer.{Answer}
use Rattle.asg_doc.specs.declared.documents.Claim.{Claim}
use Rattle.asg_doc_reader.proofs.PhaseParts.{phase_law}
use Rattle.asg_doc_reader.proofs.AnswerParts.{answer_law}
use Rattle.asg_doc_reader.proofs.RankingParts.{ranking_law}
use Rattle.asg_doc_reader.proofs.WindowParts.{window_law}
use Rattle.asg_doc_reader.proofs.LevelParts.{perm_levels}
use Rattle.asg_doc_reader.proofs.Leaves.{title_law, command_law, objective_law, status_law, hall_law, proof_head_law, end_law}
use Rattle.asg_doc_reader.specs.declared.heads.ProofHead.TheVariants as heads
use Rattle.asg_doc_reader.specs.declared.heads.Status.TheVariants as statuses

-- ---- proofs

abbrev Rest : ProofHead → Type 0
Rest (heads.Phases count) = List (PhaseOf Word)
Rest (heads.Below rows) = Unit {0}
Rest (heads.Windows count) = List Window
Rest (heads.Levels count) = (perm : List ℕ) × List Level

abbrev rest_part : Objective → (head : ProofHead) → Part (Rest head)
rest_part o (heads.Phases count) = counted count (phase_part (has_grades o))
rest_part o (heads.Below rows) = no_lines tt
rest_part o (heads.Windows count) = counted count window_part
rest_part o (heads.Levels count) = and_then perm_part (λ _. counted count level_part)

rest_law : (o : Objective) (head : ProofHead) → HasProofHead head → IsReadable (rest_part o head)
rest_law o (heads.Phases count) has = IsReadable-counted (phase_law (has_grades o)) count
rest_law o (heads.Below rows) has = IsReadable-none tt
rest_law o (heads.Windows count) has = IsReadable-counted window_law count
rest_law o (heads.Levels count) has = IsReadable-chain (perm_levels count)

pub head_rest : (o : Objective) → Chain proof_head_part (rest_part o)
head_rest o = record { first_law = proof_head_law; second_law = rest_law o }

abbrev proof_of : (head : ProofHead) → Rest head → Proof
proof_of (heads.Phases count) phases = Phases phases
proof_of (heads.Below rows) rest = Below rows
proof_of (heads.Windows count) windows = Windows windows
proof_of (heads.Levels count) rest = Levels rest.0 rest.1

pub proof_shape : (o : Objective) → Shape (and_then proof_head_part (rest_part o)) (proof_part o)
proof_shape o = record { make = λ t. proof_of t.0 t.1; has = λ t. has t.0 t.1; lines = λ t. lines t.0 t.1; back = back } where
  has : (head : ProofHead) (rest : Rest head) → (and_then proof_head_part (rest_part o)).Has (head, rest) → HasProofText o (proof_of head rest)
  has (heads.Phases count) phases h = record { few = omega (arith, h.0, h.1.0); each = h.1.1 }
  has (heads.Below rows) rest h = h.0
  has (heads.Windows count) windows h = record { few = omega (arith, h.0, h.1.0); each = h.1.1 }
  has (heads.Levels count) rest h = record { columns = h.1.0; some = omega (arith, h.0.0, h.1.1.0); few = omega (arith, h.0.1, h.1.1.0); each = h.1.1.1 }

  lines : (head : ProofHead) (rest : Rest head) → (and_then proof_head_part (rest_part o)).Has (head, rest) → (proof_part o).lines (proof_of head rest) ≡ (and_then proof_head_part (rest_part o)).lines (head, rest)
  lines (heads.Phases count) phases h = ap (λ n. (codes "proof phases " ++ decimal n) ∷ flat_map (phase_lines (has_grades o)) phases) h.1.0
  lines (heads.Below rows) rest h = refl
  lines (heads.Windows count) windows h =
      ap (λ n. (codes "proof windows " ++ decimal n) ∷ map window_line windows) h.1.0
      ∙ ap (λ ls. (codes "proof windows " ++ decimal count) ∷ ls) (sym (flat_map_single window_line windows))
  lines (heads.Levels count) rest h = ap (λ n. (codes "proof levels " ++ decimal n) ∷ perm_line rest.0 ∷ flat_map level_lines rest.1) h.1.1.0

  back : (p : Proof) → HasProofText o p → (t : (head : ProofHead) × Rest head) × (and_then proof_head_part (rest_part o)).Has t × (p ≡ proof_of t.0 t.1)
  back (Phases phases) h = ((heads.Phases (length phases), phases), (h.few, (refl, h.each)), refl)
  back (Below rows) h = ((heads.Below rows, tt), (h, refl), refl)
  back (Windows windows) h = ((heads.Windows (length windows), windows), (h.few, (refl, h.each)), refl)
  back (Levels perm levels) h = ((heads.Levels (length levels), (perm, levels)), ((h.some, h.few), (h.columns, (refl, h.each))), refl)

pub proof_law : (o : Objective) → IsReadable (proof_part o)
proof_law o = IsReadable-shape (proof_shape o) (IsReadable-chain (head_rest o))

-- ---- claims

-- a part is read, and then the last line
pub ended_chain : {A : Type 0} {part : Part A} → IsReadable part → Chain part (λ _. the_line (codes "end"))
ended_chain law = record { first_law = law; second_law = λ _ _. end_law }

unfoldable pub ended_shape : {A : Type 0} (part : Part A) → Shape (and_then part (λ _. the_line (codes "end"))) (ended_part part)
ended_shape part = record { make = λ t. t.0; has = λ t h. h.0; lines = λ t h. refl; back = λ a h. ((a, tt), (h, tt), refl) }

ended_law : {A : Type 0} {part : Part A} → IsReadable part → IsReadable (ended_part part)
ended_law {part = part} law = IsReadable-shape (ended_shape part) (IsReadable-chain (ended_chain law))

pub answer_proof : (o : Objective) → Chain (answer_part (codes "value") o) (λ _. proof_part o)
answer_proof o = record { first_law = answer_law (codes "value") refl o; second_law = λ _ _. proof_law o }

pub proved_law : (o : Objective) → IsReadable (proved_part o)
proved_law o = IsReadable-chain (answer_proof o)

abbrev Claimed : Status → Type 0
Claimed statuses.Best = (answer : Answer) × Proof
Claimed statuses.Nothing = List ℕ
Claimed statuses.Ranked = (count : ℕ) × ((answers : List Answer) × List Node)

abbrev claimed_part : Objective → (status : Status) → Part (Claimed status)
claimed_part o statuses.Best = ended_part (proved_part o)
claimed_part o statuses.Nothing = ended_part hall_part
claimed_part o statuses.Ranked = ended_part (ranking_part o)

claimed_law : (o : Objective) (status : Status) → IsReadable (claimed_part o status)
claimed_law o statuses.Best = ended_law (proved_law o)
claimed_law o statuses.Nothing = ended_law hall_law
claimed_law o statuses.Ranked = ended_law (ranking_law o)

pub status_claimed : (o : Objective) → Chain status_part (claimed_part o)
status_claimed o = record { first_law = status_law; second_law = λ status _. claimed_law o status }

abbrev claim_of : (status : Status) → Claimed status → Claim
claim_of statuses.Best rest = Best rest.0 rest.1
claim_of statuses.Nothing rest = Nothing rest
claim_of statuses.Ranked rest = Ranked rest.0 rest.1.0 rest.1.1

unfoldable pub claim_shape : (o : Objective) → Shape (and_then status_part (claimed_part o)) (claim_part o)
claim_shape o = record { make = λ t. claim_of t.0 t.1; has = λ t. has t.0 t.1; lines = λ t. lines t.0 t.1; back = back } where
  has : (s : Status) (r : Claimed s) → (and_then status_part (claimed_part o)).Has (s, r) → HasClaimText o (claim_of s r)
  has statuses.Best r h = (h.1.0, h.1.1)
  has statuses.Nothing r h = h.1
  has statuses.Ranked r h = (h.1.0, (h.1.1.0, h.1.1.1))

  lines : (s : Status) (r : Claimed s) → (and_then status_part (claimed_part o)).Has (s, r) → (claim_part o).lines (claim_of s r) ≡ (and_then status_part (claimed_part o)).lines (s, r)
  lines statuses.Best r h =
      ap (λ ls. codes "status best" ∷ ls) (sym (append_assoc (answer_lines r.0) (proof_lines o r.1) (codes "end" ∷ [])))
  lines statuses.Nothing r h = refl
  lines statuses.Ranked r h =
      ap (λ ls. codes "status ranked" ∷ (codes "count " ++ decimal r.0) ∷ ls) (sym (append_assoc (listed_lines r.1.0) (tree_lines (has_grades o) r.1.1) (codes "end" ∷ [])))

  back : (c : Claim) → HasClaimText o c → (t : (s : Status) × Claimed s) × (and_then status_part (claimed_part o)).Has t × (c ≡ claim_of t.0 t.1)
  back (Best answer proof) h = ((statuses.Best, (answer, proof)), (tt, (h.0, h.1)), refl)
  back (Nothing rows) h = ((statuses.Nothing, rows), (tt, h), refl)
  back (Ranked count answers nodes) h = ((statuses.Ranked, (count, (answers, nodes))), (tt, (h.0, (h.1.0, h.1.1))), refl)

pub claim_law : (o : Objective) → IsReadable (claim_part o)
claim_law o = IsReadable-shape (claim_shape o) (IsReadable-chain (status_claimed o))

-- ---- documents

abbrev objective_claim_part : Part ((objective : Objective) × Claim)
objective_claim_part = and_then objective_part claim_part

abbrev command_objective_part : Part ((command : Command) × ((objective : Objective) × Claim))
command_objective_part = and_then command_part (λ _. objective_claim_part)

pub objective_claim : Chain objective_part claim_part
objective_claim = record { first_law = objective_law; second_law = λ o _. claim_law o }

pub command_objective : Chain command_part (λ _. objective_claim_part)
command_objective = record { first_law = command_law; second_law = λ _ _. IsReadable-chain objective_claim }

pub title_command : Chain (the_line (codes "assignment 1")) (λ _. command_objective_part)
title_command = record { first_law = title_law; second_law = λ _ _. IsReadable-chain command_objective }

pub document_shape : Shape (and_then (the_line (codes "assignment 1")) (λ _. command_objective_part)) document_part
document_shape = record {
  make = λ t. record { command = t.1.0; objective = t.1.1.0; claim = t.1.1.1 };
  has = λ t h. record { objective = h.1.1.0; claim = h.1.1.1 };
  lines = λ t h. refl;
  back = λ d h. ((tt, (d.command, (d.objective, d.claim))), (tt, (tt, (h.objective, h.claim))), refl);
}

pub document_law : IsReadable document_part
document_law = IsReadable-shape document_shape (IsReadable-chain title_command)
