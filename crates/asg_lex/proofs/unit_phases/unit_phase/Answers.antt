use Rattle.asg_lex.proofs.Common.{◌≡◌, ℕ, ◌↔◌, List, length, get_or, Contains, Option, sym, ◌∙◌, subst, rules, get_or_default, IsAmong, IsMatchedAmong, AreZeroAt, SplitsTree, Matches}
use Rattle.asg_match.specs.Deficient.{IsColumnOf}
use Rattle.asg_lex.proofs.unit_phases.unit_phase.Goals as goal

among_is : (rows : List ℕ) (r : ℕ) → IsAmong rows (length rows) r ↔ Contains rows r
among_is rows r = (
  λ h. (h.0, h.1, get_or_default rows h.0 r 0 h.1 ∙ h.2),
  λ h. (h.0, h.1, get_or_default rows h.0 0 r h.1 ∙ h.2),
)

matched_is : (m : List (Option ℕ)) (rows : List ℕ) (c : ℕ) → IsMatchedAmong m rows (length rows) c ↔ IsColumnOf (Matches m) rows c
matched_is m rows c = (
  λ h. (get_or rows h.0 0, (h.0, h.1, get_or_default rows h.0 (get_or rows h.0 0) 0 h.1), h.2),
  λ h. (h.1.0, h.1.1, subst (λ r. Matches m r c) (sym (get_or_default rows h.1.0 0 h.0 h.1.1 ∙ h.1.2)) h.2),
)

splits : (side : ℕ) (m : List (Option ℕ)) (rows enters leaves : List ℕ) → length enters ≡ side → length leaves ≡ side → AreZeroAt enters side (IsAmong rows (length rows)) → AreZeroAt leaves side (IsMatchedAmong m rows (length rows)) → SplitsTree side m rows enters leaves
splits side m rows enters leaves es ls ez lz = record {
  row_count = es;
  column_count = ls;
  rows_are = λ r h. (λ e. (among_is rows r).0 ((ez r h).0 e), λ has. (ez r h).1 ((among_is rows r).1 has));
  columns_are = λ k h. (λ e. (matched_is m rows k).0 ((lz k h).0 e), λ has. (lz k h).1 ((matched_is m rows k).1 has));
}

pub returns-clause-split : goal.returns-clause-split
returns-clause-split c =
    let side = length c.args.matching.now in
    let enters = c.mark_rows.new.enters.items in
    let leaves = c.mark_columns.new.leaves.items in
    let row_count : length c.in_ok-enters.enters.items ≡ side = search rules in
    let column_count : length c.in_ok-leaves.leaves.items ≡ side = search rules in
    subst (λ phase. SplitsTree side c.args.matching.now c.args.rows.now phase.enters phase.leaves) (sym c.in_ok-phase.ensures.lists)
    (splits side c.args.matching.now c.args.rows.now enters leaves
    (c.mark_rows.ensures.count ∙ row_count) (c.mark_columns.ensures.count ∙ column_count)
    (subst (λ n. AreZeroAt enters n (IsAmong c.args.rows.now (length c.args.rows.now))) row_count c.mark_rows.ensures.zeros)
    c.mark_columns.ensures.zeros)
