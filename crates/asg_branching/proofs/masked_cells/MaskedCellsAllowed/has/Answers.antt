use Rattle.asg_branching.proofs.Common.{◌≡◌, true, false, is_some, sym, ap, ◌∙◌, false≢true, keeps_by, keeps, some_kept, kept_some}
use Rattle.asg_branching.proofs.masked_cells.MaskedCellsAllowed.has.Goals as goal

pub returns-then-has : goal.returns-then-has
returns-then-has g c =
    let s = c.args.self.now in
    let Q = s.square.now in
    let words = s.bits.now.words in
    let kept : keeps Q.side words c.args.r c.args.c ≡ true = keeps_by Q.side s.bits.now s.columns c.args.r c.args.c ∙ sym c.has.ensures ∙ c.if-has.true in
    let same = c.is_some.ensures ∙ ap is_some (c.at.ensures ∙ sym (kept_some Q words c.args.r c.args.c kept)) in
    (λ h. sym same ∙ h, λ h. same ∙ h)

pub returns-else-has : goal.returns-else-has
returns-else-has g c =
    let s = c.args.self.now in
    let Q = s.square.now in
    let words = s.bits.now.words in
    let lost : keeps Q.side words c.args.r c.args.c ≡ false = keeps_by Q.side s.bits.now s.columns c.args.r c.args.c ∙ sym c.has.ensures ∙ c.if-has.false in (
      λ h. absurd (false≢true (sym c.if-has.false ∙ h)),
      λ h. absurd (false≢true (sym lost ∙ (some_kept Q words c.args.r c.args.c h).0)),
    )
