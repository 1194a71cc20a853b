use Rattle.asg_cell_tables.proofs.Common.{ℕ, not, eqb, map, get_or, take, sym, subst, arith, length-take, of_z, bitmask_splat, length-map, AreBitsOf, is_there, absent, w64}
use Rattle.asg_cell_tables.proofs.FirstWords.{first_bits}
use Rattle.asg_cell_tables.proofs.piece_words.full_present.Goals as goal

pub returns : goal.returns
returns c =
    let firsts = c.args.firsts.now in
    let numbers = map (of_z w64) (take 64 firsts) in
    subst (AreBitsOf 64 (λ k. is_there (get_or firsts k absent)))
    (sym (bitmask_splat w64 (λ (a b : ℕ). not (eqb a b)) numbers 64 9223372036854775808 (omega (arith, length-map (take 64 firsts) (of_z w64), length-take 64 firsts, c.requires)) (omega arith)))
    (first_bits firsts c.requires c.all_fit.ensures)
