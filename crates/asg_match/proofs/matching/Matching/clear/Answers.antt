use Rattle.asg_match.proofs.Common.{◌<◌, length, ap, arith, Matches-below, Matches-read}
use Rattle.asg_match.proofs.PairedLemmas.{IsPaired-clear, AreFree-left}
use Rattle.asg_match.proofs.matching.Matching.clear.Goals as goal

pub index_mut-requires-in-Some : goal.index_mut-requires-in-Some
index_mut-requires-in-Some c =
    let m = c.self.inside in
    let had = Matches-read m.columns.items c.args.r c.in-Some.c _ (omega (arith, ap length c.self.view_is)) c.index.ensures c.in-Some.is in
    omega (arith, m.rows.ok.0, Matches-below m.rows.items _ _ (c.self.invariant.0.forth _ _ had))

pub add-requires-clause-below : goal.add-requires-clause-below
add-requires-clause-below c =
    let m = c.self.inside in
    let had = Matches-read m.columns.items c.args.r c.in-Some.c _ (omega (arith, ap length c.self.view_is)) c.index.ensures c.in-Some.is in
    omega (arith, Matches-below m.rows.items _ _ (c.self.invariant.0.forth _ _ had), c.self.invariant.0.rows_len)

pub invariant_of-self : goal.invariant_of-self
invariant_of-self c =
    let m = c.self.inside in
    let had = Matches-read m.columns.items c.args.r c.in-Some.c _ (omega (arith, ap length c.self.view_is)) c.index.ensures c.in-Some.is in
    let within : c.in-Some.c < length m.rows.items = Matches-below m.rows.items _ _ (c.self.invariant.0.forth _ _ had) in (
      IsPaired-clear _ _ c.self.invariant.0 had,
      AreFree-left c.add.new.words.items c.in-Some.c c.self.invariant.1 within c.add.ensures.set c.add.ensures.others,
    )
