use Rattle.asg_app.proofs.Common.{[], map, string_bytes, sym, refl, subst, err_from_is_err_and, StopsAt, files_of, asked_of}
use Rattle.asg_app.proofs.Fetching.{if_err, stop_short}
use Rattle.asg_app.proofs.files.fetch_asked.Goals as goal

pub returns-in_err-request-clause-stopped : goal.returns-in_err-request-clause-stopped
returns-in_err-request-clause-stopped g c =
    let told = g.F.Shelf.told in
    let asked = g.F.Shelf.asked in
    let faults = g.F.Shelf.faults in
    let names = files_of (asked_of (map string_bytes c.args.words.now)) in
    let p = err_from_is_err_and c.from_residual.result c.from_residual.ensures.1 in
    if_err c.from_residual.result p.0 (λ f. StopsAt told asked faults names f c.args.shelf.now c.args.shelf.now) p.1
    (subst (λ f. StopsAt told asked faults names f c.args.shelf.now c.args.shelf.now) (sym p.2)
    (stop_short told asked faults names [] 0 c.args.shelf.now c.args.shelf.now refl))
