use Rattle.asg_app.proofs.Common.{◌≡◌, ℕ, ◌+◌, ◌<◌, [], ◌∷◌, ◌++◌, length, get_or, take, IfSome, Some, Err, Vec, sym, refl, ap, ◌∙◌, subst, arith, take_all, err_from_is_err_and, take_more, Global, AreGiven, Fails, Gives, StopsAt, asked_after, longest_file, files_of, MayHold, Work}
use Rattle.asg_app.proofs.Fetching.{asked_same, given_more, if_err, stop_at, stop_short}
use Rattle.asg_app.proofs.files.fetch_all.Goals as goal

pub loop-place-init : goal.loop-place-init
loop-place-init g c =
    subst (λ contents. AreGiven g.F.Shelf.told g.F.Shelf.asked g.F.Shelf.faults [] contents c.args.shelf.now c.args.shelf.now) (sym c.none-sources.ensures) refl

pub returns-in_err-file-clause-stopped : goal.returns-in_err-file-clause-stopped
returns-in_err-file-clause-stopped g c =
    let told = g.F.Shelf.told in
    let asked = g.F.Shelf.asked in
    let faults = g.F.Shelf.faults in
    let names = files_of (Some (Work c.args.job.now)) in
    let place = c.loop-place.place in
    let fault = c.in_err-file.field-0.0 in
    let there : place < length names = omega (arith, c.loop-place-test.true, c.file_count-place-end.ensures) in
    let p = err_from_is_err_and c.from_residual.result c.from_residual.ensures.1 in
    let fails : Fails told asked faults (get_or names place []) fault c.loop-place.shelf c.fetch.new.self = record {
      kept = c.in_err-file.ensures.kept;
      asks = c.in_err-file.ensures.asked
          ∙ asked_same (Vec ℕ Global) (Unit {0}) (asked c.loop-place.shelf) c.file_name.result.now fault
          ∙ ap (λ name. asked_after {T = Unit {0}} (asked c.loop-place.shelf) name (Err fault)) c.file_name.ensures;
      failed = λ e. c.in_err-file.ensures.failed (ap Err e);
      too_long = λ e. subst (λ name. IfSome (told c.loop-place.shelf name) (λ held. longest_file < length held)) c.file_name.ensures (c.in_err-file.ensures.too_long (ap Err e));
    } in
    if_err c.from_residual.result p.0 (λ f. StopsAt told asked faults names f c.args.shelf.now c.fetch.new.self) p.1
    (subst (λ f. StopsAt told asked faults names f c.args.shelf.now c.fetch.new.self) (sym p.2)
    (stop_at told asked faults names c.loop-place.sources place c.args.shelf.now c.loop-place.shelf c.fetch.new.self fault c.loop-place.invariant there fails))

pub returns-in_err-push-clause-stopped : goal.returns-in_err-push-clause-stopped
returns-in_err-push-clause-stopped g c =
    let told = g.F.Shelf.told in
    let asked = g.F.Shelf.asked in
    let faults = g.F.Shelf.faults in
    let names = files_of (Some (Work c.args.job.now)) in
    let place = c.loop-place.place in
    let there : place < length names = omega (arith, c.loop-place-test.true, c.file_count-place-end.ensures) in
    let p = err_from_is_err_and c.from_residual-in_err-push.result c.from_residual-in_err-push.ensures.1 in
    let gives : Gives told asked faults (get_or names place []) c.in_ok-file.file.items c.loop-place.shelf c.fetch.new.self = record {
      contents = subst (λ name. MayHold (told c.loop-place.shelf) name c.in_ok-file.file.items) c.file_name.ensures c.in_ok-file.ensures.contents;
      within = c.in_ok-file.ensures.within;
      kept = c.in_ok-file.ensures.kept;
      asks = c.in_ok-file.ensures.asked ∙ ap (λ name. asked c.loop-place.shelf ++ name ∷ []) c.file_name.ensures;
      never_falls = c.in_ok-file.ensures.never_falls;
    } in
    let more = given_more told asked faults (take place names) c.loop-place.sources (get_or names place []) c.in_ok-file.file.items c.args.shelf.now c.loop-place.shelf c.fetch.new.self c.loop-place.invariant gives in
    let given = subst (λ list. AreGiven told asked faults list (c.loop-place.sources ++ c.in_ok-file.file.items ∷ []) c.args.shelf.now c.fetch.new.self) (sym (take_more names place [] there)) more in
    if_err c.from_residual-in_err-push.result p.0 (λ f. StopsAt told asked faults names f c.args.shelf.now c.fetch.new.self) p.1
    (subst (λ f. StopsAt told asked faults names f c.args.shelf.now c.fetch.new.self) (sym p.2)
    (stop_short told asked faults names (c.loop-place.sources ++ c.in_ok-file.file.items ∷ []) (place + 1) c.args.shelf.now c.fetch.new.self given))

pub loop-place-preserved : goal.loop-place-preserved
loop-place-preserved g c =
    let told = g.F.Shelf.told in
    let asked = g.F.Shelf.asked in
    let faults = g.F.Shelf.faults in
    let names = files_of (Some (Work c.args.job.now)) in
    let place = c.loop-place.place in
    let there : place < length names = omega (arith, c.loop-place-test.true, c.file_count-place-end.ensures) in
    let gives : Gives told asked faults (get_or names place []) c.in_ok-file.file.items c.loop-place.shelf c.fetch.new.self = record {
      contents = subst (λ name. MayHold (told c.loop-place.shelf) name c.in_ok-file.file.items) c.file_name.ensures c.in_ok-file.ensures.contents;
      within = c.in_ok-file.ensures.within;
      kept = c.in_ok-file.ensures.kept;
      asks = c.in_ok-file.ensures.asked ∙ ap (λ name. asked c.loop-place.shelf ++ name ∷ []) c.file_name.ensures;
      never_falls = c.in_ok-file.ensures.never_falls;
    } in
    let more = given_more told asked faults (take place names) c.loop-place.sources (get_or names place []) c.in_ok-file.file.items c.args.shelf.now c.loop-place.shelf c.fetch.new.self c.loop-place.invariant gives in
    subst (λ contents. AreGiven told asked faults (take (place + 1) names) contents c.args.shelf.now c.fetch.new.self) (sym c.in_ok-push.ensures)
    (subst (λ list. AreGiven told asked faults list (c.loop-place.sources ++ c.in_ok-file.file.items ∷ []) c.args.shelf.now c.fetch.new.self) (sym (take_more names place [] there)) more)

pub returns-clause-given : goal.returns-clause-given
returns-clause-given g c =
    let names = files_of (Some (Work c.args.job.now)) in
    let all : take c.loop-place.place names ≡ names = take_all c.loop-place.place names (omega (arith, c.loop-place-test.false, c.file_count-place-end.ensures)) in
    subst (λ list. AreGiven g.F.Shelf.told g.F.Shelf.asked g.F.Shelf.faults list c.loop-place.sources c.args.shelf.now c.loop-place.shelf) all c.loop-place.invariant
