-- What several puts do to the bytes written, taken as one.
use Rattle.std.specs.Prelude.{◌+◌, ℕ, List, [], ◌++◌, length, Option}
use Rattle.std.specs.Io.KnownBytes.{Appends}
use Rattle.std.proofs.Common.{arith, sym, subst, length-append}
use Rattle.std.proofs.KnownBytes.{Appends-nil, Appends-trans}
use Rattle.std.proofs.lemmas.List.{take-append-le}
use Rattle.std.proofs.Math.Seq.{take-append-add}
use Rattle.asg_io.specs.Sink.{Puts, PutsPrefix}

-- what stays as it is had nothing put
pub Puts-nil : (before : Option (List ℕ)) → Puts before before []
Puts-nil before = record { written = Appends-nil before }

-- two puts in a row put the two pieces as one
pub Puts-append : {before between now : Option (List ℕ)} {xs ys : List ℕ}
    → Puts before between xs → Puts between now ys → Puts before now (xs ++ ys)
Puts-append {before} {between} {now} {xs} {ys} first second = record {
  written = Appends-trans before between now xs ys first.written second.written;
}

-- a prefix of a piece is a prefix of each longer one
pub PutsPrefix-more : {before now : Option (List ℕ)} {xs : List ℕ} (ys : List ℕ)
    → PutsPrefix before now xs → PutsPrefix before now (xs ++ ys)
PutsPrefix-more {before} {now} {xs} ys prefix = record {
  taken = prefix.taken;
  within = omega (arith, length-append xs ys);
  put = record {
    written =
        subst (Appends before now) (sym (take-append-le prefix.taken xs ys prefix.within))
        prefix.put.written;
  };
}

-- a put, and then one of a prefix, put a prefix of the two pieces as one
pub PutsPrefix-append : {before between now : Option (List ℕ)} {xs ys : List ℕ}
    → Puts before between xs → PutsPrefix between now ys → PutsPrefix before now (xs ++ ys)
PutsPrefix-append {before} {between} {now} {xs} {ys} first second = record {
  taken = length xs + second.taken;
  within = omega (arith, length-append xs ys);
  put = record {
    written =
        subst (Appends before now) (sym (take-append-add xs ys second.taken))
        (Puts-append first second.put).written;
  };
}
