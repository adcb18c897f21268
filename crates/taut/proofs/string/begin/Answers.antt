use Rattle.std.proofs.Common.{◌≡◌, sym, subst, w64, to_z, of_z}
use Rattle.taut.specs.Slopes.{Small}
use Rattle.taut.specs.Tube.{data_of, further_of}
use Rattle.taut.proofs.InputLaws.{valid, limited}
use Rattle.taut.proofs.SlopeLaws.{read}
use Rattle.taut.proofs.Beginning.{before, before_small, first_small}
use Rattle.taut.proofs.string.begin.Goals as goal

pub next-t-requires-clause-further_small : goal.next-t-requires-clause-further_small
next-t-requires-clause-further_small c =
    let x = c.args.input in
    let d = data_of x in
    let same : to_z w64 (of_z w64 x.a) ≡ x.a = read x.a (before_small d (valid x) (limited x) x.ok.first.upto).total in
    subst (λ z. Small (further_of d (before z))) (sym same) (first_small d (valid x) (limited x) x.ok.first.upto)
