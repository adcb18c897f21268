use Rattle.std.proofs.Common.{◌∙◌, ap, sym, subst, refl, arith, set, length, ◌<◌}
use Rattle.taut.specs.Tube.{data_of}
use Rattle.taut.specs.Stack.{entries, Room}
use Rattle.taut.specs.String.{Kept}
use Rattle.taut.proofs.InputLaws.{plain-weight, valid, limited, minutes-upto}
use Rattle.taut.proofs.StackLaws.{room-again, divided}
use Rattle.taut.proofs.Beginning.{started}
use Rattle.taut.proofs.MinuteLaws.{at-is-small}
use Rattle.taut.proofs.DrawLaws as DrawLaws
use Rattle.taut.proofs.inner.line.Goals as goal

pub loop-s-init : goal.loop-s-init
loop-s-init c =
    let x = c.args.input in
    let A = entries c.args.lists.now in
    record {
      kept = subst (Kept (data_of x) A) (sym c.begin-s.ensures) (started (data_of x) (valid x) (limited x) x.ok.first.upto A);
      same = record { lengths = refl; divisors = refl; totals = refl; room = record { lengths = refl; divisors = refl; totals = refl } };
    }

pub cut-requires-clause-v_small : goal.cut-requires-clause-v_small
cut-requires-clause-v_small c = let x = c.args.input in at-is-small x c.loop-s.invariant.kept

pub cut-requires-clause-n_not_negative : goal.cut-requires-clause-n_not_negative
cut-requires-clause-n_not_negative c = DrawLaws.last-ahead c.args.input _ _ _ _ c.loop-s.invariant.kept

pub cut-requires-clause-k_bound : goal.cut-requires-clause-k_bound
cut-requires-clause-k_bound c = omega (arith, DrawLaws.upto c.args.input _ _ _ _ c.loop-s.invariant.kept, minutes-upto c.args.input)

pub write-requires-clause-j_bound : goal.write-requires-clause-j_bound
write-requires-clause-j_bound c = omega (arith, DrawLaws.room c.args.input _ _ _ _ c.loop-s.invariant.kept, minutes-upto c.args.input)

pub overflow_cast-result : goal.overflow_cast-result
overflow_cast-result c =
    record { fits = omega (arith, DrawLaws.room c.args.input _ _ _ _ c.loop-s.invariant.kept, minutes-upto c.args.input) }

pub returns-clause-drawn : goal.returns-clause-drawn
returns-clause-drawn c =
    let x = c.args.input in
    let y = c.loop-s.lists in
    let s = c.loop-s.s in
    let m = s.stack.m in
    let K = c.loop-s.invariant.kept in
    let R : Room (length x.samples.now) x.weights.now y.lengths.now y.divisors.now y.totals.now = room-again c.loop-s.invariant.same.room c.requires.room in
    let short : m < length x.samples.now = DrawLaws.room x _ _ _ s K in
    let W = c.write.ensures in
    DrawLaws.told x y.lengths.now y.divisors.now y.totals.now s K c.loop-s-test.false (omega (arith, short, R.lengths))
    (divided R short (λ none. plain-weight x none s.stack.i s.at.k (omega (arith, K.inv.bounded.from)) K.inv.weight)) (omega (arith, short, R.totals))
    (W.lengths ∙ ap (λ g. set y.lengths.now m g.len) c.cut.ensures) (W.divisors ∙ ap (λ g. set y.divisors.now m g.n) c.cut.ensures)
    (W.totals ∙ ap (λ g. set y.totals.now m g.total) c.cut.ensures)
