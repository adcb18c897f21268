use Rattle.std.proofs.Common.{◌≡◌, arith, Bool, ◌<◌, length, ap}
use Rattle.taut.specs.Slopes.{cut_of}
use Rattle.taut.specs.Tube.{data_of}
use Rattle.taut.specs.Stack.{entries, RoomFor}
use Rattle.taut.specs.String.{close_of, written, Leaving, Falling}
use Rattle.taut.specs.declared.slopes.Knot.{Knot}
use Rattle.taut.specs.declared.chain.Stack.{Stack}
use Rattle.taut.specs.declared.chain.Fall.{Fall}
use Rattle.taut.specs.declared.input.Input.{Input}
use Rattle.taut.specs.declared.lists.Lists.{Lists}
use Rattle.taut.proofs.InputLaws.{plain-weight, minutes-upto}
use Rattle.taut.proofs.StackLaws.{divided}
use Rattle.taut.proofs.Closing as Closing
use Rattle.taut.proofs.string.leave.Goals as goal

module _ (x : Input) (y : Lists) {low : Bool} {at v : Knot} {p : Stack} (Y : Leaving (data_of x) low (entries y) at v p) where
  short : p.m < length x.samples.now
  short = omega (arith, Y.few, Y.falls.short, Y.falls.upto, Y.falls.best.touch.from)

  -- what `turn` asks of the lists z that `close` leaves
  turns : {b : Bool} {q : Fall} (z : Lists) → RoomFor x y → low ≡ b → q ≡ close_of at v p → z.lengths.now ≡ written v p (cut_of p.i v).len y.lengths.now →
      z.divisors.now ≡ written v p (cut_of p.i v).n y.divisors.now → z.totals.now ≡ written v p (cut_of p.i v).total y.totals.now →
      Falling (data_of x) b (entries z) q
  turns z R e f g h k =
      let T = Y.falls.best.touch in
      Closing.closed-fall x _ _ _ Y (omega (arith, short, R.lengths))
      (divided R short (λ none. plain-weight x none p.i v.k (omega (arith, T.from)) (ap (λ f. f.den) T.is))) (omega (arith, short, R.totals)) e f g h k

pub close-q-requires-clause-at_small : goal.close-q-requires-clause-at_small
close-q-requires-clause-at_small c = let x = c.args.input in Closing.at-is-small x _ _ _ c.requires.leaving

pub close-q-requires-clause-v_small : goal.close-q-requires-clause-v_small
close-q-requires-clause-v_small c = let x = c.args.input in Closing.v-is-small x _ _ _ c.requires.leaving

pub close-q-requires-clause-k_bound : goal.close-q-requires-clause-k_bound
close-q-requires-clause-k_bound c = let x = c.args.input in omega (arith, Closing.short x _ _ _ c.requires.leaving, minutes-upto x)

pub close-q-requires-clause-m_bound : goal.close-q-requires-clause-m_bound
close-q-requires-clause-m_bound c = omega (arith, short c.args.input c.args.lists.now c.requires.leaving, minutes-upto c.args.input)

pub turn-requires-clause-falling : goal.turn-requires-clause-falling
turn-requires-clause-falling c =
    let E = c.close-q.ensures in
    turns c.args.input c.args.lists.now c.requires.leaving c.close-q.new.lists c.requires.room c.if-low.true E.answer E.lengths E.divisors E.totals

pub turn-requires-else-low-clause-falling : goal.turn-requires-else-low-clause-falling
turn-requires-else-low-clause-falling c =
    let E = c.close-q.ensures in
    turns c.args.input c.args.lists.now c.requires.leaving c.close-q.new.lists c.requires.room c.if-low.false E.answer E.lengths E.divisors E.totals
