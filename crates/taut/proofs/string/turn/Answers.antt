use Rattle.taut.proofs.InputLaws.{valid}
use Rattle.taut.proofs.FillLoop.{filled-fall}
use Rattle.taut.proofs.string.turn.Goals as goal

pub falls-requires-clause-falling : goal.falls-requires-clause-falling
falls-requires-clause-falling g c =
    let E = c.fill-stack.ensures in
    filled-fall _ (valid c.args.input) _ _ c.args.q c.requires.falling E.answer E.m_le_t E.chain E.below_kept
