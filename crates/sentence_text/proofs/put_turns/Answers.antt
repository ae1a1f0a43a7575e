use native.Mathlib.Omega.{arith}
use Rattle.sentence_text.proofs.Turns.{turns_none, turns_more}
use Rattle.sentence_text.proofs.put_turns.Goals as goal

pub loop-turn-init : goal.loop-turn-init
loop-turn-init c =
    turns_none _ (omega (arith, c.requires))

pub loop-turn-preserved : goal.loop-turn-preserved
loop-turn-preserved c =
    turns_more _ c.loop-turn.invariant c.put_word.ensures
