use mathlib.Core.Path.{refl}
use native.Mathlib.Omega.{arith}
use Rattle.std.proofs.Common.{rules}
use Rattle.text.proofs.Puts.{puts_then, puts_written}
use Rattle.sentence_text.proofs.Sentences.{parts-long}
use Rattle.sentence_text.proofs.write.Goals as goal

pub returns-then-text-needed : goal.returns-then-text-needed
returns-then-text-needed c =
    let long = parts-long c.args.first.now c.args.turns c.args.rest.now in
    (omega arith, omega arith, refl)

pub returns : goal.returns
returns c =
    let long = parts-long c.args.first.now c.args.turns c.args.rest.now in (
      omega arith,
      puts_written c.new-out.ensures.out c.new-out.ensures.at (puts_then (puts_then c.put_word.ensures c.put_turns.ensures) c.put_word-2.ensures) (search rules),
    )
