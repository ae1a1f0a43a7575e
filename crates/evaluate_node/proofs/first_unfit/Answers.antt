use Rattle.evaluate_node.proofs.Laws.{unfit-missing, unfit-here, unfit-next, unfit-none}
use Rattle.evaluate_node.proofs.first_unfit.Goals as goal

pub returns-then-values-v : goal.returns-then-values-v
returns-then-values-v c =
    unfit-missing _ _ _ c.loop-v.invariant c.loop-v-test.true c.if-values-v.true

pub returns-then-not-fits : goal.returns-then-not-fits
returns-then-not-fits c =
    unfit-here c.args.types.now c.args.values.now c.loop-v.v c.loop-v.invariant c.loop-v-test.true c.if-values-v.false c.from.ensures c.fits.ensures c.if-not-fits.true

pub loop-v-preserved : goal.loop-v-preserved
loop-v-preserved c =
    unfit-next c.args.types.now c.args.values.now c.loop-v.v c.loop-v.invariant c.loop-v-test.true c.if-values-v.false c.from.ensures c.fits.ensures c.if-not-fits.false

pub returns : goal.returns
returns c =
    unfit-none _ _ _ c.loop-v.invariant c.loop-v-test.false
