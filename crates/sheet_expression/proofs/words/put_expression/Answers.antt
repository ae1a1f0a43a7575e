use Rattle.sheet_expression.proofs.Decoding.{up_to, count-inside, count-few, record-there, stored-record, took-whole, stored-first}
use Rattle.sheet_field.specs.Field.{little}
use native.Mathlib.Omega.{arith}
use Prim.Native.Nat.{◌-◌}
use mathlib.Core.Path.{◌≡◌, ◌∙◌}
use Rattle.sheet_expression.proofs.words.put_expression.Goals as goal

pub take_number-n-requires-clause-inside : goal.take_number-n-requires-clause-inside
take_number-n-requires-clause-inside c =
    let p = c.requires.0 in count-inside p.variables c.args.r.now.bytes.now c.args.r.now.at p.on

pub loop-i-init : goal.loop-i-init
loop-i-init c =
    let n = c.take_number-n.ensures in
    record { same = n.same; count = n.value; few = rw n.value (count-few c.requires.0.variables c.args.r.now.bytes.now c.args.r.now.at c.requires.0.on); stored = λ variables on. rw n.at (stored-first variables _ _ _) }

pub take_record-tag-requires : goal.take_record-tag-requires
take_record-tag-requires c =
    let s = c.args.r.now.bytes.now in let from = c.args.r.now.at in let p = c.requires.0 in let l = c.loop-i in
    rw l.invariant.same record {
      variables = p.variables;
      depth = (up_to p.variables s from l.i).depth;
      left = little s from 2 - l.i - 1;
      on = record-there p.variables s from p.on l.i (omega (arith, l.invariant.count)) (l.invariant.stored p.variables p.on);
    }

pub loop-i-preserved : goal.loop-i-preserved
loop-i-preserved c =
    let s = c.args.r.now.bytes.now in let from = c.args.r.now.at in let l = c.loop-i in
    record {
      same = c.take_record-tag.ensures.same ∙ l.invariant.same;
      count = l.invariant.count;
      few = l.invariant.few;
      stored = λ variables on.
          let stored = l.invariant.stored variables on in
          let there = record-there variables s from on l.i (omega (arith, l.invariant.count)) stored in
          stored-record variables s from on l.i (omega (arith, l.invariant.count)) stored
          (rw l.invariant.same at c.take_record-tag.ensures.is variables _ _ there)
          (omega (arith, l.invariant.few));
    }

pub returns-clause-took : goal.returns-clause-took
returns-clause-took c variables on =
    let l = c.loop-i in
    let all : c.take_number-n.result ≡ l.i = omega arith in
    rw all (took-whole variables c.args.r.now.bytes.now c.args.r.now.at on l.i (omega (arith, l.invariant.count)) (l.invariant.stored variables on))
