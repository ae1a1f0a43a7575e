use Rattle.std.proofs.Common.{refl, sym, ◌∙◌, ◌≡◌, ◌<◌, length, take-append-drop, arith}
use lib.Seq.{set-append_left}
use Rattle.sheet_instruction.specs.Instruction.{registers_from}
use Rattle.sheet_instruction.proofs.Instructions.{registers-more}
use Rattle.sheet_instruction.proofs.Stages.{registers-place, register-inside}
use Rattle.sheet_accepted.proofs.Records.{room_taken}
use Rattle.sheet_accepted.proofs.take_registers.Goals as goal

pub loop-slot-init : goal.loop-slot-init
unfolding registers_from
loop-slot-init c = record { list = take-append-drop _ _; same = refl; at = omega arith }

pub take_register-requires : goal.take_register-requires
take_register-requires c =
    let l = c.loop-slot in
    rw (l.invariant.same, l.invariant.at) (register-inside c.args.r.now.bytes.now c.args.r.now.at c.args.n c.requires.went_on l.slot-index (omega (arith, c.loop-slot-test.true, room_taken c.args.n c.requires.n_bound)))

pub loop-slot-preserved : goal.loop-slot-preserved
loop-slot-preserved c =
    let l = c.loop-slot in
    let t = c.take_register.ensures in
    let less : l.slot-index < c.args.n = omega (arith, c.loop-slot-test.true, room_taken c.args.n c.requires.n_bound) in
    let here = registers-place _ _ _ c.requires.went_on l.slot-index (omega (arith, less)) in
    let there : l.slot-index < length l.slot-items = omega (arith, c.loop-slot-test.true, l.auto.slot-items) in
    record {
      list = sym (set-append_left l.slot-items _ l.slot-index c.take_register.result there)
          ∙ rw (rw (l.invariant.same, l.invariant.at) at t.value) (registers-more _ _ _ l.invariant.list (sym here) refl).0;
      same = t.same ∙ l.invariant.same;
      at = omega (arith, t.at, l.invariant.at);
    }

pub returns-clause-value : goal.returns-clause-value
unfolding registers_from
returns-clause-value c =
    let l = c.loop-slot in
    let all : l.slot-index ≡ c.args.n = omega (arith, c.loop-slot-test.false, l.auto.slot-items, l.auto.slot-index-end, room_taken c.args.n c.requires.n_bound) in
    rw all at l.invariant.list
