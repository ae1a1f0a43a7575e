use Rattle.sheet_accepted.proofs.Records.{first_on, second_on, registers_on, content_is}
use native.Mathlib.Omega.{arith}
use Rattle.sheet_accepted.proofs.take_content.Goals as goal

pub take_operand_if-first-requires : goal.take_operand_if-first-requires
take_operand_if-first-requires c = first_on _ _ _ c.requires c.is_in.ensures

pub take_operand_if-second-requires : goal.take_operand_if-second-requires
take_operand_if-second-requires c =
    let x = c.take_operand_if-first.ensures in
    second_on _ _ _ c.requires c.is_in.ensures x.value x.same x.place c.is_in-2.ensures

pub take_registers-written-requires-clause-went_on : goal.take_registers-written-requires-clause-went_on
take_registers-written-requires-clause-went_on c =
    let x = c.take_operand_if-first.ensures in
    let y = c.take_operand_if-second.ensures in
    let n = c.take_number_if-count.ensures in
    registers_on _ _ _ c.requires c.is_in.ensures x.value x.same x.place c.is_in-2.ensures y.value y.same y.place c.is_in-3.ensures n.value n.same n.at

pub returns : goal.returns
returns c =
    let x = c.take_operand_if-first.ensures in
    let y = c.take_operand_if-second.ensures in
    let n = c.take_number_if-count.ensures in
    let l = c.take_registers-written.ensures in
    content_is _ _ _ c.requires c.is_in.ensures x.value x.same x.place c.is_in-2.ensures y.value y.same y.place c.is_in-3.ensures n.value n.same n.at
    l.value l.same (omega (arith, l.at)) c.is_in-4.ensures c.take_number_if-flags.ensures.value
