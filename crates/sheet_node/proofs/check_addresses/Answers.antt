use Rattle.sheet_field.proofs.Steps.{handed}
use Rattle.sheet_node.proofs.Checks.{addresses-count-ends, addresses-next}
use Rattle.sheet_node.proofs.check_addresses.Goals as goal

pub returns-in_err-n : goal.returns-in_err-n
returns-in_err-n c = handed c.from_residual.ensures.1 (addresses-count-ends _ c.in_err-n.ensures.reads)

pub returns : goal.returns
returns c = addresses-next _ c.in_ok-n.ensures.reads c.in_ok-n.ensures.value c.take_words.ensures
