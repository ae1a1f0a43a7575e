use Rattle.parity.proofs.Steps.{number_small, atom-made}
use Rattle.parity.proofs.atom.Goals as goal

pub overflow_shl-terms : goal.overflow_shl-terms
overflow_shl-terms c = number_small _ _ c.requires.room c.note.ensures.number

pub returns : goal.returns
returns c = atom-made _ _ c.requires.room c.note.ensures.number _ c.note.ensures.noted _ c.requires.space
