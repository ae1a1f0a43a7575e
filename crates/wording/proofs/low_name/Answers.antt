use mathlib.Core.Path.{refl}
use Rattle.alu.specs.declared.Width.TheVariants.{Byte, Word, Double, Quad}
use Rattle.text.specs.Digits.{digits, places_within}
use Rattle.laws.specs.Words.{same_words}
use Rattle.wording.specs.Names.{words, low_bytes, low_name}
use Rattle.wording.proofs.Names.{every, table_name, past_names}
use Rattle.wording.proofs.low_name.Goals as goal

pub returns-in-Byte : goal.returns-in-Byte
unfolding low_bytes low_name digits places_within same_words every
returns-in-Byte c =
    rw c.in-Byte.is (table_name _ (low_name Byte) c.named.ensures refl (past_names Byte))

pub returns-in-Word : goal.returns-in-Word
unfolding words low_name digits places_within same_words every
returns-in-Word c =
    rw c.in-Word.is (table_name _ (low_name Word) c.named-in-Word.ensures refl (past_names Word))

pub returns-in-Double : goal.returns-in-Double
unfolding words low_name digits places_within same_words every
returns-in-Double c =
    rw c.in-Double.is (table_name _ (low_name Double) c.named-in-Double.ensures refl (past_names Double))

pub returns-in-Quad : goal.returns-in-Quad
unfolding words low_name digits places_within same_words every
returns-in-Quad c =
    rw c.in-Quad.is (table_name _ (low_name Quad) c.named-in-Quad.ensures refl (past_names Quad))
