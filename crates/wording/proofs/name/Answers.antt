use mathlib.Core.Path.{refl}
use mathlib.Core.List.{[]}
use lib.ListN.{get_or}
use borrow.Author.Tests.{eq-eqb}
use Rattle.laws.specs.Words.{same_words}
use Rattle.wording.specs.Names.{high_bytes, register_name}
use Rattle.wording.proofs.Names.{every, table_name, past-high_names}
use Rattle.wording.proofs.name.Goals as goal

pub returns-then-register-eq8 : goal.returns-then-register-eq8
unfolding register_name high_bytes same_words every
returns-then-register-eq8 c =
    rw (eq-eqb _ _ c.if-register-eq8.true) (table_name _ (λ k. get_or high_bytes k []) c.named.ensures refl past-high_names)
