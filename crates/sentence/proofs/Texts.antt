-- Texts that are not empty.
use Prim.Native.Nat.{ℕ}
use mathlib.Core.Path.{◌≡◌, refl}
use mathlib.Core.Bool.{true, false≢true}
use mathlib.Core.List.{List, [], ◌∷◌, ◌++◌}
use Rattle.isa.specs.declared.Register.{Register}
use Rattle.isa.specs.declared.Operand.{Operand}
use Rattle.isa.specs.declared.Operand.TheVariants.{Absent, Reg, Imm, Mem}
use Rattle.isa.specs.declared.Binary.{Binary}
use Rattle.isa.specs.declared.Binary.TheVariants.{Add, Sub, Cmp, And, Or, Xor, Test}
use Rattle.known.specs.Operations.{is_idiom}
use Rattle.machine.specs.Rules.{same_register}
use lib.Chars.{codes}
use Rattle.wording.specs.Names.{register_name, instruction_name}
use Rattle.wording.specs.Values.{is_text}
use Rattle.phrase.specs.Causes.{value_text, values_text, itself_text, carry_text, overflow_text}
use Rattle.laws.specs.Words.{same_words}
use Rattle.laws.proofs.Booleans.{by_test}
use Rattle.sentence_text.specs.Sentence.{joined, conjunction}
use Rattle.sentence.specs.Why.{itself_why, operands_text}

abbrev pub NotEmpty : List ℕ → Type 0
NotEmpty text = text ≡ [] → ⊥

-- one is not empty that has an entry
pub not-empty : {x : ℕ} {rest : List ℕ} → NotEmpty (x ∷ rest)
not-empty e = cc

before-any : (a b : List ℕ) → NotEmpty a → NotEmpty (a ++ b)
before-any [] b some = absurd (some refl)
before-any (x ∷ a) b some = not-empty

pub behind-any : (a b : List ℕ) → NotEmpty b → NotEmpty (a ++ b)
behind-any [] b some = some
behind-any (x ∷ a) b some = not-empty

pub joined-some : (a b : List ℕ) → NotEmpty a → NotEmpty (joined a b)
unfolding joined
joined-some a b some = by_test (same_words a b) (λ t. rw t some) (λ t. rw t (before-any (a ++ conjunction) b (before-any a conjunction some)))

pub value-some : (r : Register) (x : ℕ) → NotEmpty (value_text r x)
unfolding value_text
value-some r x = behind-any (is_text r r.size x) _ not-empty

values-some : (r : Register) (x : ℕ) (second : Register) (y : ℕ) → NotEmpty (values_text r x second y)
unfolding values_text
values-some r x second y = behind-any (is_text r r.size x ++ codes " and " ++ is_text second r.size y) _ not-empty

itself-some : (r : Register) → NotEmpty (itself_text r)
unfolding itself_text
itself-some r = behind-any (register_name r) _ not-empty

pub carry-some : (op : Binary) → NotEmpty (carry_text op)
unfolding carry_text
carry-some op = behind-any (instruction_name op) _ not-empty

pub overflow-some : (op : Binary) → NotEmpty (overflow_text op)
unfolding overflow_text
overflow-some op = behind-any (instruction_name op) _ not-empty

pub idiom-some : (op : Binary) (d : Register) → is_idiom op ≡ true → NotEmpty (itself_why op d)
idiom-some Add d h = absurd (false≢true h)
idiom-some Sub d h = value-some d 0
idiom-some Cmp d h = itself-some d
idiom-some And d h = absurd (false≢true h)
idiom-some Or d h = absurd (false≢true h)
idiom-some Xor d h = value-some d 0
idiom-some Test d h = absurd (false≢true h)

pub operands-some : (d : Register) (a : ℕ) (o : Operand) (b : ℕ) → NotEmpty (operands_text d a o b)
operands-some d a Absent b = value-some d a
operands-some d a (Reg r) b = by_test (same_register d (Reg r)) (λ t. rw t (value-some d a)) (λ t. rw t (values-some d a r b))
operands-some d a (Imm x) b = value-some d a
operands-some d a Mem b = value-some d a
