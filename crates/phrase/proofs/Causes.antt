-- The texts of causes: two values together, and the last letters.
use Prim.Native.Nat.{ℕ, ◌≤◌}
use mathlib.Core.Path.{◌≡◌, refl, ap, ◌∙◌}
use mathlib.Core.Logic.{◌⊎◌, inl, inr, ⊎_elim}
use mathlib.Core.List.{List, [], ◌∷◌, ◌++◌, append_assoc}
use native.Mathlib.Omega.{arith}
use lib.Chars.{codes}
use Rattle.isa.specs.declared.Register.{Register}
use Rattle.text.specs.declared.Writer.{Writer}
use Rattle.text.specs.Promises.{Puts}
use Rattle.text.proofs.Puts.{puts_then}
use Rattle.wording.specs.Names.{register_name, instruction_name}
use Rattle.wording.specs.Values.{is_text}
use Rattle.phrase.specs.declared.Cause.{Cause}
use Rattle.phrase.specs.declared.Cause.TheVariants.{Nothing, Stc, Clc, Value, Values, Itself, ClearsCarry, ClearsOverflow}
use Rattle.phrase.specs.Causes.{value_text, values_text, itself_text, carry_text, overflow_text}
use Rattle.phrase.specs.Promises.{cause_text}

-- the last byte, 0 where there is none
last : List ℕ → ℕ
last [] = 0
last (x ∷ []) = x
last (x ∷ (y ∷ rest)) = last (y ∷ rest)

last-behind : (a : List ℕ) (x : ℕ) (rest : List ℕ) → last (a ++ (x ∷ rest)) ≡ last (x ∷ rest)
unfolding last
last-behind [] x rest = refl
last-behind (y ∷ []) x rest = refl
last-behind (y ∷ (z ∷ a)) x rest = last-behind (z ∷ a) x rest

-- the text of every cause but none ends with a letter after d
late : (c : Cause) → (c ≡ Nothing) ⊎ (101 ≤ last (cause_text c))
unfolding value_text values_text itself_text carry_text overflow_text last
late Nothing = inl refl
late Stc = inr (omega arith)
late Clc = inr (omega arith)
late (Value r value) = inr (omega (arith, last-behind (is_text r r.size value) 32 (codes "here")))
late (Values r value second other) =
    inr (omega (arith, last-behind (is_text r r.size value ++ codes " and " ++ is_text second r.size other) 32 (codes "here")))
late (Itself r) = inr (omega (arith, last-behind (register_name r) 32 (codes "is compared with itself")))
late (ClearsCarry op) = inr (omega (arith, last-behind (instruction_name op) 32 (codes "clears the carry")))
late (ClearsOverflow op) = inr (omega (arith, last-behind (instruction_name op) 32 (codes "clears the overflow")))

-- so none ends as a text does that cmc has turned round
pub not-turned : (c : Cause) (x : List ℕ) → cause_text c ≡ x ++ codes ", and cmc turns it round" → ⊥
unfolding last
not-turned c x e =
    let d : last (cause_text c) ≡ 100 = ap last e ∙ last-behind x 44 (codes " and cmc turns it round") in
    ⊎_elim (λ none. omega (arith, d, ap (λ (n : Cause). last (cause_text n)) none)) (λ more. omega (arith, d, more)) (late c)

-- the values of two registers
pub puts_both : {old mid new : Writer} (r second : Register) (value other : ℕ) → Puts old mid (is_text r r.size value ++ codes " and ")
    → Puts mid new (is_text second r.size other ++ codes " here") → Puts old new (values_text r value second other)
unfolding values_text
puts_both r second value other p q =
    rw (append_assoc (is_text r r.size value ++ codes " and ") (is_text second r.size other) (codes " here")) (puts_then p q)
