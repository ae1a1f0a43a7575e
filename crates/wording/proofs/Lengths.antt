-- How long names are.
use Prim.Native.Nat.{ℕ, ◌≤◌}
use mathlib.Core.Path.{◌≡◌, refl}
use mathlib.Core.Bool.{Bool, true, false, cond}
use mathlib.Core.List.{List, []}
use native.Mathlib.Omega.{arith}
use borrow.Author.Tests.{leb-true, leb-false}
use lib.Dec.{leb, eqb}
use lib.ListN.{length, get_or}
use Rattle.std.specs.Prelude.{Option, Some, None}
use Rattle.laws.proofs.Booleans.{by_test}
use Rattle.isa.specs.declared.Register.{Register}
use Rattle.isa.specs.declared.Binary.{Binary}
use Rattle.isa.specs.declared.Binary.TheVariants.{Add, Sub, Cmp, And, Or, Xor, Test}
use Rattle.alu.specs.declared.Width.{Width}
use Rattle.alu.specs.declared.Width.TheVariants.{Byte, Word, Double, Quad}
use Rattle.alu.specs.Width.{width_of}
use Rattle.text.specs.Digits.{digits, places_within}
use Rattle.text.proofs.Lengths.{digits_long}
use Rattle.wording.specs.Names.{words, low_bytes, high_bytes, low_name, sized_name, register_name, instruction_name}
use Rattle.wording.proofs.Names.{every, every-below, past_names, past-high_names}

-- a name of a table and the one past it
few : (n : ℕ) (text : ℕ → List ℕ) → every n (λ k. leb (length (text k)) 4) ≡ true → ((k : ℕ) → n ≤ k → text k ≡ []) → (k : ℕ) → length (text k) ≤ 4
few n text tests past k =
    by_test (leb n k) (λ t. rw (past k (leb-true n k t)) (omega arith)) (λ t. leb-true _ _ (every-below n (λ i. leb (length (text i)) 4) tests k (leb-false n k t)))

low-short : (w : Width) (index : ℕ) → length (low_name w index) ≤ 4
unfolding words low_bytes low_name digits places_within every
low-short Byte index = few 16 (low_name Byte) refl (past_names Byte) index
low-short Word index = few 16 (low_name Word) refl (past_names Word) index
low-short Double index = few 16 (low_name Double) refl (past_names Double) index
low-short Quad index = few 16 (low_name Quad) refl (past_names Quad) index

high-short : (index : ℕ) → length (get_or high_bytes index []) ≤ 4
unfolding high_bytes every
high-short index = few 4 (λ k. get_or high_bytes k []) refl past-high_names index

sized-short : (w : Option Width) (index : ℕ) → length (sized_name w index) ≤ 4
sized-short (Some w) index = low-short w index
sized-short None index = omega arith

pub register-short : (r : Register) → length (register_name r) ≤ 4
unfolding register_name
register-short r = by_case (eqb r.offset 8) _ _ (high-short r.index) (sized-short (width_of r.size) r.index)
  where
    by_case : (b : Bool) (x y : List ℕ) → length x ≤ 4 → length y ≤ 4 → length (cond b x y) ≤ 4
    by_case true x y h k = h
    by_case false x y h k = k

pub instruction-short : (op : Binary) → length (instruction_name op) ≤ 4
instruction-short Add = omega arith
instruction-short Sub = omega arith
instruction-short Cmp = omega arith
instruction-short And = omega arith
instruction-short Or = omega arith
instruction-short Xor = omega arith
instruction-short Test = omega arith

-- how long the pieces of a cause's text are
pub ruleset short = (register-short, instruction-short, digits_long)
