-- What an operation on known values gives, result and flags. a and b are values of the width.
use Rattle.std.specs.Prelude.{ℕ, ◌+◌, ◌-◌, ◌%◌, ◌^◌, Bool, false, not, ◌&&◌, ◌||◌, ◌==◌, bit_and, bit_or, bit_xor, count_ones, nat_le, nat_lt, Some}
use Rattle.alu.specs.declared.Width.{Width}
use Rattle.alu.specs.declared.Flags.{Flags}
use Rattle.alu.specs.declared.Operation.{Operation}
use Rattle.alu.specs.declared.Operation.TheVariants.{Add, Sub, And, Or, Xor}
use Rattle.alu.specs.declared.Performed.{Performed}
use Rattle.alu.specs.Width.{bits}

-- the sign of a value of that width: its top bit
abbrev pub negative : Width → ℕ → Bool
negative w x = nat_le (2 ^ (bits w - 1)) x

-- PF: the number of ones in the low byte is even (M11)
abbrev pub even_parity : ℕ → Bool
even_parity x = count_ones (x % 256) % 2 == 0

-- A sum is taken modulo 2 ^ width; a difference is the sum with what the second value lacks to 2 ^ width; a negation is
-- the difference of zero and the value (M10).
unfoldable pub result_of : Operation → Width → ℕ → ℕ → ℕ
result_of Add w a b = (a + b) % 2 ^ bits w
result_of Sub w a b = (a + (2 ^ bits w - b % 2 ^ bits w)) % 2 ^ bits w
result_of And w a b = bit_and a b
result_of Or w a b = bit_or a b
result_of Xor w a b = bit_xor a b

-- CF: a sum carries where the wrapped sum is below a term, a difference borrows where the first value is below the
-- second; logical operations clear it
unfoldable pub carry : Operation → ℕ → ℕ → ℕ → Bool
carry Add a b r = nat_lt r a
carry Sub a b r = nat_lt a b
carry And a b r = false
carry Or a b r = false
carry Xor a b r = false

abbrev pub signs_overflow : Bool → Bool → Bool → Bool
signs_overflow a b r = a && b && not r || not a && not b && r

-- OF: a sum of two values of one sign has the other sign; a difference of two values of different signs has not the first
-- one's sign; logical operations clear it
unfoldable pub overflow : Operation → Width → ℕ → ℕ → ℕ → Bool
overflow Add w a b r = signs_overflow (negative w a) (negative w b) (negative w r)
overflow Sub w a b r = signs_overflow (negative w a) (not (negative w b)) (negative w r)
overflow And w a b r = false
overflow Or w a b r = false
overflow Xor w a b r = false

-- all five flags known: ZF, SF and PF from the result (M11)
unfoldable pub result_flags : Width → ℕ → Bool → Bool → Flags
result_flags w r cf of =
    record { cf = Some cf; pf = Some (even_parity r); zf = Some (r == 0); sf = Some (negative w r); of = Some of }

-- an operation's result and all its flags (M10, M11)
unfoldable pub performed : Operation → Width → ℕ → ℕ → Performed
performed op w a b =
    let r = result_of op w a b in
    record { value = r; flags = result_flags w r (carry op a b r) (overflow op w a b r) }
