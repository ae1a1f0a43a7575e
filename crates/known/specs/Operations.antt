-- What an instruction leaves, as far as values and flags go, in the order of the claims.
use Rattle.std.specs.Prelude.{ℕ, ◌-◌, ◌%◌, ◌^◌, Bool, true, false, cond, ◌&&◌, Option, Some, None}
use Rattle.std.specs.Option.{option_map}
use Rattle.isa.specs.declared.CarryChange.{CarryChange}
use Rattle.isa.specs.declared.CarryChange.TheVariants.{Stc, Clc, Cmc}
use Rattle.isa.specs.declared.Binary.{Binary}
use Rattle.isa.specs.declared.Binary.TheVariants.{Add, Sub, Cmp, And, Or, Xor, Test}
use Rattle.isa.specs.declared.Unary.{Unary}
use Rattle.isa.specs.declared.Unary.TheVariants.{Inc, Dec, Neg}
use Rattle.isa.specs.FlagBits.{CF, PF, ZF, SF, OF, declares}
use Rattle.alu.specs.declared.Width.{Width}
use Rattle.alu.specs.Width.{bits}
use Rattle.alu.specs.declared.Flags.{Flags}
use Rattle.alu.specs.declared.Operation.{Operation}
use Rattle.alu.specs.declared.Operation.TheVariants as operation
use Rattle.alu.specs.declared.Performed.{Performed}
use Rattle.alu.specs.Arithmetic.{performed, result_flags}
use Rattle.alu.specs.Flags.{opposite}
use Rattle.known.specs.declared.Effect.{Effect}

-- stc sets CF, clc clears it, cmc turns it round where it is known (S22).
abbrev pub carry_rule : CarryChange → Option Bool → Option Bool
carry_rule Stc cf = Some true
carry_rule Clc cf = Some false
carry_rule Cmc cf = opposite cf

-- not: the complement at 64 bits, which the write truncates to size (S22).
abbrev pub complement : Option ℕ → Option ℕ
complement v = option_map (λ x. 2 ^ 64 - 1 - x) v

-- the operation of each instruction: cmp is sub and test is and, as far as flags go (S22)
abbrev pub operation_of : Binary → Operation
operation_of Add = operation.Add
operation_of Sub = operation.Sub
operation_of Cmp = operation.Sub
operation_of And = operation.And
operation_of Or = operation.Or
operation_of Xor = operation.Xor
operation_of Test = operation.And

-- xor, sub, cmp have the same result for a register with itself, whatever it holds (M12)
abbrev pub is_idiom : Binary → Bool
is_idiom Add = false
is_idiom Sub = true
is_idiom Cmp = true
is_idiom And = false
is_idiom Or = false
is_idiom Xor = true
is_idiom Test = false

-- A register with itself: the result is 0, and so all five flags are known, also with the value unknown (M12).
unfoldable pub of_itself : Width → Effect
of_itself w = record { value = Some 0; flags = result_flags w 0 false false }

-- no flag known
abbrev pub no_flags : Flags
no_flags = record { cf = None; pf = None; zf = None; sf = None; of = None }

-- neither a value nor a flag known: all that is left where a register's size has no width
abbrev pub nothing_left : Effect
nothing_left = record { value = None; flags = no_flags }

-- an immediate, truncated to a width (S17)
abbrev pub immediate : Option Width → ℕ → Option ℕ
immediate size x = option_map (λ w. x % 2 ^ bits w) size

-- CF and OF known to be clear
abbrev pub bitwise_flags : Flags
bitwise_flags = record { cf = Some false; pf = None; zf = None; sf = None; of = Some false }

-- The flags after an unknown operand: and, or, xor, test clear CF and OF; the rest, and all of add, sub, cmp, is unknown
-- (M13, M14).
abbrev pub of_unknown : Binary → Flags
of_unknown Add = no_flags
of_unknown Sub = no_flags
of_unknown Cmp = no_flags
of_unknown And = bitwise_flags
of_unknown Or = bitwise_flags
of_unknown Xor = bitwise_flags
of_unknown Test = bitwise_flags

-- both operands known (M10, M11)
unfoldable pub of_known : Binary → Width → ℕ → ℕ → Effect
of_known op w a b =
    let o = performed (operation_of op) w a b in
    record { value = Some o.value; flags = o.flags }

-- known where both operands are (M13, M14)
abbrev pub on_operands : Binary → Width → Option ℕ → Option ℕ → Effect
on_operands op w (Some a) (Some b) = of_known op w a b
on_operands op w (Some a) None = record { value = None; flags = of_unknown op }
on_operands op w None b = record { value = None; flags = of_unknown op }

-- The effect of add to test: the register with itself first, then by what is known of the operands (M12, M13, M14).
unfoldable pub arith_effect : Binary → Option Width → Bool → Option ℕ → Option ℕ → Effect
arith_effect op (Some w) same a b = cond (is_idiom op && same) (of_itself w) (on_operands op w a b)
arith_effect op None same a b = nothing_left

-- flags with another CF
abbrev pub with_carry : Flags → Option Bool → Flags
with_carry f cf = record { cf = cf; pf = f.pf; zf = f.zf; sf = f.sf; of = f.of }

-- inc adds 1, dec takes 1 away, neg is zero minus the value, CF its borrow (M10).
abbrev pub alone : Unary → Width → ℕ → Performed
alone Inc w a = performed operation.Add w a 1
alone Dec w a = performed operation.Sub w a 1
alone Neg w a = performed operation.Sub w 0 a

-- inc and dec keep CF, neg sets its own (M15, M16)
abbrev pub kept_carry : Unary → Option Bool → Flags → Flags
kept_carry Inc cf f = with_carry f cf
kept_carry Dec cf f = with_carry f cf
kept_carry Neg cf f = f

-- inc, dec, neg of a known value
unfoldable pub unary_effect : Unary → Option Width → Option Bool → ℕ → Effect
unary_effect op (Some w) cf a =
    let o = alone op w a in
    record { value = Some o.value; flags = kept_carry op cf o.flags }
unary_effect op None cf a = nothing_left

-- inc and dec of an unknown register keep CF; neg forgets it (M15, M16).
abbrev pub unknown_carry : Unary → Option Bool → Option Bool
unknown_carry Inc cf = cf
unknown_carry Dec cf = cf
unknown_carry Neg cf = None

abbrev pub forget_flag : Bool → Option Bool → Option Bool
forget_flag declared f = cond declared None f

-- Flags that are declared as written are forgotten (M17, S12).
unfoldable pub forget_flags : ℕ → Flags → Flags
forget_flags declared f =
    record {
      cf = forget_flag (declares declared CF) f.cf;
      pf = forget_flag (declares declared PF) f.pf;
      zf = forget_flag (declares declared ZF) f.zf;
      sf = forget_flag (declares declared SF) f.sf;
      of = forget_flag (declares declared OF) f.of;
    }
