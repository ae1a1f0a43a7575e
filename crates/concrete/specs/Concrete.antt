-- Concrete execution, by volume 2 of the Intel manual. Nothing here rests on the machine's rules: registers hold numbers,
-- flags are set or clear, and what the manual or the sheet leaves open is taken from explicit choices.
use Rattle.std.specs.Prelude.{ℕ, zero, suc, min, ◌+◌, ◌-◌, ◌*◌, ◌/◌, ◌%◌, ◌^◌, Bool, true, false, cond, not, ◌&&◌, ◌||◌, List, [], ◌∷◌, get_or, leb, ltb, eqb}
use Rattle.std.specs.Int.Bits.{bit_and, bit_or, bit_xor}
use Rattle.isa.specs.declared.Register.{Register}
use Rattle.isa.specs.declared.Operand.{Operand}
use Rattle.isa.specs.declared.Operand.TheVariants.{Absent, Reg, Imm, Mem}
use Rattle.isa.specs.declared.CarryChange.{CarryChange}
use Rattle.isa.specs.declared.CarryChange.TheVariants.{Stc, Clc, Cmc}
use Rattle.isa.specs.declared.Binary.{Binary}
use Rattle.isa.specs.declared.Binary.TheVariants.{Add, Sub, Cmp, And, Or, Xor, Test}
use Rattle.isa.specs.declared.Unary.{Unary}
use Rattle.isa.specs.declared.Unary.TheVariants.{Inc, Dec, Neg}
use Rattle.isa.specs.declared.Condition.{Condition}
use Rattle.isa.specs.declared.Condition.TheVariants.{E, Ne, L, Ge, Le, G, B, Ae, Be, A, S, Ns, P, Np, O, No}
use Rattle.isa.specs.declared.Counter.{Counter}
use Rattle.isa.specs.declared.Counter.TheVariants.{Rcx, Ecx, Cx}
use Rattle.isa.specs.declared.Mnemonic.{Mnemonic}
use Rattle.isa.specs.declared.Mnemonic.TheVariants.{Other, Carry, Mov, Not, TwoOperand, OneOperand, Jump, CountJump}
use Rattle.isa.specs.declared.Instruction.{Instruction}
use Rattle.isa.specs.FlagBits as bit
use Rattle.isa.specs.Modelled.{modelled}

pub record Status : Type 0 where
  pub cf : Bool
  pub pf : Bool
  pub zf : Bool
  pub sf : Bool
  pub of : Bool

-- The registers by index, 0 to 15, and the flags. A register's value is the low 64 bits of its number.
pub record Processor : Type 0 where
  pub register : ℕ → ℕ
  pub status : Status

abbrev pub value : Processor → ℕ → ℕ
value p k = p.register k % 2 ^ 64

-- What one instruction takes from outside: the value of a memory operand, and of one that is a register of another class
-- or absent; new values of registers and flags, for calls and their like, and for what an instruction that is not modelled
-- declares.
pub record Choice : Type 0 where
  pub memory : ℕ
  pub other : ℕ
  pub registers : ℕ → ℕ
  pub status : Status

-- ---- registers

-- the part of a general register that its size and offset name
unfoldable pub part : Processor → Register → ℕ
part p r = value p r.index / 2 ^ r.offset % 2 ^ r.size

abbrev pub update : (ℕ → ℕ) → ℕ → ℕ → ℕ → ℕ
update f k x j = cond (eqb j k) x (f j)

-- a register after x was stored to a part of it: 64 bits are the whole; 32 bits are extended by zeros; 8 and 16 bits leave
-- the bits above and below as they are
unfoldable pub stored : ℕ → ℕ → ℕ → ℕ → ℕ
stored old size offset x =
    cond (leb 32 size) x
    (old / 2 ^ (offset + size) * 2 ^ (offset + size) + x * 2 ^ offset + old % 2 ^ offset)

-- a store to a register of class 1; registers of other classes are not among those looked at
unfoldable pub assign : Processor → Register → ℕ → Processor
assign p r x =
    cond (eqb r.class 1)
    (record {
      register = update p.register r.index (stored (value p r.index) r.size r.offset x);
      status = p.status;
    })
    p

-- the value of a second operand, of that size
unfoldable pub argument : Processor → Choice → ℕ → Operand → ℕ
argument p free size Absent = free.other % 2 ^ size
argument p free size (Reg r) = cond (eqb r.class 1) (part p r) (free.other % 2 ^ size)
argument p free size (Imm x) = x % 2 ^ size
argument p free size Mem = free.memory % 2 ^ size

-- ---- arithmetic

-- The signed reading of an n-bit x, plus 2 ^ (n - 1) so that it is no less than zero: x with its sign bit turned round.
abbrev pub lifted : ℕ → ℕ → ℕ
lifted half x = cond (ltb x half) (x + half) (x - half)

-- A result, whether it carried or borrowed, and whether the signed result is outside the signed numbers of the size.
pub record Result : Type 0 where
  pub value : ℕ
  pub carry : Bool
  pub overflow : Bool

-- a + b. Signed, -half ≤ a + b < half, which is half ≤ lifted a + lifted b < 3 half.
unfoldable pub sum : ℕ → ℕ → ℕ → Result
sum n a b =
    let half = 2 ^ (n - 1) in
    let both = lifted half a + lifted half b in
    record { value = (a + b) % 2 ^ n; carry = leb (2 ^ n) (a + b); overflow = ltb both half || leb (3 * half) both }

-- a - b. Signed, -half ≤ a - b < half, which is lifted b ≤ lifted a + half and lifted a < lifted b + half.
unfoldable pub difference : ℕ → ℕ → ℕ → Result
difference n a b =
    let half = 2 ^ (n - 1) in
    record {
      value = (a + (2 ^ n - b)) % 2 ^ n;
      carry = ltb a b;
      overflow = ltb (lifted half a + half) (lifted half b) || leb (lifted half b + half) (lifted half a);
    }

-- the logical operations clear CF and OF
abbrev pub bitwise : ℕ → Result
bitwise x = record { value = x; carry = false; overflow = false }

-- how many of the low k bits are set
unfoldable pub ones_below : ℕ → ℕ → ℕ
ones_below zero x = 0
ones_below (suc k) x = x % 2 + ones_below k (x / 2)

-- PF: an even count of ones in the low byte; ZF: the result is 0; SF: its top bit
unfoldable pub status_of : ℕ → Result → Status
status_of n r =
    record {
      cf = r.carry;
      pf = eqb (ones_below 8 r.value % 2) 0;
      zf = eqb r.value 0;
      sf = leb (2 ^ (n - 1)) r.value;
      of = r.overflow;
    }

-- add, sub, cmp, and, or, xor, test
abbrev pub computed : Binary → ℕ → ℕ → ℕ → Result
computed Add n a b = sum n a b
computed Sub n a b = difference n a b
computed Cmp n a b = difference n a b
computed And n a b = bitwise (bit_and a b)
computed Or n a b = bitwise (bit_or a b)
computed Xor n a b = bitwise (bit_xor a b)
computed Test n a b = bitwise (bit_and a b)

-- inc, dec, neg: neg's CF is set unless the operand is 0
abbrev pub computed_alone : Unary → ℕ → ℕ → Result
computed_alone Inc n a = sum n a 1
computed_alone Dec n a = difference n a 1
computed_alone Neg n a =
    record { value = (2 ^ n - a) % 2 ^ n; carry = not (eqb a 0); overflow = eqb a (2 ^ (n - 1)) }

-- ---- instructions. Of the five flags the manual leaves none undefined after a modelled instruction.

abbrev pub with_status : Processor → Status → Processor
with_status p f = record { register = p.register; status = f }

abbrev pub with_cf : Status → Bool → Status
with_cf f b = record { cf = b; pf = f.pf; zf = f.zf; sf = f.sf; of = f.of }

-- stc, clc, cmc
abbrev pub carry_after : CarryChange → Bool → Bool
carry_after Stc cf = true
carry_after Clc cf = false
carry_after Cmc cf = not cf

-- cmp and test keep no result
abbrev pub keeps : Binary → Bool
keeps Add = true
keeps Sub = true
keeps Cmp = false
keeps And = true
keeps Or = true
keeps Xor = true
keeps Test = false

-- two operands (M25)
unfoldable pub binary : Processor → Choice → Binary → Register → Operand → Processor
binary p free op d o =
    let r = computed op d.size (part p d) (argument p free d.size o) in
    with_status (cond (keeps op) (assign p d r.value) p) (status_of d.size r)

-- inc and dec leave CF as it is
abbrev pub with_own_carry : Unary → Status → Bool → Status
with_own_carry Inc f cf = with_cf f cf
with_own_carry Dec f cf = with_cf f cf
with_own_carry Neg f cf = f

-- one operand (M25)
unfoldable pub alone : Processor → Unary → Register → Processor
alone p op d =
    let r = computed_alone op d.size (part p d) in
    with_status (assign p d r.value) (with_own_carry op (status_of d.size r) p.status.cf)

-- the register k is one of the first n that are declared
unfoldable pub declares : List Register → ℕ → ℕ → Bool
declares rs zero k = false
declares rs (suc n) k =
    let r = get_or rs n (record { class = 0; index = 0; size = 0; offset = 0 }) in
    eqb r.class 1 && eqb k r.index || declares rs n k

abbrev pub chosen : Bool → Bool → Bool → Bool
chosen declared new old = cond declared new old

-- the declared flags change (M28)
unfoldable pub declared_status : ℕ → Status → Status → Status
declared_status flags new old =
    record {
      cf = chosen (bit.declares flags bit.CF) new.cf old.cf;
      pf = chosen (bit.declares flags bit.PF) new.pf old.pf;
      zf = chosen (bit.declares flags bit.ZF) new.zf old.zf;
      sf = chosen (bit.declares flags bit.SF) new.sf old.sf;
      of = chosen (bit.declares flags bit.OF) new.of old.of;
    }

-- any other instruction: beside memory, the flags and the registers that it declares may change, registers as a whole (M28)
unfoldable pub by_declaration : Processor → Instruction → Choice → Processor
by_declaration p i free =
    record {
      register = λ k. cond (declares i.written (min i.count 8) k) (free.registers k) (p.register k);
      status = declared_status i.flags free.status p.status;
    }

-- With a register first: mov, not, and those above; mov and not leave the flags as they are. What is not among them does
-- what it declares (M25, M28).
unfoldable pub on_register : Processor → Instruction → Choice → Mnemonic → Register → Processor
on_register p i free Other d = by_declaration p i free
on_register p i free (Carry c) d = by_declaration p i free
on_register p i free Mov d = assign p d (argument p free d.size i.second)
on_register p i free Not d = assign p d (2 ^ d.size - 1 - part p d)
on_register p i free (TwoOperand op) d = binary p free op d i.second
on_register p i free (OneOperand op) d = alone p op d
on_register p i free (Jump c) d = by_declaration p i free
on_register p i free (CountJump c) d = by_declaration p i free

abbrev pub on_operand : Processor → Instruction → Choice → Mnemonic → Operand → Processor
on_operand p i free m Absent = by_declaration p i free
on_operand p i free m (Reg d) = on_register p i free m d
on_operand p i free m (Imm x) = by_declaration p i free
on_operand p i free m Mem = by_declaration p i free

-- A modelled instruction, by the manual (M25).
unfoldable pub by_manual : Processor → Instruction → Choice → Mnemonic → Processor
by_manual p i free Other = by_declaration p i free
by_manual p i free (Carry c) = with_status p (with_cf p.status (carry_after c p.status.cf))
by_manual p i free Mov = on_operand p i free Mov i.first
by_manual p i free Not = on_operand p i free Not i.first
by_manual p i free (TwoOperand op) = on_operand p i free (TwoOperand op) i.first
by_manual p i free (OneOperand op) = on_operand p i free (OneOperand op) i.first
by_manual p i free (Jump c) = by_declaration p i free
by_manual p i free (CountJump c) = by_declaration p i free

-- one instruction: a call, or what is like one, changes anything (M1, M27)
unfoldable pub executed : Processor → Instruction → Choice → Processor
executed p i free =
    cond i.call (record { register = free.registers; status = free.status })
    (cond (modelled i) (by_manual p i free i.mnemonic) (by_declaration p i free))

-- instructions in order, each with its choice
unfoldable pub executed_all : Processor → List Instruction → (ℕ → Choice) → Processor
executed_all p [] free = p
executed_all p (i ∷ is) free = executed_all (executed p i (free 0)) is (λ k. free (suc k))

-- ---- jumps

-- The condition under which a jump on flags is taken (M29).
unfoldable pub jumps_on : Condition → Status → Bool
jumps_on E f = f.zf
jumps_on Ne f = not f.zf
jumps_on L f = f.sf && not f.of || not f.sf && f.of
jumps_on Ge f = not (f.sf && not f.of || not f.sf && f.of)
jumps_on Le f = f.zf || (f.sf && not f.of || not f.sf && f.of)
jumps_on G f = not f.zf && not (f.sf && not f.of || not f.sf && f.of)
jumps_on B f = f.cf
jumps_on Ae f = not f.cf
jumps_on Be f = f.cf || f.zf
jumps_on A f = not f.cf && not f.zf
jumps_on S f = f.sf
jumps_on Ns f = not f.sf
jumps_on P f = f.pf
jumps_on Np f = not f.pf
jumps_on O f = f.of
jumps_on No f = not f.of

-- jrcxz, jecxz, jcxz jump where the low 64, 32, 16 bits of register 1 are 0 (M29).
unfoldable pub jumps_at : Counter → Processor → Bool
jumps_at Rcx p = eqb (value p 1) 0
jumps_at Ecx p = eqb (value p 1 % 2 ^ 32) 0
jumps_at Cx p = eqb (value p 1 % 2 ^ 16) 0

-- Whether a conditional branch jumps: the jumps by the manual, any other as it is chosen (M20, M29).
unfoldable pub outcome : Mnemonic → Processor → Bool → Bool
outcome Other p free = free
outcome (Carry c) p free = free
outcome Mov p free = free
outcome Not p free = free
outcome (TwoOperand op) p free = free
outcome (OneOperand op) p free = free
outcome (Jump c) p free = jumps_on c p.status
outcome (CountJump c) p free = jumps_at c p
