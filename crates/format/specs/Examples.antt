-- Short sheets and what reading answers, worked out by hand from the scope document: each number of a refusal, each kind
-- of code that 2 is for, and both offsets of 7.
use Rattle.std.specs.Prelude.{ℕ, List, [], ◌∷◌, ◌++◌, Ok, Err}
use Rattle.refusal.specs.declared.Fault.{Fault}
use Rattle.refusal.specs.declared.Fault.TheVariants.{Ends, Code, Count, Address, Register, Instruction, Tree, Constant, Typing}
use Rattle.sheet.specs.Sheet.{Reading}

pub record Example : Type 0 where
  pub bytes : List ℕ
  pub answer : Reading

-- a number below 256 in 8 bytes
abbrev pub word : ℕ → List ℕ
word n = n ∷ 0 ∷ 0 ∷ 0 ∷ 0 ∷ 0 ∷ 0 ∷ 0 ∷ []

-- one instruction with this map, at address 0: its mnemonic stands at 11
abbrev instruction : ℕ → List ℕ → List ℕ
instruction map rest = (1 ∷ 0 ∷ map ∷ []) ++ word 0 ++ rest

-- no instruction, no block, and one node, from 6 on
abbrev node : List ℕ → List ℕ
node rest = (0 ∷ 0 ∷ 0 ∷ 0 ∷ 1 ∷ 0 ∷ []) ++ rest

-- a node without variables and statements: its condition stands from 10 on
abbrev condition : List ℕ → List ℕ
condition rest = node ((0 ∷ 0 ∷ 0 ∷ 0 ∷ []) ++ rest)

-- refused for a fault at an offset
abbrev pub refused : List ℕ → Fault → (offset : ℕ) → Example
refused s fault offset = record { bytes = s; answer = Err (record { fault = fault; at = offset }) }

-- accepted, with how many instructions, blocks and nodes, each count followed by where those records start
abbrev pub accepted : List ℕ → (i i-at b b_at n n-at : ℕ) → Example
accepted s i i-at b b_at n n-at = record {
  bytes = s;
  answer = Ok (record { instructions = record { count = i; at = i-at }; blocks = record { count = b; at = b_at }; nodes = record { count = n; at = n-at } });
}

unfoldable pub examples : List Example
examples =
    -- no byte: the count of instructions is missing (R6)
    refused [] Ends 0
    -- the sheet ends inside that count (R6)
    ∷ refused (0 ∷ []) Ends 0
    -- no record at all (R23)
    ∷ accepted (0 ∷ 0 ∷ 0 ∷ 0 ∷ 0 ∷ 0 ∷ []) 0 2 0 4 0 6
    -- one byte too many (R7)
    ∷ refused (0 ∷ 0 ∷ 0 ∷ 0 ∷ 0 ∷ 0 ∷ 0 ∷ []) Ends 6
    -- 2,049 instructions (R11)
    ∷ refused (1 ∷ 8 ∷ []) Count 0
    -- the map's bit 6 (R9)
    ∷ refused (1 ∷ 0 ∷ 64 ∷ []) Code 2
    -- the map's bit 7 (R9)
    ∷ refused (1 ∷ 0 ∷ 128 ∷ []) Code 2
    -- a target of a call-like instruction (R9)
    ∷ refused (1 ∷ 0 ∷ 3 ∷ []) Code 2
    -- a second operand without a first (R9)
    ∷ refused (1 ∷ 0 ∷ 8 ∷ []) Code 2
    -- mnemonic 35 (R8)
    ∷ refused (instruction 0 (35 ∷ [])) Code 11
    -- operand code 3 (R8)
    ∷ refused (instruction 4 (0 ∷ 3 ∷ [])) Code 12
    -- two instructions at address 5 (R12)
    ∷ refused ((2 ∷ 0 ∷ 0 ∷ []) ++ word 5 ++ (0 ∷ 0 ∷ []) ++ word 5) Address 13
    -- offset 8 of the register of index 4 (R13)
    ∷ refused (instruction 4 (0 ∷ 0 ∷ 1 ∷ 4 ∷ 8 ∷ 8 ∷ [])) Register 13
    -- the same, truncated before the offset: no check of the register is made (R6)
    ∷ refused (instruction 4 (0 ∷ 0 ∷ 1 ∷ 4 ∷ 8 ∷ [])) Ends 16
    -- mov of a 32-bit register from a 16-bit one (R14)
    ∷ refused (instruction 12 (4 ∷ 0 ∷ 1 ∷ 0 ∷ 32 ∷ 0 ∷ 0 ∷ 1 ∷ 3 ∷ 16 ∷ 0 ∷ [])) Instruction 2
    -- not of a register of class 2 (R15)
    ∷ refused (instruction 4 (5 ∷ 0 ∷ 2 ∷ 0 ∷ 0 ∷ 0 ∷ [])) Instruction 2
    -- inc that declares no OF (R16)
    ∷ refused (instruction 36 (13 ∷ 0 ∷ 1 ∷ 0 ∷ 32 ∷ 0 ∷ 14 ∷ [])) Instruction 2
    -- inc that declares PF, ZF, SF and OF (R23)
    ∷ accepted (instruction 36 (13 ∷ 0 ∷ 1 ∷ 0 ∷ 32 ∷ 0 ∷ 30 ∷ 0 ∷ 0 ∷ 0 ∷ 0 ∷ [])) 1 2 0 20 0 22
    -- inc with a flag byte of 32: at one byte the lower number wins (R4)
    ∷ refused (instruction 36 (13 ∷ 0 ∷ 1 ∷ 0 ∷ 32 ∷ 0 ∷ 32 ∷ [])) Code 17
    -- an expression of no record (R11)
    ∷ refused (condition (0 ∷ 0 ∷ [])) Count 10
    -- a variable of type 10 (R8)
    ∷ refused (node (1 ∷ 0 ∷ 10 ∷ [])) Code 8
    -- statements with the maps 1, 2 and 4: no count, so 2 and not 3 (R9)
    ∷ refused (node (0 ∷ 0 ∷ 1 ∷ 0 ∷ 1 ∷ [])) Code 10
    ∷ refused (node (0 ∷ 0 ∷ 1 ∷ 0 ∷ 2 ∷ [])) Code 10
    ∷ refused (node (0 ∷ 0 ∷ 1 ∷ 0 ∷ 4 ∷ [])) Code 10
    -- an assignment to variable 1 of a node with one variable (R10)
    ∷ refused (node (1 ∷ 0 ∷ 2 ∷ 1 ∷ 0 ∷ 3 ∷ 1 ∷ [])) Code 12
    -- kind 9 (R8)
    ∷ refused (condition (1 ∷ 0 ∷ 9 ∷ [])) Code 12
    -- an effect, a load and a cast of type 10 (R8)
    ∷ refused (condition (1 ∷ 0 ∷ 4 ∷ 10 ∷ [])) Code 13
    ∷ refused (condition (2 ∷ 0 ∷ 2 ∷ 5 ∷ 10 ∷ [])) Code 14
    ∷ refused (condition (2 ∷ 0 ∷ 2 ∷ 6 ∷ 10 ∷ [])) Code 14
    -- a constant of width 3 (R8)
    ∷ refused (condition (1 ∷ 0 ∷ 1 ∷ 3 ∷ [])) Code 13
    -- a variable of a node without variables (R10)
    ∷ refused (condition (1 ∷ 0 ∷ 0 ∷ 0 ∷ [])) Code 13
    -- a binary record that lacks its children (R18)
    ∷ refused (condition (1 ∷ 0 ∷ 7 ∷ 0 ∷ [])) Tree 12
    -- the same with operator 18 (R4)
    ∷ refused (condition (1 ∷ 0 ∷ 7 ∷ 18 ∷ [])) Code 13
    -- true and then false: two trees (R19)
    ∷ refused (condition (2 ∷ 0 ∷ 2 ∷ 3 ∷ [])) Tree 14
    -- a constant of width 1 and value 256 (R20)
    ∷ refused (condition (1 ∷ 0 ∷ 1 ∷ 1 ∷ 0 ∷ 1 ∷ 0 ∷ 0 ∷ 0 ∷ 0 ∷ 0 ∷ 0 ∷ [])) Constant 14
    -- a constant of width 1 and value 255 (R23)
    ∷ accepted (condition ((1 ∷ 0 ∷ 1 ∷ 1 ∷ []) ++ word 255 ++ (0 ∷ 0 ∷ []))) 0 2 0 4 1 6
    -- the constant 256 after true: two trees, and 7 is the lower number (R4)
    ∷ refused (condition (2 ∷ 0 ∷ 2 ∷ 1 ∷ 1 ∷ 0 ∷ 1 ∷ 0 ∷ 0 ∷ 0 ∷ 0 ∷ 0 ∷ 0 ∷ [])) Tree 23
    -- true, signed 32, for a variable of signed 8 (R21)
    ∷ refused (node (1 ∷ 0 ∷ 0 ∷ 1 ∷ 0 ∷ 3 ∷ 0 ∷ 1 ∷ 0 ∷ 2 ∷ [])) Typing 11
    -- a value of unsigned 64 for a pointer (R22)
    ∷ accepted (node (1 ∷ 0 ∷ 8 ∷ 1 ∷ 0 ∷ 3 ∷ 0 ∷ 1 ∷ 0 ∷ 4 ∷ 7 ∷ 1 ∷ 0 ∷ 2 ∷ 0 ∷ 0 ∷ [])) 0 2 0 4 1 6
    ∷ []
