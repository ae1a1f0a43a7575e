-- The numbers of refusals.
use Rattle.std.specs.Prelude.{ℕ}
use Rattle.refusal.specs.declared.Fault.{Fault}
use Rattle.refusal.specs.declared.Fault.TheVariants.{Ends, Code, Count, Address, Register, Instruction, Tree, Constant, Typing, Records, Terms, Room, Number, Division, NotPlain, Value, Text}
use Rattle.refusal.specs.declared.Refusal.{Refusal}

-- The number by which the documents name each fault.
abbrev pub number_of : Fault → ℕ
-- The sheet ends inside a field, or bytes are left over after its last record (R6, R7).
number_of Ends = 1
-- A code, a map or a variable number that is not in its table (R8, R9, R10).
number_of Code = 2
-- A count outside its limits (R11).
number_of Count = 3
-- An instruction's address is not above the one before (R12).
number_of Address = 4
-- A class 1 register that is not well formed (R13).
number_of Register = 5
-- Operands or declared flags that a modelled instruction cannot have (R14, R15, R16).
number_of Instruction = 6
-- Records that do not form one tree (R18, R19).
number_of Tree = 7
-- A constant above its width (R20).
number_of Constant = 8
-- An assignment whose value has not its variable's type (R21).
number_of Typing = 9
-- A substituted value or condition of more than 128 records (N26).
number_of Records = 10
-- An equality that passes the limits on terms (N28, N29, N30, N31).
number_of Terms = 11
-- A list that is too short for the lines (L9).
number_of Room = 12
-- No block, or node, of that number (M31, N25, E3).
number_of Number = 13
-- A run that divides by zero (E7).
number_of Division = 14
-- An effect, a load or a statement that assigns nothing, in a node to be evaluated (E4).
number_of NotPlain = 15
-- No value for a variable, or one that its type cannot hold (E5).
number_of Value = 16
-- A text that is too short for the sentence; its offset is the length needed (W17).
number_of Text = 17

-- a refusal with its fault and its offset
abbrev pub refused : Fault → ℕ → Refusal
refused fault at = record { fault = fault; at = at }
