-- Short sheets as bytes and the public answers for them, worked out by hand from docs/SHEET.md and the manual. Of the definitions only the answers
-- are used: nothing of reading, of the format's writing or of the machine's rules.
use Rattle.std.specs.Prelude.{ℕ, zero, suc, ◌+◌, ◌≡◌, List, [], ◌∷◌, ◌++◌, length, replicate}
use Rattle.sheet_bytes.specs.Write.{All}
use Rattle.verdict.specs.Numbers.{Numbers}
use Rattle.verdict.specs.Numbers.Numbers.{decision, undecided, no_branch, refused}
use Rattle.answer_block.specs.Block.{block_answer}
use Rattle.answer_node.specs.Node.{node_answer}
use Rattle.answer_listing.specs.Listing.{Listing, listing_of}
use Rattle.answer_listing.specs.Listing.ListedNumbers.{lines, refused as refused_listing}
use Rattle.answer_evaluation.specs.Evaluation.{Evaluated, evaluation_answer}
use Rattle.answer_evaluation.specs.Evaluation.Evaluated.{outcome, refused as refusal}

-- ---- fields

-- a number below 256 in 8 bytes (S1, S2)
abbrev word : ℕ → List ℕ
word n = n ∷ 0 ∷ 0 ∷ 0 ∷ 0 ∷ 0 ∷ 0 ∷ 0 ∷ []

-- operands: the code, then a register's class, index, size and offset (S17, S18)
abbrev pub al : List ℕ
al = 0 ∷ 1 ∷ 0 ∷ 8 ∷ 0 ∷ []

abbrev pub rax : List ℕ
rax = 0 ∷ 1 ∷ 0 ∷ 64 ∷ 0 ∷ []

abbrev pub rcx : List ℕ
rcx = 0 ∷ 1 ∷ 1 ∷ 64 ∷ 0 ∷ []

abbrev pub ecx : List ℕ
ecx = 0 ∷ 1 ∷ 1 ∷ 32 ∷ 0 ∷ []

abbrev pub cx : List ℕ
cx = 0 ∷ 1 ∷ 1 ∷ 16 ∷ 0 ∷ []

-- immediates: a number below 256, 2 to the 16, 2 to the 32, and 64 ones (S17)
abbrev pub imm : ℕ → List ℕ
imm n = (1 ∷ []) ++ word n

abbrev pub bit16 : List ℕ
bit16 = 1 ∷ 0 ∷ 0 ∷ 1 ∷ 0 ∷ 0 ∷ 0 ∷ 0 ∷ 0 ∷ []

abbrev bit32 : List ℕ
bit32 = 1 ∷ 0 ∷ 0 ∷ 0 ∷ 0 ∷ 1 ∷ 0 ∷ 0 ∷ 0 ∷ []

abbrev ones : List ℕ
ones = 1 ∷ 255 ∷ 255 ∷ 255 ∷ 255 ∷ 255 ∷ 255 ∷ 255 ∷ 255 ∷ []

-- ---- instructions, each at the address that it is given

abbrev pub Placed : Type 0
Placed = ℕ → List ℕ

-- map, address, mnemonic (S6)
abbrev start : (map mnemonic : ℕ) → Placed
start map mnemonic at = (map ∷ []) ++ word at ++ (mnemonic ∷ [])

-- no other field
abbrev bare : ℕ → Placed
bare mnemonic at = start 0 mnemonic at

-- a conditional branch, to 99 (S7)
abbrev pub jump : ℕ → Placed
jump mnemonic at = start 1 mnemonic at ++ word 99

-- one operand; one operand and all five flags declared; two operands (S9, S10, S12)
abbrev one : ℕ → List ℕ → Placed
one mnemonic first at = start 4 mnemonic at ++ first

abbrev declaring : ℕ → List ℕ → Placed
declaring mnemonic first at = start 36 mnemonic at ++ first ++ (31 ∷ [])

abbrev two : ℕ → List ℕ → List ℕ → Placed
two mnemonic first second at = start 12 mnemonic at ++ first ++ second

-- mnemonic 0, any other: declares flags; declares rcx as written; is call-like (S8, S11, S12, S22)
abbrev other : ℕ → Placed
other flags at = start 32 0 at ++ (flags ∷ [])

abbrev other_on_rcx : Placed
other_on_rcx at = start 16 0 at ++ (1 ∷ 0 ∷ 1 ∷ 1 ∷ 64 ∷ 0 ∷ [])

abbrev pub call : Placed
call at = start 2 0 at

-- mnemonics 1 to 15 (S22)
abbrev pub stc : Placed
stc = bare 1

abbrev pub clc : Placed
clc = bare 2

abbrev pub cmc : Placed
cmc = bare 3

abbrev pub mov : List ℕ → List ℕ → Placed
mov = two 4

abbrev not : List ℕ → Placed
not = one 5

abbrev pub add : List ℕ → List ℕ → Placed
add = two 6

abbrev pub sub : List ℕ → List ℕ → Placed
sub = two 7

abbrev pub cmp : List ℕ → List ℕ → Placed
cmp = two 8

abbrev pub and : List ℕ → List ℕ → Placed
and = two 9

abbrev pub or : List ℕ → List ℕ → Placed
or = two 10

abbrev pub xor : List ℕ → List ℕ → Placed
xor = two 11

abbrev pub test : List ℕ → List ℕ → Placed
test = two 12

abbrev pub inc : List ℕ → Placed
inc = declaring 13

abbrev pub dec : List ℕ → Placed
dec = declaring 14

abbrev pub neg : List ℕ → Placed
neg = declaring 15

-- the jumps that rows name; the table of conditions has 16 to 31 by number (S23, S24)
abbrev pub je : Placed
je = jump 16

abbrev pub jb : Placed
jb = jump 22

abbrev js : Placed
js = jump 26

abbrev jp : Placed
jp = jump 28

abbrev pub jo : Placed
jo = jump 30

abbrev pub jrcxz : Placed
jrcxz = jump 32

abbrev pub jecxz : Placed
jecxz = jump 33

abbrev pub jcxz : Placed
jcxz = jump 34

-- ---- blocks

-- instructions at one address after the other
unfoldable pub placed : ℕ → List Placed → List ℕ
placed at [] = []
placed at (i ∷ code) = i at ++ placed (suc at) code

-- a sheet of these instructions, one block over all of them, and no node (S3, S25)
abbrev pub sheet : List Placed → List ℕ
sheet code = (length code ∷ 0 ∷ []) ++ placed 0 code ++ (1 ∷ 0 ∷ []) ++ word 0 ++ word (length code) ++ (0 ∷ 0 ∷ [])

-- A row: instructions, the number of the block that is asked for, and the answer for it.
pub record BlockRow : Type 0 where
  pub code : List Placed
  pub number : ℕ
  pub answer : Numbers

-- block 0 is always, never, or undecided
abbrev always : List Placed → BlockRow
always code = record { code = code; number = 0; answer = decision 1 1 }

abbrev never : List Placed → BlockRow
never code = record { code = code; number = 0; answer = decision 0 1 }

abbrev either : List Placed → BlockRow
either code = record { code = code; number = 0; answer = undecided }

-- Instructions, each by what it leaves in a flag or in rcx for the jump after it. With the tables below, any two mnemonics exchanged change an
-- answer (S22, M6, M20, M22, M31).
unfoldable pub instructions : List BlockRow
instructions =
    always (stc ∷ jb ∷ [])
    ∷ never (clc ∷ jb ∷ [])
    ∷ never (stc ∷ cmc ∷ jb ∷ [])
    ∷ always (clc ∷ cmc ∷ jb ∷ [])
    ∷ always (mov rcx (imm 0) ∷ jrcxz ∷ [])
    ∷ always (mov rcx ones ∷ not rcx ∷ jrcxz ∷ [])
    ∷ always (mov rcx (imm 1) ∷ add rcx ones ∷ jrcxz ∷ [])
    ∷ never (mov rcx (imm 1) ∷ add rcx (imm 1) ∷ jrcxz ∷ [])
    ∷ always (mov rcx (imm 1) ∷ sub rcx (imm 1) ∷ jrcxz ∷ [])
    ∷ always (mov rcx (imm 1) ∷ sub rcx (imm 2) ∷ jb ∷ [])
    ∷ never (mov rcx (imm 1) ∷ cmp rcx (imm 1) ∷ jrcxz ∷ [])
    ∷ always (mov rcx (imm 1) ∷ cmp rcx (imm 1) ∷ je ∷ [])
    ∷ always (mov rcx (imm 1) ∷ and rcx (imm 2) ∷ jrcxz ∷ [])
    ∷ never (mov rcx (imm 0) ∷ or rcx (imm 2) ∷ jrcxz ∷ [])
    ∷ always (mov rcx (imm 3) ∷ xor rcx (imm 3) ∷ jrcxz ∷ [])
    ∷ never (mov rcx (imm 1) ∷ test rcx (imm 2) ∷ jrcxz ∷ [])
    ∷ always (mov rcx (imm 1) ∷ test rcx (imm 2) ∷ je ∷ [])
    ∷ always (mov rcx ones ∷ inc rcx ∷ jrcxz ∷ [])
    ∷ always (mov rcx (imm 1) ∷ dec rcx ∷ jrcxz ∷ [])
    ∷ always (mov rcx (imm 1) ∷ neg rcx ∷ jb ∷ [])
    ∷ never (mov rcx (imm 0) ∷ neg rcx ∷ jb ∷ [])
    -- a call-like instruction, a declared register, a conditional branch that is no jump, no branch at the end
    ∷ either (stc ∷ call ∷ jb ∷ [])
    ∷ either (mov rcx (imm 0) ∷ other_on_rcx ∷ jrcxz ∷ [])
    ∷ either (xor rax rax ∷ jump 0 ∷ [])
    ∷ record { code = stc ∷ []; number = 0; answer = no_branch }
    -- there is no block 1
    ∷ record { code = stc ∷ jb ∷ []; number = 1; answer = refused 13 0 }
    ∷ []

-- the jumps from a number on after `mov rax, a` and `cmp al, b`: 1 for one that jumps, 0 for one that does not
unfoldable pub compared : (a b number : ℕ) → List ℕ → List BlockRow
compared a b number [] = []
compared a b number (jumps ∷ rest) =
    record { code = mov rax (imm a) ∷ cmp al (imm b) ∷ jump number ∷ []; number = 0; answer = decision jumps 1 } ∷ compared a b (suc number) rest

-- The conditions of the jumps 16 to 31, for six settings of the flags (S23, M18).
unfoldable pub conditions : List BlockRow
conditions =
    -- e ne l ge le g b ae be a s ns p np o no; PF and ZF are set
    compared 1 1 16 (1 ∷ 0 ∷ 0 ∷ 1 ∷ 1 ∷ 0 ∷ 0 ∷ 1 ∷ 1 ∷ 0 ∷ 0 ∷ 1 ∷ 1 ∷ 0 ∷ 0 ∷ 1 ∷ [])
    -- CF, PF and SF are set
    ++ compared 0 1 16 (0 ∷ 1 ∷ 1 ∷ 0 ∷ 1 ∷ 0 ∷ 1 ∷ 0 ∷ 1 ∷ 0 ∷ 1 ∷ 0 ∷ 1 ∷ 0 ∷ 0 ∷ 1 ∷ [])
    -- none is set
    ++ compared 1 0 16 (0 ∷ 1 ∷ 0 ∷ 1 ∷ 0 ∷ 1 ∷ 0 ∷ 1 ∷ 0 ∷ 1 ∷ 0 ∷ 1 ∷ 0 ∷ 1 ∷ 0 ∷ 1 ∷ [])
    -- OF is set
    ++ compared 128 1 16 (0 ∷ 1 ∷ 1 ∷ 0 ∷ 1 ∷ 0 ∷ 0 ∷ 1 ∷ 0 ∷ 1 ∷ 0 ∷ 1 ∷ 0 ∷ 1 ∷ 1 ∷ 0 ∷ [])
    -- CF, PF, SF and OF are set
    ++ compared 127 128 16 (0 ∷ 1 ∷ 0 ∷ 1 ∷ 0 ∷ 1 ∷ 1 ∷ 0 ∷ 1 ∷ 0 ∷ 1 ∷ 0 ∷ 1 ∷ 0 ∷ 1 ∷ 0 ∷ [])
    -- CF is set
    ++ compared 1 255 16 (0 ∷ 1 ∷ 0 ∷ 1 ∷ 0 ∷ 1 ∷ 1 ∷ 0 ∷ 1 ∷ 0 ∷ 0 ∷ 1 ∷ 0 ∷ 1 ∷ 0 ∷ 1 ∷ [])

-- The count-register jumps: 64, 32 and 16 bits of rcx (S24, M19).
unfoldable pub counters : List BlockRow
counters =
    never (mov rcx bit32 ∷ jrcxz ∷ [])
    ∷ always (mov rcx bit32 ∷ jecxz ∷ [])
    ∷ never (mov rcx bit16 ∷ jecxz ∷ [])
    ∷ always (mov rcx bit16 ∷ jcxz ∷ [])
    ∷ []

-- Each declared flag, by its bit: all five are known, PF and ZF set; declared, a flag is not known any more, and where the other four are declared it
-- still is (S12, M17).
unfoldable pub flags : List BlockRow
flags =
    -- CF
    either (xor rax rax ∷ other 1 ∷ jb ∷ [])
    ∷ never (xor rax rax ∷ other 30 ∷ jb ∷ [])
    -- PF
    ∷ either (xor rax rax ∷ other 2 ∷ jp ∷ [])
    ∷ always (xor rax rax ∷ other 29 ∷ jp ∷ [])
    -- ZF
    ∷ either (xor rax rax ∷ other 4 ∷ je ∷ [])
    ∷ always (xor rax rax ∷ other 27 ∷ je ∷ [])
    -- SF
    ∷ either (xor rax rax ∷ other 8 ∷ js ∷ [])
    ∷ never (xor rax rax ∷ other 23 ∷ js ∷ [])
    -- OF
    ∷ either (xor rax rax ∷ other 16 ∷ jo ∷ [])
    ∷ never (xor rax rax ∷ other 15 ∷ jo ∷ [])
    ∷ []

-- What is known where a register is not (M7, M8, M9, M12, M13, M14, M15, M16).
unfoldable pub unknowns : List BlockRow
unknowns =
    -- and, or, xor, test with an unknown operand clear CF and OF
    never (and rax (imm 1) ∷ jb ∷ [])
    ∷ never (or rax (imm 1) ∷ jb ∷ [])
    ∷ never (xor rax (imm 1) ∷ jb ∷ [])
    ∷ never (test rax (imm 1) ∷ jb ∷ [])
    ∷ never (and rax (imm 1) ∷ jo ∷ [])
    ∷ never (or rax (imm 1) ∷ jo ∷ [])
    ∷ never (xor rax (imm 1) ∷ jo ∷ [])
    ∷ never (test rax (imm 1) ∷ jo ∷ [])
    -- and forget the other flags
    ∷ either (xor rcx rcx ∷ and rax (imm 1) ∷ je ∷ [])
    ∷ either (xor rcx rcx ∷ or rax (imm 1) ∷ js ∷ [])
    ∷ either (xor rcx rcx ∷ xor rax (imm 1) ∷ jp ∷ [])
    ∷ either (xor rcx rcx ∷ test rax (imm 1) ∷ je ∷ [])
    -- add, sub, cmp forget all five
    ∷ either (stc ∷ add rax (imm 1) ∷ jb ∷ [])
    ∷ either (stc ∷ sub rax (imm 1) ∷ jb ∷ [])
    ∷ either (stc ∷ cmp rax (imm 1) ∷ jb ∷ [])
    -- inc and dec keep CF, neg does not
    ∷ always (stc ∷ inc rax ∷ jb ∷ [])
    ∷ always (stc ∷ dec rax ∷ jb ∷ [])
    ∷ either (stc ∷ neg rax ∷ jb ∷ [])
    -- xor, sub, cmp of a register with itself settle the flags; test does not
    ∷ always (xor rax rax ∷ je ∷ [])
    ∷ always (sub rax rax ∷ je ∷ [])
    ∷ always (cmp rax rax ∷ je ∷ [])
    ∷ either (test rax rax ∷ je ∷ [])
    -- 32 bits written clear the upper half, 16 bits leave an unknown register unknown, an unknown value makes it so
    ∷ always (mov ecx (imm 0) ∷ jrcxz ∷ [])
    ∷ either (mov cx (imm 0) ∷ jcxz ∷ [])
    ∷ either (mov rcx (imm 0) ∷ mov rcx rax ∷ jrcxz ∷ [])
    ∷ []

-- The rows of blocks together.
unfoldable pub block_rows : List BlockRow
block_rows = instructions ++ conditions ++ counters ++ flags ++ unknowns

-- ---- nodes

-- records of an expression: a variable, a constant of one byte, true, false, an effect and a load of unsigned 8, a binary (S37, S38, S39, S40, S41, S43)
abbrev variable : ℕ → List ℕ
variable number = 0 ∷ number ∷ []

abbrev constant : ℕ → List ℕ
constant value = (1 ∷ 1 ∷ []) ++ word value

abbrev yes : List ℕ
yes = 2 ∷ []

abbrev no : List ℕ
no = 3 ∷ []

abbrev effect : List ℕ
effect = 4 ∷ 4 ∷ []

abbrev load : List ℕ
load = 5 ∷ 4 ∷ []

abbrev binary : ℕ → List ℕ
binary operator = 7 ∷ operator ∷ []

unfoldable pub joined : List (List ℕ) → List ℕ
joined [] = []
joined (r ∷ rest) = r ++ joined rest

-- how many there are, and then each
abbrev counted : List (List ℕ) → List ℕ
counted l = (length l ∷ 0 ∷ []) ++ joined l

-- a node: types, statements, the condition's records, and no address (S27, S28, S29, S30)
abbrev node : List (List ℕ) → List (List ℕ) → List (List ℕ) → List ℕ
node types statements condition = counted types ++ counted statements ++ counted condition ++ (0 ∷ 0 ∷ [])

-- a sheet without instructions, with one block and two nodes: one of 9 bytes at 22, whose condition is true, and this one, at 31 (S3)
abbrev pub with_node : List ℕ → List ℕ
with_node n = (0 ∷ 0 ∷ 1 ∷ 0 ∷ []) ++ word 0 ++ word 0 ++ (2 ∷ 0 ∷ []) ++ node [] [] (yes ∷ []) ++ n

-- an assignment of these records to a variable, and a statement that is none (S31, S32)
abbrev assign : ℕ → List (List ℕ) → List ℕ
assign number value = (3 ∷ number ∷ []) ++ counted value

abbrev anything : List ℕ
anything = 0 ∷ []

-- A row: a node, the number of the node that is asked for, and the answer for it.
pub record NodeRow : Type 0 where
  pub node : List ℕ
  pub number : ℕ
  pub answer : Numbers

-- each of eight unsigned 32 variables is the sum of the one before it with itself, so that variable 6 has 127 records and variable 7 has 255
abbrev twice : ℕ → ℕ → List ℕ
twice number before = assign number (variable before ∷ variable before ∷ binary 0 ∷ [])

abbrev chain : List (List ℕ) → List (List ℕ) → List ℕ
chain last condition =
    node (replicate 8 (6 ∷ []))
    (twice 1 0 ∷ twice 2 1 ∷ twice 3 2 ∷ twice 4 3 ∷ twice 5 4 ∷ twice 6 5 ∷ last) condition

-- v + 1, and the product of that and n more, one for each variable after v: 2 to the (n + 1) terms
abbrev odd : ℕ → List (List ℕ)
odd v = variable v ∷ constant 1 ∷ binary 0 ∷ []

unfoldable pub odds : (n v : ℕ) → List (List ℕ)
odds zero v = odd v
odds (suc n) v = odds n v ++ odd (suc n + v) ++ (binary 2 ∷ [])

-- two factors over unsigned 32 variables, their product compared with 0
abbrev product : List (List ℕ) → List (List ℕ) → List ℕ
product left right =
    node (replicate 13 (6 ∷ [])) []
    (left ++ right ++ (binary 2 ∷ constant 0 ∷ binary 10 ∷ []))

-- The node verdict: its refusals with their offsets (N25, N26, N27, N30).
unfoldable pub node_rows : List NodeRow
node_rows =
    -- there is no node 2
    record { node = node [] [] (yes ∷ []); number = 2; answer = refused 13 0 }
    -- a value of 127 records, one of 255, and a condition of 255
    ∷ record { node = chain [] (yes ∷ []); number = 1; answer = decision 1 3 }
    ∷ record { node = chain (twice 7 6 ∷ []) (yes ∷ []); number = 1; answer = refused 10 31 }
    ∷ record { node = chain [] (variable 6 ∷ variable 6 ∷ binary 10 ∷ []); number = 1; answer = refused 10 31 }
    -- 64 times 65 terms; 256 terms; 272 terms
    ∷ record { node = product (odds 5 0) (odds 5 6 ++ (variable 12 ∷ binary 0 ∷ [])); number = 1; answer = refused 11 31 }
    ∷ record { node = product (odds 3 0) (odds 3 6); number = 1; answer = undecided }
    ∷ record { node = product (odds 3 0) (odds 3 6 ++ (variable 12 ∷ binary 0 ∷ [])); number = 1; answer = refused 11 31 }
    ∷ []

-- A row: a node, the number of the node that is asked for, values, and the answer of the evaluation.
pub record EvaluationRow : Type 0 where
  pub node : List ℕ
  pub number : ℕ
  pub values : List ℕ
  pub answer : Evaluated

-- variables of unsigned 8, unsigned 16 and bool; and 1 / variable 0, of two of unsigned 8
abbrev three : List ℕ
three = node ((4 ∷ []) ∷ (5 ∷ []) ∷ (9 ∷ []) ∷ []) [] (yes ∷ [])

abbrev quotient : List ℕ
quotient = node ((4 ∷ []) ∷ (4 ∷ []) ∷ []) [] (constant 1 ∷ variable 0 ∷ binary 3 ∷ [])

-- The evaluation: its refusals with their offsets, 16 with the variable's number (E2, E3, E4, E5, E6, E7, E8).
unfoldable pub evaluation_rows : List EvaluationRow
evaluation_rows =
    -- there is no node 2
    record { node = three; number = 2; values = []; answer = refusal 13 0 }
    -- an effect, a load, a 0-statement; 15 comes before 16
    ∷ record { node = node [] [] (effect ∷ []); number = 1; values = []; answer = refusal 15 31 }
    ∷ record { node = node [] [] (constant 0 ∷ load ∷ []); number = 1; values = []; answer = refusal 15 31 }
    ∷ record { node = node ((4 ∷ []) ∷ []) (anything ∷ []) (yes ∷ []); number = 1; values = []; answer = refusal 15 31 }
    -- values: none; one; too wide, the lowest variable first; as wide as may be, and one more
    ∷ record { node = three; number = 1; values = []; answer = refusal 16 0 }
    ∷ record { node = three; number = 1; values = 255 ∷ []; answer = refusal 16 1 }
    ∷ record { node = three; number = 1; values = 256 ∷ []; answer = refusal 16 0 }
    ∷ record { node = three; number = 1; values = 255 ∷ 65_536 ∷ 2 ∷ []; answer = refusal 16 1 }
    ∷ record { node = three; number = 1; values = 255 ∷ 65_535 ∷ 2 ∷ []; answer = refusal 16 2 }
    ∷ record { node = three; number = 1; values = 255 ∷ 65_535 ∷ 1 ∷ 256 ∷ []; answer = outcome 1 }
    -- 1 / 0, 1 / 1 and 1 / 2; 16 comes before 14
    ∷ record { node = quotient; number = 1; values = 0 ∷ 0 ∷ []; answer = refusal 14 31 }
    ∷ record { node = quotient; number = 1; values = 1 ∷ 0 ∷ []; answer = outcome 1 }
    ∷ record { node = quotient; number = 1; values = 2 ∷ 0 ∷ []; answer = outcome 0 }
    ∷ record { node = quotient; number = 1; values = 0 ∷ []; answer = refusal 16 1 }
    ∷ []

-- ---- listings

-- A row: a sheet, the caller's list, and what the listing gives: its answer and the list after it.
pub record ListingRow : Type 0 where
  pub bytes : List ℕ
  pub list : List ℕ
  pub gives : Listing

-- a node without variables and statements: the record of its condition, and its addresses
abbrev at : List ℕ → List (List ℕ) → List ℕ
at condition addresses = (0 ∷ 0 ∷ 0 ∷ 0 ∷ 1 ∷ 0 ∷ []) ++ condition ++ counted addresses

-- xor eax, eax at 16, je to 32 at 18, one block, from 16 to 20, and these nodes: 60 bytes without any
abbrev first : List (List ℕ) → List ℕ
first nodes =
    (2 ∷ 0 ∷ []) ++ two 11 (0 ∷ 1 ∷ 0 ∷ 32 ∷ 0 ∷ []) (0 ∷ 1 ∷ 0 ∷ 32 ∷ 0 ∷ []) 16 ++ start 1 16 18 ++ word 32 ++ (1 ∷ 0 ∷ []) ++ word 16 ++ word 20
    ++ counted nodes

-- jb at 0, je at 1 and stc at 2, no block, and these nodes
abbrev jumps : List (List ℕ) → List ℕ
jumps nodes = (3 ∷ 0 ∷ []) ++ jb 0 ++ je 1 ++ stc 2 ++ (0 ∷ 0 ∷ []) ++ counted nodes

abbrev sevens : List ℕ
sevens = 7 ∷ 7 ∷ 7 ∷ 7 ∷ 7 ∷ 7 ∷ 7 ∷ 7 ∷ 7 ∷ 7 ∷ 7 ∷ 7 ∷ 7 ∷ 7 ∷ 7 ∷ 7 ∷ 7 ∷ []

-- The listing: lines, their bytes, and 12 (L1, L2, L4, L6, L9, S33, T15).
unfoldable pub listing_rows : List ListingRow
listing_rows =
    -- the site 18, the target 32, always by flags; the rest of the list stays
    record {
      bytes = first [];
      list = sevens ++ (7 ∷ 8 ∷ 9 ∷ []);
      gives = record { answer = lines 1; list = word 18 ++ word 32 ++ (1 ∷ 1 ∷ 8 ∷ 9 ∷ []) };
    }
    -- 17 bytes are one too few; the offset is the sheet's length
    ∷ record { bytes = first []; list = sevens; gives = record { answer = refused_listing 12 60; list = sevens } }
    -- a node, never, at the block's branch: the block gives the line
    ∷ record {
      bytes = first (at no (word 18 ∷ []) ∷ []);
      list = sevens ++ (7 ∷ []);
      gives = record { answer = lines 1; list = word 18 ++ word 32 ++ (1 ∷ 1 ∷ []) };
    }
    -- of 1, 0 and 2 the last branch is 0; the earlier of two nodes gives the line, always as its condition is true
    ∷ record {
      bytes = jumps (at yes (word 1 ∷ word 0 ∷ word 2 ∷ []) ∷ at no (word 0 ∷ []) ∷ []);
      list = sevens ++ (7 ∷ []);
      gives = record { answer = lines 1; list = word 0 ++ word 99 ++ (1 ∷ 3 ∷ []) };
    }
    ∷ []

-- Every row is as the definitions answer.
pub record Worked : Type 0 where
  pub blocks : All (λ (r : BlockRow). block_answer (sheet r.code) r.number ≡ r.answer) block_rows
  pub nodes : All (λ (r : NodeRow). node_answer (with_node r.node) r.number ≡ r.answer) node_rows
  pub evaluations : All (λ (r : EvaluationRow). evaluation_answer (with_node r.node) r.number r.values ≡ r.answer) evaluation_rows
  pub listings : All (λ (r : ListingRow). listing_of r.bytes r.list ≡ r.gives) listing_rows
