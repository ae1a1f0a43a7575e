-- What the flags say of a jump, with the text: what the Rust's `holds` and `in_flags` yield.
use Rattle.std.specs.Prelude.{ℕ, Bool, true, false, not, ◌&&◌, ◌||◌, List, [], eqb, Option, Some, None}
use Rattle.isa.specs.declared.Condition.{Condition}
use Rattle.isa.specs.declared.Condition.TheVariants.{E, Ne, L, Ge, Le, G, B, Ae, Be, A, S, Ns, P, Np, O, No}
use Rattle.isa.specs.declared.Register.{Register}
use Rattle.isa.specs.declared.Mnemonic.{Mnemonic}
use Rattle.isa.specs.declared.Mnemonic.TheVariants.{Other, Carry, Mov, Not, TwoOperand, OneOperand, Jump, CountJump}
use Rattle.alu.specs.declared.Flags.{Flags}
use Rattle.machine.specs.declared.State.{State}
use Rattle.machine.specs.Registers.{read_of}
use Rattle.machine.specs.Conditions.{count_register}
use Rattle.phrase.specs.Causes.{value_text}
use Rattle.sentence_text.specs.Sentence.{joined}
use Rattle.sentence.specs.Why.{Why}

-- Set or clear with a text, or unknown.
pub data Told : Type 0 where
  known : (set : Bool) (text : List ℕ) → Told
  unknown : Told

-- a flag with its text
abbrev pub flag_told : Option Bool → List ℕ → Told
flag_told (Some b) text = known b text
flag_told None text = unknown

-- the opposite has the same text (W13)
abbrev pub opposite : Told → Told
opposite (known b text) = known (not b) text
opposite unknown = unknown

-- one set and the other clear: both are told (W14)
abbrev pub differ : Told → Told → Told
differ (known a x) (known b y) = known (a && not b || not a && b) (joined x y)
differ (known a x) unknown = unknown
differ unknown g = unknown

-- One of the two is set: the first that is set is told alone; where both are clear, both are (W14).
abbrev pub either : Told → Told → Told
either (known true x) g = known true x
either (known false x) (known true y) = known true y
either (known false x) (known false y) = known false (joined x y)
either (known false x) unknown = unknown
either unknown (known true y) = known true y
either unknown (known false y) = unknown
either unknown unknown = unknown

-- both are set: not that one of them is clear (W14)
abbrev pub both : Told → Told → Told
both f g = opposite (either (opposite f) (opposite g))

-- The condition of a jump on flags, case by case as the Rust's `holds` has it (W13, W14).
unfoldable pub flags_told : Condition → (cf pf zf sf of : Told) → Told
flags_told E cf pf zf sf of = zf
flags_told Ne cf pf zf sf of = opposite zf
flags_told L cf pf zf sf of = differ sf of
flags_told Ge cf pf zf sf of = opposite (differ sf of)
flags_told Le cf pf zf sf of = either zf (differ sf of)
flags_told G cf pf zf sf of = both (opposite zf) (opposite (differ sf of))
flags_told B cf pf zf sf of = cf
flags_told Ae cf pf zf sf of = opposite cf
flags_told Be cf pf zf sf of = either cf zf
flags_told A cf pf zf sf of = both (opposite cf) (opposite zf)
flags_told S cf pf zf sf of = sf
flags_told Ns cf pf zf sf of = opposite sf
flags_told P cf pf zf sf of = pf
flags_told Np cf pf zf sf of = opposite pf
flags_told O cf pf zf sf of = of
flags_told No cf pf zf sf of = opposite of

unfoldable pub condition_told : Condition → Flags → Why → Told
condition_told c f w =
    flags_told c (flag_told f.cf w.cf) (flag_told f.pf w.pf) (flag_told f.zf w.zf) (flag_told f.sf w.sf)
    (flag_told f.of w.of)

-- A count-register jump tells the value that it reads, under the name of that part (W15).
abbrev pub count_told : Register → Option ℕ → Told
count_told r (Some x) = known (eqb x 0) (value_text r x)
count_told r None = unknown

-- What is told of a conditional branch; one that has no jump's mnemonic is never decided (W13, W15).
unfoldable pub told_of : State → Why → Mnemonic → Told
told_of s w Other = unknown
told_of s w (Carry c) = unknown
told_of s w Mov = unknown
told_of s w Not = unknown
told_of s w (TwoOperand op) = unknown
told_of s w (OneOperand op) = unknown
told_of s w (Jump c) = condition_told c s.flags w
told_of s w (CountJump c) = count_told (count_register c) (read_of s (count_register c))

-- the sentence: nothing where nothing is decided (W16)
abbrev pub sentence_of : Told → List ℕ
sentence_of (known b text) = text
sentence_of unknown = []
