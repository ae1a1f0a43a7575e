-- Every known flag has a text, from a block's start on, so what is told of a branch that is decided is not empty.
use Prim.Native.Nat.{ℕ}
use mathlib.Core.Path.{◌≡◌, refl}
use mathlib.Core.Logic.{◌↔◌}
use mathlib.Core.Bool.{Bool, true, false}
use mathlib.Core.List.{List, [], ◌∷◌}
use Rattle.isa.specs.declared.Register.{Register}
use Rattle.isa.specs.declared.Condition.{Condition}
use Rattle.isa.specs.declared.Condition.TheVariants.{E, Ne, L, Ge, Le, G, B, Ae, Be, A, S, Ns, P, Np, O, No}
use Rattle.isa.specs.declared.Mnemonic.{Mnemonic}
use Rattle.isa.specs.declared.Mnemonic.TheVariants.{Other, Carry, Mov, Not, TwoOperand, OneOperand, Jump, CountJump}
use Rattle.isa.specs.declared.Instruction.{Instruction}
use Rattle.alu.specs.declared.Flags.{Flags}
use Rattle.alu.specs.Flags as flags
use Rattle.std.proofs.Common.{Option, Some, None}
use Rattle.known.specs.Operations.{no_flags}
use Rattle.machine.specs.declared.State.{State}
use Rattle.machine.specs.Registers.{nothing_known, read_of}
use Rattle.machine.specs.Conditions.{count_register, condition_of}
use Rattle.machine.specs.Rules.{stepped, stepped_all}
use Rattle.sentence_text.specs.Sentence.{turned}
use Rattle.sentence.specs.Why.{Why, why_stepped, why_stepped_all, no_why}
use Rattle.sentence.specs.Told.{Told, flag_told, opposite, differ, either, both, flags_told, condition_told, count_told, told_of, sentence_of}
use Rattle.sentence.specs.Told.Told.{known, unknown}
use Rattle.sentence.proofs.Decided.{without, told-without}
use Rattle.sentence.proofs.Texts.{NotEmpty, not-empty, behind-any, joined-some, value-some}
use Rattle.sentence.proofs.Changes.{Way, Change, changed}
use Rattle.sentence.proofs.Changes.Change.{unknown as becomes-unknown, set, stays, kept, round}

-- ---- flags

-- a text for a flag that is known
pub data HasText : Option Bool → List ℕ → Type 0 where
  given : {b : Bool} {text : List ℕ} → NotEmpty text → HasText (Some b) text
  no-need : {text : List ℕ} → HasText None text

-- a text for each flag that is known
pub record Filled (f : Flags) (w : Why) : Type 0 where
  pub cf : HasText f.cf w.cf
  pub pf : HasText f.pf w.pf
  pub zf : HasText f.zf w.zf
  pub sf : HasText f.sf w.sf
  pub of : HasText f.of w.of

has_some : (f : Option Bool) {text : List ℕ} → NotEmpty text → HasText f text
has_some (Some b) some = given some
has_some None some = no-need

filled_none : (w : Why) → Filled no_flags w
filled_none w = record { cf = no-need; pf = no-need; zf = no-need; sf = no-need; of = no-need }

-- ---- instructions

-- what an instruction makes of a flag and its text
has-still : {way : Way} {own : List ℕ} {lacks : Bool} {f g : Option Bool} {old new : List ℕ} → Change way own lacks f old g new → HasText f old → HasText g new
has-still becomes-unknown h = no-need
has-still (set some) h = has_some _ some
has-still stays h = h
has-still kept h = h
has-still (round {f = f} {old = old}) h = has_some (flags.opposite f) (behind-any old turned not-empty)

stepped-filled : (s : State) (w : Why) (i : Instruction) → Filled s.flags w → Filled (stepped s i).flags (why_stepped s w i)
stepped-filled s w i h =
    let c = changed s w i in
    record {
      cf = has-still c.cf h.cf;
      pf = has-still c.pf h.pf;
      zf = has-still c.zf h.zf;
      sf = has-still c.sf h.sf;
      of = has-still c.of h.of;
    }

all-filled : (s : State) (w : Why) (code : List Instruction) → Filled s.flags w → Filled (stepped_all s code).flags (why_stepped_all s w code)
unfolding stepped_all why_stepped_all
all-filled s w [] h = h
all-filled s w (i ∷ code) h = all-filled (stepped s i) (why_stepped s w i) code (stepped-filled s w i h)

-- Nothing is known at a block's start, so every flag that instructions make known has a text.
pub from_start : (code : List Instruction) → Filled (stepped_all nothing_known code).flags (why_stepped_all nothing_known no_why code)
unfolding nothing_known
from_start code = all-filled nothing_known no_why code (filled_none no_why)

-- ---- what is told

-- it has a text where it is known
data SaysSome : Told → Type 0 where
  tells : {b : Bool} {text : List ℕ} → NotEmpty text → SaysSome (known b text)
  silent : SaysSome unknown

flag-says : {f : Option Bool} {text : List ℕ} → HasText f text → SaysSome (flag_told f text)
flag-says (given some) = tells some
flag-says no-need = silent

opposite-says : {t : Told} → SaysSome t → SaysSome (opposite t)
opposite-says (tells some) = tells some
opposite-says silent = silent

differ-says : {t u : Told} → SaysSome t → SaysSome u → SaysSome (differ t u)
differ-says (tells {text = x} some) (tells {text = y} other) = tells (joined-some x y some)
differ-says (tells some) silent = silent
differ-says silent k = silent

either-says : {t u : Told} → SaysSome t → SaysSome u → SaysSome (either t u)
either-says (tells {b = true} some) k = tells some
either-says (tells {b = false} some) (tells {b = true} other) = tells other
either-says (tells {b = false} {text = x} some) (tells {b = false} {text = y} other) = tells (joined-some x y some)
either-says (tells {b = false} some) silent = silent
either-says silent (tells {b = true} other) = tells other
either-says silent (tells {b = false} other) = silent
either-says silent silent = silent

both_say : {t u : Told} → SaysSome t → SaysSome u → SaysSome (both t u)
both_say h k = opposite-says (either-says (opposite-says h) (opposite-says k))

flags-say : (condition : Condition) {cf pf zf sf of : Told} → SaysSome cf → SaysSome pf → SaysSome zf → SaysSome sf → SaysSome of
    → SaysSome (flags_told condition cf pf zf sf of)
unfolding flags_told
flags-say E c p z s o = z
flags-say Ne c p z s o = opposite-says z
flags-say L c p z s o = differ-says s o
flags-say Ge c p z s o = opposite-says (differ-says s o)
flags-say Le c p z s o = either-says z (differ-says s o)
flags-say G c p z s o = both_say (opposite-says z) (opposite-says (differ-says s o))
flags-say B c p z s o = c
flags-say Ae c p z s o = opposite-says c
flags-say Be c p z s o = either-says c z
flags-say A c p z s o = both_say (opposite-says c) (opposite-says z)
flags-say S c p z s o = s
flags-say Ns c p z s o = opposite-says s
flags-say P c p z s o = p
flags-say Np c p z s o = opposite-says p
flags-say O c p z s o = o
flags-say No c p z s o = opposite-says o

condition-says : (c : Condition) (f : Flags) (w : Why) → Filled f w → SaysSome (condition_told c f w)
unfolding condition_told
condition-says c f w h = flags-say c (flag-says h.cf) (flag-says h.pf) (flag-says h.zf) (flag-says h.sf) (flag-says h.of)

count-says : (r : Register) (v : Option ℕ) → SaysSome (count_told r v)
count-says r (Some x) = tells (value-some r x)
count-says r None = silent

-- What is told of a branch has a text where it is known.
told-says : (s : State) (w : Why) (m : Mnemonic) → Filled s.flags w → SaysSome (told_of s w m)
unfolding told_of
told-says s w Other h = silent
told-says s w (Carry c) h = silent
told-says s w Mov h = silent
told-says s w Not h = silent
told-says s w (TwoOperand op) h = silent
told-says s w (OneOperand op) h = silent
told-says s w (Jump c) h = condition-says c s.flags w h
told-says s w (CountJump c) h = count-says (count_register c) (read_of s (count_register c))

-- So there is no sentence exactly where the condition is not known.
pub empty-unknown : (s : State) (w : Why) (m : Mnemonic) → Filled s.flags w → (sentence_of (told_of s w m) ≡ []) ↔ (condition_of s m ≡ None)
empty-unknown s w m h = rw (← told-without s w m) (go (told-says s w m h))
  where
    go : {t : Told} → SaysSome t → (sentence_of t ≡ []) ↔ (without t ≡ None)
    go (tells some) = (λ e. absurd (some e), λ e. cc)
    go silent = (λ e. refl, λ e. refl)
