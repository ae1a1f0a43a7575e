-- What is told of a jump, without the text, is the machine's condition of it.
use mathlib.Core.Path.{◌≡◌, refl, ◌∙◌}
use mathlib.Core.Bool.{Bool, true, false}
use mathlib.Core.List.{List}
use Prim.Native.Nat.{ℕ}
use Rattle.isa.specs.declared.Condition.{Condition}
use Rattle.isa.specs.declared.Condition.TheVariants.{E, Ne, L, Ge, Le, G, B, Ae, Be, A, S, Ns, P, Np, O, No}
use Rattle.isa.specs.declared.Register.{Register}
use Rattle.isa.specs.declared.Mnemonic.{Mnemonic}
use Rattle.isa.specs.declared.Mnemonic.TheVariants.{Other, Carry, Mov, Not, TwoOperand, OneOperand, Jump, CountJump}
use Rattle.std.specs.Prelude.{Option, Some, None}
use Rattle.alu.specs.declared.Flags.{Flags}
use Rattle.alu.specs.Flags as flags
use Rattle.known.specs.Conditions.{flag_condition, is_zero}
use Rattle.machine.specs.declared.State.{State}
use Rattle.machine.specs.Registers.{read_of}
use Rattle.machine.specs.Conditions.{count_register, condition_of}
use Rattle.sentence.specs.Why.{Why}
use Rattle.sentence.specs.Told.{Told, flag_told, opposite, differ, either, flags_told, condition_told, count_told, told_of}
use Rattle.sentence.specs.Told.Told.{known, unknown}

-- without the text
abbrev pub without : Told → Option Bool
without (known b text) = Some b
without unknown = None

flag-without : (f : Option Bool) (text : List ℕ) → without (flag_told f text) ≡ f
flag-without (Some b) text = refl
flag-without None text = refl

opposite-without : (t : Told) → without (opposite t) ≡ flags.opposite (without t)
opposite-without (known b text) = refl
opposite-without unknown = refl

differ-without : (t u : Told) → without (differ t u) ≡ flags.differ (without t) (without u)
differ-without (known a x) (known b y) = refl
differ-without (known a x) unknown = refl
differ-without unknown u = refl

either-without : (t u : Told) → without (either t u) ≡ flags.either (without t) (without u)
either-without (known true x) u = refl
either-without (known false x) (known true y) = refl
either-without (known false x) (known false y) = refl
either-without (known false x) unknown = refl
either-without unknown (known true y) = refl
either-without unknown (known false y) = refl
either-without unknown unknown = refl

-- What is told by flags, each known or not as the flag is, is known or not as the condition is.
flags-without : (c : Condition) (cf pf zf sf of : Told)
    → without (flags_told c cf pf zf sf of)
    ≡ flag_condition c (record { cf = without cf; pf = without pf; zf = without zf; sf = without sf; of = without of })
unfolding flags_told flag_condition
flags-without E cf pf zf sf of = refl
flags-without Ne cf pf zf sf of = opposite-without zf
flags-without L cf pf zf sf of = differ-without sf of
flags-without Ge cf pf zf sf of = simp (opposite-without, differ-without)
flags-without Le cf pf zf sf of = simp (either-without, differ-without)
flags-without G cf pf zf sf of = simp (opposite-without, either-without, differ-without)
flags-without B cf pf zf sf of = refl
flags-without Ae cf pf zf sf of = opposite-without cf
flags-without Be cf pf zf sf of = either-without cf zf
flags-without A cf pf zf sf of = simp (opposite-without, either-without)
flags-without S cf pf zf sf of = refl
flags-without Ns cf pf zf sf of = opposite-without sf
flags-without P cf pf zf sf of = refl
flags-without Np cf pf zf sf of = opposite-without pf
flags-without O cf pf zf sf of = refl
flags-without No cf pf zf sf of = opposite-without of

pub condition-without : (c : Condition) (f : Flags) (w : Why) → without (condition_told c f w) ≡ flag_condition c f
unfolding condition_told
condition-without c f w =
    flags-without c (flag_told f.cf w.cf) (flag_told f.pf w.pf) (flag_told f.zf w.zf) (flag_told f.sf w.sf)
    (flag_told f.of w.of)
    ∙ simp flag-without

count-without : (r : Register) (v : Option ℕ) → without (count_told r v) ≡ is_zero v
count-without r (Some x) = refl
count-without r None = refl

-- So it is for every branch, whatever is known and whatever the texts are.
pub told-without : (s : State) (w : Why) (m : Mnemonic) → without (told_of s w m) ≡ condition_of s m
unfolding told_of condition_of
told-without s w Other = refl
told-without s w (Carry c) = refl
told-without s w Mov = refl
told-without s w Not = refl
told-without s w (TwoOperand op) = refl
told-without s w (OneOperand op) = refl
told-without s w (Jump c) = condition-without c s.flags w
told-without s w (CountJump c) = count-without (count_register c) (read_of s (count_register c))
