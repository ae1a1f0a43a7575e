-- The sentence of a branch from the texts of its two causes: that of CF, and the one that the other flags share.
use Prim.Native.Nat.{ℕ}
use mathlib.Core.Path.{◌≡◌, refl, ◌∙◌}
use mathlib.Core.Bool.{Bool, true, false}
use mathlib.Core.List.{List}
use Rattle.std.specs.Prelude.{Option, Some, None, unwrap_or}
use Rattle.alu.specs.declared.Flags.{Flags}
use Rattle.alu.specs.Flags as flags
use Rattle.isa.specs.declared.Register.{Register}
use Rattle.isa.specs.declared.Condition.{Condition}
use Rattle.isa.specs.declared.Condition.TheVariants.{E, Ne, L, Ge, Le, G, B, Ae, Be, A, S, Ns, P, Np, O, No}
use Rattle.isa.specs.declared.Mnemonic.{Mnemonic}
use Rattle.isa.specs.declared.Mnemonic.TheVariants.{Other, Carry, Mov, Not, TwoOperand, OneOperand, Jump, CountJump}
use Rattle.known.specs.Conditions.{flag_condition}
use Rattle.machine.specs.declared.State.{State}
use Rattle.machine.specs.Registers.{read_of}
use Rattle.machine.specs.Conditions.{count_register}
use Rattle.laws.proofs.SameWords.{words-refl}
use Rattle.sentence_text.specs.Sentence.{joined}
use Rattle.sentence.specs.declared.Telling.TheVariants as telling
use Rattle.sentence.specs.Why.{Why}
use Rattle.sentence.specs.Told.{Told, flag_told, opposite, differ, either, both, flags_told, condition_told, count_told, told_of, sentence_of}
use Rattle.sentence.specs.Told.Told.{known, unknown}
use Rattle.sentence.specs.Promises.{where_known, below_telling, flags_telling, count_telling, telling_of, telling_text, Share}

-- the opposite has the same sentence, and so has what is both, of two opposites
same-sentence : (t : Told) → sentence_of t ≡ sentence_of (opposite t)
same-sentence (known b text) = refl
same-sentence unknown = refl

both-sentence : (f g : Told) → sentence_of (either f g) ≡ sentence_of (both (opposite f) (opposite g))
both-sentence (known true x) (known true y) = refl
both-sentence (known true x) (known false y) = refl
both-sentence (known true x) unknown = refl
both-sentence (known false x) (known true y) = refl
both-sentence (known false x) (known false y) = refl
both-sentence (known false x) unknown = refl
both-sentence unknown (known true y) = refl
both-sentence unknown (known false y) = refl
both-sentence unknown unknown = refl

-- ---- flags that share a text

module _ (text : List ℕ) where
  once : joined text text ≡ text
  unfolding joined
  once = rw (words-refl text)

  opposite-shared : (f : Option Bool) → opposite (flag_told f text) ≡ flag_told (flags.opposite f) text
  opposite-shared (Some b) = refl
  opposite-shared None = refl

  differ-shared : (f g : Option Bool) → differ (flag_told f text) (flag_told g text) ≡ flag_told (flags.differ f g) text
  differ-shared (Some a) (Some b) = rw once
  differ-shared (Some a) None = refl
  differ-shared None g = refl

  either-shared : (f g : Option Bool) → either (flag_told f text) (flag_told g text) ≡ flag_told (flags.either f g) text
  either-shared (Some true) (Some b) = refl
  either-shared (Some true) None = refl
  either-shared (Some false) (Some true) = refl
  either-shared (Some false) (Some false) = rw once
  either-shared (Some false) None = refl
  either-shared None (Some true) = refl
  either-shared None (Some false) = refl
  either-shared None None = refl

  told-alone : (f : Option Bool) (c : List ℕ) → telling_text (where_known f telling.Result) c text ≡ sentence_of (flag_told f text)
  told-alone (Some b) c = refl
  told-alone None c = refl

told-carry : (f : Option Bool) (c r : List ℕ) → telling_text (where_known f telling.Carry) c r ≡ sentence_of (flag_told f c)
told-carry (Some b) c r = refl
told-carry None c r = refl

told_below : (cf zf : Option Bool) (c r : List ℕ) → telling_text (below_telling (flags.either cf zf) (unwrap_or cf false)) c r ≡ sentence_of (either (flag_told cf c) (flag_told zf r))
told_below (Some true) (Some b) c r = refl
told_below (Some true) None c r = refl
told_below (Some false) (Some true) c r = refl
told_below (Some false) (Some false) c r = refl
told_below (Some false) None c r = refl
told_below None (Some true) c r = refl
told_below None (Some false) c r = refl
told_below None None c r = refl

-- ---- conditions

module _ (f : Flags) (c r : List ℕ) where
  abbrev shared : Condition → Told
  shared k = flags_told k (flag_told f.cf c) (flag_told f.pf r) (flag_told f.zf r) (flag_told f.sf r) (flag_told f.of r)

  flags-text : (k : Condition) → telling_text (flags_telling k f) c r ≡ sentence_of (shared k)
  unfolding flags_telling flags_told flag_condition
  flags-text E = told-alone r f.zf c
  flags-text Ne = told-alone r (flags.opposite f.zf) c ∙ simp (opposite-shared)
  flags-text L = told-alone r (flags.differ f.sf f.of) c ∙ simp (differ-shared)
  flags-text Ge = told-alone r (flags.opposite (flags.differ f.sf f.of)) c ∙ simp (opposite-shared, differ-shared)
  flags-text Le = told-alone r (flags.either f.zf (flags.differ f.sf f.of)) c ∙ simp (either-shared, differ-shared)
  flags-text G = told-alone r (flag_condition G f) c ∙ simp (either-shared, opposite-shared, differ-shared)
  flags-text B = told-carry f.cf c r
  flags-text Ae = told-carry f.cf c r ∙ same-sentence (flag_told f.cf c)
  flags-text Be = told_below f.cf f.zf c r
  flags-text A = told_below f.cf f.zf c r ∙ both-sentence (flag_told f.cf c) (flag_told f.zf r)
  flags-text S = told-alone r f.sf c
  flags-text Ns = told-alone r (flags.opposite f.sf) c ∙ simp (opposite-shared)
  flags-text P = told-alone r f.pf c
  flags-text Np = told-alone r (flags.opposite f.pf) c ∙ simp (opposite-shared)
  flags-text O = told-alone r f.of c
  flags-text No = told-alone r (flags.opposite f.of) c ∙ simp (opposite-shared)

condition-text : (f : Flags) (w : Why) {c r : List ℕ} → Share f w c r → (k : Condition) → telling_text (flags_telling k f) c r ≡ sentence_of (condition_told k f w)
unfolding condition_told
condition-text f w {c} {r} share k = rw (share.cf, share.pf, share.zf, share.sf, share.of) (flags-text f c r k)

count-text : (register : Register) (v : Option ℕ) (c r : List ℕ) → telling_text (count_telling register v) c r ≡ sentence_of (count_told register v)
count-text register (Some x) c r = refl
count-text register None c r = refl

-- The causes that tell of a branch have its sentence.
pub telling-text : (s : State) (w : Why) {c r : List ℕ} → Share s.flags w c r → (m : Mnemonic) → telling_text (telling_of s m) c r ≡ sentence_of (told_of s w m)
unfolding telling_of told_of
telling-text s w share Other = refl
telling-text s w share (Carry k) = refl
telling-text s w share Mov = refl
telling-text s w share Not = refl
telling-text s w share (TwoOperand op) = refl
telling-text s w share (OneOperand op) = refl
telling-text s w share (Jump k) = condition-text s.flags w share k
telling-text s w {c} {r} share (CountJump k) = count-text (count_register k) (read_of s (count_register k)) c r
