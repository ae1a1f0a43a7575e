-- The causes of the flags' values, from instruction to instruction.
use Prim.Native.Nat.{ℕ, ◌+◌, ◌≤◌, ◌<◌}
use mathlib.Core.Path.{◌≡◌, refl}
use mathlib.Core.Bool.{Bool, false, true≢false, ◌&&◌}
use mathlib.Core.List.{List, [], ◌∷◌, ◌++◌, append-nil, append_assoc}
use native.Mathlib.Omega.{arith}
use native.Mathlib.Numerals.{add-one}
use lib.ListN.{length, get_or}
use lib.Seq.{slice}
use Rattle.isa.specs.declared.Instruction.{Instruction}
use Rattle.isa.specs.Modelled.{modelled, undeclared}
use Rattle.std.specs.Prelude.{Option, Some, None}
use Rattle.alu.specs.declared.Flags.{Flags}
use Rattle.alu.specs.Flags as flags
use Rattle.machine.specs.declared.State.{State}
use Rattle.machine.specs.Registers.{nothing_known}
use Rattle.machine.specs.Rules.{stepped, stepped_all}
use Rattle.verdict_block.proofs.Between.{none_left, snoc-at}
use Rattle.phrase.specs.declared.FlagGroup.{FlagGroup}
use Rattle.phrase.specs.declared.FlagGroup.TheVariants as group
use Rattle.sentence_text.specs.Sentence.{turned, turned_times}
use Rattle.sentence.specs.declared.Setters.{Setters}
use Rattle.sentence.specs.Why.{Why, why_stepped, why_stepped_all}
use Rattle.sentence.specs.Told.{flag_told}
use Rattle.sentence.specs.Promises.{Sets, sets_of, setters_by, own_text, Share}
use Rattle.sentence.specs.Promises.Sets.{sets-none, sets-carry, turns-carry, sets-result, sets-all}
use Rattle.sentence.proofs.Changes.{Way, carry_way, result_way, Change, Changes, changed}
use Rattle.sentence.proofs.Changes.Way.{sets, turns, keeps}
use Rattle.sentence.proofs.Changes.Change.{unknown as becomes-unknown, set, stays, kept, round}
use Rattle.sentence_block.specs.Promises.{own_at, carry_at, result_at, Traced}

-- ---- one instruction more

steps-more : (s : State) (code : List Instruction) (x : Instruction) → stepped_all s (code ++ (x ∷ [])) ≡ stepped (stepped_all s code) x
unfolding stepped_all
steps-more s [] x = refl
steps-more s (i ∷ code) x = steps-more (stepped s i) code x

whys-more : (s : State) (w : Why) (code : List Instruction) (x : Instruction)
    → why_stepped_all s w (code ++ (x ∷ [])) ≡ why_stepped (stepped_all s code) (why_stepped_all s w code) x
unfolding stepped_all why_stepped_all
whys-more s w [] x = refl
whys-more s w (i ∷ code) x = whys-more (stepped s i) (why_stepped s w i) code x

-- ---- one flag

-- the text after an instruction, from its own and the one before
abbrev by_way : Way → (own before : List ℕ) → List ℕ
by_way sets own before = own
by_way turns own before = before ++ turned
by_way keeps own before = before

turned-told : (f : Option Bool) (a b : List ℕ) → flag_told f a ≡ flag_told f b → flag_told (flags.opposite f) (a ++ turned) ≡ flag_told (flags.opposite f) (b ++ turned)
turned-told (Some p) a b h = let same : a ≡ b = cc in rw same
turned-told None a b h = refl

told : {way : Way} {own : List ℕ} {lacks : Bool} {f g : Option Bool} {old new : List ℕ} (before : List ℕ) → Change way own lacks f old g new → lacks ≡ false
    → flag_told f old ≡ flag_told f before → flag_told g new ≡ flag_told g (by_way way own before)
told before becomes-unknown sound h = refl
told before (set some) sound h = refl
told before stays sound h = absurd (true≢false sound)
told before kept sound h = h
told before (round {f = f}) sound h = turned-told f _ before h

-- ---- all five

all_told : {k : Sets} {own-result own-carry : List ℕ} {lacks : Bool} {f g : Flags} {w v : Why} (before-carry before-result : List ℕ)
    → Changes k own-result own-carry lacks f w g v → lacks ≡ false → Share f w before-carry before-result
    → Share g v (by_way (carry_way k) own-carry before-carry) (by_way (result_way k) own-result before-result)
all_told b-carry b-result c sound h = record {
  cf = told b-carry c.cf sound h.cf;
  pf = told b-result c.pf sound h.pf;
  zf = told b-result c.zf sound h.zf;
  sf = told b-result c.sf sound h.sf;
  of = told b-result c.of sound h.of;
}

module _ (l : List Instruction) (first : ℕ) where
  -- the causes' texts with one instruction more
  abbrev own : FlagGroup → ℕ → Instruction → List ℕ
  own which number x = own_text (stepped_all nothing_known (slice first number l)) x.mnemonic x.first x.second which

  carry-next : (t : Setters) (k : Sets) (i : ℕ) (x d : Instruction) → x ≡ get_or l i d
      → carry_at l first (setters_by t i k) d ≡ by_way (carry_way k) (own group.Carry i x) (carry_at l first t d)
  unfolding turned_times
  carry-next t sets-none i x d is = refl
  carry-next t sets-carry i x d is = rw (is, append-nil)
  carry-next t turns-carry i x d is = rw (add-one, append_assoc)
  carry-next t sets-result i x d is = refl
  carry-next t sets-all i x d is = rw (is, append-nil)

  result-next : (t : Setters) (k : Sets) (i : ℕ) (x d : Instruction) → x ≡ get_or l i d
      → result_at l first (setters_by t i k) d ≡ by_way (result_way k) (own group.Result i x) (result_at l first t d)
  result-next t sets-none i x d is = refl
  result-next t sets-carry i x d is = refl
  result-next t turns-carry i x d is = refl
  result-next t sets-result i x d is = rw is
  result-next t sets-all i x d is = rw is

  -- where numbers and turns stay below
  few : (t : Setters) (k : Sets) (i : ℕ) → t.result ≤ i → t.carry ≤ i → t.turns ≤ i
      → ((setters_by t i k).result ≤ i + 1) × ((setters_by t i k).carry ≤ i + 1) × ((setters_by t i k).turns ≤ i + 1)
  few t sets-none i a b c = (omega arith, omega arith, omega arith)
  few t sets-carry i a b c = (omega arith, omega arith, omega arith)
  few t turns-carry i a b c = (omega arith, omega arith, omega arith)
  few t sets-result i a b c = (omega arith, omega arith, omega arith)
  few t sets-all i a b c = (omega arith, omega arith, omega arith)

  -- before the first instruction no flag is known
  pub traced-none : Traced l first first (record { result = first; carry = first; turns = 0 })
  unfolding stepped_all nothing_known
  traced-none = record {
    share = λ d. rw (none_left l first first (omega arith)) (record { cf = refl; pf = refl; zf = refl; sf = refl; of = refl });
    result = omega arith;
    carry = omega arith;
    turns = omega arith;
  }

  pub traced-next : (i : ℕ) {t t' : Setters} {x : Instruction} → Traced l first i t → first ≤ i → i < length l
      → ((d : Instruction) → x ≡ get_or l i d) → (modelled x && undeclared x.mnemonic x.flags) ≡ false → t' ≡ setters_by t i (sets_of x)
      → Traced l first (i + 1) t'
  traced-next i {t} {t'} {x} traced order below is sound after =
      let bounds = few t (sets_of x) i traced.result traced.carry traced.turns in
      rw after
      (record {
        share = λ d. rw (snoc-at l first i d order below, ← is d, steps-more, whys-more, carry-next t (sets_of x) i x d (is d), result-next t (sets_of x) i x d (is d))
            (all_told (carry_at l first t d) (result_at l first t d) (changed _ _ x) sound (traced.share d));
        result = bounds.0;
        carry = bounds.1;
        turns = bounds.2;
      })

  pub traced-all : {i end : ℕ} {t : Setters} → Traced l first i t → i ≤ end → end ≤ i → Traced l first end t
  traced-all {i} {end} traced below above = let same : end ≡ i = omega arith in rw same traced

  -- what an instruction says, from what is known before it
  pub own-there : (number : ℕ) (which : FlagGroup) (d : Instruction) {state : State} {x : Instruction} {text : List ℕ}
      → state ≡ stepped_all nothing_known (slice first number l) → ((d : Instruction) → x ≡ get_or l number d)
      → text ≡ own_text state x.mnemonic x.first x.second which → text ≡ own_at l first which number d
  own-there number which d state-is x-is text-is = rw (← state-is, ← x-is d) text-is
