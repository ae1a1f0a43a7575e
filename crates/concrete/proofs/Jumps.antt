-- What is known of a jump is exact: it allows just the outcomes that the jump has in the states that agree.
use native.Mathlib.Omega.{arith}
use Rattle.std.proofs.lemmas.Bool.Decides.{nat_tests}
use Rattle.std.proofs.Common.{None, Option, Some}
use Prim.{tt}
use Prim.Native.Nat.{ℕ, ◌/◌, ◌%◌, ◌^◌}
use mathlib.Core.Path.{◌≡◌, refl, sym, ap, subst, ◌∙◌}
use mathlib.Core.Bool.{Bool, true, false, not, ◌&&◌, ◌||◌}
use native.Mathlib.Nat.{mod-mod}
use borrow.Author.Tests.{eqb-true}
use lib.Dec.{eqb}
use Rattle.isa.specs.declared.Condition.{Condition}
use Rattle.isa.specs.declared.Condition.TheVariants.{E, Ne, L, Ge, Le, G, B, Ae, Be, A, S, Ns, P, Np, O, No}
use Rattle.isa.specs.declared.Counter.{Counter}
use Rattle.isa.specs.declared.Counter.TheVariants.{Rcx, Ecx, Cx}
use Rattle.isa.specs.Register.{well_formed}
use Rattle.alu.specs.declared.Flags.{Flags}
use Rattle.alu.specs.Flags.{opposite, either, both, differ}
use Rattle.machine.specs.declared.State.{State}
use Rattle.machine.specs.Registers.{read_of}
use Rattle.known.specs.Conditions.{flag_condition, is_zero}
use Rattle.machine.specs.Conditions.{count_register}
use Rattle.concrete.specs.Concrete.{Status, Processor, value as value_of, part, update, with_status, jumps_on, jumps_at}
use Rattle.concrete.specs.Agreement.{Allows, FlagsAgree, Agrees}
use Rattle.concrete.proofs.Registers.{reads}
use Rattle.concrete.proofs.Sound.{opposite-allows, unread}
use Rattle.laws.proofs.Booleans.{by_test}

-- ---- conditions of flags

-- two settings that two flags allow, and what they come to
record Both (f g : Option Bool) (op : Bool → Bool → Bool) (b : Bool) : Type 0 where
  left : Bool
  right : Bool
  left-ok : Allows f left
  right-ok : Allows g right
  is : op left right ≡ b

abbrev differs : Bool → Bool → Bool
differs a b = a && not b || not a && b

or-clear : (b : Bool) → (b || false) ≡ b
or-clear b = grind (arith, nat_tests)

either-allows : (f g : Option Bool) (x y : Bool) → Allows f x → Allows g y → Allows (either f g) (x || y)
either-allows (Some true) g x y hx hy = ap (λ (z : Bool). z || y) hx
either-allows (Some false) g x y hx hy = subst (λ (z : Bool). Allows g (z || y)) hx hy
either-allows None (Some true) true y hx hy = refl
either-allows None (Some true) false y hx hy = hy
either-allows None (Some false) x y hx hy = tt
either-allows None None x y hx hy = tt

either-reached : (f g : Option Bool) (y b : Bool) → Allows g y → Allows (either f g) b → Both f g ◌||◌ b
either-reached (Some true) g y b hy h = record { left = true; right = y; left-ok = refl; right-ok = hy; is = h }
either-reached (Some false) g y b hy h = record { left = false; right = b; left-ok = refl; right-ok = h; is = refl }
either-reached None (Some true) y b hy h = record { left = true; right = true; left-ok = tt; right-ok = refl; is = h }
either-reached None (Some false) y b hy h = record { left = b; right = false; left-ok = tt; right-ok = refl; is = or-clear b }
either-reached None None y b hy h = record { left = b; right = false; left-ok = tt; right-ok = tt; is = or-clear b }

differ-allows : (f g : Option Bool) (x y : Bool) → Allows f x → Allows g y → Allows (differ f g) (differs x y)
differ-allows (Some a) (Some c) x y hx hy = rw (hx, hy)
differ-allows (Some a) None x y hx hy = tt
differ-allows None g x y hx hy = tt

-- the setting beside which the other differs or not, as b says
turned : (x b : Bool) → differs x (differs x b) ≡ b
turned x b = grind (arith, nat_tests)

turned_left : (y b : Bool) → differs (differs y b) y ≡ b
turned_left y b = grind (arith, nat_tests)

differ-reached : (f g : Option Bool) (y b : Bool) → Allows g y → Allows (differ f g) b → Both f g differs b
differ-reached (Some a) (Some c) y b hy h = record { left = a; right = c; left-ok = refl; right-ok = refl; is = h }
differ-reached (Some a) None y b hy h = record { left = a; right = differs a b; left-ok = refl; right-ok = tt; is = turned a b }
differ-reached None g y b hy h = record { left = differs y b; right = y; left-ok = tt; right-ok = hy; is = turned_left y b }

not-not : (b : Bool) → not (not b) ≡ b
not-not b = grind (arith, nat_tests)

opposite-back : (f : Option Bool) (b : Bool) → Allows (opposite f) b → Allows f (not b)
opposite-back (Some a) b h = sym (not-not a) ∙ ap not h
opposite-back None b h = tt

neither : (a b : Bool) → (not a && not b) ≡ not (a || b)
neither a b = grind (arith, nat_tests)

-- A condition c of the flags, of which t is known: t allows what c is, and what t allows c is in some agreeing status.
record FlagsReached (f : Flags) (c : Status → Bool) (b : Bool) : Type 0 where
  status : Status
  agrees : FlagsAgree f status
  is : c status ≡ b

record ExactFlags (f : Flags) (g : Status) (t : Option Bool) (c : Status → Bool) : Type 0 where
  sound : Allows t (c g)
  reached : (b : Bool) → Allows t b → FlagsReached f c b

exact-opposite : (f : Flags) (g : Status) (t : Option Bool) (c : Status → Bool) → ExactFlags f g t c
    → ExactFlags f g (opposite t) (λ h. not (c h))
exact-opposite f g t c exact =
    record {
      sound = opposite-allows t (c g) exact.sound;
      reached = λ b h.
          let r = exact.reached (not b) (opposite-back t b h) in
          record { status = r.status; agrees = r.agrees; is = ap not r.is ∙ not-not b };
    }

module _ (f : Flags) (g : Status) (h : FlagsAgree f g) where
  -- one flag: put sets it in a status that agrees
  exact_one : (t : Option Bool) (get : Status → Bool) (put : Bool → Status) → Allows t (get g)
      → ((b : Bool) → Allows t b → FlagsAgree f (put b)) → ((b : Bool) → get (put b) ≡ b) → ExactFlags f g t get
  exact_one t get put now agrees is =
      record { sound = now; reached = λ b k. record { status = put b; agrees = agrees b k; is = is b } }

  exact-cf : ExactFlags f g f.cf (λ s. s.cf)
  exact-cf =
      exact_one f.cf (λ s. s.cf) (λ b. record { cf = b; pf = g.pf; zf = g.zf; sf = g.sf; of = g.of }) h.cf
      (λ b k. record { cf = k; pf = h.pf; zf = h.zf; sf = h.sf; of = h.of }) (λ b. refl)

  exact-pf : ExactFlags f g f.pf (λ s. s.pf)
  exact-pf =
      exact_one f.pf (λ s. s.pf) (λ b. record { cf = g.cf; pf = b; zf = g.zf; sf = g.sf; of = g.of }) h.pf
      (λ b k. record { cf = h.cf; pf = k; zf = h.zf; sf = h.sf; of = h.of }) (λ b. refl)

  exact-zf : ExactFlags f g f.zf (λ s. s.zf)
  exact-zf =
      exact_one f.zf (λ s. s.zf) (λ b. record { cf = g.cf; pf = g.pf; zf = b; sf = g.sf; of = g.of }) h.zf
      (λ b k. record { cf = h.cf; pf = h.pf; zf = k; sf = h.sf; of = h.of }) (λ b. refl)

  exact-sf : ExactFlags f g f.sf (λ s. s.sf)
  exact-sf =
      exact_one f.sf (λ s. s.sf) (λ b. record { cf = g.cf; pf = g.pf; zf = g.zf; sf = b; of = g.of }) h.sf
      (λ b k. record { cf = h.cf; pf = h.pf; zf = h.zf; sf = k; of = h.of }) (λ b. refl)

  exact-of : ExactFlags f g f.of (λ s. s.of)
  exact-of =
      exact_one f.of (λ s. s.of) (λ b. record { cf = g.cf; pf = g.pf; zf = g.zf; sf = g.sf; of = b }) h.of
      (λ b k. record { cf = h.cf; pf = h.pf; zf = h.zf; sf = h.sf; of = k }) (λ b. refl)

  -- l
  exact-less : ExactFlags f g (differ f.sf f.of) (λ s. differs s.sf s.of)
  exact-less =
      record {
        sound = differ-allows f.sf f.of g.sf g.of h.sf h.of;
        reached = λ b k.
            let r = differ-reached f.sf f.of g.of b h.of k in
            record {
              status = record { cf = g.cf; pf = g.pf; zf = g.zf; sf = r.left; of = r.right };
              agrees = record { cf = h.cf; pf = h.pf; zf = h.zf; sf = r.left-ok; of = r.right-ok };
              is = r.is;
            };
      }

  -- le
  exact-less-equal : ExactFlags f g (either f.zf (differ f.sf f.of)) (λ s. s.zf || differs s.sf s.of)
  exact-less-equal =
      let less = differ-allows f.sf f.of g.sf g.of h.sf h.of in
      record {
        sound = either-allows f.zf (differ f.sf f.of) g.zf (differs g.sf g.of) h.zf less;
        reached = λ b k.
            let r = either-reached f.zf (differ f.sf f.of) (differs g.sf g.of) b less k in
            let q = differ-reached f.sf f.of g.of r.right h.of r.right-ok in
            record {
              status = record { cf = g.cf; pf = g.pf; zf = r.left; sf = q.left; of = q.right };
              agrees = record { cf = h.cf; pf = h.pf; zf = r.left-ok; sf = q.left-ok; of = q.right-ok };
              is = ap (λ (x : Bool). r.left || x) q.is ∙ r.is;
            };
      }

  -- be
  exact-below-equal : ExactFlags f g (either f.cf f.zf) (λ s. s.cf || s.zf)
  exact-below-equal =
      record {
        sound = either-allows f.cf f.zf g.cf g.zf h.cf h.zf;
        reached = λ b k.
            let r = either-reached f.cf f.zf g.zf b h.zf k in
            record {
              status = record { cf = r.left; pf = g.pf; zf = r.right; sf = g.sf; of = g.of };
              agrees = record { cf = r.left-ok; pf = h.pf; zf = r.right-ok; sf = h.sf; of = h.of };
              is = r.is;
            };
      }

-- what is known of 'neither' is the opposite of what is known of 'either'
both_is : (f g : Option Bool) → both (opposite f) (opposite g) ≡ opposite (either f g)
both_is f g = grind (arith, nat_tests)

exact-neither : (f : Flags) (g : Status) (x y : Option Bool) (c d : Status → Bool) → ExactFlags f g (either x y) (λ h. c h || d h)
    → ExactFlags f g (both (opposite x) (opposite y)) (λ h. not (c h) && not (d h))
exact-neither f g x y c d exact =
    let opposed = exact-opposite f g (either x y) (λ h. c h || d h) exact in
    record {
      sound = rw (both_is x y, neither (c g) (d g)) opposed.sound;
      reached = λ b k.
          let r = opposed.reached b (rw (both_is x y) at k) in
          record { status = r.status; agrees = r.agrees; is = neither (c r.status) (d r.status) ∙ r.is };
    }

exact-flags : (f : Flags) (g : Status) → FlagsAgree f g → (c : Condition) → ExactFlags f g (flag_condition c f) (jumps_on c)
unfolding flag_condition jumps_on
exact-flags f g h E = exact-zf f g h
exact-flags f g h Ne = exact-opposite f g _ _ (exact-zf f g h)
exact-flags f g h L = exact-less f g h
exact-flags f g h Ge = exact-opposite f g _ _ (exact-less f g h)
exact-flags f g h Le = exact-less-equal f g h
exact-flags f g h G = exact-neither f g f.zf (differ f.sf f.of) (λ s. s.zf) (λ s. differs s.sf s.of) (exact-less-equal f g h)
exact-flags f g h B = exact-cf f g h
exact-flags f g h Ae = exact-opposite f g _ _ (exact-cf f g h)
exact-flags f g h Be = exact-below-equal f g h
exact-flags f g h A = exact-neither f g f.cf f.zf (λ s. s.cf) (λ s. s.zf) (exact-below-equal f g h)
exact-flags f g h S = exact-sf f g h
exact-flags f g h Ns = exact-opposite f g _ _ (exact-sf f g h)
exact-flags f g h P = exact-pf f g h
exact-flags f g h Np = exact-opposite f g _ _ (exact-pf f g h)
exact-flags f g h O = exact-of f g h
exact-flags f g h No = exact-opposite f g _ _ (exact-of f g h)

-- ---- jumps

-- A jump that jumps as `test` says, of which the flag t is known: t allows what the jump does in the state p, and what it
-- allows the jump does in some state that agrees.
pub record Reached (s : State) (test : Processor → Bool) (b : Bool) : Type 0 where
  pub state : Processor
  pub agrees : Agrees s state
  pub is : test state ≡ b

pub record Exact (s : State) (p : Processor) (t : Option Bool) (test : Processor → Bool) : Type 0 where
  pub sound : Allows t (test p)
  pub reached : (b : Bool) → Allows t b → Reached s test b

zero-allows : (v : Option ℕ) (x : ℕ) → Allows v x → Allows (is_zero v) (eqb x 0)
zero-allows (Some y) x h = ap (λ (n : ℕ). eqb n 0) h
zero-allows None x h = tt

-- a state with another register 1
abbrev counting : Processor → ℕ → Processor
counting p x = record { register = update p.register 1 x; status = p.status }

-- the low n bits, as a part that begins at bit 0
low_bits : (n x : ℕ) → x % 2 ^ n ≡ x / 2 ^ 0 % 2 ^ n
low_bits n x = grind (arith, nat_tests)

module _ (s : State) (p : Processor) (agrees : Agrees s p) where
  pub exact-jump : (c : Condition) → Exact s p (flag_condition c s.flags) (λ q. jumps_on c q.status)
  exact-jump c =
      let exact = exact-flags s.flags p.status agrees.flags c in
      record {
        sound = exact.sound;
        reached = λ b h.
            let r = exact.reached b h in
            record {
              state = with_status p r.status;
              agrees = record { registers = agrees.registers; flags = r.agrees };
              is = r.is;
            };
      }

  -- the count-register jumps
  by_count : (c : Counter) → well_formed (count_register c) ≡ true
      → ((q : Processor) → jumps_at c q ≡ eqb (part q (count_register c)) 0)
      → jumps_at c (counting p 0) ≡ true → jumps_at c (counting p 1) ≡ false
      → Exact s p (is_zero (read_of s (count_register c))) (jumps_at c)
  by_count c ok is jumps-at-0 stays-at-1 =
      let r = count_register c in
      record {
        sound = rw (is p) (zero-allows (read_of s r) (part p r) (reads s p r agrees ok));
        reached = λ b h. at (read_of s r) refl b h;
      }
    where
      free : read_of s (count_register c) ≡ None → (x : ℕ) → Agrees s (counting p x)
      free e x =
          record {
            registers = λ k.
                by_test (eqb k 1)
                (λ t. rw (eqb-true k 1 t, unread s (count_register c) ok refl e) tt)
                (λ t. rw t (agrees.registers k));
            flags = agrees.flags;
          }

      at : (v : Option ℕ) → read_of s (count_register c) ≡ v → (b : Bool) → Allows (is_zero v) b → Reached s (jumps_at c) b
      at (Some y) e b h =
          let same : y ≡ part p (count_register c) = rw e at (reads s p (count_register c) agrees ok) in
          record { state = p; agrees = agrees; is = is p ∙ ap (λ (x : ℕ). eqb x 0) (sym same) ∙ h }
      at None e true h = record { state = counting p 0; agrees = free e 0; is = jumps-at-0 }
      at None e false h = record { state = counting p 1; agrees = free e 1; is = stays-at-1 }

  pub exact-count : (c : Counter) → Exact s p (is_zero (read_of s (count_register c))) (jumps_at c)
  unfolding jumps_at part
  exact-count Rcx = by_count Rcx refl (λ q. ap (λ (x : ℕ). eqb x 0) (sym (mod-mod (q.register 1) (2 ^ 64)) ∙ low_bits 64 (value_of q 1))) refl refl
  exact-count Ecx = by_count Ecx refl (λ q. ap (λ (x : ℕ). eqb x 0) (low_bits 32 (value_of q 1))) refl refl
  exact-count Cx = by_count Cx refl (λ q. ap (λ (x : ℕ). eqb x 0) (low_bits 16 (value_of q 1))) refl refl
