-- Polynomials and choices of atom bits. Bits by number fit a choice where each atom's number has the bit that the choice gives
-- the atom; then a part's polynomial at those bits is its low bit for that choice. Every choice has bits by number that fit it,
-- and all bits by number fit some choice.
use Prim.Native.Nat.{ℕ, zero, suc, ◌/◌, ◌%◌, ◌^◌, ◌<◌}
use mathlib.Core.Path.{◌≡◌, refl, sym, ap, ◌∙◌}
use mathlib.Core.Bool.{Bool, true, false, cond, xor, ◌&&◌, ◌||◌}
use mathlib.Core.List.{List, [], ◌∷◌, ◌++◌, append_assoc}
use native.Mathlib.Nat.{two-pow-succ}
use native.Mathlib.Omega.{arith}
use native.Mathlib.Decide.{dec_lt}
use lib.Dec.{eqb}
use lib.ListN.{length, get_or, length-append, get_or-append}
use lib.Seq.{get_or-append_seam}
use borrow.Author.Tests.{eq-eqb, eqb-true}
use Rattle.expr.specs.Tree.{Expr}
use Rattle.expr.specs.Tree.Expr.{variable, constant, condition_true, condition_false, effect, load, cast, binary, ternary}
use Rattle.expr.specs.Scan.{has_own_value}
use Rattle.value.specs.Evaluation.{ByPath, under}
use Rattle.poly.specs.Terms.{sum, product}
use Rattle.poly.specs.Meaning.{holds, value}
use Rattle.poly.proofs.Sets.{holds-step, holds-none}
use Rattle.poly.proofs.Values.{value-sum, value-product, value-one, xor-none}
use Rattle.parity.specs.Parity.{Low, entered, place, number_in, noted, atom_low, low_of, parity}
use Rattle.parity.specs.declared.Entry.{Entry}
use Rattle.parity.specs.declared.Entry.TheVariants.{Both, Keeps, Clears, Atom}
use Rattle.parity.specs.declared.Pair.TheVariants.{Sum, Product, Or}
use Rattle.parity.specs.LowBit.{atom_bit, low_bit}
use Rattle.parity.proofs.Entries.{bit_of, rule-entry}
use Rattle.parity.proofs.Numbers.{Extends, Noting, noting, before, place-stays, place-new, atoms-grow, extends-refl, extends-trans}
use Rattle.parity.proofs.Numbers.Noting.{known, new}

-- bits by the number of an atom
abbrev pub Bits : Type 0
Bits = ℕ → Bool

-- which of a part's sides and itself count, by how it is entered
abbrev pub By : Entry → Type 0 → Type 0 → Type 0 → Type 0
By (Both Sum) A B O = A × B
By (Both Product) A B O = A × B
By (Both Or) A B O = A × B
By Keeps A B O = A
By Clears A B O = Unit {0}
By Atom A B O = O

by_map : {A B O A' B' O' : Type 0} (k : Entry) → (A → A') → (B → B') → (O → O') → By k A B O → By k A' B' O'
by_map (Both Sum) f g h c = (f c.0, g c.1)
by_map (Both Product) f g h c = (f c.0, g c.1)
by_map (Both Or) f g h c = (f c.0, g c.1)
by_map Keeps f g h c = f c
by_map Clears f g h c = tt
by_map Atom f g h c = h c

abbrev pub Either : Bool → Type 0 → Type 0 → Type 0
Either true A B = A
Either false A B = B

-- an atom's number has the atom's bit
abbrev pub FitsAtom : Bits → List Expr → (Expr → Bool) → ByPath Bool → Expr → Type 0
FitsAtom γ l α φ e = γ (number_in l e) ≡ atom_bit α φ e

-- the bits fit the choice at every atom of a part that is numbered after l
unfoldable pub Fits : Bits → List Expr → (Expr → Bool) → ByPath Bool → Expr → Type 0
Fits γ l α φ (variable n) = FitsAtom γ l α φ (variable n)
Fits γ l α φ (constant w x) = Unit {0}
Fits γ l α φ condition_true = FitsAtom γ l α φ condition_true
Fits γ l α φ condition_false = FitsAtom γ l α φ condition_false
Fits γ l α φ (effect t) = FitsAtom γ l α φ (effect t)
Fits γ l α φ (load t a) = FitsAtom γ l α φ (load t a)
Fits γ l α φ (cast t a) = Either (eqb t 9) (FitsAtom γ l α φ (cast t a)) (Fits γ l α (under 0 φ) a)
Fits γ l α φ (binary o a b) =
    By (entered o b) (Fits γ l α (under 0 φ) a) (Fits γ (parity l a).atoms α (under 1 φ) b) (FitsAtom γ l α φ (binary o a b))
Fits γ l α φ (ternary c a b) = FitsAtom γ l α φ (ternary c a b)

-- the monomial of one atom
single : (n : ℕ) (γ : Bits) → holds γ (2 ^ n) ≡ γ n
single zero γ = holds-step γ 1 ∙ rw (holds-none (λ (i : ℕ). γ (suc i))) (and-true (γ 0))
  where
    and-true : (b : Bool) → (b && true) ≡ b
    and-true true = refl
    and-true false = refl
single (suc n) γ =
    let even : 2 ^ suc n % 2 ≡ 0 = omega (arith, two-pow-succ n) in
    let half : 2 ^ suc n / 2 ≡ 2 ^ n = omega (arith, two-pow-succ n) in
    holds-step γ (2 ^ suc n) ∙ rw (even, half) (single n (λ (i : ℕ). γ (suc i)))

atom-low : (γ : Bits) (l : List Expr) (α : Expr → Bool) (φ : ByPath Bool) (e : Expr) → FitsAtom γ l α φ e
    → value γ (atom_low l e).poly ≡ atom_bit α φ e
unfolding atom_low value
atom-low γ l α φ e h = xor-none (holds γ (2 ^ number_in l e)) ∙ single (number_in l e) γ ∙ h

or-low : (x y : Bool) → xor (xor x y) (x && y) ≡ (x || y)
unfolding xor
or-low true true = refl
or-low true false = refl
or-low false true = refl
or-low false false = refl

value_none : (γ : Bits) → value γ [] ≡ false
unfolding value
value_none γ = refl

entry-low : (γ : Bits) (k : Entry) (x y own : Low) (l : List Expr) (u v w : Bool)
    → By k (value γ x.poly ≡ u) (value γ y.poly ≡ v) (value γ own.poly ≡ w)
    → value γ (low_of k x y own l).poly ≡ bit_of k u v w
entry-low γ (Both Sum) x y own l u v w h = value-sum γ x.poly y.poly ∙ rw (h.0, h.1)
entry-low γ (Both Product) x y own l u v w h = value-product γ x.poly y.poly ∙ rw (h.0, h.1)
entry-low γ (Both Or) x y own l u v w h =
    value-sum γ (sum x.poly y.poly) (product x.poly y.poly)
    ∙ rw (value-sum γ x.poly y.poly, value-product γ x.poly y.poly, h.0, h.1) (or-low u v)
entry-low γ Keeps x y own l u v w h = h
entry-low γ Clears x y own l u v w h = value_none γ
entry-low γ Atom x y own l u v w h = h

-- A part's polynomial at bits that fit a choice is its low bit for that choice.
pub poly-low : (γ : Bits) (l : List Expr) (α : Expr → Bool) (φ : ByPath Bool) (e : Expr) → Fits γ l α φ e
    → value γ (parity l e).poly ≡ low_bit α φ e
unfolding Fits parity low_bit
poly-low γ l α φ (variable n) h = atom-low γ l α φ (variable n) h
poly-low γ l α φ (constant w x) h = go (eqb (x % 2) 1)
  where
    go : (b : Bool) → value γ (cond b (0 ∷ []) []) ≡ b
    go true = value-one γ
    go false = value_none γ
poly-low γ l α φ condition_true h = atom-low γ l α φ condition_true h
poly-low γ l α φ condition_false h = atom-low γ l α φ condition_false h
poly-low γ l α φ (effect t) h = atom-low γ l α φ (effect t) h
poly-low γ l α φ (load t a) h = atom-low γ l α φ (load t a) h
poly-low γ l α φ (cast t a) h = go (eqb t 9) h (poly-low γ l α (under 0 φ) a)
  where
    go : (b : Bool) → Either b (FitsAtom γ l α φ (cast t a)) (Fits γ l α (under 0 φ) a)
        → (Fits γ l α (under 0 φ) a → value γ (parity l a).poly ≡ low_bit α (under 0 φ) a)
        → value γ (cond b (atom_low l (cast t a)) (parity l a)).poly ≡ cond b (atom_bit α φ (cast t a)) (low_bit α (under 0 φ) a)
    go true h rest = atom-low γ l α φ (cast t a) h
    go false h rest = rest h
poly-low γ l α φ (binary o a b) h =
    entry-low γ (entered o b) (parity l a) (parity (parity l a).atoms b) (atom_low l (binary o a b)) l
    (low_bit α (under 0 φ) a) (low_bit α (under 1 φ) b) (atom_bit α φ (binary o a b))
    (by_map (entered o b) (poly-low γ l α (under 0 φ) a) (poly-low γ (parity l a).atoms α (under 1 φ) b) (atom-low γ l α φ (binary o a b)) h)
    ∙ sym (rule-entry (low_bit α (under 0 φ) a) (low_bit α (under 1 φ) b) (atom_bit α φ (binary o a b)) o b)
poly-low γ l α φ (ternary c a b) h = atom-low γ l α φ (ternary c a b) h

-- Bits by number keep what the choice says of the atoms numbered so far.
abbrev Holds : Bits → List Expr → (Expr → Bool) → Type 0
Holds γ l α = (i : ℕ) → i < length l → (d : Expr) → has_own_value (get_or l i d) ≡ false → γ i ≡ α (get_or l i d)

-- bits with another bit at one number
abbrev put : ℕ → Bool → Bits → Bits
put n b γ i = cond (eqb i n) b (γ i)

abbrev pick : Bool → Bits → Bits → Bits
pick true x y = x
pick false x y = y

abbrev fill_by : Entry → Bits → Bits → Bits → Bits → Bits
fill_by (Both Sum) x y own γ = y
fill_by (Both Product) x y own γ = y
fill_by (Both Or) x y own γ = y
fill_by Keeps x y own γ = x
fill_by Clears x y own γ = γ
fill_by Atom x y own γ = own

-- bits for the atoms of a part, put onto those for the atoms before it
unfoldable fill : List Expr → (Expr → Bool) → ByPath Bool → Expr → Bits → Bits
fill l α φ (variable n) γ = put (number_in l (variable n)) (atom_bit α φ (variable n)) γ
fill l α φ (constant w x) γ = γ
fill l α φ condition_true γ = put (number_in l condition_true) (atom_bit α φ condition_true) γ
fill l α φ condition_false γ = put (number_in l condition_false) (atom_bit α φ condition_false) γ
fill l α φ (effect t) γ = put (number_in l (effect t)) (atom_bit α φ (effect t)) γ
fill l α φ (load t a) γ = put (number_in l (load t a)) (atom_bit α φ (load t a)) γ
fill l α φ (cast t a) γ = pick (eqb t 9) (put (number_in l (cast t a)) (atom_bit α φ (cast t a)) γ) (fill l α (under 0 φ) a γ)
fill l α φ (binary o a b) γ =
    fill_by (entered o b) (fill l α (under 0 φ) a γ) (fill (parity l a).atoms α (under 1 φ) b (fill l α (under 0 φ) a γ))
    (put (number_in l (binary o a b)) (atom_bit α φ (binary o a b)) γ) γ
fill l α φ (ternary c a b) γ = put (number_in l (ternary c a b)) (atom_bit α φ (ternary c a b)) γ

-- what filling leaves
record Filled (γ : Bits) (l : List Expr) (α : Expr → Bool) (l' : List Expr) (γ' : Bits) (Fit : Type 0) : Type 0 where
  fits : Fit
  keeps' : Holds γ' l' α
  same : (i : ℕ) → i < length l → γ' i ≡ γ i

longer : {l F : List Expr} → Extends l F → {i : ℕ} → i < length l → i < length F
longer {l} x h = omega (arith, simp length-append at (ap length x.is))

same-atom : (γ γ' : Bits) (l : List Expr) (α : Expr → Bool) (φ : ByPath Bool) (e : Expr)
    → ((i : ℕ) → i < length (noted l e) → γ' i ≡ γ i) → FitsAtom γ l α φ e → FitsAtom γ' l α φ e
same-atom γ γ' l α φ e same h = same (number_in l e) (within (noting l e)) ∙ h
  where
    within : Noting l e → number_in l e < length (noted l e)
    within (known h is) = rw is h
    within (new h is) = rw (is, h) (simp length-append (omega arith))

-- the bits below a list's length decide whether they fit a part whose atoms are all in it
fits-same : (γ γ' : Bits) (l : List Expr) (α : Expr → Bool) (φ : ByPath Bool) (e : Expr)
    → ((i : ℕ) → i < length (parity l e).atoms → γ' i ≡ γ i) → Fits γ l α φ e → Fits γ' l α φ e
unfolding Fits parity atom_low
fits-same γ γ' l α φ (variable n) same h = same-atom γ γ' l α φ (variable n) same h
fits-same γ γ' l α φ (constant w x) same h = tt
fits-same γ γ' l α φ condition_true same h = same-atom γ γ' l α φ condition_true same h
fits-same γ γ' l α φ condition_false same h = same-atom γ γ' l α φ condition_false same h
fits-same γ γ' l α φ (effect t) same h = same-atom γ γ' l α φ (effect t) same h
fits-same γ γ' l α φ (load t a) same h = same-atom γ γ' l α φ (load t a) same h
fits-same γ γ' l α φ (cast t a) same h = go (eqb t 9) same h (fits-same γ γ' l α (under 0 φ) a)
  where
    go : (b : Bool) → ((i : ℕ) → i < length (cond b (atom_low l (cast t a)) (parity l a)).atoms → γ' i ≡ γ i)
        → Either b (FitsAtom γ l α φ (cast t a)) (Fits γ l α (under 0 φ) a)
        → (((i : ℕ) → i < length (parity l a).atoms → γ' i ≡ γ i) → Fits γ l α (under 0 φ) a → Fits γ' l α (under 0 φ) a)
        → Either b (FitsAtom γ' l α φ (cast t a)) (Fits γ' l α (under 0 φ) a)
    go true same h rest = same-atom γ γ' l α φ (cast t a) same h
    go false same h rest = rest same h
fits-same γ γ' l α φ (binary o a b) same h =
    go (entered o b) same h (fits-same γ γ' l α (under 0 φ) a) (fits-same γ γ' (parity l a).atoms α (under 1 φ) b)
  where
    L : Low
    L = parity l a

    R : Low
    R = parity (parity l a).atoms b

    left : ((i : ℕ) → i < length R.atoms → γ' i ≡ γ i) → (i : ℕ) → i < length L.atoms → γ' i ≡ γ i
    left same i h = same i (longer (atoms-grow L.atoms b) h)

    go : (k : Entry) → ((i : ℕ) → i < length (low_of k L R (atom_low l (binary o a b)) l).atoms → γ' i ≡ γ i)
        → By k (Fits γ l α (under 0 φ) a) (Fits γ L.atoms α (under 1 φ) b) (FitsAtom γ l α φ (binary o a b))
        → (((i : ℕ) → i < length L.atoms → γ' i ≡ γ i) → Fits γ l α (under 0 φ) a → Fits γ' l α (under 0 φ) a)
        → (((i : ℕ) → i < length R.atoms → γ' i ≡ γ i) → Fits γ L.atoms α (under 1 φ) b → Fits γ' L.atoms α (under 1 φ) b)
        → By k (Fits γ' l α (under 0 φ) a) (Fits γ' L.atoms α (under 1 φ) b) (FitsAtom γ' l α φ (binary o a b))
    go (Both Sum) same h p q = (p (left same) h.0, q same h.1)
    go (Both Product) same h p q = (p (left same) h.0, q same h.1)
    go (Both Or) same h p q = (p (left same) h.0, q same h.1)
    go Keeps same h p q = p same h
    go Clears same h p q = tt
    go Atom same h p q = same-atom γ γ' l α φ (binary o a b) same h
fits-same γ γ' l α φ (ternary c a b) same h = same-atom γ γ' l α φ (ternary c a b) same h

put-here : (n : ℕ) (b : Bool) (γ : Bits) → put n b γ n ≡ b
put-here n b γ = rw (eq-eqb n n refl)

-- an atom's bit is put in: an atom that is there already has it
filled-atom : (γ : Bits) (l : List Expr) (α : Expr → Bool) (φ : ByPath Bool) (e : Expr) → Holds γ l α
    → Filled γ l α (noted l e) (put (number_in l e) (atom_bit α φ e) γ) (FitsAtom (put (number_in l e) (atom_bit α φ e) γ) l α φ e)
filled-atom γ l α φ e keep = go (noting l e)
  where
    n : ℕ
    n = number_in l e

    b : Bool
    b = atom_bit α φ e

    same : (i : ℕ) → i < length l → put n b γ i ≡ γ i
    same i h = at (eqb i n) refl
      where
        at : (t : Bool) → eqb i n ≡ t → cond t b (γ i) ≡ γ i
        at false test = refl
        at true test =
            let is = eqb-true i n test in
            let found = before l e (rw is at h) in
            let tree = found.equal e in
            rw found.plain (sym (keep i h e (rw is (ap has_own_value tree ∙ found.plain)) ∙ ap α (rw is tree)))

    go : Noting l e → Filled γ l α (noted l e) (put n b γ) (FitsAtom (put n b γ) l α φ e)
    go (known h is) = record { fits = put-here n b γ; keeps' = rw is (λ i h d plain. same i h ∙ keep i h d plain); same = same }
    go (new h is) = record { fits = put-here n b γ; keeps' = rw is later; same = same }
      where
        later : Holds (put n b γ) (l ++ (e ∷ [])) α
        later i less d plain = at (dec_lt i (length l))
          where
            at : Dec (i < length l) → put n b γ i ≡ α (get_or (l ++ (e ∷ [])) i d)
            at (yes low) = let is' = get_or-append l (e ∷ []) d i low in same i low ∙ keep i low d (rw is' at plain) ∙ ap α (sym is')
            at (no high) =
                let last : i ≡ length l = omega (arith, simp length-append at less) in
                let tree : get_or (l ++ (e ∷ [])) i d ≡ e = rw last (get_or-append_seam l e [] d) in
                let own : has_own_value e ≡ false = rw tree at plain in
                let here : i ≡ n = last ∙ sym h in
                let bit : atom_bit α φ e ≡ α e = rw own in
                ap (put n b γ) here ∙ put-here n b γ ∙ bit ∙ ap α (sym tree)

filled : (γ : Bits) (l : List Expr) (α : Expr → Bool) (φ : ByPath Bool) (e : Expr) → Holds γ l α
    → Filled γ l α (parity l e).atoms (fill l α φ e γ) (Fits (fill l α φ e γ) l α φ e)
unfolding fill parity Fits atom_low
filled γ l α φ (variable n) keep = filled-atom γ l α φ (variable n) keep
filled γ l α φ (constant w x) keep = record { fits = tt; keeps' = keep; same = λ i h. refl }
filled γ l α φ condition_true keep = filled-atom γ l α φ condition_true keep
filled γ l α φ condition_false keep = filled-atom γ l α φ condition_false keep
filled γ l α φ (effect t) keep = filled-atom γ l α φ (effect t) keep
filled γ l α φ (load t a) keep = filled-atom γ l α φ (load t a) keep
filled γ l α φ (cast t a) keep = go (eqb t 9) (filled γ l α (under 0 φ) a keep)
  where
    G : Bits
    G = fill l α (under 0 φ) a γ

    own : Bits
    own = put (number_in l (cast t a)) (atom_bit α φ (cast t a)) γ

    go : (b : Bool) → Filled γ l α (parity l a).atoms G (Fits G l α (under 0 φ) a)
        → Filled γ l α (cond b (atom_low l (cast t a)) (parity l a)).atoms (pick b own G)
        (Either b (FitsAtom (pick b own G) l α φ (cast t a)) (Fits (pick b own G) l α (under 0 φ) a))
    go true h = filled-atom γ l α φ (cast t a) keep
    go false h = h
filled γ l α φ (binary o a b) keep =
    let left = filled γ l α (under 0 φ) a keep in
    go (entered o b) left (filled (fill l α (under 0 φ) a γ) (parity l a).atoms α (under 1 φ) b left.keeps')
  where
    L : Low
    L = parity l a

    R : Low
    R = parity (parity l a).atoms b

    G : Bits
    G = fill l α (under 0 φ) a γ

    H : Bits
    H = fill (parity l a).atoms α (under 1 φ) b G

    own : Bits
    own = put (number_in l (binary o a b)) (atom_bit α φ (binary o a b)) γ

    two : Filled γ l α L.atoms G (Fits G l α (under 0 φ) a) → Filled G L.atoms α R.atoms H (Fits H L.atoms α (under 1 φ) b)
        → Filled γ l α R.atoms H (Fits H l α (under 0 φ) a × Fits H L.atoms α (under 1 φ) b)
    two p q = record {
      fits = (fits-same G H l α (under 0 φ) a q.same p.fits, q.fits);
      keeps' = q.keeps';
      same = λ i h. q.same i (longer (atoms-grow l a) h) ∙ p.same i h;
    }

    go : (k : Entry) → Filled γ l α L.atoms G (Fits G l α (under 0 φ) a) → Filled G L.atoms α R.atoms H (Fits H L.atoms α (under 1 φ) b)
        → Filled γ l α (low_of k L R (atom_low l (binary o a b)) l).atoms (fill_by k G H own γ)
        (By k (Fits (fill_by k G H own γ) l α (under 0 φ) a) (Fits (fill_by k G H own γ) L.atoms α (under 1 φ) b) (FitsAtom (fill_by k G H own γ) l α φ (binary o a b)))
    go (Both Sum) p q = two p q
    go (Both Product) p q = two p q
    go (Both Or) p q = two p q
    go Keeps p q = p
    go Clears p q = record { fits = tt; keeps' = keep; same = λ i h. refl }
    go Atom p q = filled-atom γ l α φ (binary o a b) keep
filled γ l α φ (ternary c a b) keep = filled-atom γ l α φ (ternary c a b) keep

-- bits by number that fit a choice at two sides, the second numbered after the first
pub record FitBoth (γ : Bits) (α : Expr → Bool) (φ : ByPath Bool) (a b : Expr) : Type 0 where
  pub left : Fits γ [] α (under 0 φ) a
  pub right : Fits γ (parity [] a).atoms α (under 1 φ) b

pub record SomeBits (α : Expr → Bool) (φ : ByPath Bool) (a b : Expr) : Type 0 where
  pub bits : Bits
  pub both : FitBoth bits α φ a b

-- Every choice has bits by number that fit it.
pub some_bits : (α : Expr → Bool) (φ : ByPath Bool) (a b : Expr) → SomeBits α φ a b
some_bits α φ a b =
    let p = filled (λ i. false) [] α (under 0 φ) a (λ i h. absurd (omega arith)) in
    let q = filled (fill [] α (under 0 φ) a (λ i. false)) (parity [] a).atoms α (under 1 φ) b p.keeps' in
    record {
      bits = fill (parity [] a).atoms α (under 1 φ) b (fill [] α (under 0 φ) a (λ i. false));
      both = record {
        left = fits-same (fill [] α (under 0 φ) a (λ i. false)) (fill (parity [] a).atoms α (under 1 φ) b (fill [] α (under 0 φ) a (λ i. false))) [] α (under 0 φ) a q.same p.fits;
        right = q.fits;
      };
    }

-- The number that each atom with an effect in it has, by its path.
unfoldable numbers : List Expr → Expr → ByPath ℕ
numbers l (variable n) path = length l
numbers l (constant w x) path = length l
numbers l condition_true path = length l
numbers l condition_false path = length l
numbers l (effect t) path = length l
numbers l (load t a) path = length l
numbers l (cast t a) [] = length l
numbers l (cast t a) (k ∷ path) = numbers l a path
numbers l (binary o a b) [] = length l
numbers l (binary o a b) (zero ∷ path) = numbers l a path
numbers l (binary o a b) (suc k ∷ path) = numbers (parity l a).atoms b path
numbers l (ternary c a b) path = length l

-- in a list that has it, an atom without an effect has its number as its index
place_in : (l F : List Expr) (e : Expr) → Extends (noted l e) F → has_own_value e ≡ false → place F e ≡ number_in l e
place_in l F e x plain = go (noting l e)
  where
    go : Noting l e → place F e ≡ number_in l e
    go (known h is) =
        let low : place l e < length l = rw plain at h in
        rw (plain, x.is, is) (place-stays l x.rest e low)
    go (new h is) =
        let high : place l e ≡ length l = rw plain at h in
        rw (plain, x.is, is, append_assoc) (place-new l x.rest e (omega arith) ∙ sym high)

atom-of : (γ : Bits) (l F : List Expr) (φ : ByPath Bool) (e : Expr) → Extends (noted l e) F → φ [] ≡ γ (length l)
    → FitsAtom γ l (λ t. γ (place F t)) φ e
atom-of γ l F φ e x own = go (has_own_value e) refl
  where
    go : (b : Bool) → has_own_value e ≡ b → γ (number_in l e) ≡ cond b (φ []) (γ (place F e))
    go true test = rw test (sym own)
    go false test = ap γ (sym (place_in l F e x test))

-- bits by number fit the choice that they make
fits-own : (γ : Bits) (l F : List Expr) (e : Expr) → Extends (parity l e).atoms F
    → Fits γ l (λ t. γ (place F t)) (λ path. γ (numbers l e path)) e
unfolding Fits parity numbers atom_low
fits-own γ l F (variable n) x = atom-of γ l F (λ path. γ (length l)) (variable n) x refl
fits-own γ l F (constant w v) x = tt
fits-own γ l F condition_true x = atom-of γ l F (λ path. γ (length l)) condition_true x refl
fits-own γ l F condition_false x = atom-of γ l F (λ path. γ (length l)) condition_false x refl
fits-own γ l F (effect t) x = atom-of γ l F (λ path. γ (length l)) (effect t) x refl
fits-own γ l F (load t a) x = atom-of γ l F (λ path. γ (length l)) (load t a) x refl
fits-own γ l F (cast t a) x = go (eqb t 9) x (fits-own γ l F a)
  where
    go : (b : Bool) → Extends (cond b (atom_low l (cast t a)) (parity l a)).atoms F
        → (Extends (parity l a).atoms F → Fits γ l (λ t. γ (place F t)) (λ path. γ (numbers l a path)) a)
        → Either b (FitsAtom γ l (λ t. γ (place F t)) (λ path. γ (numbers l (cast t a) path)) (cast t a))
        (Fits γ l (λ t. γ (place F t)) (λ path. γ (numbers l a path)) a)
    go true x rest = atom-of γ l F (λ path. γ (numbers l (cast t a) path)) (cast t a) x refl
    go false x rest = rest x
fits-own γ l F (binary o a b) x = go (entered o b) x (fits-own γ l F a) (fits-own γ (parity l a).atoms F b)
  where
    L : Low
    L = parity l a

    R : Low
    R = parity (parity l a).atoms b

    go : (k : Entry) → Extends (low_of k L R (atom_low l (binary o a b)) l).atoms F
        → (Extends L.atoms F → Fits γ l (λ t. γ (place F t)) (λ path. γ (numbers l a path)) a)
        → (Extends R.atoms F → Fits γ L.atoms (λ t. γ (place F t)) (λ path. γ (numbers L.atoms b path)) b)
        → By k (Fits γ l (λ t. γ (place F t)) (λ path. γ (numbers l a path)) a)
        (Fits γ L.atoms (λ t. γ (place F t)) (λ path. γ (numbers L.atoms b path)) b)
        (FitsAtom γ l (λ t. γ (place F t)) (λ path. γ (numbers l (binary o a b) path)) (binary o a b))
    go (Both Sum) x p q = (p (extends-trans (atoms-grow L.atoms b) x), q x)
    go (Both Product) x p q = (p (extends-trans (atoms-grow L.atoms b) x), q x)
    go (Both Or) x p q = (p (extends-trans (atoms-grow L.atoms b) x), q x)
    go Keeps x p q = p x
    go Clears x p q = tt
    go Atom x p q = atom-of γ l F (λ path. γ (numbers l (binary o a b) path)) (binary o a b) x refl
fits-own γ l F (ternary c a b) x = atom-of γ l F (λ path. γ (length l)) (ternary c a b) x refl

pub record SomeChoice (γ : Bits) (a b : Expr) : Type 0 where
  pub shared : Expr → Bool
  pub own : ByPath Bool
  pub both : FitBoth γ shared own a b

-- All bits by number fit some choice.
pub some-choice : (γ : Bits) (a b : Expr) → SomeChoice γ a b
unfolding numbers
some-choice γ a b =
    let F = (parity (parity [] a).atoms b).atoms in
    record {
      shared = λ t. γ (place F t);
      own = λ path. γ (numbers [] (binary 0 a b) path);
      both = record {
        left = fits-own γ [] F a (atoms-grow (parity [] a).atoms b);
        right = fits-own γ (parity [] a).atoms F b (extends-refl F);
      };
    }

pub record PartBits (α : Expr → Bool) (φ : ByPath Bool) (e : Expr) : Type 0 where
  pub bits : Bits
  pub fit : Fits bits [] α φ e

-- The same for one part by itself.
pub part-bits : (α : Expr → Bool) (φ : ByPath Bool) (e : Expr) → PartBits α φ e
part-bits α φ e =
    record { bits = fill [] α φ e (λ i. false); fit = (filled (λ i. false) [] α φ e (λ i h. absurd (omega arith))).fits }
