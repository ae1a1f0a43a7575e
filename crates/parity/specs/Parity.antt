-- `parity`: the low bit of a part as a polynomial over the low bits of its atoms (both are terms of the scope document and
-- the Rust). An atom is a part that is not entered. Each polynomial is an ascending list of monomials (crate poly).
use Rattle.std.specs.Prelude.{ℕ, suc, ◌*◌, ◌%◌, ◌^◌, Bool, true, cond, not, ◌&&◌, ◌||◌, List, [], ◌∷◌, ◌++◌, eqb, leb, ltb, length, Option, Some, None}
use Rattle.expr.specs.Codes.{bool, op_add, op_and, op_mod, op_mul, op_or, op_shl, op_sub, op_xor}
use Rattle.expr.specs.Tree.{Expr}
use Rattle.expr.specs.Tree.Expr.{variable, constant, condition_true, condition_false, effect, load, cast, binary, ternary}
use Rattle.expr.specs.Scan.{has_own_value, same_tree}
use Rattle.poly.specs.Terms.{sum, product}
use Rattle.parity.specs.declared.Entry.{Entry}
use Rattle.parity.specs.declared.Entry.TheVariants.{Both, Keeps, Clears, Atom}
use Rattle.parity.specs.declared.Pair.{Pair}
use Rattle.parity.specs.declared.Pair.TheVariants.{Sum, Product, Or}

-- the value of a constant as it is written
abbrev pub constant_of : Expr → Option ℕ
constant_of (variable n) = None
constant_of (constant w x) = Some x
constant_of condition_true = None
constant_of condition_false = None
constant_of (effect t) = None
constant_of (load t a) = None
constant_of (cast t a) = None
constant_of (binary o a b) = None
constant_of (ternary c a b) = None

-- The remainder by an even constant other than 0 keeps the left side's low bit (N11).
abbrev pub on_remainder : Option ℕ → Entry
on_remainder None = Atom
on_remainder (Some x) = cond (not (eqb x 0) && eqb (x % 2) 0) Keeps Atom

-- A shift to the left by the constant 0 keeps the low bit, and by a constant from 1 to 31 clears it (N11).
abbrev pub on_shift : Option ℕ → Entry
on_shift None = Atom
on_shift (Some x) = cond (eqb x 0) Keeps (cond (ltb x 32) Clears Atom)

-- Which operators are entered, given the right side: + - ^; × &; |; % and << with a constant on the right (N11).
unfoldable pub entered : ℕ → Expr → Entry
entered o b =
    cond (eqb o op_add || (eqb o op_sub || eqb o op_xor)) (Both Sum)
    (cond (eqb o op_mul || eqb o op_and) (Both Product)
    (cond (eqb o op_or) (Both Or)
    (cond (eqb o op_mod) (on_remainder (constant_of b))
    (cond (eqb o op_shl) (on_shift (constant_of b)) Atom))))

-- the first index of a tree in a list, or the list's length where it is not there
unfoldable pub place : List Expr → Expr → ℕ
place [] e = 0
place (x ∷ l) e = cond (same_tree x e) 0 (suc (place l e))

-- The number of an atom, given those before it: equal atoms are one, and one with an effect in it is always a new one (N13).
abbrev pub number_in : List Expr → Expr → ℕ
number_in atoms e = cond (has_own_value e) (length atoms) (place atoms e)

-- the atoms with this one
abbrev pub noted : List Expr → Expr → List Expr
noted atoms e = cond (ltb (number_in atoms e) (length atoms)) atoms (atoms ++ (e ∷ []))

-- What `parity` yields: the polynomial, the atoms by number, and whether every part that was entered is within the limits.
pub record Low : Type 0 where
  pub poly : List ℕ
  pub atoms : List Expr
  pub fits : Bool

-- a part has at most 256 terms (N28)
abbrev pub few : List ℕ → Bool
few p = leb (length p) 256

-- a product multiplies at most 4,096 pairs (N31)
abbrev pub few_pairs : List ℕ → List ℕ → Bool
few_pairs p q = leb (length p * length q) 4096

-- a constant's low bit: the polynomial 1 or 0
abbrev pub constant_poly : ℕ → List ℕ
constant_poly x = cond (eqb (x % 2) 1) (0 ∷ []) []

-- an atom: the monomial with that atom alone
unfoldable pub atom_low : List Expr → Expr → Low
atom_low atoms e = record { poly = 2 ^ number_in atoms e ∷ []; atoms = noted atoms e; fits = true }

-- an or is a + b + ab: the product within it is held to the limits too (N29)
abbrev pub joined : List ℕ → List ℕ → List ℕ
joined p q = sum (sum p q) (product p q)

-- both sides' polynomials put together, and the limits on that
abbrev pub pair_poly : Pair → List ℕ → List ℕ → List ℕ
pair_poly Sum p q = sum p q
pair_poly Product p q = product p q
pair_poly Or p q = joined p q

abbrev pub pair_fits : Pair → List ℕ → List ℕ → Bool
pair_fits Sum p q = few (sum p q)
pair_fits Product p q = few_pairs p q && few (product p q)
pair_fits Or p q = few_pairs p q && (few (product p q) && few (joined p q))

abbrev pub pair_low : Pair → Low → Low → Low
pair_low pair x y = record {
  poly = pair_poly pair x.poly y.poly;
  atoms = y.atoms;
  fits = x.fits && (y.fits && pair_fits pair x.poly y.poly);
}

-- a part from its sides, by how it is entered
abbrev pub low_of : Entry → Low → Low → Low → List Expr → Low
low_of (Both pair) x y own atoms = pair_low pair x y
low_of Keeps x y own atoms = x
low_of Clears x y own atoms = record { poly = []; atoms = atoms; fits = true }
low_of Atom x y own atoms = own

-- The polynomial of a part, given the atoms numbered before it. A constant has its own low bit; a cast keeps the low bit, but
-- one to bool is not entered (N11, N12).
unfoldable pub parity : List Expr → Expr → Low
parity atoms (variable n) = atom_low atoms (variable n)
parity atoms (constant w x) = record { poly = constant_poly x; atoms = atoms; fits = true }
parity atoms condition_true = atom_low atoms condition_true
parity atoms condition_false = atom_low atoms condition_false
parity atoms (effect t) = atom_low atoms (effect t)
parity atoms (load t a) = atom_low atoms (load t a)
parity atoms (cast t a) = cond (eqb t bool) (atom_low atoms (cast t a)) (parity atoms a)
parity atoms (binary o a b) =
    let x = parity atoms a in
    low_of (entered o b) x (parity x.atoms b) (atom_low atoms (binary o a b)) atoms
parity atoms (ternary c a b) = atom_low atoms (ternary c a b)

-- The low bits of two sides differ by this polynomial: the right side's atoms are numbered after the left side's (N6).
abbrev pub right_low : Expr → Expr → Low
right_low a b = parity (parity [] a).atoms b

abbrev pub difference : Expr → Expr → List ℕ
difference a b = sum (parity [] a).poly (right_low a b).poly
