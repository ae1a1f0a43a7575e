-- What the code of `parity` borrows, and what it leaves there: the atoms in a table, a polynomial at the start of a list of terms.
use Rattle.std.specs.Prelude.{ℕ, ◌+◌, ◌*◌, ◌≤◌, ◌<◌, ◌≡◌, Bool, true, cond, List, [], ◌∷◌, length, take, Result, Ok, Err}
use Rattle.expr.specs.Tree.{Expr, tree_of}
use Rattle.expr.specs.declared.Tree.{Tree}
use Rattle.search.specs.Ascending.{Ascending}
use Rattle.parity.specs.Parity.{Low, parity, pair_low}
use Rattle.parity.specs.declared.Pair.{Pair}
use Rattle.parity.specs.declared.TooMany.{TooMany}
use Rattle.parity.specs.declared.atoms.Atoms.{Atoms}

-- the code's answer past the limits
abbrev pub too_many : TooMany
too_many = record {}

-- what is found within the limits, or that they are passed
abbrev pub within : {A : Type 0} → Bool → A → Result A TooMany
within fits found = cond fits (Ok found) (Err too_many)

-- a part that is entered by both sides, given the atoms before it
abbrev pub pair_of : Pair → List Expr → Expr → Expr → Low
pair_of pair atoms a b = let x = parity atoms a in pair_low pair x (parity x.atoms b)

-- the expressions that trees are
unfoldable pub exprs : List Tree → List Expr
exprs [] = []
exprs (t ∷ l) = tree_of t.words.now ∷ exprs l

-- the atoms that have a number, in order
abbrev pub trees_of : Atoms → List Expr
trees_of a = exprs (take a.count a.list)

-- A buffer for the terms of a part of w words: eight for each word hold the left sides' terms, which stand before what is being made,
-- and 272 more let the sides of an `or`, and their product, be added up.
abbrev pub terms_room : ℕ → ℕ
terms_room w = 8 * w + 272

-- A buffer for a product within a part of w words, and for a copy of a right side behind it. A part of 36 words has at most nine leaves,
-- and then no more than 512 pairs to multiply.
pub record ProductsRoom (w : ℕ) (scratch : List ℕ) : Type 0 where
  pub least : 512 ≤ length scratch
  pub most : 36 < w → 4096 ≤ length scratch

-- What a part of w words needs beside so many atoms. Each atom takes two words or more, and each side of an operator leaves two for the operator
-- itself, so a table of 64 suffices for 256 words.
pub record Lent (w count : ℕ) (terms scratch : List ℕ) : Type 0 where
  pub room : 4 * count + w ≤ 256
  pub space : terms_room w ≤ length terms
  pub products : ProductsRoom w scratch

-- The first n terms and the k after them are the sides' polynomials, and there is space to put them together.
pub record Sides (terms : List ℕ) (n k : ℕ) (scratch : List ℕ) : Type 0 where
  pub left : n ≤ 256
  pub right : k ≤ 256
  pub ordered : Ascending (take n terms)
  pub space : n + k + 256 ≤ length terms
  pub copies : 512 ≤ length scratch
  pub products : n * k ≤ 4096 → n * k ≤ length scratch

-- A polynomial within the limits stands at the start, and its size is told; else that it passes them.
pub record Made (fits : Bool) (poly terms : List ℕ) (r : Result ℕ TooMany) : Type 0 where
  pub size : r ≡ within fits (length poly)
  pub stands : fits ≡ true → take (length poly) terms ≡ poly

-- The same with the atoms.
pub record Given (low : Low) (atoms : List Expr) (terms : List ℕ) (r : Result ℕ TooMany) : Type 0 where
  pub made : Made low.fits low.poly terms r
  pub numbered : low.fits ≡ true → atoms ≡ low.atoms
