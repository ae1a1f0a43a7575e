-- What the code of `exact` borrows.
use Rattle.std.specs.Prelude.{ℕ, ◌≤◌, Bool, List, [], length}
use Rattle.expr.specs.Tree.{Expr}
use Rattle.parity.specs.declared.Pair.TheVariants.{Sum}
use Rattle.parity.specs.Lent.{terms_room, ProductsRoom, pair_of}

-- buffers for the terms and the products of a part of w words
pub record Buffers (w : ℕ) (terms scratch : List ℕ) : Type 0 where
  pub space : terms_room w ≤ length terms
  pub products : ProductsRoom w scratch

-- the sides' polynomials and their sum are within the limits
abbrev pub sum_fits : Expr → Expr → Bool
sum_fits a b = (pair_of Sum [] a b).fits
