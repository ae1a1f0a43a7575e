-- Lists that rise strictly, and where a number stands in a list.
use Rattle.std.specs.Prelude.{ℕ, suc, ◌+◌, ◌≤◌, ◌<◌, cond, List, [], ◌∷◌, length, get_or, ltb, eqb, Option, Some, None, option_map}

-- Each element is below the next one.
pub record Ascending (l : List ℕ) : Type 0 where
  pub rises : (i : ℕ) → i + 1 < length l → get_or l i 0 < get_or l (i + 1) 0

-- The first n elements are below x.
pub record Below (l : List ℕ) (x n : ℕ) : Type 0 where
  pub within : n ≤ length l
  pub below : (i : ℕ) → i < n → get_or l i 0 < x

-- How many elements are below x.
unfoldable pub count_below : List ℕ → ℕ → ℕ
count_below [] x = 0
count_below (a ∷ l) x = cond (ltb a x) (suc (count_below l x)) (count_below l x)

-- Where x stands: the first index whose element is x.
unfoldable pub place_of : List ℕ → ℕ → Option ℕ
place_of [] x = None
place_of (a ∷ l) x = cond (eqb a x) (Some 0) (option_map suc (place_of l x))
