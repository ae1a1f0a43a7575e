-- How the terms above an index in a borrowed list move when a term is put in there or taken out.
use Rattle.std.specs.Prelude.{ℕ, ◌+◌, ◌≤◌, ◌<◌, List, ◌≡◌, get_or}

-- Of the first n entries those from `at` on are one index further up, and t stands there; all else is as it was.
pub record PutIn (old new : List ℕ) (n at t : ℕ) : Type 0 where
  pub before : (i : ℕ) → i < at → get_or new i 0 ≡ get_or old i 0
  pub here : get_or new at 0 ≡ t
  pub moved : (i : ℕ) → at ≤ i → i < n → get_or new (i + 1) 0 ≡ get_or old i 0
  pub beyond : (i : ℕ) → n < i → get_or new i 0 ≡ get_or old i 0

-- Of the first n entries those after `at` are one index further down; all else is as it was, also the last of them.
pub record TakenOut (old new : List ℕ) (n at : ℕ) : Type 0 where
  pub before : (i : ℕ) → i < at → get_or new i 0 ≡ get_or old i 0
  pub moved : (i : ℕ) → at ≤ i → i + 1 < n → get_or new i 0 ≡ get_or old (i + 1) 0
  pub beyond : (i : ℕ) → n ≤ i + 1 → get_or new i 0 ≡ get_or old i 0
