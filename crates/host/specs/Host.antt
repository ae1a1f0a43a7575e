-- What a C host is given of an answer: the number that a function returns, and what it writes to `out`.
use Rattle.std.specs.Prelude.{ℕ, ◌≡◌, Result, Ok, Err}
use Rattle.refusal.specs.declared.Refusal.{Refusal}
use Rattle.refusal.specs.Numbers.{number_of}

-- a number with 0, or a refusal's number and offset
abbrev pub HandedOut : ℕ → ℕ → Result ℕ Refusal → Type 0
HandedOut r out (Ok n) = (r ≡ 0) × (out ≡ n)
HandedOut r out (Err e) = (r ≡ number_of e.fault) × (out ≡ e.at)
