-- What is held, in words: a slot for each variable, with the words of one tree or nothing.
use Rattle.std.specs.Prelude.{◌≡◌, Bool, true, false, cond, not, ◌&&◌, Option, Some, None, List, [], ◌∷◌, ℕ, zero, suc, ◌+◌, ◌-◌, eqb, take}
use Rattle.expr.specs.Codes.{kind_variable, kind_load}
use Rattle.expr.specs.Tree.{Expr, tree_of, kind_of, argument_of, arity_of}
use Rattle.expr.specs.declared.Tree.{Tree}
use Rattle.substitution.specs.declared.Held.{Held}
use Rattle.substitution.specs.declared.slot.Slot.{Slot}
use Rattle.substitution.specs.Substitution.{Entry, free, held, Table, substitute, entry_reads, assigned, long}

-- what a slot holds
abbrev pub entry_in : {n : ℕ} → Slot n → Entry
entry_in s = cond (eqb s.length 0) free (held (tree_of (take s.length s.words.0)))

-- what slots hold, each for the variable of its number
unfoldable pub table_in : {n : ℕ} → List (Slot n) → Table
table_in [] v = free
table_in (s ∷ rest) zero = entry_in s
table_in (s ∷ rest) (suc v) = table_in rest v

-- what is held
abbrev pub table_of : {n : ℕ} → Held n → Table
table_of h = table_in h.slots

-- the tree of an entry, if it is held
abbrev pub Holds : Option Tree → Entry → Type 0
Holds (Some t) e = e ≡ held (tree_of t.words.now)
Holds None e = e ≡ free

-- The words of an expression, or they are more than it may have. (N26)
abbrev pub Made : Option Tree → Expr → Type 0
Made (Some t) e = (tree_of t.words.now ≡ e) × (long e ≡ false)
Made None e = long e ≡ true

-- What one assignment of e to v makes of the table h: the table after it, or the same one where the substituted value is too long. (N1, N26)
abbrev pub Assigned : {A : Type 0} → Option A → ℕ → Expr → Table → Table → Type 0
Assigned (Some _) v e h after = (after ≡ assigned v (substitute h e) h) × (long (substitute h e) ≡ false)
Assigned None v e h after = (after ≡ h) × (long (substitute h e) ≡ true)

-- Going back over the records, with `left` trees still to come that stand under a load: what is held for this record
unfoldable pub entry_for : Table → ℕ → ℕ → Entry
entry_for h left tag = cond (eqb left 0 && eqb (kind_of tag) kind_variable) (h (argument_of tag)) free

-- and how many trees under a load are still to come after it
unfoldable pub pending_after : ℕ → ℕ → ℕ
pending_after left tag = cond (eqb left 0) (cond (eqb (kind_of tag) kind_load) 1 0) (left - 1 + arity_of tag)

-- `ended` of a record: it is a variable other than v whose held value reads v
unfoldable pub ended_tag : ℕ → Table → ℕ → Bool
ended_tag v h tag = eqb (kind_of tag) kind_variable && (not (eqb (argument_of tag) v) && entry_reads v (h (argument_of tag)))
