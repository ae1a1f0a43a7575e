-- What no node's answer is.
use Prim.Native.Nat.{ℕ}
use mathlib.Core.Path.{◌≡◌, sym, ◌∙◌}
use mathlib.Core.List.{List}
use Rattle.std.specs.Prelude.{Ok}
use Rattle.verdict.specs.declared.Verdict.{Verdict}
use Rattle.verdict.specs.declared.Verdict.TheVariants.{NoBranch}
use Rattle.verdict.specs.Numbers.{Answer, answer_numbers}
use Rattle.answer_node.specs.Node.{node_answer}
use Rattle.answer_node.proofs.Judged.{always-judged}

-- no node's answer is that there is no branch
pub returned-none : (s : List ℕ) (number : ℕ) (a : Answer) {v : Verdict} → answer_numbers a ≡ node_answer s number → a ≡ Ok v → v ≡ NoBranch → ⊥
returned-none s number a gives given is = always-judged s number (sym gives ∙ rw (given, is))
