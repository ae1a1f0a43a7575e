-- The answer for a node is a verdict or a refusal, and not that there is no branch.
use Prim.Native.Nat.{ℕ}
use mathlib.Core.Path.{◌≡◌, refl}
use mathlib.Core.Bool.{Bool, true, false, cond}
use mathlib.Core.List.{List}
use lib.Dec.{ltb}
use Rattle.substitution.specs.Substitution.{Substituted, too_long, into, with_assignments}
use Rattle.verdict.specs.declared.Verdict.{Verdict}
use Rattle.verdict.specs.declared.Verdict.TheVariants.{Always, Never, Undecided, NoBranch}
use Rattle.std.specs.Prelude.{Ok, Err}
use Rattle.refusal.specs.declared.Refusal.{Refusal}
use Rattle.verdict.specs.Numbers.{Numbers, Answer, answer_numbers}
use Rattle.verdict.specs.Numbers.Numbers.{decision, undecided, no_branch, refused}
use Rattle.decide.specs.Decide.{decide, fits}
use Rattle.decide.proofs.Reasons.{has-branch}
use Rattle.sheet_node.specs.Node.{Node}
use Rattle.sheet.specs.Sheet.{Reading, reading_of}
use Rattle.verdict_node.specs.NodeVerdict.{on_substituted, node_verdict}
use Rattle.answer_node.specs.Node.{on_node, node_answer}

abbrev Judges : Numbers → Type 0
Judges (decision value reason) = Unit {0}
Judges undecided = Unit {0}
Judges no_branch = ⊥
Judges (refused number place) = Unit {0}

given-judges : (v : Verdict) → (v ≡ NoBranch → ⊥) → Judges (answer_numbers (Ok v))
given-judges (Always r) there = tt
given-judges (Never r) there = tt
given-judges Undecided there = tt
given-judges NoBranch there = there refl

test-judges : (b : Bool) (a : Answer) (r : Refusal) → Judges (answer_numbers a) → Judges (answer_numbers (cond b a (Err r)))
test-judges true a r judges = judges
test-judges false a r judges = tt

substituted-judges : (place : ℕ) (e : Substituted) → Judges (answer_numbers (on_substituted place e))
substituted-judges place too_long = tt
substituted-judges place (into e) = test-judges (fits e) (Ok (decide e)) _ (given-judges (decide e) (has-branch e))

node-judges : (n : Node) (place : ℕ) → Judges (answer_numbers (node_verdict n place))
unfolding node_verdict
node-judges n place = substituted-judges place (with_assignments n.statements n.condition)

reading-judges : (r : Reading) (s : List ℕ) (number : ℕ) → Judges (answer_numbers (on_node r s number))
reading-judges (Err r) s number = tt
reading-judges (Ok sheet) s number = test-judges (ltb number sheet.nodes.count) (node_verdict _ _) _ (node-judges _ _)

answer-judges : (s : List ℕ) (number : ℕ) → Judges (node_answer s number)
unfolding node_answer
answer-judges s number = reading-judges (reading_of s) s number

-- The theorem: no answer of a node is that there is no branch.
pub always-judged : (s : List ℕ) (number : ℕ) → node_answer s number ≡ no_branch → ⊥
always-judged s number is = go (node_answer s number) is (answer-judges s number)
  where
    go : (a : Numbers) → a ≡ no_branch → Judges a → ⊥
    go a e judges = rw e at judges
