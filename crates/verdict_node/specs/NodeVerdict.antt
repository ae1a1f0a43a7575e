-- The verdict on a node.
use Rattle.std.specs.Prelude.{ℕ, cond, Ok, Err}
use Rattle.refusal.specs.declared.Fault.TheVariants.{Records, Terms}
use Rattle.refusal.specs.Numbers.{refused}
use Rattle.sheet_node.specs.Node.{Node}
use Rattle.verdict.specs.Numbers.{Answer}
use Rattle.substitution.specs.Substitution.{Substituted, too_long, into, with_assignments}
use Rattle.decide.specs.Decide.{decide, fits}

-- Refusals 10 and 11 stand at the node's first byte, 10 before 11; else the verdict is that on the substituted condition (N26, N27).
abbrev pub on_substituted : ℕ → Substituted → Answer
on_substituted place too_long = Err (refused Records place)
on_substituted place (into e) = cond (fits e) (Ok (decide e)) (Err (refused Terms place))

-- The answer for a node whose record starts at an offset (N1, N32).
unfoldable pub node_verdict : Node → ℕ → Answer
node_verdict n place = on_substituted place (with_assignments n.statements n.condition)
