use Rattle.std.proofs.Common.{◌+◌, ◌*◌, ◌-◌, length}
use Rattle.value.proofs.Plain.+integer_condition_logical_ternary.Given as goal

abbrev pub decreases-integer : goal.decreases-integer
decreases-integer l = 2 * length l.self.tree.words.now

abbrev pub decreases-condition : goal.decreases-condition
decreases-condition l = 2 * length l.self.tree.words.now + 1

abbrev pub decreases-logical : goal.decreases-logical
decreases-logical l = 2 * length l.self.tree.words.now + 2 * length l.right.tree.words.now + 2

abbrev pub decreases-ternary : goal.decreases-ternary
decreases-ternary l = 2 * length l.self.tree.words.now - 1
