-- Flags, each known or unknown by itself (M3), and conditions of them, which hold, fail or stay unknown.
use Rattle.std.specs.Prelude.{Bool, true, false, not, ◌&&◌, ◌||◌, Option, Some, None}

abbrev pub opposite : Option Bool → Option Bool
opposite (Some b) = Some (not b)
opposite None = None

abbrev pub set_or : Bool → Option Bool → Option Bool
set_or true g = Some true
set_or false g = g

-- one of the two is set: known where one is known to be set, or both are known
abbrev pub either : Option Bool → Option Bool → Option Bool
either (Some a) g = set_or a g
either None (Some b) = set_or b None
either None None = None

-- both are set: known where one is known to be clear, or both are known
abbrev pub both : Option Bool → Option Bool → Option Bool
both f g = opposite (either (opposite f) (opposite g))

-- one is set and the other clear: known where both are known
abbrev pub differ : Option Bool → Option Bool → Option Bool
differ (Some a) (Some b) = Some (a && not b || not a && b)
differ (Some a) None = None
differ None g = None
