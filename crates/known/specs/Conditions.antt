-- What is known of the conditions of jumps.
use Rattle.std.specs.Prelude.{ℕ, Bool, eqb, Option}
use Rattle.std.specs.Option.{option_map}
use Rattle.isa.specs.declared.Condition.{Condition}
use Rattle.isa.specs.declared.Condition.TheVariants.{E, Ne, L, Ge, Le, G, B, Ae, Be, A, S, Ns, P, Np, O, No}
use Rattle.alu.specs.declared.Flags.{Flags}
use Rattle.alu.specs.Flags.{opposite, either, both, differ}

-- What is known of a condition of flags, case by case as the Rust's `holds` has it (M18, S23).
unfoldable pub flag_condition : Condition → Flags → Option Bool
flag_condition E f = f.zf
flag_condition Ne f = opposite f.zf
flag_condition L f = differ f.sf f.of
flag_condition Ge f = opposite (differ f.sf f.of)
flag_condition Le f = either f.zf (differ f.sf f.of)
flag_condition G f = both (opposite f.zf) (opposite (differ f.sf f.of))
flag_condition B f = f.cf
flag_condition Ae f = opposite f.cf
flag_condition Be f = either f.cf f.zf
flag_condition A f = both (opposite f.cf) (opposite f.zf)
flag_condition S f = f.sf
flag_condition Ns f = opposite f.sf
flag_condition P f = f.pf
flag_condition Np f = opposite f.pf
flag_condition O f = f.of
flag_condition No f = opposite f.of

-- The condition of a count-register jump, on the part of the register that it reads (M19).
abbrev pub is_zero : Option ℕ → Option Bool
is_zero v = option_map (λ x. eqb x 0) v
