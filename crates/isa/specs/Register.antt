-- Registers as a sheet names them.
use Rattle.std.specs.Prelude.{Bool, not, ◌&&◌, ◌||◌, leb, eqb}
use Rattle.isa.specs.declared.Register.{Register}

-- The sheet, Operand: class 1 has index 0 to 15 and size 8, 16, 32 or 64 at offset 0, or size 8 at offset 8 with index 0
-- to 3; registers of other classes are not looked into.
abbrev pub well_formed : Register → Bool
well_formed r =
    not (eqb r.class 1)
    || (leb r.index 15
    && ((eqb r.offset 0 && (eqb r.size 8 || eqb r.size 16 || eqb r.size 32 || eqb r.size 64))
    || (eqb r.offset 8 && eqb r.size 8 && leb r.index 3)))
