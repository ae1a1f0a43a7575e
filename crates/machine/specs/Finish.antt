-- What an instruction leaves, put into the state: a shorthand of the rules, which says nothing by itself.
use Rattle.std.specs.Prelude.{Bool, cond}
use Rattle.isa.specs.declared.Register.{Register}
use Rattle.known.specs.declared.Effect.{Effect}
use Rattle.machine.specs.declared.State.{State}
use Rattle.machine.specs.States.{with_flags}
use Rattle.machine.specs.Registers.{written}

-- the value is written to the register, if the instruction writes, and the flags are set
unfoldable pub finished : State → Bool → Register → Effect → State
finished s there d e = with_flags (cond there (written s d e.value) s) e.flags
