use Rattle.std.proofs.Common.{refl, ◌+◌, length, arith}
use Rattle.std.proofs.lemmas.Bool.{le-leb, lt-leb}
use Rattle.sheet_field.specs.Field.{field_at}
use Rattle.sheet_field.proofs.Reader.take_field.Goals as goal
use Rattle.sheet_field.proofs.Reader.take_field.Goals.{else-at-self-via-then-at-self+else-self-at, else-at-self-via-else-at-self}

pub returns-then-self-at-clause-reads : goal.returns-then-self-at-clause-reads
unfolding field_at
returns-then-self-at-clause-reads g c =
    record { same = refl; place = rw (le-leb (c.args.self.now.at + g.row.N) (length c.args.self.now.bytes.now) (omega arith)) refl }

pub returns-then-self-at-clause-value : goal.returns-then-self-at-clause-value
unfolding field_at
returns-then-self-at-clause-value g c =
    rw (le-leb (c.args.self.now.at + g.row.N) (length c.args.self.now.bytes.now) (omega arith), c.number.ensures) refl

pub returns-else-at-self-clause-reads : goal.returns-else-at-self-clause-reads
unfolding field_at
returns-else-at-self-clause-reads g c =
    record {
      same = refl;
      place = elim c.else-at-self.branch [
        | else-at-self-via-then-at-self+else-self-at w ↦ rw (lt-leb (c.args.self.now.at + g.row.N) (length c.args.self.now.bytes.now) (omega arith), c.at.ensures) refl
        | else-at-self-via-else-at-self w ↦ rw (lt-leb (c.args.self.now.at + g.row.N) (length c.args.self.now.bytes.now) (omega arith), c.at.ensures) refl
      ];
    }
