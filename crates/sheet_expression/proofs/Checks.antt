-- Laws of the check of a record: where it may end, and what it gives where it does not.
use Prim.Native.Nat.{ℕ, ◌+◌, ◌*◌, ◌≤◌, ◌<◌}
use mathlib.Core.Path.{◌≡◌, refl, ◌∙◌}
use mathlib.Core.List.{List}
use mathlib.Core.Bool.{Bool, true, false, cond, not, ◌&&◌, ◌||◌}
use native.Mathlib.Omega.{arith}
use lib.Dec.{leb, eqb}
use borrow.Author.Tests.{lt-leb, le-leb}
use Rattle.std.specs.Prelude.{Ok, Err}
use Rattle.refusal.specs.declared.Fault.TheVariants.{Tree, Constant}
use Rattle.refusal.specs.declared.Refusal.{Refusal}
use Rattle.refusal.specs.Numbers.{refused}
use Rattle.sheet_field.specs.declared.Reader.{Reader}
use Rattle.sheet_field.specs.Field.{Place, FieldReading, field_at, judge, check_field, code_at}
use Rattle.sheet_field.specs.Reads.{Reads}
use Rattle.sheet_field.proofs.Fields.{code-at, field-taken}
use Rattle.expr.specs.Tree.{arity_of}
use Rattle.sheet_expression.specs.declared.CheckedRecord.{CheckedRecord}
use Rattle.sheet_expression.specs.Expression.{argument_at, constant_at, fits_width, depth_after, has_argument, RecordReading, record_at}
use Rattle.sheet_expression.specs.Promises.{checked_record}
use Rattle.sheet_expression.proofs.OneRecord.{read-small}

either : (t : Bool) (x y : FieldReading) {p : Place} → x.next ≡ p → y.next ≡ p → (cond t x y).next ≡ p
either true x y e f = e
either false x y e f = f

-- an argument and a constant leave a refusal as it is
argument-keep : (variables kind : ℕ) (s : List ℕ) (r : Refusal) → (argument_at variables kind s (Err r)).next ≡ Err r
unfolding argument_at check_field field_at
argument-keep variables kind s r = either (has_argument kind) _ _ refl refl

constant-keep : (kind : ℕ) (s : List ℕ) (r : Refusal) → (constant_at kind s (Err r)).next ≡ Err r
unfolding constant_at field_at
constant-keep kind s r = either (eqb kind 1) _ _ refl refl

other-side : (a b : Bool) {t : Bool} → (a && not b) ≡ t → (not a || b) ≡ not t
other-side true true e = rw (← e)
other-side true false e = rw (← e)
other-side false b e = rw (← e)

module _ (variables depth left : ℕ) (first : Reader) where
  -- the record, in the bytes at the beginning
  abbrev pub the_record : RecordReading
  the_record = record_at variables depth left first.bytes.now (Ok first.at)

  -- it is refused
  abbrev pub Refuses : Reader → Refusal → Type 0
  Refuses now r = Reads {A = CheckedRecord} first now (Err r) the_record.next

  -- reading is refused at the kind, the argument or the constant
  pub kind-refused : {now : Reader} {r : Refusal} → Reads {A = ℕ} first now (Err r) (code_at 9 first.bytes.now (Ok first.at)).next → Refuses now r
  unfolding record_at
  kind-refused {r = r} e =
      let kind = code_at 9 first.bytes.now (Ok first.at) in
      record { same = e.same; place = rw (← e.place, argument-keep variables kind.value first.bytes.now r, constant-keep kind.value first.bytes.now r) refl }

  module _ {one : Reader} {kind : ℕ} (kind-next : Reads first one (Ok kind) (code_at 9 first.bytes.now (Ok first.at)).next)
      (kind-value : kind ≡ (code_at 9 first.bytes.now (Ok first.at)).value) where
    kind-read : code_at 9 first.bytes.now (Ok first.at) ≡ record { value = kind; next = Ok one.at }
    kind-read = field-taken _ kind-next.place kind-value

    -- a kind is in its table
    pub kind-small : kind ≤ 8
    kind-small = omega (arith, rw (← kind-value) at (code-at 9 first.bytes.now (Ok first.at) {a = one.at} (rw kind-read refl)).below)

    pub argument-refused : {now : Reader} {r : Refusal} → Reads {A = ℕ} one now (Err r) (argument_at variables kind one.bytes.now (Ok one.at)).next → Refuses now r
    unfolding record_at
    argument-refused {r = r} e =
        let place : Err r ≡ (argument_at variables kind first.bytes.now (Ok one.at)).next = rw kind-next.same at e.place in
        record { same = e.same ∙ kind-next.same; place = rw (kind-read, ← place, constant-keep kind first.bytes.now r) refl }

    module _ {two : Reader} {argument : ℕ} (argument-next : Reads one two (Ok argument) (argument_at variables kind one.bytes.now (Ok one.at)).next)
        (argument-value : argument ≡ (argument_at variables kind one.bytes.now (Ok one.at)).value) where
      argument-read : argument_at variables kind first.bytes.now (Ok one.at) ≡ record { value = argument; next = Ok two.at }
      argument-read = rw kind-next.same at (field-taken _ argument-next.place argument-value)

      pub argument-small : variables ≤ 32 → argument ≤ 32
      argument-small few = rw argument-read at (read-small variables kind first.bytes.now (Ok one.at) few)

      same-two : two.bytes.now ≡ first.bytes.now
      same-two = argument-next.same ∙ kind-next.same

      pub constant-refused : {now : Reader} {r : Refusal} → Reads {A = ℕ} two now (Err r) (constant_at kind two.bytes.now (Ok two.at)).next → Refuses now r
      unfolding record_at
      constant-refused {r = r} e =
          let place : Err r ≡ (constant_at kind first.bytes.now (Ok two.at)).next = rw same-two at e.place in
          record { same = e.same ∙ same-two; place = rw (kind-read, argument-read, ← place) refl }

      -- a check fails, or none does
      module _ {last : Reader} {value : ℕ} (value-next : Reads two last (Ok value) (constant_at kind two.bytes.now (Ok two.at)).next)
          (value-value : value ≡ (constant_at kind two.bytes.now (Ok two.at)).value)
          {arity : ℕ} (arity-is : arity ≡ arity_of (kind + 16 * argument)) where
        value-read : constant_at kind first.bytes.now (Ok two.at) ≡ record { value = value; next = Ok last.at }
        value-read = rw same-two at (field-taken _ value-next.place value-value)

        checked-is : the_record
            ≡ record {
              tag = kind + 16 * argument;
              value = value;
              depth = depth_after depth arity;
              next = judge (fits_width kind argument value) Constant two.at
                  (judge (not (eqb left 0) || eqb (depth_after depth arity) 1) Tree last.at (judge (leb arity depth) Tree first.at (Ok last.at)));
            }
        unfolding record_at
        checked-is = rw (kind-read, argument-read, value-read, ← arity-is)

        same-last : last.bytes.now ≡ first.bytes.now
        same-last = value-next.same ∙ same-two

        pub child-lacking : depth < arity → Refuses last (refused Tree first.at)
        child-lacking less = record { same = same-last; place = rw (checked-is, lt-leb arity depth less) refl }

        module _ (enough : arity ≤ depth) where
          pub trees-left : (eqb left 0 && not (eqb (depth_after depth arity) 1)) ≡ true → Refuses last (refused Tree last.at)
          trees-left more =
              record { same = same-last; place = rw (checked-is, le-leb arity depth enough, other-side (eqb left 0) (eqb (depth_after depth arity) 1) more) refl }

          module _ (one-tree : (eqb left 0 && not (eqb (depth_after depth arity) 1)) ≡ false) {fits : Bool} (fits-is : fits ≡ fits_width kind argument value) where
            pub constant_wide : fits ≡ false → Refuses last (refused Constant two.at)
            constant_wide wide =
                record {
                  same = same-last;
                  place = rw (checked-is, le-leb arity depth enough, other-side (eqb left 0) (eqb (depth_after depth arity) 1) one-tree, ← fits-is, wide) refl;
                }

            pub record-checked : fits ≡ true → Reads {A = CheckedRecord} first last (Ok (record { tag = kind + 16 * argument; depth = depth_after depth arity })) the_record.next
            record-checked narrow =
                record {
                  same = same-last;
                  place = rw (checked-is, le-leb arity depth enough, other-side (eqb left 0) (eqb (depth_after depth arity) 1) one-tree, ← fits-is, narrow) refl;
                }

        pub record-is : record { tag = kind + 16 * argument; depth = depth_after depth arity } ≡ checked_record the_record
        record-is = rw checked-is refl
