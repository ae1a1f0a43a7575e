use mathlib.Core.Path.{refl}
use native.Mathlib.Omega.{arith}
use Rattle.text.specs.Digits.{digits}
use Rattle.wording.specs.Values.{signed_text}
use Rattle.wording.proofs.Numerals.{small, negative, pattern, few-places, left_below, greatest}
use Rattle.wording.proofs.number.Goals as goal

pub returns-in_default : goal.returns-in_default
unfolding digits
returns-in_default c =
    record { short = omega arith; few = omega arith; is = rw (← c.width_of.ensures, c.in_default.is) refl }

pub returns-then-x-le9 : goal.returns-then-x-le9
unfolding signed_text
returns-then-x-le9 c =
    record { short = omega arith; few = omega arith; is = rw (← c.width_of.ensures, c.in-Some.is, ← c.cut-x.ensures) (small _ _ c.if-x-le9.true) }

pub overflow_sub-below : goal.overflow_sub-below
overflow_sub-below c =
    let w = c.in-Some.width in omega (arith, greatest w _ c.cut.ensures, left_below w c.args.value _ c.cut-x.ensures)

pub returns-then-below-le8 : goal.returns-then-below-le8
unfolding signed_text
returns-then-below-le8 c =
    let w = c.in-Some.width in
    record {
      short = omega arith;
      few = omega arith;
      is =
          rw (← c.width_of.ensures, c.in-Some.is, ← c.cut-x.ensures)
          (negative _ _ _ (greatest w _ c.cut.ensures) c.if-x-le9.false (left_below w c.args.value _ c.cut-x.ensures) c.if-below-le8.true);
    }

pub returns : goal.returns
unfolding signed_text
returns c =
    let w = c.in-Some.width in
    record {
      short = omega arith;
      few = few-places _ _ c.cut-x.type_inv c.places.ensures;
      is =
          rw (← c.width_of.ensures, c.in-Some.is, ← c.cut-x.ensures)
          (pattern _ _ _ _ (greatest w _ c.cut.ensures) c.if-x-le9.false (left_below w c.args.value _ c.cut-x.ensures) c.if-below-le8.false c.places.ensures);
    }
