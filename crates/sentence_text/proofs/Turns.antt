-- What cmc adds, put into a buffer once for each.
use Prim.Native.Nat.{ℕ, zero, suc, ◌+◌, ◌*◌, ◌≤◌}
use mathlib.Core.Path.{◌≡◌, refl}
use native.Mathlib.Numerals.{add-one}
use native.Mathlib.Omega.{arith}
use lib.ListN.{length, length-append}
use Rattle.text.specs.declared.Writer.{Writer}
use Rattle.text.specs.Promises.{Puts}
use Rattle.text.proofs.Puts.{puts_then, put-none}
use Rattle.sentence_text.specs.Sentence.{turned, turned_times}

pub turned-long : length turned ≡ 24
turned-long = refl

pub turns_long : (n : ℕ) → length (turned_times n) ≡ 24 * n
unfolding turned_times
turns_long zero = refl
turns_long (suc n) = omega (arith, length-append (turned_times n) turned, turns_long n)

-- none of them, and one more
pub turns_none : (w : Writer) → w.at ≤ length w.out.now → Puts w w (turned_times 0)
unfolding turned_times
turns_none w h = record { same = refl; put = put-none _ _ h }

pub turns_more : {old mid new : Writer} (n : ℕ) → Puts old mid (turned_times n) → Puts mid new turned → Puts old new (turned_times (n + 1))
unfolding turned_times
turns_more n p q = rw add-one (puts_then p q)
