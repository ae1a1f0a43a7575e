-- What reads and a write do to the known bytes of input and output.
use Rattle.std.proofs.Common.{◌≡◌, ℕ, ◌+◌, ◌≤◌, List, ◌++◌, length, take, drop, ap, sym, subst, ◌∙◌, length-take-le, take-add, take_at, drop_at}
use lib.Seq.{take-append-le}
use Rattle.std.specs.Prelude.{Option}
use Rattle.std.specs.Io.KnownBytes.{Consumes}
use Rattle.std.proofs.KnownBytes.{Consumes-trans}
use borrow.Rule.Slice.PartMut.{put_mid, post_of}

-- a read behind what was read before
pub takes-more : (a b c : Option (List ℕ)) (room part : List ℕ) (had k n : ℕ) → had ≤ length room → n ≤ length part
    → Consumes a b (take had room) → Consumes b c (take n part) → Consumes a c (take (had + n) (put_mid had k room part))
takes-more a b c room part had k n within few before read =
    let front : length (take had room) ≡ had = length-take-le had room within in
    let rest = part ++ post_of had k room in
    let both : take (had + n) (put_mid had k room part) ≡ take had room ++ take n part =
    take-add had n (put_mid had k room part) ∙ ap (λ l. l ++ take n (drop had (put_mid had k room part))) (take_at (take had room) rest had front)
    ∙ ap (λ l. take had room ++ take n l) (drop_at (take had room) rest had front)
    ∙ ap (λ l. take had room ++ l) (take-append-le n part (post_of had k room) few) in
    subst (Consumes a c) (sym both) (Consumes-trans a b c _ _ before read)
