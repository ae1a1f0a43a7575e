-- Bytes that stand in a sheet from an offset to an offset.
use Prim.Native.Nat.{ℕ, ◌+◌, zero, suc, ◌/◌, ◌<◌, ◌≤◌}
use mathlib.Core.Path.{◌≡◌, refl, ap}
use mathlib.Core.List.{List, [], ◌∷◌, ◌++◌, append-nil}
use native.Mathlib.Omega.{arith}
use lib.ListN.{length, get_or, take, drop, length-append, drop_of_length-le}
use lib.Seq.{drop-cons, get_or-append_seam, append_snoc}
use Rattle.sheet_bytes.specs.Write.{bytes}

pub bytes-length : (n v : ℕ) → length (bytes n v) ≡ n
unfolding bytes
bytes-length zero v = refl
bytes-length (suc n) v = ap suc (bytes-length n (v / 256))

-- bs stands in s from a to b
abbrev pub Stands : List ℕ → ℕ → List ℕ → ℕ → Type 0
Stands s a [] b = a ≡ b
Stands s a (x ∷ bs) b = (a < length s) × (get_or s a 0 ≡ x) × Stands s (suc a) bs b

-- a record, so that a lemma's arguments are read off its type
pub record Spans (s : List ℕ) (a : ℕ) (bs : List ℕ) (b : ℕ) : Type 0 where
  pub it : Stands s a bs b

pub spans-none : {s : List ℕ} {a : ℕ} → Spans s a [] a
spans-none = record { it = refl }

pub spans-cut : {s : List ℕ} {a c : ℕ} (x y : List ℕ) → Spans s a (x ++ y) c → (b : ℕ) × Spans s a x b × Spans s b y c
spans-cut {s} {a} {c} [] y h = (a, spans-none, h)
spans-cut {s} {a} {c} (v ∷ x) y h =
    let t = spans-cut x y (record { it = h.it.2 }) in
    (t.0, record { it = (h.it.0, h.it.1, t.1.it) }, t.2)

stands-join : (s : List ℕ) (a b c : ℕ) (x y : List ℕ) → Stands s a x b → Stands s b y c → Stands s a (x ++ y) c
stands-join s a b c [] y h k = rw h k
stands-join s a b c (v ∷ x) y h k = (h.0, h.1, stands-join s (suc a) b c x y h.2 k)

pub spans-join : {s : List ℕ} {a b c : ℕ} {x y : List ℕ} → Spans s a x b → Spans s b y c → Spans s a (x ++ y) c
spans-join {s} {a} {b} {c} {x} {y} h k = record { it = stands-join s a b c x y h.it k.it }

-- what stands from the start to the end is the sheet
spans-drop : (s : List ℕ) (a : ℕ) (bs : List ℕ) → Stands s a bs (length s) → drop a s ≡ bs
spans-drop s a [] h = drop_of_length-le s {i = a} (omega (arith, h))
spans-drop s a (x ∷ bs) h = rw (drop-cons s a 0 h.0, h.1, spans-drop s (suc a) bs h.2)

spans-end : (s : List ℕ) (a : ℕ) (bs : List ℕ) (b : ℕ) → Stands s a bs b → a ≤ length s → b ≤ length s
spans-end s a [] b h le = omega (arith, h)
spans-end s a (x ∷ bs) b h le = spans-end s (suc a) bs b h.2 h.0

pub spans_all : {s bs : List ℕ} {b : ℕ} → Spans s 0 bs b → length s ≤ b → s ≡ bs
spans_all {s} {bs} {b} h le =
    let e : b ≡ length s = omega (arith, spans-end s 0 bs b h.it (omega arith)) in
    spans-drop s 0 bs (rw e at h).it

stands-length : (s : List ℕ) (a : ℕ) (bs : List ℕ) (b : ℕ) → Stands s a bs b → b ≡ a + length bs
stands-length s a [] b h = omega (arith, h)
stands-length s a (x ∷ bs) b h = omega (arith, stands-length s (suc a) bs b h.2)

pub spans-length : {s : List ℕ} {a : ℕ} {bs : List ℕ} {b : ℕ} → Spans s a bs b → b ≡ a + length bs
spans-length {s} {a} {bs} {b} h = stands-length s a bs b h.it

stands-take : (s : List ℕ) (a : ℕ) (bs : List ℕ) (b : ℕ) → Stands s a bs b → take (length bs) (drop a s) ≡ bs
stands-take s a [] b h = refl
stands-take s a (x ∷ bs) b h = rw (drop-cons s a 0 h.0, h.1, stands-take s (suc a) bs b h.2)

pub spans-take : {s : List ℕ} {a : ℕ} {bs : List ℕ} {b : ℕ} → Spans s a bs b → take (length bs) (drop a s) ≡ bs
spans-take {s} {a} {bs} {b} h = stands-take s a bs b h.it

spans-behind : (pre bs : List ℕ) → Stands (pre ++ bs) (length pre) bs (length (pre ++ bs))
spans-behind pre [] = rw append-nil refl
spans-behind pre (x ∷ bs) =
    let e : length (pre ++ (x ∷ [])) ≡ suc (length pre) = rw length-append (omega arith) in
    (rw length-append (omega arith), get_or-append_seam pre x bs 0, rw (append_snoc, e) at (spans-behind (pre ++ (x ∷ [])) bs))

pub spans-self : (bs : List ℕ) → Spans bs 0 bs (length bs)
spans-self bs = record { it = spans-behind [] bs }
