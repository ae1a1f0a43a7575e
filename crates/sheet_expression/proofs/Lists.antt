-- Laws of records read one after the other.
use Prim.Native.Nat.{ℕ, zero, suc, ◌+◌, ◌-◌, ◌*◌, ◌≤◌}
use mathlib.Core.Path.{◌≡◌, refl, ap, ◌∙◌}
use mathlib.Core.List.{List, [], ◌∷◌, ◌++◌, append_assoc}
use native.Mathlib.Omega.{arith}
use native.Mathlib.Numerals.{add-one}
use lib.ListN.{length, take, drop, set, get_or, length-append, length-drop}
use lib.Seq.{take_at, set_at, drop-cons, append_snoc}
use Rattle.sheet_expression.specs.Expression.{RecordReading, argument_at, constant_at, record_at, Taken, taken_more, taken_from}
use Rattle.sheet_expression.specs.Promises.{Took}
use Rattle.std.specs.Prelude.{Err}
use Rattle.refusal.specs.declared.Refusal.{Refusal}
use Rattle.sheet_field.specs.Field.{Place, field_at, check_field, code_at, WentOn}

pub taken-length : (variables total : ℕ) (s : List ℕ) (p : Place) (k : ℕ) → length (taken_from variables total s p k).words ≡ 2 * k
unfolding taken_from taken_more
taken-length variables total s p zero = refl
taken-length variables total s p (suc k) = rw (length-append, taken-length variables total s p k) (omega arith)

depth-one : (variables depth left : ℕ) (s : List ℕ) (p : Place) → (record_at variables depth left s p).depth ≤ depth + 1
unfolding record_at
depth-one variables depth left s p = omega arith

pub taken-depth : (variables total : ℕ) (s : List ℕ) (p : Place) (k : ℕ) → (taken_from variables total s p k).depth ≤ k
unfolding taken_from taken_more
taken-depth variables total s p zero = omega arith
taken-depth variables total s p (suc k) =
    let t = taken_from variables total s p k in
    omega (arith, depth-one variables t.depth (total - suc k) s t.next, taken-depth variables total s p k)

-- a second word stored behind a start and a first one
second : (front rest : List ℕ) (n a b y : ℕ) → length front ≡ n
    → set (front ++ (a ∷ y ∷ rest)) (n + 1) b ≡ (front ++ (a ∷ b ∷ [])) ++ rest
second front rest n a b y e =
    rw (← append_snoc front a (y ∷ rest), set_at (front ++ (a ∷ [])) y rest b (n + 1) (rw length-append (omega arith)))
    (simp append_assoc)

-- two words stored behind a start
pub stored-two : (front rest : List ℕ) (n a b : ℕ) → length front ≡ n → n + 2 ≤ length rest
    → set (set (front ++ drop n rest) n a) (n + 1) b ≡ (front ++ (a ∷ b ∷ [])) ++ drop (n + 2) rest
stored-two front rest n a b e fits =
    let two : n + 2 ≡ suc (suc n) = omega arith in
    let d : drop n rest ≡ get_or rest n 0 ∷ get_or rest (suc n) 0 ∷ drop (n + 2) rest =
    drop-cons rest n 0 (omega arith) ∙ rw two (ap (λ (l : List ℕ). get_or rest n 0 ∷ l) (drop-cons rest (suc n) 0 (omega arith))) in
    rw (d, set_at front _ _ a n e) (second front (drop (n + 2) rest) n a b (get_or rest (suc n) 0) e)

-- what a loop over the records has left: the depth, the offset, and the borrowed list with the words at its start
pub record Stored (depth : ℕ) (next : Place) (before after : List ℕ) (t : Taken) : Type 0 where
  pub trees : depth ≡ t.depth
  pub place : next ≡ t.next
  pub list : after ≡ t.words ++ drop (length t.words) before

-- one record more keeps it
stored_one : (variables left : ℕ) (s : List ℕ) (t : Taken) (n : ℕ) {depth : ℕ} {next : Place} {before after : List ℕ} {r : RecordReading}
    → length t.words ≡ n → Stored depth next before after t → r ≡ record_at variables depth left s next → n + 2 ≤ length before
    → Stored r.depth r.next before (set (set after n r.tag) (n + 1) r.value) (taken_more variables left s t)
unfolding taken_more
stored_one variables left s t n {depth} {next} {before} {after} {r} long stored r-is fits =
    let r-now : r ≡ record_at variables t.depth left s t.next = rw (← stored.trees, ← stored.place) r-is in
    let words : after ≡ t.words ++ drop n before = rw (← long) stored.list in
    let both : length (t.words ++ (r.tag ∷ r.value ∷ [])) ≡ n + 2 = rw length-append (omega arith) in
    record {
      trees = ap (λ (x : RecordReading). x.depth) r-now;
      place = ap (λ (x : RecordReading). x.next) r-now;
      list = rw (← r-now, both, words) (stored-two t.words before n r.tag r.value long fits);
    }

pub taken_next : (variables total : ℕ) (s : List ℕ) (p : Place) (k : ℕ)
    → taken_from variables total s p (k + 1) ≡ taken_more variables (total - k - 1) s (taken_from variables total s p k)
unfolding taken_from
taken_next variables total s p k = let left : total - k - 1 ≡ total - suc k = omega arith in rw (add-one k, left)

-- a record that is read where reading was refused leaves the refusal
pub taken-keep : (variables total : ℕ) (s : List ℕ) (p : Place) (j : ℕ) (r : Refusal) → (taken_from variables total s p j).next ≡ Err r
    → (taken_from variables total s p (suc j)).next ≡ Err r
unfolding taken_from taken_more record_at argument_at constant_at code_at check_field field_at
taken-keep variables total s p j r e = rw e

module _ (variables total : ℕ) (s : List ℕ) (p : Place) where
  pub stored-none : (before : List ℕ) → Stored 0 p before before (taken_from variables total s p 0)
  unfolding taken_from
  stored-none before = record { trees = refl; place = refl; list = refl }

  module _ (k : ℕ) {depth : ℕ} {next : Place} {before after : List ℕ} (stored : Stored depth next before after (taken_from variables total s p k)) where
    pub stored_more : {r : RecordReading} → r ≡ record_at variables depth (total - k - 1) s next → 2 * k + 2 ≤ length before
        → Stored r.depth r.next before (set (set after (2 * k) r.tag) (2 * k + 1) r.value) (taken_from variables total s p (k + 1))
    stored_more r-is fits =
        rw (taken_next variables total s p k)
        (stored_one variables (total - k - 1) s (taken_from variables total s p k) (2 * k) (taken-length variables total s p k) stored r-is fits)

    -- the borrowed list keeps its length
    pub stored-length : 2 * k ≤ length before → length after ≡ length before
    stored-length fits =
        let long : length (taken_from variables total s p k).words ≡ 2 * k = taken-length variables total s p k in
        rw (stored.list, length-append, length-drop) (omega arith)

  -- and ends after all records
  pub took-all : {depth : ℕ} {next : Place} {before after : List ℕ} → Stored depth next before after (taken_from variables total s p total) → total ≤ 128
      → Took total next before after (taken_from variables total s p total)
  took-all stored few =
      let long : length (taken_from variables total s p total).words ≡ 2 * total = taken-length variables total s p total in
      record { size = long; few = few; place = stored.place; list = λ on. rw long at stored.list }

-- the words stand at the start
pub took-front : {records : ℕ} {next : Place} {before after : List ℕ} {t : Taken} → Took records next before after t → WentOn t.next
    → take (2 * records) after ≡ t.words
took-front {records} {before = before} {t = t} took on = rw (took.list on) (take_at t.words (drop (2 * records) before) (2 * records) took.size)
