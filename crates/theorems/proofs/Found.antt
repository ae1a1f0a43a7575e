-- The code's ways of finding a block's instructions, its branch and a node's jump give what specs/Branches says.
use Prim.Native.Nat.{ℕ, zero, suc, ◌≤◌, ◌<◌}
use mathlib.Core.Path.{◌≡◌, refl, sym, ap, ◌∙◌}
use mathlib.Core.Bool.{Bool, true, false, cond, ◌&&◌}
use mathlib.Core.List.{List, [], ◌∷◌, ◌++◌}
use mathlib.Core.Option.{none, some}
use mathlib.Core.Logic.{◌⊎◌, inl, inr, ⊎_elim, ◌↔◌}
use native.Mathlib.Omega.{arith}
use native.Mathlib.Numerals.{unary_clauses}
use lib.Dec.{eqb, leb, ltb}
use lib.ListN.{length, get_or}
use borrow.Author.Tests.{eqb-true, eqb-false, leb-true, leb-false, ltb-true, ltb-false}
use Rattle.std.specs.Prelude.{Ok, Option, Some, None, is_some}
use Rattle.laws.proofs.Booleans.{by_test}
use Rattle.search.specs.Ascending.{Ascending}
use Rattle.isa.specs.declared.Instruction.{Instruction}
use Rattle.sheet_bytes.specs.Write.{entry}
use Rattle.sheet.specs.declared.Sheet.{Sheet}
use Rattle.sheet.specs.Sheet.{no_block, no_node, sheet_at, reading_of, node_numbered}
use Rattle.sheet.specs.Index.{addresses_of}
use Rattle.sheet.proofs.Accepted.{accepted, blocks-length}
use Rattle.sheet.proofs.ByNumber.{addresses-rise}
use Rattle.verdict_block.specs.Verdict.{Parts, preceded, apart, within, code_of}
use Rattle.verdict_block.specs.Verdict.Parts.{none as no_instruction, ending}
use Rattle.verdict_sheet.specs.Sites.{branch_at, unless_later, last_branch}
use Rattle.theorems.specs.Branches.{In, InOrder, InBlock, EndsIn, Branch, JumpAt}
use Rattle.theorems.proofs.Apart.{some_same, not_some}

-- ---- lists

module _ {A : Type 0} where
  pub entry-there : (l : List A) (n : ℕ) (d : A) → n < length l → entry l n ≡ some (get_or l n d)
  unfolding entry
  entry-there [] n d below = absurd (omega (arith, below))
  entry-there (x ∷ l) zero d below = refl
  entry-there (x ∷ l) (suc n) d below = entry-there l n d (omega (arith, below))

  pub entry-is : (l : List A) (n : ℕ) (d x : A) → entry l n ≡ some x → get_or l n d ≡ x
  unfolding entry
  entry-is [] n d x e = none-some e
    where
      none-some : {X : Type 0} → none ≡ some x → X
      none-some e = cc
  entry-is (y ∷ l) zero d x e = cc
  entry-is (y ∷ l) (suc n) d x e = entry-is l n d x e

-- ---- rising

above : (i : Instruction) (l : List Instruction) → Ascending (addresses_of (i ∷ l)) → InOrder l → (j : Instruction) → In j l → i.address < j.address
unfolding In InOrder addresses_of
above i [] up rest j h = absurd h
above i (k ∷ l) up rest j h =
    let first : i.address < k.address = up.rises 0 (omega arith) in
    ⊎_elim (λ same. rw same first) (λ later. let second = rest.0 j later in omega (arith, first, second)) h

rising-of : (l : List Instruction) → Ascending (addresses_of l) → InOrder l
unfolding InOrder addresses_of
rising-of [] up = tt
rising-of (i ∷ l) up =
    let rest = rising-of l (record { rises = λ k below. simp unary_clauses (simp unary_clauses at (up.rises (suc k) (omega (arith, below)))) }) in
    (above i l up rest, rest)

-- two rising lists with the same entries are one
pub rising-same : (l m : List Instruction) → InOrder l → InOrder m → ((i : Instruction) → In i l ↔ In i m) → l ≡ m
unfolding In InOrder
rising-same [] [] p q same = refl
rising-same [] (j ∷ m) p q same = absurd ((same j).1 (inl refl))
rising-same (i ∷ l) [] p q same = absurd ((same i).0 (inl refl))
rising-same (i ∷ l) (j ∷ m) p q same =
    let first = ⊎_elim (λ e. e) (λ h. crossed h ((same j).1 (inl refl))) ((same i).0 (inl refl)) in
    let rest = rising-same l m p.1 q.1 (λ k. (λ h. left first k h ((same k).0 (inr h)), λ h. right first k h ((same k).1 (inr h)))) in
    rw (first, rest)
  where
    crossed : In i m → In j (i ∷ l) → i ≡ j
    crossed h k = ⊎_elim (λ e. sym e) (λ back. let a = q.0 i h in let b = p.0 j back in absurd (omega (arith, a, b))) k

    left : i ≡ j → (k : Instruction) → In k l → In k (j ∷ m) → In k m
    left first k h there =
        ⊎_elim (λ e. let a = p.0 k h in let b : k.address ≡ i.address = ap (λ (x : Instruction). x.address) (e ∙ sym first) in absurd (omega (arith, a, b)))
        (λ h. h) there

    right : i ≡ j → (k : Instruction) → In k m → In k (i ∷ l) → In k l
    right first k h there =
        ⊎_elim (λ e. let a = q.0 k h in let b : k.address ≡ j.address = ap (λ (x : Instruction). x.address) (e ∙ first) in absurd (omega (arith, a, b)))
        (λ h. h) there

-- ---- the instructions between two addresses

within_in : (from to : ℕ) (l : List Instruction) (i : Instruction)
    → In i (within from to l) ↔ (In i l × (from ≤ i.address) × (i.address < to))
unfolding In within
within_in from to [] i = ((λ h. absurd h), (λ h. h.0))
within_in from to (j ∷ l) i = go (leb from j.address) refl (ltb j.address to) refl (within_in from to l i)
  where
    go : (a : Bool) → leb from j.address ≡ a → (b : Bool) → ltb j.address to ≡ b
        → In i (within from to l) ↔ (In i l × (from ≤ i.address) × (i.address < to))
        → In i (cond (a && b) (j ∷ within from to l) (within from to l)) ↔ (((i ≡ j) ⊎ In i l) × (from ≤ i.address) × (i.address < to))
    go true a true b rest = (
      (λ h. ⊎_elim (λ e. (inl e, rw e (leb-true from j.address a), rw e (ltb-true j.address to b))) (λ h. let r = rest.0 h in (inr r.0, r.1, r.2)) h),
      (λ h. ⊎_elim (λ e. inl e) (λ there. inr (rest.1 (there, h.1, h.2))) h.0),
    )
    go true a false b rest = (
      (λ h. let r = rest.0 h in (inr r.0, r.1, r.2)),
      (λ h. ⊎_elim (λ e. let low : i.address < to = h.2 in absurd (high e low)) (λ there. rest.1 (there, h.1, h.2)) h.0),
    )
      where
        high : i ≡ j → i.address < to → ⊥
        high e low = let at : j.address < to = rw (sym e) low in let over = ltb-false j.address to b in omega (arith, at, over)
    go false a b' b rest = (
      (λ h. let r = rest.0 h in (inr r.0, r.1, r.2)),
      (λ h. ⊎_elim (λ e. absurd (low e h.1)) (λ there. rest.1 (there, h.1, h.2)) h.0),
    )
      where
        low : i ≡ j → from ≤ i.address → ⊥
        low e up = let at : from ≤ j.address = rw (sym e) up in let under = leb-false from j.address a in omega (arith, at, under)

within-rising : (from to : ℕ) (l : List Instruction) → InOrder l → InOrder (within from to l)
unfolding InOrder within
within-rising from to [] up = tt
within-rising from to (i ∷ l) up = go (leb from i.address && ltb i.address to) (within-rising from to l up.1)
  where
    go : (b : Bool) → InOrder (within from to l) → InOrder (cond b (i ∷ within from to l) (within from to l))
    go true rest = ((λ j h. up.0 j ((within_in from to l j).0 h).0), rest)
    go false rest = rest

-- ---- the last of them

apart-joined : (before : List Instruction) (last : Instruction) → apart (before ++ (last ∷ [])) ≡ ending before last
unfolding apart
apart-joined [] last = refl
apart-joined (i ∷ before) last = ap (preceded i) (apart-joined before last)

joined-apart : (l before : List Instruction) (last : Instruction) → apart l ≡ ending before last → l ≡ before ++ (last ∷ [])
unfolding apart
joined-apart [] before last e = cc
joined-apart (i ∷ l) before last e = go (apart l) refl e (λ b k is. joined-apart l b k is)
  where
    parts_same : {a b : List Instruction} {x y : Instruction} → ending a x ≡ ending b y → (a ≡ b) × (x ≡ y)
    parts_same e = (cc, cc)

    go : (parts : Parts) → apart l ≡ parts → preceded i parts ≡ ending before last
        → ((b : List Instruction) (k : Instruction) → apart l ≡ ending b k → l ≡ b ++ (k ∷ [])) → i ∷ l ≡ before ++ (last ∷ [])
    go no_instruction is e rest = let s = parts_same e in rw (← s.0, ← s.1, none_left l is)
      where
        none_left : (l : List Instruction) → apart l ≡ no_instruction → l ≡ []
        none_left [] q = refl
        none_left (j ∷ m) q = absurd (some_left (apart m) q)
          where
            some_left : (parts : Parts) → preceded j parts ≡ no_instruction → ⊥
            some_left no_instruction q = cc
            some_left (ending b k) q = cc
    go (ending b k) is e rest = let s = parts_same e in rw (← s.0, ← s.1) (ap (λ (m : List Instruction). i ∷ m) (rest b k is))

-- ---- the instruction at an address

pub some-target : (o : Option ℕ) → is_some o ≡ true → (t : ℕ) × (o ≡ Some t)
some-target (Some t) e = (t, refl)
some-target None e = cc

branch-found : (l : List Instruction) (a : ℕ) → branch_at l a ≡ true → (i : Instruction) × In i l × (is_some i.target ≡ true) × (i.address ≡ a)
unfolding branch_at In
branch-found [] a e = cc
branch-found (i ∷ l) a e =
    by_test (eqb i.address a)
    (λ t. (i, inl refl, rw t at e, eqb-true i.address a t))
    (λ t. let r = branch-found l a (rw t at e) in (r.0, inr r.1, r.2, r.3))

found-branch : (l : List Instruction) → InOrder l → (i : Instruction) → In i l → is_some i.target ≡ true → branch_at l i.address ≡ true
unfolding branch_at In InOrder
found-branch [] up i h branch = absurd h
found-branch (j ∷ l) up i h branch =
    by_test (eqb j.address i.address)
    (λ t. rw t (⊎_elim (λ e. rw (← e) branch) (λ later. let below = up.0 i later in absurd (omega (arith, below, eqb-true j.address i.address t))) h))
    (λ t. rw t
    (⊎_elim (λ e. absurd (eqb-false j.address i.address t (ap (λ (x : Instruction). x.address) (sym e)))) (λ later. found-branch l up.1 i later branch) h))

-- ---- the last address of a branch

no-branch : (code : List Instruction) (l : List ℕ) → last_branch code l ≡ None → (b : ℕ) → In b l → branch_at code b ≡ true → ⊥
unfolding last_branch In
no-branch code [] e b h is = h
no-branch code (a ∷ l) e b h is = go (last_branch code l) refl e (λ rest later. no-branch code l rest b later is)
  where
    some-none : {x : ℕ} → Some x ≡ None → ⊥
    some-none e = cc

    go : (o : Option ℕ) → last_branch code l ≡ o → unless_later (cond (branch_at code a) (Some a) None) o ≡ None
        → (last_branch code l ≡ None → In b l → ⊥) → ⊥
    go None rest e none-later = ⊎_elim (λ same. here same) (λ later. none-later rest later) h
      where
        here : b ≡ a → ⊥
        here same = let at : branch_at code a ≡ true = rw same at is in some-none (rw at at e)
    go (Some c) rest e none-later = some-none e

none-branch : (code : List Instruction) (l : List ℕ) → ((b : ℕ) → In b l → branch_at code b ≡ true → ⊥) → last_branch code l ≡ None
unfolding last_branch In
none-branch code [] silent = refl
none-branch code (a ∷ l) silent =
    let rest = none-branch code l (λ b h. silent b (inr h)) in
    by_test (branch_at code a) (λ t. absurd (silent a (inl refl) t)) (λ t. rw (rest, t))

-- where it stands among the addresses
record Last (code : List Instruction) (l : List ℕ) (a : ℕ) : Type 0 where
  earlier : List ℕ
  later : List ℕ
  is : l ≡ earlier ++ (a ∷ later)
  branch : branch_at code a ≡ true
  silent : (b : ℕ) → In b later → branch_at code b ≡ true → ⊥

last_found : (code : List Instruction) (l : List ℕ) (a : ℕ) → last_branch code l ≡ Some a → Last code l a
unfolding last_branch
last_found code [] a e = not_some e
last_found code (b ∷ l) a e = go (last_branch code l) refl e (λ is. last_found code l a is)
  where
    its : last_branch code l ≡ None → (t : Bool) → branch_at code b ≡ t → cond t (Some b) None ≡ Some a → Last code (b ∷ l) a
    its rest true t e =
        let same = some_same e in
        record { earlier = []; later = l; is = rw same; branch = rw (← same) t; silent = no-branch code l rest }
    its rest false t e = not_some e

    go : (o : Option ℕ) → last_branch code l ≡ o → unless_later (cond (branch_at code b) (Some b) None) o ≡ Some a
        → (last_branch code l ≡ Some a → Last code l a) → Last code (b ∷ l) a
    go None rest e further = its rest (branch_at code b) refl e
    go (Some c) rest e further =
        let r = further (rest ∙ e) in
        record { earlier = b ∷ r.earlier; later = r.later; is = ap (λ (m : List ℕ). b ∷ m) r.is; branch = r.branch; silent = r.silent }

found-last : (code : List Instruction) (earlier later : List ℕ) (a : ℕ) → branch_at code a ≡ true
    → ((b : ℕ) → In b later → branch_at code b ≡ true → ⊥) → last_branch code (earlier ++ (a ∷ later)) ≡ Some a
unfolding last_branch
found-last code [] later a branch silent = rw (none-branch code later silent, branch)
found-last code (b ∷ earlier) later a branch silent = rw (found-last code earlier later a branch silent)

-- ---- of an accepted sheet

module _ (s : List ℕ) (sheet : Sheet) (read : reading_of s ≡ Ok sheet) where
  abbrev code : List Instruction
  code = (sheet_at s).instructions.list

  pub sheet-rising : InOrder code
  sheet-rising = rising-of code (addresses-rise s sheet read)

  block-entry : (number : ℕ) → number < sheet.blocks.count → entry (sheet_at s).blocks.list number ≡ some (get_or (sheet_at s).blocks.list number no_block)
  block-entry number below =
      let acc = accepted s sheet read in
      let long : length (sheet_at s).blocks.list ≡ sheet.blocks.count = rw (← acc.blocks) (blocks-length s _ sheet.blocks.count) in
      entry-there (sheet_at s).blocks.list number no_block (rw long below)

  -- The code's instructions of a block are those that it holds, and no other list is.
  pub code-in-block : (number : ℕ) → number < sheet.blocks.count → InBlock s number (code_of s number)
  unfolding code_of
  code-in-block number below =
      let b = get_or (sheet_at s).blocks.list number no_block in
      record {
        block = b;
        is = block-entry number below;
        holds = λ i. within_in b.from b.to code i;
        rising = within-rising b.from b.to code sheet-rising;
      }

  pub in-block-code : (number : ℕ) (l : List Instruction) → InBlock s number l → l ≡ code_of s number
  unfolding code_of
  in-block-code number l h =
      let b = h.block in
      rw (entry-is (sheet_at s).blocks.list number no_block b h.is)
      (rising-same l (within b.from b.to code) h.rising (within-rising b.from b.to code sheet-rising)
      (λ i. ((λ x. (within_in b.from b.to code i).1 ((h.holds i).0 x)), (λ x. (h.holds i).1 ((within_in b.from b.to code i).0 x)))))

  -- the end of a block
  pub ends-apart : (number : ℕ) (before : List Instruction) (last : Instruction) → EndsIn s number before last
      → apart (code_of s number) ≡ ending before last
  ends-apart number before last h = rw (← in-block-code number (before ++ (last ∷ [])) h.code) (apart-joined before last)

  pub apart-ends : (number : ℕ) (before : List Instruction) (last : Instruction) → number < sheet.blocks.count
      → apart (code_of s number) ≡ ending before last → is_some last.target ≡ true → EndsIn s number before last
  apart-ends number before last below e branch =
      let same = joined-apart (code_of s number) before last e in
      record { code = rw same at (code-in-block number below); branch = branch }

  -- a branch of the sheet
  pub branch-at : (a : ℕ) → branch_at code a ≡ true → (to : ℕ) × Branch s a to
  branch-at a e =
      let r = branch-found code a e in
      let to = some-target r.0.target r.2 in
      (to.0, record { instruction = r.0; listed = r.1; at = r.3; to = to.1 })

  pub at-branch : (a to : ℕ) → Branch s a to → branch_at code a ≡ true
  at-branch a to b = rw (← b.at) (found-branch code sheet-rising b.instruction b.listed (ap is_some b.to))

  -- the jump of a node
  pub jump-is : (number a : ℕ) → JumpAt s number a → last_branch code (node_numbered s number).addresses ≡ Some a
  jump-is number a h =
      rw (entry-is (sheet_at s).nodes.list number no_node h.node h.is, h.lists)
      (found-last code h.earlier h.later a (at-branch a h.target h.branch) (λ b there e. let r = branch-at b e in h.last b there r.0 r.1))

  pub is-jump : (number a : ℕ) → number < length (sheet_at s).nodes.list → last_branch code (node_numbered s number).addresses ≡ Some a → JumpAt s number a
  is-jump number a below e =
      let r = last_found code (node_numbered s number).addresses a e in
      let b = branch-at a r.branch in
      record {
        node = node_numbered s number;
        is = entry-there (sheet_at s).nodes.list number no_node below;
        earlier = r.earlier;
        later = r.later;
        lists = r.is;
        target = b.0;
        branch = b.1;
        last = λ other there to is. r.silent other there (at-branch other to is);
      }
