-- The lines of the listing are those due. In the instructions' order each branch that is decided has one, so they rise by site.
use Prim.Native.Nat.{ℕ, zero, suc, ◌^◌, ◌<◌, ◌≤◌}
use mathlib.Core.Path.{◌≡◌, refl, sym, ap, subst, ◌∙◌}
use mathlib.Core.Bool.{Bool, true, false, cond}
use mathlib.Core.List.{List, [], ◌∷◌, ◌++◌, map}
use mathlib.Core.Option as field
use mathlib.Core.Logic.{◌⊎◌, inl, inr, ⊎_elim}
use native.Mathlib.Omega.{arith}
use lib.Dec.{eqb}
use lib.ListN.{length, get_or, length-append}
use borrow.Author.Tests.{eqb-true, eqb-false, eq-eqb, ne_eqb}
use Rattle.std.specs.Prelude.{Option, Ok, Some, is_some, unwrap_or}
use Rattle.sheet_field.specs.Field.{Place}
use Rattle.laws.proofs.Booleans.{by_test}
use Rattle.isa.specs.declared.Instruction.{Instruction}
use Rattle.sheet.specs.declared.Sheet.{Sheet}
use Rattle.sheet.specs.Sheet.{nodes_from, sheet_at, reading_of}
use Rattle.sheet.proofs.Accepted.{accepted}
use Rattle.sheet_bytes.specs.Write.{All, Bytes, WhereThere}
use Rattle.format.specs.Syntax as syntax
use Rattle.format.specs.Syntax.{means_instruction, means_target}
use Rattle.format.specs.Valid.{ValidInstruction, Rising}
use Rattle.format.proofs.Sheets.{read-was-written}
use Rattle.verdict.specs.declared.Reason.{Reason}
use Rattle.verdict.specs.declared.Verdict.{Verdict}
use Rattle.verdict.specs.declared.Verdict.TheVariants.{Always, Never, Undecided, NoBranch}
use Rattle.verdict.specs.Numbers.{reason_number, verdict_numbers}
use Rattle.verdict.specs.Numbers.Numbers.{decision}
use Rattle.verdict_block.specs.Verdict.{Parts, apart, code_of}
use Rattle.verdict_block.specs.Verdict.Parts.{none as no_instruction, ending}
use Rattle.verdict_lines.specs.Lines.{Line, line_of}
use Rattle.verdict_lines.proofs.Decided.{reason-small}
use Rattle.verdict_sheet.specs.Sites.{last_site}
use Rattle.verdict_sheet.specs.Said.{Said, blocks_say, first_decided, lines_of}
use Rattle.theorems.specs.Runs.{Source, answer_for}
use Rattle.theorems.specs.Runs.Source.{block, node}
use Rattle.theorems.specs.Branches.{In, InOrder, Branch}
use Rattle.theorems.specs.Lines.{About, Due}
use Rattle.theorems.proofs.Apart.{some_same, not_some}
use Rattle.theorems.proofs.First.{nodes_say, Given}
use Rattle.theorems.proofs.Found.{some-target, sheet-rising, ends-apart, apart-ends, jump-is, is-jump}
use Rattle.theorems.proofs.Deciding.{site_of, block-there, node-there, Decider, Decided, decided, one-decider}

-- ---- the instructions of an accepted sheet

-- from an address on they rise, and addresses and targets have 8 bytes
unfoldable pub Ordered : ℕ → List Instruction → Type 0
Ordered low [] = Unit {0}
Ordered low (i ∷ code) = (low ≤ i.address) × (i.address < 256 ^ 8) × (unwrap_or i.target 0 < 256 ^ 8) × Ordered (suc i.address) code

target_small : (i : syntax.Instruction) → ValidInstruction i → unwrap_or (means_target i.target) 0 < 256 ^ 8
target_small i ok = go i.target ok.formed.target
  where
    go : (t : field.Option ℕ) → WhereThere (λ t. t < 256 ^ 8) t → unwrap_or (means_target t) 0 < 256 ^ 8
    go field.none h = omega arith
    go (field.some t) h = h

ordered-from : (low : ℕ) (i : syntax.Instruction) (l : List syntax.Instruction) → low ≤ i.address → All ValidInstruction (i ∷ l) → Rising (i ∷ l)
    → Ordered low (map means_instruction (i ∷ l))
unfolding Ordered Rising All means_instruction
ordered-from low i [] above ok up = (above, ok.0.formed.address, target_small i ok.0, tt)
ordered-from low i (j ∷ l) above ok up =
    (above, ok.0.formed.address, target_small i ok.0, ordered-from (suc i.address) j l (omega (arith, up.0)) ok.1 up.1)

pub ordered : (s : List ℕ) → Bytes s → (sheet : Sheet) → reading_of s ≡ Ok sheet → Ordered 0 (sheet_at s).instructions.list
unfolding Ordered
ordered s small sheet read =
    let w = read-was-written s sheet small read in
    rw w.yields.instructions (go w.syntax.instructions w.valid.instructions w.valid.rising)
  where
    go : (l : List syntax.Instruction) → All ValidInstruction l → Rising l → Ordered 0 (map means_instruction l)
    go [] ok up = tt
    go (i ∷ l) ok up = ordered-from 0 i l (omega arith) ok up

-- an address of one of the instructions
unfoldable pub Among : ℕ → List Instruction → Type 0
Among a [] = ⊥
Among a (i ∷ code) = (i.address ≡ a) ⊎ Among a code

-- the target of the instruction at an address
unfoldable pub target_at : List Instruction → ℕ → ℕ
target_at [] site = 0
target_at (i ∷ code) site = cond (eqb i.address site) (unwrap_or i.target 0) (target_at code site)

-- ---- the lines

abbrev pub no_line : Line
no_line = record { site = 0; target = 0; value = 0; reason = 0 }

-- a line of the listing: it fits its bytes, and says what was decided of a branch
pub record OfBranch (low : ℕ) (code : List Instruction) (said : List Said) (l : Line) : Type 0 where
  pub above : low ≤ l.site
  pub site-fits : l.site < 256 ^ 8
  pub target_fits : l.target < 256 ^ 8
  pub value-fits : l.value < 256
  pub reason-fits : l.reason < 256
  pub target : target_at code l.site ≡ l.target
  pub verdict : verdict_numbers (first_decided l.site said) ≡ decision l.value l.reason

module _ (said : List Said) where
  abbrev verdict_of : Instruction → Verdict
  verdict_of i = first_decided i.address said

  -- a later instruction's line
  later : (low : ℕ) (i : Instruction) (code : List Instruction) (l : Line) → low ≤ i.address → OfBranch (suc i.address) code said l
      → OfBranch low (i ∷ code) said l
  unfolding target_at
  later low i code l above h = record {
    above = omega (arith, above, h.above);
    site-fits = h.site-fits;
    target_fits = h.target_fits;
    value-fits = h.value-fits;
    reason-fits = h.reason-fits;
    target = rw (ne_eqb i.address l.site (λ e. omega (arith, e, h.above))) h.target;
    verdict = h.verdict;
  }

  -- its own line
  own : (low : ℕ) (i : Instruction) (code : List Instruction) (value : ℕ) (r : Reason) → value < 256 → Ordered low (i ∷ code)
      → verdict_numbers (verdict_of i) ≡ decision value (reason_number r)
      → OfBranch low (i ∷ code) said (record { site = i.address; target = unwrap_or i.target 0; value = value; reason = reason_number r })
  unfolding target_at Ordered
  own low i code value r small o is = record {
    above = o.0;
    site-fits = o.1;
    target_fits = o.2;
    value-fits = small;
    reason-fits = omega (arith, reason-small r);
    target = rw (eq-eqb i.address i.address refl);
    verdict = is;
  }

  pub of-branch : (low : ℕ) (code : List Instruction) → Ordered low code → (k : ℕ) → k < length (lines_of code said)
      → OfBranch low code said (get_or (lines_of code said) k no_line)
  unfolding lines_of Ordered
  of-branch low [] o k below = absurd (omega (arith, below))
  of-branch low (i ∷ code) o k below =
      go (verdict_of i) refl k below (λ k' below'. later low i code _ o.0 (of-branch (suc i.address) code o.3 k' below'))
    where
      go : (v : Verdict) → verdict_of i ≡ v → (k : ℕ) → k < length (line_of i v ++ lines_of code said)
          → ((k' : ℕ) → k' < length (lines_of code said) → OfBranch low (i ∷ code) said (get_or (lines_of code said) k' no_line))
          → OfBranch low (i ∷ code) said (get_or (line_of i v ++ lines_of code said) k no_line)
      go (Always r) is zero below rest = own low i code 1 r (omega arith) o (ap verdict_numbers is)
      go (Always r) is (suc k) below rest = rest k (omega (arith, below))
      go (Never r) is zero below rest = own low i code 0 r (omega arith) o (ap verdict_numbers is)
      go (Never r) is (suc k) below rest = rest k (omega (arith, below))
      go Undecided is k below rest = rest k below
      go NoBranch is k below rest = rest k below

  pub rises : (low : ℕ) (code : List Instruction) → Ordered low code → (j k : ℕ) → j < k → k < length (lines_of code said)
      → (get_or (lines_of code said) j no_line).site < (get_or (lines_of code said) k no_line).site
  unfolding lines_of Ordered
  rises low [] o j k less below = absurd (omega (arith, below))
  rises low (i ∷ code) o j k less below =
      go (verdict_of i) j k less below (rises (suc i.address) code o.3) (λ k' below'. (of-branch (suc i.address) code o.3 k' below').above)
    where
      go : (v : Verdict) (j k : ℕ) → j < k → k < length (line_of i v ++ lines_of code said)
          → ((j k : ℕ) → j < k → k < length (lines_of code said) → (get_or (lines_of code said) j no_line).site < (get_or (lines_of code said) k no_line).site)
          → ((k' : ℕ) → k' < length (lines_of code said) → suc i.address ≤ (get_or (lines_of code said) k' no_line).site)
          → (get_or (line_of i v ++ lines_of code said) j no_line).site < (get_or (line_of i v ++ lines_of code said) k no_line).site
      go v j zero less below rest above = absurd (omega (arith, less))
      go (Always r) zero (suc k) less below rest above = above k (omega (arith, below))
      go (Always r) (suc j) (suc k) less below rest above = rest j k (omega (arith, less)) (omega (arith, below))
      go (Never r) zero (suc k) less below rest above = above k (omega (arith, below))
      go (Never r) (suc j) (suc k) less below rest above = rest j k (omega (arith, less)) (omega (arith, below))
      go Undecided j (suc k) less below rest above = rest j (suc k) less below
      go NoBranch j (suc k) less below rest above = rest j (suc k) less below

  -- where a line stands
  pub record At (code : List Instruction) (l : Line) : Type 0 where
    pub number : ℕ
    pub below : number < length (lines_of code said)
    pub is : get_or (lines_of code said) number no_line ≡ l

  at-line : (i : Instruction) (v : Verdict) (lines : List Line) (l : Line) (k : ℕ) → k < length lines → get_or lines k no_line ≡ l
      → (n : ℕ) × (n < length (line_of i v ++ lines)) × (get_or (line_of i v ++ lines) n no_line ≡ l)
  at-line i (Always r) lines l k below is = (suc k, omega (arith, below), is)
  at-line i (Never r) lines l k below is = (suc k, omega (arith, below), is)
  at-line i Undecided lines l k below is = (k, below, is)
  at-line i NoBranch lines l k below is = (k, below, is)

  own_line : (i : Instruction) (v : Verdict) (lines : List Line) (value reason : ℕ) → verdict_numbers v ≡ decision value reason
      → (0 < length (line_of i v ++ lines))
      × (get_or (line_of i v ++ lines) 0 no_line ≡ record { site = i.address; target = unwrap_or i.target 0; value = value; reason = reason })
  own_line i (Always r) lines value reason e =
      let p : 1 ≡ value = cc in let q : reason_number r ≡ reason = cc in (omega arith, rw (p, q))
  own_line i (Never r) lines value reason e =
      let p : 0 ≡ value = cc in let q : reason_number r ≡ reason = cc in (omega arith, rw (p, q))
  own_line i Undecided lines value reason e = cc
  own_line i NoBranch lines value reason e = cc

  -- every instruction whose branch is decided has a line
  pub every : (code : List Instruction) (a value reason : ℕ) → Among a code → verdict_numbers (first_decided a said) ≡ decision value reason
      → At code (record { site = a; target = target_at code a; value = value; reason = reason })
  unfolding lines_of Among target_at
  every [] a value reason there is = absurd there
  every (i ∷ code) a value reason there is = go (eqb i.address a) refl (λ rest. every code a value reason rest is)
    where
      go : (t : Bool) → eqb i.address a ≡ t → (Among a code → At code (record { site = a; target = target_at code a; value = value; reason = reason }))
          → At (i ∷ code) (record { site = a; target = cond t (unwrap_or i.target 0) (target_at code a); value = value; reason = reason })
      go true t rest =
          let same = eqb-true i.address a t in
          let l = own_line i (verdict_of i) (lines_of code said) value reason (rw same is) in
          record { number = 0; below = l.0; is = rw (← same) l.1 }
      go false t rest =
          let r = rest (⊎_elim (λ same. absurd (eqb-false i.address a t same)) (λ h. h) there) in
          let n = at-line i (verdict_of i) (lines_of code said) _ r.number r.below r.is in
          record { number = n.0; below = n.1; is = n.2 }

-- ---- the branch of a block or a node is one of the sheet's

listed-among : (l : List Instruction) (i : Instruction) → In i l → Among i.address l
unfolding In Among
listed-among [] i h = h
listed-among (j ∷ l) i h = ⊎_elim (λ e. inl (ap (λ (x : Instruction). x.address) (sym e))) (λ later. inr (listed-among l i later)) h

-- the target of an instruction that stands in a rising list
listed-target : (l : List Instruction) → InOrder l → (i : Instruction) → In i l → target_at l i.address ≡ unwrap_or i.target 0
unfolding target_at In InOrder
listed-target [] up i h = absurd h
listed-target (j ∷ l) up i h =
    by_test (eqb j.address i.address)
    (λ t. rw t (⊎_elim (λ e. rw e) (λ later. let below = up.0 i later in absurd (omega (arith, below, eqb-true j.address i.address t))) h))
    (λ t. rw t
    (⊎_elim (λ e. absurd (eqb-false j.address i.address t (ap (λ (x : Instruction). x.address) (sym e)))) (λ later. listed-target l up.1 i later) h))

last-in : (before : List Instruction) (last : Instruction) → In last (before ++ (last ∷ []))
unfolding In
last-in [] last = inl refl
last-in (i ∷ before) last = inr (last-in before last)

nodes-length : (s : List ℕ) (p : Place) (k : ℕ) → length (nodes_from s p k).list ≡ k
unfolding nodes_from
nodes-length s p zero = refl
nodes-length s p (suc k) = let n = nodes-length s p k in length-append (nodes_from s p k).list (_ ∷ []) ∙ omega (arith, n)

module _ (s : List ℕ) (sheet : Sheet) (read : reading_of s ≡ Ok sheet) where
  about-branch : (from : Source) (a : ℕ) → About s from a → (to : ℕ) × Branch s a to
  about-branch (block k) a h =
      let listed = ((h.2.code.holds h.1).0 (last-in h.0 h.1)).0 in
      let to = some-target h.1.target h.2.branch in
      (to.0, record { instruction = h.1; listed = listed; at = h.3; to = to.1 })
  about-branch (node k) a h = (h.target, h.branch)

  branch-target : (a to : ℕ) → Branch s a to → target_at (sheet_at s).instructions.list a ≡ to
  branch-target a to b =
      rw (← b.at) (listed-target (sheet_at s).instructions.list (sheet-rising s sheet read) b.instruction b.listed ∙ ap (λ (o : Option ℕ). unwrap_or o 0) b.to)

  -- what the code finds is what a block or a node is about, and that alone
  about-found : (from : Source) (a : ℕ) → About s from a → site_of s from ≡ Some a
  about-found (block k) a h = rw (ends-apart s sheet read k h.0 h.1 h.2, h.2.branch, h.3)
  about-found (node k) a h = jump-is s sheet read k a h

  found-about : (from : Source) (a value reason : ℕ) → answer_for s from ≡ decision value reason → site_of s from ≡ Some a → About s from a
  found-about (block k) a value reason e site = go (apart (code_of s k)) refl site
    where
      go : (parts : Parts) → apart (code_of s k) ≡ parts → last_site parts ≡ Some a → About s (block k) a
      go no_instruction q site = not_some site
      go (ending before last) q site =
          by_test (is_some last.target)
          (λ t. (before, last, apart-ends s sheet read k before last (block-there s sheet read k value reason e) q t, some_same (rw t at site)))
          (λ t. not_some (rw t at site))
  found-about (node k) a value reason e site =
      let acc = accepted s sheet read in
      let long : length (sheet_at s).nodes.list ≡ sheet.nodes.count = rw (← acc.nodes) (nodes-length s _ sheet.nodes.count) in
      is-jump s sheet read k a (rw long (node-there s sheet read k value reason e)) site

-- ---- due

module _ (s : List ℕ) (sheet : Sheet) (read : reading_of s ≡ Ok sheet) (given : (k : ℕ) → k < sheet.nodes.count → Given s k)
    (said : List Said) (is : said ≡ blocks_say s sheet.blocks.count ++ nodes_say s sheet.nodes.count) where
  abbrev code : List Instruction
  code = (sheet_at s).instructions.list

  pub line-due : (l : Line) → OfBranch 0 code said l → Due s l
  line-due l h = go (first_decided l.site said) (decided s sheet read given l.site said is) h.verdict
    where
      by : (v : Verdict) → Decider s l.site v → verdict_numbers v ≡ decision l.value l.reason → Due s l
      by v d e =
          let about = found-about s sheet read d.from l.site l.value l.reason (d.answer-is ∙ e) d.site in
          let b = about-branch s sheet read d.from l.site about in
          let to : b.0 ≡ l.target = sym (branch-target s sheet read l.site b.0 b.1) ∙ h.target in
          record {
            from = d.from;
            answer = d.answer-is ∙ e;
            site = about;
            target = rw to at b.1;
            first = λ other earlier there. d.first other earlier (about-found s sheet read other l.site there);
          }

      go : (v : Verdict) → Decided s l.site v → verdict_numbers v ≡ decision l.value l.reason → Due s l
      go (Always r) d e = by (Always r) d e
      go (Never r) d e = by (Never r) d e
      go Undecided d e = cc
      go NoBranch d e = cc

  pub due-line : (l : Line) → Due s l → At said code l
  due-line l d =
      subst (λ (t : ℕ). At said code (record { site = l.site; target = t; value = l.value; reason = l.reason })) (branch-target s sheet read l.site l.target d.target)
      (every said code l.site l.value l.reason (rw (← d.target.at) (listed-among code d.target.instruction d.target.listed))
      (go (first_decided l.site said) (decided s sheet read given l.site said is)))
    where
      its-site : site_of s d.from ≡ Some l.site
      its-site = about-found s sheet read d.from l.site d.site

      by : (p : ℕ) (r : Reason) (v : Verdict) → verdict_numbers v ≡ decision p (reason_number r) → Decider s l.site v
          → verdict_numbers v ≡ decision l.value l.reason
      by p r v e w =
          e
          ∙ one-decider s l.site w.from d.from p (reason_number r) l.value l.reason w.site (w.answer-is ∙ e) w.first its-site d.answer
          (λ other earlier there value reason said. d.first other earlier (found-about s sheet read other l.site value reason said there) value reason said)

      go : (v : Verdict) → Decided s l.site v → verdict_numbers v ≡ decision l.value l.reason
      go (Always r) w = by 1 r (Always r) refl w
      go (Never r) w = by 0 r (Never r) refl w
      go Undecided w = absurd (w d.from its-site l.value l.reason d.answer)
      go NoBranch w = absurd (w d.from its-site l.value l.reason d.answer)
