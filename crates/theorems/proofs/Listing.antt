-- The listing: its lines are those due, in their order; and when it is refused.
use Prim.Native.Nat.{ℕ, zero, suc, ◌*◌, ◌<◌, ◌≤◌}
use mathlib.Core.Path.{◌≡◌, refl, sym, ap, ◌∙◌}
use mathlib.Core.Bool.{Bool, true, false, cond}
use mathlib.Core.List.{List}
use mathlib.Core.Logic.{◌↔◌}
use native.Mathlib.Omega.{arith}
use lib.Dec.{leb, ltb}
use lib.ListN.{length, get_or}
use borrow.Author.Tests.{ltb-true, ltb-false, leb-true, leb-false}
use Rattle.std.specs.Prelude.{Ok, Err}
use Rattle.refusal.specs.declared.Fault.TheVariants.{Room}
use Rattle.refusal.specs.Numbers.{number_of, refused as refusal}
use Rattle.refusal.specs.declared.Refusal.{Refusal}
use Rattle.laws.proofs.Booleans.{by_test}
use Rattle.isa.specs.declared.Instruction.{Instruction}
use Rattle.sheet.specs.declared.Sheet.{Sheet}
use Rattle.sheet.specs.Sheet.{sheet_at, reading_of, Reading}
use Rattle.sheet.specs.Index.{over}
use Rattle.sheet.proofs.Fronts.{over-length}
use Rattle.sheet_bytes.specs.Write.{Bytes, records}
use Rattle.format.specs.Sheet.{Byte, numbers}
use Rattle.format.proofs.Unique.{all-bytes}
use Rattle.verdict.specs.declared.Verdict.{Verdict}
use Rattle.verdict.specs.declared.Verdict.TheVariants.{Always, Never, Undecided, NoBranch}
use Rattle.verdict.specs.Numbers.{verdict_numbers, answer_numbers}
use Rattle.verdict.specs.Numbers.Numbers.{refused}
use Rattle.verdict_lines.specs.Lines.{Line, line_bytes}
use Rattle.verdict_lines.proofs.Written.{lines-length}
use Rattle.verdict_sheet.specs.Said.{Said, judged_up_to, lines_of}
use Rattle.verdict_sheet.specs.Said as said_of
use Rattle.answer_node.specs.Node.{node_answer}
use Rattle.answer_listing.specs.Listing.{Listing, turned_back, written, on_judged, listing_on, listing_of}
use Rattle.answer_listing.specs.Listing.ListedNumbers.{lines, refused as refused_listing}
use Rattle.theorems.specs.Lines.{AllDue, line_at, Listed, Judged, Refuses, TrueOf}
use Rattle.theorems.specs.Lines.Refuses.{by_reading, by_node, no_room}
use Rattle.theorems.proofs.First.{Given, AllSay, JudgedAs, judged-as}
use Rattle.theorems.proofs.Deciding.{node-answer}
use Rattle.theorems.proofs.DueLines.{ordered, no_line, OfBranch, of-branch, rises, line-due, due-line}
use Rattle.theorems.proofs.InList.{stands, over-beyond}
use Rattle.theorems.proofs.Whole.{runs-right}

-- ---- two ways of counting the lines due give one number

all-due-as : (s : List ℕ) (n : ℕ) (f g : ℕ → Line) → ((k : ℕ) → k < n → g k ≡ f k) → AllDue s n f → AllDue s n g
all-due-as s n f g same h = record {
  due = λ k below. rw (same k below) (h.due k below);
  every = λ l d. let r = h.every l d in (r.0, r.1, same r.0 r.1 ∙ r.2);
  rising = λ j k less below. rw (same j (omega (arith, less, below)), same k below) (h.rising j k less below);
}

module _ (s : List ℕ) (m n : ℕ) (f g : ℕ → Line) (x : AllDue s m f) (y : AllDue s n g) where
  abbrev place : (k : ℕ) → k < m → ℕ
  place k below = (y.every (f k) (x.due k below)).0

  further : (k : ℕ) (here : k < m) (next : suc k < m) → place k here < place (suc k) next
  further k here next =
      by_test (ltb (place k here) (place (suc k) next)) (λ t. ltb-true (place k here) (place (suc k) next) t)
      (λ t. absurd (back (ltb-false (place k here) (place (suc k) next) t)))
    where
      a : g (place k here) ≡ f k
      a = (y.every (f k) (x.due k here)).2

      b : g (place (suc k) next) ≡ f (suc k)
      b = (y.every (f (suc k)) (x.due (suc k) next)).2

      less : (g (place k here)).site < (g (place (suc k) next)).site
      less = rw (a, b) (x.rising k (suc k) (omega arith) next)

      back : place (suc k) next ≤ place k here → ⊥
      back le =
          by_test (ltb (place (suc k) next) (place k here))
          (λ t. let down = y.rising (place (suc k) next) (place k here) (ltb-true (place (suc k) next) (place k here) t) (y.every (f k) (x.due k here)).1 in
          omega (arith, down, less))
          (λ t.
          let same : place k here ≡ place (suc k) next = omega (arith, le, ltb-false (place (suc k) next) (place k here) t) in
          let q : (g (place k here)).site ≡ (g (place (suc k) next)).site = ap (λ (i : ℕ). (g i).site) same in
          omega (arith, q, less))

  at_least : (k : ℕ) (below : k < m) → k ≤ place k below
  at_least zero below = omega arith
  at_least (suc k) below =
      let here : k < m = omega (arith, below) in
      let p = at_least k here in
      let q = further k here below in
      omega (arith, p, q)

  pub fewer : m ≤ n
  fewer = go m refl
    where
      go : (c : ℕ) → m ≡ c → m ≤ n
      go zero e = omega (arith, e)
      go (suc k) e =
          let below : k < m = omega (arith, e) in
          let p = at_least k below in
          let q = (y.every (f k) (x.due k below)).1 in
          omega (arith, e, p, q)

-- ---- what the listing does

-- it is turned back for a reason, or it writes the lines due
data Case (s list : List ℕ) (r : Listing) : Type 0 where
  turned : (why : Refusal) → r ≡ turned_back why list → Refuses s list (number_of why.fault) why.at → Case s list r
  wrote : (sheet : Sheet) → Judged s sheet sheet.nodes.count → (count : ℕ) → r.answer ≡ lines count → Listed s count list r.list
      → Case s list r

verdict-no-refusal : (v : Verdict) {number place : ℕ} → verdict_numbers v ≡ refused number place → ⊥
verdict-no-refusal (Always r) e = cc
verdict-no-refusal (Never r) e = cc
verdict-no-refusal Undecided e = cc
verdict-no-refusal NoBranch e = cc

judged : (s : List ℕ) (sheet : Sheet) → reading_of s ≡ Ok sheet → (n : ℕ) → n ≤ sheet.nodes.count
    → ((k : ℕ) → k < n → Given s k) → Judged s sheet n
judged s sheet read n few given = record {
  read = read;
  nodes = λ j below number place e.
      let g = given j below in
      verdict-no-refusal g.verdict
      (sym (ap answer_numbers g.is) ∙ (sym (node-answer s sheet read j (omega (arith, few, below))) ∙ e));
}

module _ (s : List ℕ) (small : Bytes s) (sheet : Sheet) (read : reading_of s ≡ Ok sheet) (list : List ℕ) where
  abbrev code : List Instruction
  code = (sheet_at s).instructions.list

  module _ (said : List Said) (h : AllSay s sheet.blocks.count sheet.nodes.count said) where
    abbrev due : List Line
    due = lines_of code said

    line_of : (k : ℕ) → k < length due → OfBranch 0 code said (get_or due k no_line)
    line_of = of-branch said 0 code (ordered s small sheet read)

    all-due : AllDue s (length due) (λ k. get_or due k no_line)
    all-due = record {
      due = λ k below. line-due s sheet read h.given said h.is (get_or due k no_line) (line_of k below);
      every = λ l d. let a = due-line s sheet read h.given said h.is l d in (a.number, a.below, a.is);
      rising = rises said 0 code (ordered s small sheet read);
    }

    in_list : 18 * length due ≤ length list → Listed s (length due) list (over (records line_bytes due) list)
    in_list room = record {
      lines = all-due-as s (length due) (λ k. get_or due k no_line) (line_at (over (records line_bytes due) list))
          (λ k below. stands due list room k below (record { site = (line_of k below).site-fits; target = (line_of k below).target_fits })) all-due;
      room = room;
      long = over-length (records line_bytes due) list;
      beyond = λ i le. over-beyond (records line_bytes due) list i (rw (lines-length due) le);
    }

    wrote-all : Case s list (written s due list)
    wrote-all = go (leb (18 * length due) (length list)) refl
      where
        J : Judged s sheet sheet.nodes.count
        J = judged s sheet read sheet.nodes.count (omega arith) h.given

        go : (t : Bool) → leb (18 * length due) (length list) ≡ t
            → Case s list
            (cond t (record { answer = lines (length due); list = over (records line_bytes due) list }) (turned_back (refusal Room (length s)) list))
        go true t = wrote sheet J (length due) refl (in_list (leb-true (18 * length due) (length list) t))
        go false t =
            turned (refusal Room (length s)) refl
            (no_room sheet J (length due) (λ k. get_or due k no_line) all-due (leb-false (18 * length due) (length list) t))

  on-judged : (j : said_of.Judged) → JudgedAs s sheet.blocks.count sheet.nodes.count j → Case s list (on_judged j s list)
  on-judged (Ok said) h = wrote-all said h
  on-judged (Err r) h =
      turned r refl
      (by_node sheet h.node (number_of r.fault) r.at (judged s sheet read h.node (omega (arith, h.below)) h.given) h.below
      (node-answer s sheet read h.node h.below ∙ ap answer_numbers h.is))

listing-case : (s : List ℕ) → Bytes s → (list : List ℕ) → Case s list (listing_of s list)
unfolding listing_of
listing-case s small list = go (reading_of s) refl
  where
    go : (r : Reading) → reading_of s ≡ r → Case s list (listing_on r s list)
    go (Err r) e = turned r refl (by_reading r e)
    go (Ok sheet) e =
        on-judged s small sheet e list (judged_up_to s sheet.blocks.count sheet.nodes.count) (judged-as s sheet.blocks.count sheet.nodes.count)

-- ---- refusals exclude each other, and lines

accepted-refused : {X : Type 0} (s : List ℕ) {sheet : Sheet} {r : Refusal} → reading_of s ≡ Ok sheet → reading_of s ≡ Err r → X
accepted-refused s e f = let q = sym e ∙ f in cc

same-sheet : (s : List ℕ) {a b : Sheet} → reading_of s ≡ Ok a → reading_of s ≡ Ok b → a ≡ b
same-sheet s {a} {b} e f = let q = sym e ∙ f in cc

-- where no node is refused, none is the first that is
none_first : (s : List ℕ) (sheet other : Sheet) (k number place : ℕ) → Judged s sheet sheet.nodes.count → Judged s other k
    → k < other.nodes.count → node_answer s k ≡ refused number place → ⊥
none_first s sheet other k number place all_are some-are below e =
    let same : other.nodes.count ≡ sheet.nodes.count = ap (λ (x : Sheet). x.nodes.count) (same-sheet s some-are.read all_are.read) in
    all_are.nodes k (omega (arith, below, same)) number place e

-- the same number and the same offset
abbrev Same : ℕ → ℕ → ℕ → ℕ → Type 0
Same number place number' place' = (number ≡ number') × (place ≡ place')

refused-same : {a b c d : ℕ} → refused a b ≡ refused c d → Same a b c d
refused-same e = (cc, cc)

reading-same : (s : List ℕ) {q r : Refusal} → reading_of s ≡ Err q → reading_of s ≡ Err r → Same (number_of q.fault) q.at (number_of r.fault) r.at
reading-same s {q} {r} e f = let both = sym e ∙ f in let same : q ≡ r = cc in rw same (refl, refl)

one-reason : (s list : List ℕ) {number place number' place' : ℕ} → Refuses s list number place → Refuses s list number' place'
    → Same number place number' place'
one-reason s list (by_reading q e) (by_reading r f) = reading-same s e f
one-reason s list (by_reading q e) (by_node sheet k c d j below f) = accepted-refused s j.read e
one-reason s list (by_reading q e) (no_room sheet j count line due short) = accepted-refused s j.read e
one-reason s list (by_node sheet k a b j below e) (by_reading r f) = accepted-refused s j.read f
one-reason s list (by_node sheet k a b j below e) (by_node sheet' k' c d j' below' f) =
    by_test (ltb k k') (λ t. absurd (j'.nodes k (ltb-true k k' t) a b e))
    (λ t. by_test (ltb k' k) (λ u. absurd (j.nodes k' (ltb-true k' k u) c d f))
    (λ u.
    let here : k ≡ k' = omega (arith, ltb-false k k' t, ltb-false k' k u) in
    refused-same (sym e ∙ (ap (node_answer s) here ∙ f))))
one-reason s list (by_node sheet k a b j below e) (no_room sheet' j' count line due short) = absurd (none_first s sheet' sheet k a b j' j below e)
one-reason s list (no_room sheet j count line due short) (by_reading r f) = accepted-refused s j.read f
one-reason s list (no_room sheet j count line due short) (by_node sheet' k' c d j' below' f) = absurd (none_first s sheet sheet' k' c d j j' below' f)
one-reason s list (no_room sheet j count line due short) (no_room sheet' j' count' line' due' short') = (refl, refl)

no-reason : (s list after : List ℕ) (sheet : Sheet) (count : ℕ) → Judged s sheet sheet.nodes.count → Listed s count list after
    → {number place : ℕ} → Refuses s list number place → ⊥
no-reason s list after sheet count j h (by_reading q e) = accepted-refused s j.read e
no-reason s list after sheet count j h (by_node sheet' k a b j' below e) = none_first s sheet sheet' k a b j j' below e
no-reason s list after sheet count j h (no_room sheet' j' count' line due short) =
    let few = fewer s count' count line (line_at after) due h.lines in
    omega (arith, few, short, h.room)

lines-refused : {X : Type 0} {count number place : ℕ} → lines count ≡ refused_listing number place → X
lines-refused e = cc

-- ---- the theorems, for any bytes

-- What is written are the lines due.
pub lines-due : (s : List Byte) (list : List ℕ) (count : ℕ) → (listing_of (numbers s) list).answer ≡ lines count
    → Listed (numbers s) count list (listing_of (numbers s) list).list
lines-due s list count e = go (listing-case (numbers s) (all-bytes s) list)
  where
    go : Case (numbers s) list (listing_of (numbers s) list) → Listed (numbers s) count list (listing_of (numbers s) list).list
    go (turned r is why) = lines-refused (sym e ∙ ap (λ (r : Listing). r.answer) is)
    go (wrote sheet j n is h) = let same : n ≡ count = count_is (sym is ∙ e) in rw same at h
      where
        count_is : lines n ≡ lines count → n ≡ count
        count_is q = cc

-- It is refused exactly for one of the reasons.
pub refused-for : (s : List Byte) (list : List ℕ) (number place : ℕ)
    → ((listing_of (numbers s) list).answer ≡ refused_listing number place) ↔ Refuses (numbers s) list number place
refused-for s list number place = (λ e. there e (listing-case (numbers s) (all-bytes s) list), λ why. back why (listing-case (numbers s) (all-bytes s) list))
  where
    numbers_of : {a b c d : ℕ} → refused_listing a b ≡ refused_listing c d → Same a b c d
    numbers_of e = (cc, cc)

    there : (listing_of (numbers s) list).answer ≡ refused_listing number place → Case (numbers s) list (listing_of (numbers s) list)
        → Refuses (numbers s) list number place
    there e (turned r is why) =
        let same = numbers_of (sym (ap (λ (r : Listing). r.answer) is) ∙ e) in rw (same.0, same.1) at why
    there e (wrote sheet j n is h) = lines-refused (sym is ∙ e)

    back : Refuses (numbers s) list number place → Case (numbers s) list (listing_of (numbers s) list)
        → (listing_of (numbers s) list).answer ≡ refused_listing number place
    back why (turned r is other) =
        let same = one-reason (numbers s) list other why in
        rw (same.0, same.1) at (ap (λ (r : Listing). r.answer) is)
    back why (wrote sheet j n is h) = absurd (no-reason (numbers s) list (listing_of (numbers s) list).list sheet n j h why)

-- A refusal leaves the list as it was.
pub list-kept : (s : List Byte) (list : List ℕ) (number place : ℕ) → (listing_of (numbers s) list).answer ≡ refused_listing number place
    → (listing_of (numbers s) list).list ≡ list
list-kept s list number place e = go (listing-case (numbers s) (all-bytes s) list)
  where
    go : Case (numbers s) list (listing_of (numbers s) list) → (listing_of (numbers s) list).list ≡ list
    go (turned r is why) = ap (λ (r : Listing). r.list) is
    go (wrote sheet j n is h) = lines-refused (sym is ∙ e)

-- Every line is true of every run of what it comes from.
pub lines-true : (s : List Byte) (list : List ℕ) (count k : ℕ) → (listing_of (numbers s) list).answer ≡ lines count → k < count
    → TrueOf (numbers s) (line_at (listing_of (numbers s) list).list k)
lines-true s list count k e below =
    let d = (lines-due s list count e).lines.due k below in
    let l = line_at (listing_of (numbers s) list).list k in
    record { from = d.from; answer = d.answer; site = d.site; target = d.target; runs = runs-right s d.from l.value l.reason d.answer }
