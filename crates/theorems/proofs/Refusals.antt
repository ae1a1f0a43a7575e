-- The numbers of refusals of nodes and of listings.
use Prim.Native.Nat.{ℕ, ◌*◌, ◌≤◌}
use mathlib.Core.Path.{◌≡◌, refl, sym}
use mathlib.Core.Bool.{Bool, true, false, cond}
use mathlib.Core.List.{List}
use mathlib.Core.Logic.{◌⊎◌, inl, inr}
use native.Mathlib.Omega.{arith}
use lib.Dec.{leb, ltb}
use lib.ListN.{length}
use Rattle.std.specs.Prelude.{Ok, Err}
use Rattle.refusal.specs.declared.Fault.TheVariants.{Terms, Room, Number}
use Rattle.refusal.specs.Numbers.{number_of, refused as refusal}
use Rattle.refusal.specs.declared.Refusal.{Refusal}
use Rattle.sheet_node.specs.Node.{Node}
use Rattle.sheet.specs.Sheet.{sheet_at, reading_of, node_numbered, node_place, Reading}
use Rattle.sheet.specs.Index.{over}
use Rattle.sheet.proofs.Refusals.{reading-number}
use Rattle.sheet_bytes.specs.Write.{records}
use Rattle.substitution.specs.Substitution.{Substituted, too_long, into, with_assignments}
use Rattle.decide.specs.Decide.{decide, fits}
use Rattle.verdict.specs.declared.Verdict.{Verdict}
use Rattle.verdict.specs.declared.Verdict.TheVariants.{Always, Never, Undecided, NoBranch}
use Rattle.verdict.specs.Numbers.{answer_numbers, Answer}
use Rattle.verdict.specs.Numbers.Numbers.{refused}
use Rattle.verdict_lines.specs.Lines.{Line, line_bytes}
use Rattle.verdict_node.specs.NodeVerdict.{on_substituted, node_verdict}
use Rattle.verdict_sheet.specs.Said.{Judged, judged_up_to, lines_of}
use Rattle.answer_node.specs.Node.{on_node, node_answer}
use Rattle.answer_listing.specs.Listing.{turned_back, written, on_judged, listing_on, listing_of}
use Rattle.answer_listing.specs.Listing.ListedNumbers.{lines, refused as refused_listing}
use Rattle.theorems.proofs.First.{JudgedAs, judged-as}

-- ---- nodes

-- the number of a refusal that is the answer
answer-number : {a r : Refusal} → ◌≡◌ {A = Answer} (Err a) (Err r) → number_of a.fault ≡ number_of r.fault
answer-number {a} {r} e = let same : a ≡ r = cc in rw same

-- a node by itself is refused as 10 or 11
own-number : (n : Node) (place : ℕ) {r : Refusal} → node_verdict n place ≡ Err r → (10 ≤ number_of r.fault) × (number_of r.fault ≤ 11)
unfolding node_verdict
own-number n place {r} e = go (with_assignments n.statements n.condition) e
  where
    on : (b : Bool) (v : Verdict) → cond b (Ok v) (Err (refusal Terms place)) ≡ Err r → (10 ≤ number_of r.fault) × (number_of r.fault ≤ 11)
    on true v e = cc
    on false v e = let same = answer-number e in (omega (arith, same), omega (arith, same))

    go : (d : Substituted) → on_substituted place d ≡ Err r → (10 ≤ number_of r.fault) × (number_of r.fault ≤ 11)
    go too_long e = let same = answer-number e in (omega (arith, same), omega (arith, same))
    go (into c) e = on (fits c) (decide c) e

-- an answer that is a refusal of that number
record RefusedAs (a : Answer) (k : ℕ) : Type 0 where
  by : Refusal
  is : a ≡ Err by
  number : number_of by.fault ≡ k

as-refused : (a : Answer) {k at : ℕ} → answer_numbers a ≡ refused k at → RefusedAs a k
as-refused (Ok (Always r)) e = cc
as-refused (Ok (Never r)) e = cc
as-refused (Ok Undecided) e = cc
as-refused (Ok NoBranch) e = cc
as-refused (Err r) e = record { by = r; is = refl; number = cc }

abbrev ByNode : ℕ → Type 0
ByNode k = ((1 ≤ k) × (k ≤ 11)) ⊎ (k ≡ 13)

-- A node verdict is refused as 1 to 11 or 13.
pub node-number : (s : List ℕ) (number : ℕ) {k at : ℕ} → node_answer s number ≡ refused k at → ((1 ≤ k) × (k ≤ 11)) ⊎ (k ≡ 13)
unfolding node_answer
node-number s number e = let a = as-refused (on_node (reading_of s) s number) e in rw a.number at (go (reading_of s) refl a.is)
  where
    there : (t : Bool) {r : Refusal} → cond t (node_verdict (node_numbered s number) (node_place s number)) (Err (refusal Number 0)) ≡ Err r
        → ByNode (number_of r.fault)
    there true e = let n = own-number (node_numbered s number) (node_place s number) e in inl (omega (arith, n.0), n.1)
    there false e = inr (sym (answer-number e))

    go : (x : Reading) → reading_of s ≡ x → {r : Refusal} → on_node x s number ≡ Err r → ByNode (number_of r.fault)
    go (Err q) is e = let n = reading-number s is in let same = answer-number e in inl (omega (arith, n.0, same), omega (arith, n.1, same))
    go (Ok sheet) is e = there (ltb number sheet.nodes.count) e

-- ---- listings

listing-same : {a b k at : ℕ} → refused_listing a b ≡ refused_listing k at → a ≡ k
listing-same e = cc

not-lines : {X : Type 0} {count k at : ℕ} → lines count ≡ refused_listing k at → X
not-lines e = cc

-- A listing is refused as 1 to 12.
pub listing-number : (s list : List ℕ) {k at : ℕ} → (listing_of s list).answer ≡ refused_listing k at → (1 ≤ k) × (k ≤ 12)
unfolding listing_of
listing-number s list {k} {at} e = go (reading_of s) refl e
  where
    wrote : (due : List Line) → (written s due list).answer ≡ refused_listing k at → (1 ≤ k) × (k ≤ 12)
    wrote due e = fit (leb (18 * length due) (length list)) e
      where
        fit : (b : Bool)
            → (cond b (record { answer = lines (length due); list = over (records line_bytes due) list }) (turned_back (refusal Room (length s)) list)).answer
            ≡ refused_listing k at → (1 ≤ k) × (k ≤ 12)
        fit true e = not-lines e
        fit false e = let same = listing-same e in (omega (arith, same), omega (arith, same))

    judged : (blocks n : ℕ) (j : Judged) → JudgedAs s blocks n j → (on_judged j s list).answer ≡ refused_listing k at → (1 ≤ k) × (k ≤ 12)
    judged blocks n (Ok said) h e = wrote (lines_of (sheet_at s).instructions.list said) e
    judged blocks n (Err r) h e =
        let own = own-number (node_numbered s h.node) (node_place s h.node) h.is in
        let same = listing-same e in
        (omega (arith, own.0, same), omega (arith, own.1, same))

    go : (r : Reading) → reading_of s ≡ r → (listing_on r s list).answer ≡ refused_listing k at → (1 ≤ k) × (k ≤ 12)
    go (Err r) q e =
        let n = reading-number s q in let same = listing-same e in (omega (arith, n.0, same), omega (arith, n.1, same))
    go (Ok sheet) q e =
        judged sheet.blocks.count sheet.nodes.count (judged_up_to s sheet.blocks.count sheet.nodes.count)
        (judged-as s sheet.blocks.count sheet.nodes.count) e
