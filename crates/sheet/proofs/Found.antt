-- Finding a node by its number, over plain values.
use Prim.Native.Nat.{ℕ, ◌≤◌, ◌<◌}
use mathlib.Core.Path.{◌≡◌, refl, sym, ap, ◌∙◌}
use mathlib.Core.Bool.{Bool, true, false, cond}
use mathlib.Core.List.{List}
use borrow.Author.Tests.{lt-ltb, le-ltb, ltb-true}
use lib.Dec.{ltb}
use lib.ListN.{get_or}
use lib.Seq.{get_or-take}
use Rattle.std.specs.Prelude.{Ok, Err}
use Rattle.refusal.specs.declared.Fault.TheVariants.{Number}
use Rattle.refusal.specs.declared.Refusal.{Refusal}
use Rattle.refusal.specs.Numbers.{refused}
use Rattle.sheet_field.specs.Field.{Place}
use Rattle.sheet_node.specs.Node.{node_at, node_of}
use Rattle.sheet_node.specs.Promises.{ReadNode}
use Rattle.sheet.specs.declared.Sheet.{Sheet}
use Rattle.sheet.specs.Index.{InFront}
use Rattle.sheet.specs.Sheet.{Reading, sheet_at, reading_of, no_node, node_numbered, node_place}
use Rattle.sheet.proofs.ByNumber.{nth-node-read, nth-node-is, node-places-count}
use Rattle.sheet.specs.Promises.{found_on}

-- the node of that number is looked for
module _ (s : List ℕ) (number : ℕ) where
  pub found_refused : {r : Refusal} → reading_of s ≡ Err r → Err r ≡ found_on (reading_of s) s number
  found_refused is = rw is

  pub found_missing : {sheet : Sheet} → reading_of s ≡ Ok sheet → sheet.nodes.count ≤ number → Err (refused Number 0) ≡ found_on (reading_of s) s number
  found_missing is out = rw (is, le-ltb _ _ out)

  pub found_at : {sheet : Sheet} {nodes : List ℕ} → reading_of s ≡ Ok sheet → number < sheet.nodes.count
      → InFront sheet.nodes.count nodes (sheet_at s).nodes.places → Ok (get_or nodes number 0) ≡ found_on (reading_of s) s number
  found_at {sheet} {nodes} is there front =
      rw (is, lt-ltb _ _ there, ← front.are) (ap (λ (x : ℕ). Ok x) (sym (get_or-take sheet.nodes.count nodes number 0 there)))

-- there is a node of that number
record There (s : List ℕ) (number : ℕ) : Type 0 where
  pub sheet : Sheet
  pub read : reading_of s ≡ Ok sheet
  pub below : number < sheet.nodes.count

-- a node that was found
module _ (s : List ℕ) (number : ℕ) {p : Place} (found : p ≡ found_on (reading_of s) s number) {at : ℕ} (is : p ≡ Ok at) where
  place_is : (there : There s number) → at ≡ node_place s number
  place_is there =
      let here : Ok at ≡ Ok (node_place s number) = sym is ∙ found ∙ rw (there.read, lt-ltb _ _ there.below) in
      cc here

  there-is : There s number
  there-is = by (reading_of s) refl (sym is ∙ found)
    where
      by : (r : Reading) → reading_of s ≡ r → Ok at ≡ found_on r s number → There s number
      by (Err r) read e = absurd cc
      by (Ok sheet) read e = go (ltb number sheet.nodes.count) refl e
        where
          go : (b : Bool) → ltb number sheet.nodes.count ≡ b → Ok at ≡ cond b (Ok (node_place s number)) (Err (refused Number 0)) → There s number
          go true b-is e = record { sheet = sheet; read = read; below = ltb-true _ _ b-is }
          go false b-is e = absurd cc

  -- it stands whole at that offset
  pub found-whole : ReadNode s (node_at s (Ok at))
  found-whole =
      let there = there-is in
      rw (place_is there)
      (nth-node-read s there.sheet there.read number {places = (sheet_at s).nodes.places} {r = node_at s (Ok (node_place s number))} refl
      (rw (node-places-count s there.sheet there.read) there.below) refl)

  pub found-node : node_of s (node_at s (Ok at)) ≡ node_numbered s number
  found-node =
      let there = there-is in
      rw (place_is there)
      (nth-node-is s there.sheet there.read number {places = (sheet_at s).nodes.places} {r = node_at s (Ok (node_place s number))} refl
      (rw (node-places-count s there.sheet there.read) there.below) refl no_node)

-- an answer by what was found
unfoldable pub by_place : {A : Type 0} → (ℕ → A) → (Refusal → A) → Place → A
by_place f refusal (Ok at) = f at
by_place f refusal (Err r) = refusal r

-- on an accepted sheet
pub found-on : {A : Type 0} (f : ℕ → A) (refusal : Refusal → A) (s : List ℕ) (number : ℕ) (sheet : Sheet)
    → by_place f refusal (found_on (Ok sheet) s number) ≡ cond (ltb number sheet.nodes.count) (f (node_place s number)) (refusal (refused Number 0))
unfolding by_place
found-on f refusal s number sheet = go (ltb number sheet.nodes.count)
  where
    go : (b : Bool) → by_place f refusal (cond b (Ok (node_place s number)) (Err (refused Number 0))) ≡ cond b (f (node_place s number)) (refusal (refused Number 0))
    go true = refl
    go false = refl
