-- Laws of the check of a node: where it may end, and that it ends where reading the node ends.
use Prim.Native.Nat.{ℕ, zero, suc, ◌+◌, ◌-◌, ◌≤◌, ◌<◌}
use mathlib.Core.Path.{◌≡◌, refl, sym, ap, ◌∙◌}
use mathlib.Core.List.{List}
use mathlib.Core.Bool.{Bool, true, false}
use native.Mathlib.Omega.{arith}
use lib.ListN.{length, get_or, take, drop, length-take}
use lib.Seq.{get_or-take, get_or-drop}
use borrow.Author.Tests.{eq-eqb, ne_eqb}
use Rattle.std.specs.Prelude.{Result, Ok, Err}
use Rattle.refusal.specs.declared.Fault.{Fault}
use Rattle.refusal.specs.declared.Fault.TheVariants.{Code, Count, Typing}
use Rattle.refusal.specs.declared.Refusal.{Refusal}
use Rattle.refusal.specs.Numbers.{refused}
use Rattle.sheet_field.specs.declared.Reader.{Reader}
use Rattle.sheet_field.specs.Field.{Place, FieldReading, field_at, start_of, judge, check_field, code_at, count_at, words_from}
use Rattle.sheet_field.specs.Reads.{Reads}
use Rattle.sheet_field.proofs.Fields.{little-one, field-whole, field-taken, code-at, count_at_lem, count_most}
use Rattle.sheet_field.proofs.Counted.{back, stays}
use Rattle.expr.specs.Tree.{tree_of}
use Rattle.expr.specs.Types.{same_type, type_of}
use Rattle.expr.specs.Admission.{InTable}
use Rattle.sheet_expression.specs.declared.Types.{Types}
use Rattle.sheet_expression.specs.Expression.{taken_from, expression_at}
use Rattle.sheet_node.specs.Node.{map_at, assignment_at, statement_at, statements_from, types_from, addresses_from, node_at}
use Rattle.sheet_node.specs.Promises.{types_end, node_types, addresses_end}
use Rattle.sheet_node.proofs.Nodes.{types_more, types-keep, types-end, statements-more, statements-keep}

-- a field that its check refuses has the value 0
check-refused : (ok : Bool) (fault : Fault) (at : ℕ) (f : FieldReading) {r : Refusal} → Err r ≡ (check_field ok fault at f).next
    → check_field ok fault at f ≡ record { value = 0; next = Err r }
unfolding check_field
check-refused ok fault at f e = rw (← e)

count-refused : (least most : ℕ) (s : List ℕ) (p : Place) {r : Refusal} → Err r ≡ (count_at least most s p).next
    → count_at least most s p ≡ record { value = 0; next = Err r }
unfolding count_at
count-refused least most s p e = check-refused _ Count (start_of p) (field_at 2 s p) e

code-refused : (limit : ℕ) (s : List ℕ) (p : Place) {r : Refusal} → Err r ≡ (code_at limit s p).next
    → code_at limit s p ≡ record { value = 0; next = Err r }
unfolding code_at
code-refused limit s p e = check-refused _ Code (start_of p) (field_at 1 s p) e

map-refused : (s : List ℕ) (p : Place) {r : Refusal} → Err r ≡ (map_at s p).next → map_at s p ≡ record { value = 0; next = Err r }
unfolding map_at
map-refused s p e = check-refused _ Code (start_of p) (field_at 1 s p) e

-- a count and an expression leave a refusal as it is
count-keep : (least most : ℕ) (s : List ℕ) (r : Refusal) → count_at least most s (Err r) ≡ record { value = 0; next = Err r }
unfolding count_at check_field field_at
count-keep least most s r = refl

expression-keep : (variables : ℕ) (s : List ℕ) (r : Refusal) → (expression_at variables s (Err r)).next ≡ Err r
unfolding expression_at taken_from count_at check_field field_at
expression-keep variables s r = refl

-- a statement, stage by stage
module _ (types : List ℕ) (first : Reader) where
  abbrev pub Statement : {A : Type 0} → Reader → Result A Refusal → Type 0
  Statement now result = Reads first now result (statement_at types first.bytes.now (Ok first.at)).next

  pub map-ends : {A : Type 0} {now : Reader} {r : Refusal} → Reads {A = ℕ} first now (Err r) (map_at first.bytes.now (Ok first.at)).next → Statement {A = A} now (Err r)
  unfolding statement_at
  map-ends e = record { same = e.same; place = rw (map-refused first.bytes.now (Ok first.at) e.place) refl }

  module _ {one : Reader} {map : ℕ} (map-next : Reads first one (Ok map) (map_at first.bytes.now (Ok first.at)).next)
      (map-value : map ≡ (map_at first.bytes.now (Ok first.at)).value) where
    map-read : map_at first.bytes.now (Ok first.at) ≡ record { value = map; next = Ok one.at }
    map-read = field-taken _ map-next.place map-value

    pub other-ends : {A : Type 0} {x : A} → (map ≡ 3 → ⊥) → Statement one (Ok x)
    unfolding statement_at
    other-ends other = record { same = map-next.same; place = rw (map-read, ne_eqb map 3 other) refl }

    module _ (three : map ≡ 3) where
      assigned-is : (statement_at types first.bytes.now (Ok first.at)).next ≡ (assignment_at types first.at first.bytes.now (Ok one.at)).next
      unfolding statement_at
      assigned-is = rw (map-read, eq-eqb map 3 three)

      pub variable-ends : {A : Type 0} {now : Reader} {r : Refusal} → Reads {A = ℕ} one now (Err r) (code_at (length types) one.bytes.now (Ok one.at)).next → Statement {A = A} now (Err r)
      unfolding assignment_at
      variable-ends {r = r} e =
          let place : Err r ≡ (code_at (length types) first.bytes.now (Ok one.at)).next = rw map-next.same at e.place in
          record {
            same = e.same ∙ map-next.same;
            place = rw (assigned-is, code-refused (length types) first.bytes.now (Ok one.at) place, expression-keep (length types) first.bytes.now r) refl;
          }

      module _ {two : Reader} {v : ℕ} (v-next : Reads one two (Ok v) (code_at (length types) one.bytes.now (Ok one.at)).next)
          (v-value : v ≡ (code_at (length types) one.bytes.now (Ok one.at)).value) where
        v-read : code_at (length types) first.bytes.now (Ok one.at) ≡ record { value = v; next = Ok two.at }
        v-read = rw map-next.same at (field-taken _ v-next.place v-value)

        -- a variable whose number was read is declared
        pub value-declared : v < length types
        value-declared = rw v-read at (code-at (length types) first.bytes.now (Ok one.at) {a = two.at} (rw v-read refl)).below

        same-two : two.bytes.now ≡ first.bytes.now
        same-two = v-next.same ∙ map-next.same

        pub value-ends : {A : Type 0} {now : Reader} {r : Refusal} → Reads {A = ℕ} two now (Err r) (expression_at (length types) two.bytes.now (Ok two.at)).next → Statement {A = A} now (Err r)
        unfolding assignment_at
        value-ends {r = r} e =
            let place : Err r ≡ (expression_at (length types) first.bytes.now (Ok two.at)).next = rw same-two at e.place in
            record { same = e.same ∙ same-two; place = rw (assigned-is, v-read, ← place) refl }

        module _ {last : Reader} {t : ℕ} (e-next : Reads two last (Ok t) (expression_at (length types) two.bytes.now (Ok two.at)).next)
            (e-type : t ≡ type_of types (tree_of (expression_at (length types) two.bytes.now (Ok two.at)).words)) where
          typed-is : (statement_at types first.bytes.now (Ok first.at)).next ≡ judge (same_type t (get_or types v 0)) Typing first.at (Ok last.at)
          unfolding assignment_at
          typed-is =
              let place : Ok last.at ≡ (expression_at (length types) first.bytes.now (Ok two.at)).next = rw same-two at e-next.place in
              let typing = rw same-two at e-type in
              rw (assigned-is, v-read, ← place, ← typing)

          same-last : last.bytes.now ≡ first.bytes.now
          same-last = e-next.same ∙ same-two

          pub types-differ : {A : Type 0} {same : Bool} → same ≡ same_type t (get_or types v 0) → same ≡ false → Statement {A = A} last (Err (refused Typing first.at))
          types-differ is differ = record { same = same-last; place = rw (typed-is, ← is, differ) refl }

          pub types_same : {A : Type 0} {same : Bool} {x : A} → same ≡ same_type t (get_or types v 0) → same ≡ true → Statement last (Ok x)
          types_same is alike = record { same = same-last; place = rw (typed-is, ← is, alike) refl }

-- one statement more, and where it is refused
module _ (types : List ℕ) (first : Reader) {A : Type 0} {x : A} (k : ℕ) {now : Reader}
    (here : Reads first now (Ok x) (statements_from types first.bytes.now (Ok first.at) k).next) where
  then-statement : (statement_at types now.bytes.now (Ok now.at)).next ≡ (statements_from types first.bytes.now (Ok first.at) (k + 1)).next
  then-statement = rw (here.same, here.place) (statements-more types first.bytes.now (Ok first.at) k)

  pub statement-read : {B : Type 0} {y : B} {next : Reader} → Reads now next (Ok y) (statement_at types now.bytes.now (Ok now.at)).next
      → Reads first next (Ok x) (statements_from types first.bytes.now (Ok first.at) (k + 1)).next
  statement-read e = record { same = e.same ∙ here.same; place = e.place ∙ then-statement }

  pub statement-refused : {B C : Type 0} {next : Reader} {n : ℕ} {r : Refusal} → Reads {A = B} now next (Err r) (statement_at types now.bytes.now (Ok now.at)).next → k < n
      → Reads {A = C} first next (Err r) (statements_from types first.bytes.now (Ok first.at) n).next
  statement-refused {n = n} {r = r} e less =
      let gone : (statements_from types first.bytes.now (Ok first.at) (k + 1)).next ≡ Err r = sym (e.place ∙ then-statement) in
      record {
        same = e.same ∙ here.same;
        place = sym (stays (λ j. (statements_from types first.bytes.now (Ok first.at) j).next) (statements-keep types first.bytes.now (Ok first.at)) n (k + 1) r gone (omega arith));
      }

-- the types that were read are in their table
types-small : (s : List ℕ) (x n j : ℕ) {e : ℕ} → x ≤ length s → types_from s (Ok x) n ≡ Ok e → j < n → get_or s (x + j) 0 < 10
unfolding types_from
types-small s x n j inside on below =
    let next = back (λ i. types_from s (Ok x) i) (types-keep s (Ok x)) n (suc j) on below in
    let code = code-at 10 s (types_from s (Ok x) j) next.1 in
    let w = code.whole in
    let here = types-end s (Ok x) j w.from (λ b q. let z : b ≡ x = cc in omega arith) w.there in
    let byte : (code_at 10 s (types_from s (Ok x) j)).value ≡ get_or s (x + j) 0 =
    ap (λ (f : FieldReading). f.value) (code.is ∙ sym (field-whole 1 s w.there w.inside (sym (little-one s w.from)) refl)) ∙ rw here.0 in
    rw byte at code.below

pub types-table : (s : List ℕ) (x n : ℕ) {e : ℕ} → x ≤ length s → types_from s (Ok x) n ≡ Ok e → InTable (take n (drop x s))
types-table s x n inside on v below =
    let l : v < n = omega (arith, below, length-take n (drop x s)) in
    rw (get_or-take, get_or-drop) (types-small s x n v inside on l)

-- the types of a node, stage by stage
module _ (first : Reader) where
  abbrev counted : FieldReading
  counted = count_at 0 32 first.bytes.now (Ok first.at)

  pub types-count-ends : {A : Type 0} {now : Reader} {r : Refusal} → Reads {A = ℕ} first now (Err r) counted.next → Reads {A = A} first now (Err r) (types_end first.bytes.now (Ok first.at))
  unfolding types_end types_from
  types-count-ends e = record { same = e.same; place = rw (count-refused 0 32 first.bytes.now (Ok first.at) e.place) refl }

  -- one type more, and where it is refused
  module _ {A : Type 0} {x : A} (k : ℕ) {now : Reader} (here : Reads first now (Ok x) (types_from first.bytes.now counted.next k)) where
    then-type : (code_at 10 now.bytes.now (Ok now.at)).next ≡ types_from first.bytes.now counted.next (k + 1)
    then-type = rw (here.same, here.place) (types_more first.bytes.now counted.next k)

    pub type-read : {y : ℕ} {next : Reader} → Reads now next (Ok y) (code_at 10 now.bytes.now (Ok now.at)).next → Reads first next (Ok x) (types_from first.bytes.now counted.next (k + 1))
    type-read e = record { same = e.same ∙ here.same; place = e.place ∙ then-type }

    pub type-refused : {B : Type 0} {next : Reader} {n : ℕ} {r : Refusal} → Reads {A = ℕ} now next (Err r) (code_at 10 now.bytes.now (Ok now.at)).next → n ≡ counted.value → k < n
        → Reads {A = B} first next (Err r) (types_end first.bytes.now (Ok first.at))
    unfolding types_end
    type-refused {r = r} e n-is less =
        let gone : types_from first.bytes.now counted.next (k + 1) ≡ Err r = sym (e.place ∙ then-type) in
        record {
          same = e.same ∙ here.same;
          place = sym (stays (types_from first.bytes.now counted.next) (types-keep first.bytes.now counted.next) counted.value (k + 1) r gone (omega (arith, n-is)));
        }

  -- or all were read
  module _ {one now : Reader} {n k : ℕ} (n-next : Reads first one (Ok n) counted.next) (n-is : n ≡ counted.value)
      (here : Reads first now (Ok n) (types_from first.bytes.now counted.next k)) (all : k ≡ n) where
    end_is : types_from first.bytes.now (Ok one.at) n ≡ Ok now.at
    end_is = sym (rw (all, ← n-next.place) at here.place)

    from-inside : one.at ≤ length first.bytes.now
    from-inside =
        let w = (count_at_lem 0 32 first.bytes.now (Ok first.at) (sym n-next.place)).whole in
        omega (arith, w.after, w.inside)

    -- the types stand up to there, and are in their table
    pub types-inside : one.at + n ≤ length now.bytes.now
    types-inside =
        let r = types-end first.bytes.now (Ok one.at) n now.at (λ c q. let z : c ≡ one.at = cc in rw z from-inside) end_is in
        rw here.same (omega (arith, r.0, r.1))

    part-is : take (one.at + n - one.at) (drop one.at now.bytes.now) ≡ take n (drop one.at first.bytes.now)
    part-is = let e : one.at + n - one.at ≡ n = omega arith in rw (e, here.same)

    pub part-few : length (take (one.at + n - one.at) (drop one.at now.bytes.now)) ≤ 32
    part-few =
        let few : n ≤ 32 = rw n-is (count_most 0 32 first.bytes.now (Ok first.at)) in
        rw (part-is, length-take) (omega arith)

    pub part-table : InTable (take (one.at + n - one.at) (drop one.at now.bytes.now))
    part-table = rw part-is (types-table first.bytes.now one.at n from-inside end_is)

    pub types-next : {A : Type 0} {x : A} → Reads first now (Ok x) (types_end first.bytes.now (Ok first.at))
    unfolding types_end
    types-next = record { same = here.same; place = rw (← n-is, ← all) here.place }

    pub types-are : take (one.at + n - one.at) (drop one.at now.bytes.now) ≡ node_types first.bytes.now (Ok first.at)
    unfolding node_types
    types-are = part-is ∙ rw (← n-next.place, ← n-is, end_is)

-- addresses are numbers of 8 bytes each
pub addresses-words : (s : List ℕ) (p : Place) (n : ℕ) → (addresses_from s p n).next ≡ words_from s p n
unfolding addresses_from words_from
addresses-words s p zero = refl
addresses-words s p (suc n) = ap (λ (q : Place). (field_at 8 s q).next) (addresses-words s p n)

addresses-keep-end : (s : List ℕ) (r : Refusal) → addresses_end s (Err r) ≡ Err r
unfolding addresses_end addresses_from
addresses-keep-end s r = ap (λ (n : FieldReading). (addresses_from s n.next n.value).next) (count-keep 0 16 s r)

module _ (first : Reader) where
  pub addresses-count-ends : {A : Type 0} {now : Reader} {r : Refusal} → Reads {A = ℕ} first now (Err r) (count_at 0 16 first.bytes.now (Ok first.at)).next
      → Reads {A = A} first now (Err r) (addresses_end first.bytes.now (Ok first.at))
  unfolding addresses_end addresses_from
  addresses-count-ends e =
      let none = count-refused 0 16 first.bytes.now (Ok first.at) e.place in
      record { same = e.same; place = sym (ap (λ (n : FieldReading). (addresses_from first.bytes.now n.next n.value).next) none) }

  pub addresses-next : {one now : Reader} {n : ℕ} {A : Type 0} {result : Result A Refusal} → Reads first one (Ok n) (count_at 0 16 first.bytes.now (Ok first.at)).next
      → n ≡ (count_at 0 16 first.bytes.now (Ok first.at)).value → Reads one now result (words_from one.bytes.now (Ok one.at) n)
      → Reads first now result (addresses_end first.bytes.now (Ok first.at))
  unfolding addresses_end
  addresses-next {n = n} counted n-is taken =
      record { same = taken.same ∙ counted.same; place = taken.place ∙ rw (counted.same, counted.place, n-is) (sym (addresses-words first.bytes.now _ _)) }

-- after what stands behind a node's types
body_end : List ℕ → List ℕ → Place → Place
body_end types s p =
    let n = count_at 0 64 s p in
    addresses_end s (expression_at (length types) s (statements_from types s n.next n.value).next).next

body-keep : (types s : List ℕ) (r : Refusal) → body_end types s (Err r) ≡ Err r
unfolding body_end statements_from
body-keep types s r = rw (count-keep 0 64 s r, expression-keep (length types) s r, addresses-keep-end s r)

-- a node, stage by stage
module _ (first : Reader) where
  abbrev pub Node : {A : Type 0} → Reader → Result A Refusal → Type 0
  Node now result = Reads first now result (node_at first.bytes.now (Ok first.at)).next

  node-is : (node_at first.bytes.now (Ok first.at)).next ≡ body_end (node_types first.bytes.now (Ok first.at)) first.bytes.now (types_end first.bytes.now (Ok first.at))
  unfolding node_at body_end types_end node_types addresses_end
  node-is = refl

  pub types-stop : {now : Reader} {r : Refusal} {A : Type 0} → Reads {A = Types} first now (Err r) (types_end first.bytes.now (Ok first.at)) → Node {A = A} now (Err r)
  types-stop {r = r} e = record { same = e.same; place = sym (node-is ∙ rw (← e.place) (body-keep (node_types first.bytes.now (Ok first.at)) first.bytes.now r)) }

  module _ {one : Reader} {types : Types} (types-next : Reads first one (Ok types) (types_end first.bytes.now (Ok first.at)))
      (types-are : types.bytes.now ≡ node_types first.bytes.now (Ok first.at)) where
    after-types : (node_at first.bytes.now (Ok first.at)).next ≡ body_end types.bytes.now first.bytes.now (Ok one.at)
    after-types = rw (types-are, types-next.place) node-is

    pub statements-count-ends : {now : Reader} {r : Refusal} {A : Type 0} → Reads {A = ℕ} one now (Err r) (count_at 0 64 one.bytes.now (Ok one.at)).next → Node {A = A} now (Err r)
    unfolding body_end statements_from
    statements-count-ends {r = r} e =
        let place : Err r ≡ (count_at 0 64 first.bytes.now (Ok one.at)).next = rw types-next.same at e.place in
        record {
          same = e.same ∙ types-next.same;
          place = rw (after-types, count-refused 0 64 first.bytes.now (Ok one.at) place, expression-keep (length types.bytes.now) first.bytes.now r, addresses-keep-end first.bytes.now r) refl;
        }

    module _ {two : Reader} {n : ℕ} (n-next : Reads one two (Ok n) (count_at 0 64 one.bytes.now (Ok one.at)).next)
        (n-is : n ≡ (count_at 0 64 one.bytes.now (Ok one.at)).value) where
      same-count : two.bytes.now ≡ first.bytes.now
      same-count = n-next.same ∙ types-next.same

      after-count : (node_at first.bytes.now (Ok first.at)).next
          ≡ addresses_end first.bytes.now (expression_at (length types.bytes.now) first.bytes.now (statements_from types.bytes.now first.bytes.now (Ok two.at) n).next).next
      unfolding body_end
      after-count =
          let n-read : count_at 0 64 first.bytes.now (Ok one.at) ≡ record { value = n; next = Ok two.at } = rw types-next.same at (field-taken _ n-next.place n-is) in
          rw (after-types, n-read)

      pub statements-stop : {B : Type 0} {now : Reader} {r : Refusal} {A : Type 0} → Reads {A = B} two now (Err r) (statements_from types.bytes.now two.bytes.now (Ok two.at) n).next → Node {A = A} now (Err r)
      statements-stop {r = r} e =
          let place : Err r ≡ (statements_from types.bytes.now first.bytes.now (Ok two.at) n).next = rw same-count at e.place in
          record {
            same = e.same ∙ same-count;
            place = rw (after-count, ← place, expression-keep (length types.bytes.now) first.bytes.now r, addresses-keep-end first.bytes.now r) refl;
          }

      module _ {B : Type 0} {three : Reader} {b : B} (s-next : Reads two three (Ok b) (statements_from types.bytes.now two.bytes.now (Ok two.at) n).next) where
        same-three : three.bytes.now ≡ first.bytes.now
        same-three = s-next.same ∙ same-count

        after-statements : (node_at first.bytes.now (Ok first.at)).next ≡ addresses_end first.bytes.now (expression_at (length types.bytes.now) first.bytes.now (Ok three.at)).next
        after-statements =
            let place : Ok three.at ≡ (statements_from types.bytes.now first.bytes.now (Ok two.at) n).next = rw same-count at s-next.place in
            rw (after-count, ← place)

        pub condition-ends : {now : Reader} {r : Refusal} {A : Type 0} → Reads {A = ℕ} three now (Err r) (expression_at (length types.bytes.now) three.bytes.now (Ok three.at)).next → Node {A = A} now (Err r)
        condition-ends {r = r} e =
            let place : Err r ≡ (expression_at (length types.bytes.now) first.bytes.now (Ok three.at)).next = rw same-three at e.place in
            record { same = e.same ∙ same-three; place = rw (after-statements, ← place, addresses-keep-end first.bytes.now r) refl }

        pub node-ends : {four last : Reader} {t : ℕ} {A : Type 0} {result : Result A Refusal} → Reads three four (Ok t) (expression_at (length types.bytes.now) three.bytes.now (Ok three.at)).next
            → Reads four last result (addresses_end four.bytes.now (Ok four.at)) → Node last result
        node-ends {four = four} c-next taken =
            let place : Ok four.at ≡ (expression_at (length types.bytes.now) first.bytes.now (Ok three.at)).next = rw same-three at c-next.place in
            let same = c-next.same ∙ same-three in
            record { same = taken.same ∙ same; place = taken.place ∙ rw (same, after-statements, place) refl }
