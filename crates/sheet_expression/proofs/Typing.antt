-- The check of an expression: the types of the trees that are complete so far stand on a stack. Assumes nothing.
use Prim.Native.Nat.{ℕ, ◌+◌, ◌-◌, ◌≤◌, ◌<◌}
use mathlib.Core.Path.{◌≡◌, refl, sym, ap, subst, ◌∙◌}
use mathlib.Core.List.{List, [], ◌∷◌}
use mathlib.Core.Bool.{true}
use native.Mathlib.Omega.{arith}
use lib.ListN.{length, get_or, set, replicate, length-set}
use Rattle.std.specs.Prelude.{Ok, Err}
use Rattle.refusal.specs.declared.Fault.TheVariants.{Code, Tree, Constant}
use Rattle.refusal.specs.declared.Refusal.{Refusal}
use Rattle.sheet_field.specs.declared.Reader.{Reader}
use Rattle.sheet_field.specs.Field.{Place, field_at, start_of, code_at, count_at}
use Rattle.sheet_field.specs.Reads.{Reads}
use Rattle.sheet_field.proofs.Fields.{judge-at, check-at, code-at, count_most}
use Rattle.sheet_field.proofs.Counted.{stays}
use Rattle.expr.specs.Tree.{parse, tree_of, arity_of, push}
use Rattle.expr.specs.Types.{record_type, type_of}
use Rattle.expr.proofs.Laws.{kind-of, argument-of, parse-snoc, wf-parse}
use Rattle.expr.proofs.Stack.{Held, held-push}
use Rattle.sheet_expression.specs.declared.CheckedRecord.{CheckedRecord}
use Rattle.sheet_expression.specs.declared.stack.Stack.{Stack}
use Rattle.sheet_expression.specs.Expression.{RecordReading, has_argument, argument_ok, argument_at, constant_at, record_at, Taken, taken_more, taken_from, expression_at}
use Rattle.sheet_expression.specs.Promises.{Tagged, checked_record}
use Rattle.sheet_expression.proofs.Lists.{taken-depth, taken_next, taken-keep}
use Rattle.sheet_expression.proofs.Accepted.{constant-at, argument-at, Recorded, record-at, Grown, grown, one-tree}

argument-ok : (variables kind : ℕ) (s : List ℕ) (p : Place) {a : ℕ} → (argument_at variables kind s p).next ≡ Ok a → has_argument kind ≡ true
    → argument_ok variables kind (argument_at variables kind s p).value ≡ true
unfolding argument_at
argument-ok variables kind s p e has =
    let c = check-at _ Code (start_of p) (field_at 1 s p) (rw has at e) in
    rw (has, c.2) c.0

-- a record that was read whole has its kind and its argument in their tables
pub record-tagged : (variables depth left : ℕ) (s : List ℕ) (p : Place) {a : ℕ} → (record_at variables depth left s p).next ≡ Ok a
    → Tagged variables (record_at variables depth left s p).tag
unfolding record_at
record-tagged variables depth left s p e =
    let kind = code_at 9 s p in
    let argument = argument_at variables kind.value s kind.next in
    let value = constant_at kind.value s argument.next in
    let fits = judge-at _ Constant (start_of argument.next) _ e in
    let last = judge-at _ Tree (start_of value.next) _ fits.1 in
    let whole = judge-at _ Tree (start_of p) value.next last.1 in
    let behind = constant-at kind.value s argument.next whole.1 in
    let code = code-at 9 s p (argument-at variables kind.value s kind.next behind.1).1 in
    let small : kind.value < 16 = omega (arith, code.below) in
    record {
      kind = rw (kind-of kind.value argument.value small) (omega (arith, code.below));
      argument = rw (kind-of kind.value argument.value small, argument-of kind.value argument.value small)
          (argument-ok variables kind.value s kind.next behind.1);
    }

-- what the check has after some records: their trees' types on the stack
pub record Typing (types : List ℕ) (t : Taken) (stack : Stack) : Type 0 where
  pub held : Held types stack.types (parse [] t.words)
  pub height : stack.depth ≡ t.depth
  pub room : length stack.types ≡ 130

-- before the first record
pub typing-none : (types s : List ℕ) (p : Place) (total : ℕ) (stack : Stack) → stack.types ≡ replicate 130 0 → stack.depth ≡ 0
    → Typing types (taken_from (length types) total s p 0) stack
unfolding taken_from Held parse
typing-none types s p total stack empty none = record { held = tt; height = none; room = rw empty }

-- The first k records of an expression that starts at an offset.
abbrev pub up_to : List ℕ → List ℕ → ℕ → ℕ → Taken
up_to types s from k = let n = count_at 1 128 s (Ok from) in taken_from (length types) n.value s n.next k

-- What the check keeps: where the reader has come to in the bytes that it began with, and the types.
pub record Checking (types : List ℕ) (first now : Reader) (k : ℕ) (stack : Stack) : Type 0 where
  pub same : now.bytes.now ≡ first.bytes.now
  pub place : Ok now.at ≡ (up_to types first.bytes.now first.at k).next
  pub typing : Typing types (up_to types first.bytes.now first.at k) stack

module _ (types : List ℕ) (first : Reader) where
  -- reading is refused at the count, or after some records
  ends : (j : ℕ) {r : Refusal} → j ≤ (count_at 1 128 first.bytes.now (Ok first.at)).value → (up_to types first.bytes.now first.at j).next ≡ Err r
      → Err r ≡ (expression_at (length types) first.bytes.now (Ok first.at)).next
  unfolding expression_at
  ends j {r} within e =
      let n = count_at 1 128 first.bytes.now (Ok first.at) in
      sym (stays (λ i. (up_to types first.bytes.now first.at i).next) (taken-keep (length types) n.value first.bytes.now n.next) n.value j r e within)

  pub count-refused : {now : Reader} {r : Refusal} → Reads {A = ℕ} first now (Err r) (count_at 1 128 first.bytes.now (Ok first.at)).next
      → Reads {A = ℕ} first now (Err r) (expression_at (length types) first.bytes.now (Ok first.at)).next
  unfolding taken_from
  count-refused e = record { same = e.same; place = ends 0 (omega arith) (sym e.place) }

  pub count-few : {n : ℕ} → n ≡ (count_at 1 128 first.bytes.now (Ok first.at)).value → n ≤ 128
  count-few n-is = rw n-is (count_most 1 128 first.bytes.now (Ok first.at))

  pub checking-none : {now : Reader} {n : ℕ} {stack : Stack} → Reads first now (Ok n) (count_at 1 128 first.bytes.now (Ok first.at)).next
      → stack.types ≡ replicate 130 0 → stack.depth ≡ 0 → Checking types first now 0 stack
  unfolding taken_from
  checking-none {stack = stack} counted empty none =
      let n = count_at 1 128 first.bytes.now (Ok first.at) in
      record { same = counted.same; place = counted.place; typing = typing-none types first.bytes.now n.next n.value stack empty none }

  -- one record more
  module _ {n k depth : ℕ} {now : Reader} {stack : Stack} (n-is : n ≡ (count_at 1 128 first.bytes.now (Ok first.at)).value)
      (here : Checking types first now k stack) (depth-is : depth ≡ stack.depth) where
    abbrev total : ℕ
    total = (count_at 1 128 first.bytes.now (Ok first.at)).value

    abbrev before : Taken
    before = up_to types first.bytes.now first.at k

    read : RecordReading
    read = record_at (length types) before.depth (total - k - 1) first.bytes.now before.next

    this : record_at (length types) depth (n - k - 1) now.bytes.now (Ok now.at) ≡ read
    unfolding read
    this = rw (n-is, depth-is, here.typing.height, here.same, here.place)

    after : up_to types first.bytes.now first.at (k + 1) ≡ taken_more (length types) (total - k - 1) first.bytes.now before
    after = taken_next (length types) total first.bytes.now (count_at 1 128 first.bytes.now (Ok first.at)).next k

    after-next : (up_to types first.bytes.now first.at (k + 1)).next ≡ read.next
    unfolding read taken_more
    after-next = rw after

    pub record-refused : {next : Reader} {r : Refusal} → Reads {A = CheckedRecord} now next (Err r) (record_at (length types) depth (n - k - 1) now.bytes.now (Ok now.at)).next
        → k < n → Reads {A = ℕ} first next (Err r) (expression_at (length types) first.bytes.now (Ok first.at)).next
    record-refused {r = r} e less =
        let gone : Err r ≡ read.next = rw this at e.place in
        record { same = e.same ∙ here.same; place = ends (k + 1) (omega (arith, n-is)) (after-next ∙ sym gone) }

    module _ {next : Reader} {one : CheckedRecord} (taken : Reads now next (Ok one) (record_at (length types) depth (n - k - 1) now.bytes.now (Ok now.at)).next)
        (is : one ≡ checked_record (record_at (length types) depth (n - k - 1) now.bytes.now (Ok now.at))) where
      on : read.next ≡ Ok next.at
      on = sym (rw this at taken.place)

      one-is : one ≡ checked_record read
      one-is = rw this at is

      tag-is : one.tag ≡ read.tag
      tag-is = ap (λ (x : CheckedRecord). x.tag) one-is

      deep-is : one.depth ≡ read.depth
      deep-is = ap (λ (x : CheckedRecord). x.depth) one-is

      pub tagged : Tagged (length types) one.tag
      unfolding read
      tagged = rw tag-is (record-tagged (length types) before.depth (total - k - 1) first.bytes.now before.next on)

      module _ (few : k < 128) where
        grown-before : Grown before
        grown-before = grown (length types) total first.bytes.now (count_at 1 128 first.bytes.now (Ok first.at)).next k (sym here.place)

        depth-before : before.depth ≤ k
        depth-before = taken-depth (length types) total first.bytes.now (count_at 1 128 first.bytes.now (Ok first.at)).next k

        recorded : Recorded (length types) before.depth (total - k - 1) first.bytes.now before.next
        unfolding read
        recorded = record-at (length types) before.depth (total - k - 1) first.bytes.now before.next on

        kids : arity_of one.tag ≤ before.depth
        unfolding read
        kids = rw tag-is recorded.kids

        deep : one.depth ≡ before.depth - arity_of one.tag + 1
        unfolding read
        deep = deep-is ∙ rw tag-is recorded.after

        pub depth_small : one.depth ≤ 128
        depth_small = omega (arith, kids, deep, depth-before)

        parsed : parse [] (up_to types first.bytes.now first.at (k + 1)).words ≡ push one.tag read.value (parse [] before.words)
        unfolding taken_more read
        parsed = rw (after, tag-is) (parse-snoc before.words read.tag read.value grown-before.trees)

        after-depth : one.depth ≡ (up_to types first.bytes.now first.at (k + 1)).depth
        unfolding taken_more read
        after-depth = deep-is ∙ rw after

        pub checking-more : {v : ℕ} {put : Stack} → v ≡ record_type types one.tag (get_or stack.types stack.depth 0) (get_or stack.types (stack.depth + 1) 0)
            → put.types ≡ set stack.types (one.depth + 1) v → put.depth ≡ one.depth → Checking types first next (k + 1) put
        checking-more {v} {put} v-is stored height-is =
            let typing = here.typing in
            let n : ℕ = arity_of one.tag in
            let top : ℕ = stack.depth + 2 in
            let st = parse [] before.words in
            let index : one.depth + 1 ≡ top - n = omega (arith, kids, deep, typing.height) in
            let second : top - 2 ≡ stack.depth = omega arith in
            let last : top - 1 ≡ stack.depth + 1 = omega arith in
            let inside : top - n < length stack.types = omega (arith, typing.height, typing.room, depth-before) in
            record {
              same = taken.same ∙ here.same;
              place = sym (after-next ∙ on);
              typing = record {
                held = rw (stored, parsed, index)
                    (held-push types stack.types st top one.tag read.value tagged.kind (omega (arith, kids, grown-before.count)) (omega (arith, typing.height, grown-before.count)) n v refl
                    (rw (second, last) v-is) inside typing.held);
                height = height-is ∙ after-depth;
                room = rw stored (length-set stack.types (one.depth + 1) v) ∙ typing.room;
              };
            }

  -- or it goes on after all of them
  module _ {n k : ℕ} {now : Reader} {stack : Stack} (n-is : n ≡ (count_at 1 128 first.bytes.now (Ok first.at)).value) (here : Checking types first now k stack) (all : k ≡ n) where
    whole : up_to types first.bytes.now first.at k ≡ expression_at (length types) first.bytes.now (Ok first.at)
    unfolding expression_at
    whole = rw (all, n-is)

    pub expression-next : {t : ℕ} → Reads first now (Ok t) (expression_at (length types) first.bytes.now (Ok first.at)).next
    expression-next = record { same = here.same; place = rw whole at here.place }

    pub expression-type : get_or stack.types 2 0 ≡ type_of types (tree_of (expression_at (length types) first.bytes.now (Ok first.at)).words)
    unfolding Held
    expression-type =
        let read = expression_at (length types) first.bytes.now (Ok first.at) in
        let last : Typing types read stack = rw whole at here.typing in
        let one = one-tree (length types) first.bytes.now (Ok first.at) {a = now.at} (sym (rw whole at here.place)) in
        let h : Held types stack.types (tree_of read.words ∷ []) = subst (Held types stack.types) (wf-parse read.words one.tree) last.held in
        h.0
