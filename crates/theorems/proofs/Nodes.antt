-- Nodes: a verdict is right of every run that has an outcome. The substituted condition speaks for every run (crate substitution),
-- and `decide` is right of every evaluation of it (crate decide); that constants are below their width goes through substitution.
use Rattle.std.specs.Prelude.{Option, Some, None, Ok, Err}
use Prim.Native.Nat.{ℕ, zero, suc, ◌<◌, ◌≤◌}
use mathlib.Core.Path.{◌≡◌, refl, sym, subst}
use mathlib.Core.Bool.{Bool, true, false, cond, ◌||◌}
use mathlib.Core.List.{List, [], ◌∷◌}
use native.Mathlib.Omega.{arith}
use lib.Dec.{eqb, ltb}
use native.Mathlib.Decide.{dec_lt}
use lib.ListN.{length, get_or-eq_default}
use Rattle.refusal.specs.Numbers.{refused as refusal}
use Rattle.refusal.specs.declared.Fault.TheVariants.{Terms, Number}
use Rattle.refusal.specs.declared.Refusal.{Refusal}
use Rattle.expr.specs.Admission.{Admitted, AdmittedAll, AdmittedNode}
use Rattle.expr.proofs.Admission.{constant-fits}
use Rattle.expr.specs.Codes.{op_equal, op_not_equal}
use Rattle.expr.specs.Tree.{Expr, flat}
use Rattle.expr.specs.Tree.Expr.{variable, constant, condition_true, condition_false, effect, load, cast, binary, ternary}
use Rattle.expr.specs.Statement.{Statement}
use Rattle.expr.specs.Statement.Statement.{assignment, other}
use Rattle.value.specs.Operators.{truth_of, operate, operators, arithmetics, shifts, comparisons}
use Rattle.expr.specs.Types.{bits, plain_type, promoted, common, constant_type, binary_type, type_of}
use Rattle.arith.specs.Numbers.{convert, number, residue, negative}
use Rattle.theorems.specs.Rows.{probe}
use Rattle.value.specs.Evaluation.{shared, ev}
use Rattle.value.specs.Run.{Choices, run_from, run}
use Rattle.substitution.specs.Substitution.{Entry, free, held, Table, nothing_held, standing, substitute, entry_reads, kept, holdable, entry_of, assigned, long, Substituted, too_long, into, substituted, with_assignments}
use Rattle.substitution.proofs.Runs.{every-run}
use Rattle.verdict.specs.declared.Verdict.{Verdict}
use Rattle.verdict.specs.declared.Verdict.TheVariants.{Always, Never, Undecided, NoBranch}
use Rattle.verdict.specs.Numbers.{verdict_numbers, answer_numbers, Answer}
use Rattle.verdict.specs.Numbers.Numbers.{decision, undecided, refused}
use Rattle.sheet_node.specs.Node.{Node}
use Rattle.decide.specs.Decide.{decide, fits}
use Rattle.parity.specs.LowBit.{Has}
use Rattle.exact.proofs.ExactValue.{Fitting}
use Rattle.parity.specs.LowBit.{AlwaysDiffer}
use Rattle.decide.proofs.Complete.{decided}
use Rattle.decide.proofs.Sound.{Meets, right}
use Rattle.verdict_node.specs.NodeVerdict.{on_substituted, node_verdict}
use Rattle.sheet.specs.declared.Sheet.{Sheet}
use Rattle.sheet.specs.Sheet.{sheet_at, reading_of, no_node, node_numbered, node_place, Reading}
use Rattle.sheet_bytes.specs.Write.{Bytes}
use Rattle.format.proofs.Admitted.{node-admitted-at}
use Rattle.answer_evaluation.specs.Evaluation.{evaluation_answer}
use Rattle.answer_evaluation.specs.Evaluation.Evaluated.{outcome}
use Rattle.answer_node.specs.Node.{on_node, node_answer}
use Rattle.theorems.specs.Runs.{Ends, node_run, SaysOf}
use Rattle.theorems.specs.Runs.Source.{node}
use Rattle.theorems.proofs.Apart.{no-decision}
use Rattle.theorems.proofs.Outcomes.{lent, answers-run, outcome-bit}

-- every held expression has its constants below their width
abbrev FittingTable : Table → Type 0
FittingTable h = (v : ℕ) (e : Expr) → h v ≡ held e → Fitting e

fitting-standing : (h : Table) → FittingTable h → (n : ℕ) (k : Entry) → h n ≡ k → Fitting (standing n k)
unfolding Fitting
fitting-standing h t n free e = tt
fitting-standing h t n (held x) e = t n x e

fitting-substitute : (h : Table) → FittingTable h → (e : Expr) → Fitting e → Fitting (substitute h e)
unfolding substitute Fitting
fitting-substitute h t (variable n) f = fitting-standing h t n (h n) refl
fitting-substitute h t (constant w x) f = f
fitting-substitute h t condition_true f = tt
fitting-substitute h t condition_false f = tt
fitting-substitute h t (effect k) f = tt
fitting-substitute h t (load k a) f = f
fitting-substitute h t (cast k a) f = fitting-substitute h t a f
fitting-substitute h t (binary o a b) f = (fitting-substitute h t a f.0, fitting-substitute h t b f.1)
fitting-substitute h t (ternary c a b) f = (fitting-substitute h t c f.0, fitting-substitute h t a f.1, fitting-substitute h t b f.2)

held_same : {a b : Expr} → held a ≡ held b → a ≡ b
held_same e = cc

not_free : {X : Type 0} {a : Expr} → free ≡ held a → X
not_free e = cc

fitting-assigned : (v : ℕ) (e : Expr) (h : Table) → FittingTable h → Fitting e → FittingTable (assigned v e h)
unfolding assigned kept
fitting-assigned v e h t f w x is = go (eqb w v) is
  where
    entry : (b : Bool) → cond b (held e) free ≡ held x → Fitting x
    entry true q = rw (sym (held_same q)) f
    entry false q = not_free q

    rest : (b : Bool) → cond b free (h w) ≡ held x → Fitting x
    rest true q = not_free q
    rest false q = t w x q

    go : (b : Bool) → cond b (entry_of v h e) (cond (eqb w v || entry_reads v (h w)) free (h w)) ≡ held x → Fitting x
    go true q = entry (holdable v h e) q
    go false q = rest (eqb w v || entry_reads v (h w)) q

-- every assigned value has its constants below their width
unfoldable pub FittingAll : List Statement → Type 0
FittingAll [] = Unit {0}
FittingAll (assignment v e ∷ rest) = Fitting e × FittingAll rest
FittingAll (other ∷ rest) = FittingAll rest

into-same : {a b : Expr} → into a ≡ into b → a ≡ b
into-same q = cc

too_long_lem : {X : Type 0} {a : Expr} → too_long ≡ into a → X
too_long_lem q = cc

fitting-result : (statements : List Statement) → FittingAll statements → (h : Table) → FittingTable h → (c result : Expr) → Fitting c
    → substituted h statements c ≡ into result → Fitting result
unfolding substituted FittingAll
fitting-result [] a h t c result f = go (long (substitute h c))
  where
    go : (b : Bool) → cond b too_long (into (substitute h c)) ≡ into result → Fitting result
    go true q = too_long_lem q
    go false q = rw (sym (into-same q)) (fitting-substitute h t c f)
fitting-result (assignment v e ∷ rest) a h t c result f =
    go (long (substitute h e)) (fitting-result rest a.1 (assigned v (substitute h e) h) (fitting-assigned v (substitute h e) h t (fitting-substitute h t e a.0)) c result f)
  where
    go : (b : Bool) → (substituted (assigned v (substitute h e) h) rest c ≡ into result → Fitting result)
        → cond b too_long (substituted (assigned v (substitute h e) h) rest c) ≡ into result → Fitting result
    go true on q = too_long_lem q
    go false on q = on q
fitting-result (other ∷ rest) a h t c result f = fitting-result rest a nothing_held (λ v e is. not_free is) c result f

-- what reading lets through has its constants below their width
admitted-fitting : (n : ℕ) (e : Expr) → Admitted n e → Fitting e
unfolding Admitted Fitting
admitted-fitting n (variable v) a = tt
admitted-fitting n (constant w x) a = constant-fits w x a
admitted-fitting n condition_true a = tt
admitted-fitting n condition_false a = tt
admitted-fitting n (effect t) a = tt
admitted-fitting n (load t e) a = admitted-fitting n e a.1
admitted-fitting n (cast t e) a = admitted-fitting n e a.1
admitted-fitting n (binary o d e) a = (admitted-fitting n d a.1, admitted-fitting n e a.2)
admitted-fitting n (ternary c d e) a = (admitted-fitting n c a.0, admitted-fitting n d a.1, admitted-fitting n e a.2)

all-fitting : (types : List ℕ) (l : List Statement) → AdmittedAll types l → FittingAll l
unfolding AdmittedAll FittingAll
all-fitting types [] a = tt
all-fitting types (assignment v e ∷ rest) a = (admitted-fitting (length types) e a.0.value.tree, all-fitting types rest a.1)
all-fitting types (other ∷ rest) a = all-fitting types rest a

-- a node that reading lets through
abbrev pub Fair : Node → Type 0
Fair n = AdmittedNode n.types n.statements n.condition

-- the run of a node has an outcome that is as the verdict says
abbrev pub AsSaid : Verdict → Option Bool → Type 0
AsSaid v t = (t ≡ None → ⊥) → Meets v t

outcome-has : (u : Option ℕ) → (truth_of u ≡ None → ⊥) → Has u
outcome-has (Some x) h = tt
outcome-has None h = h refl

given-same : {v w : Verdict} → ◌≡◌ {A = Answer} (Ok v) (Ok w) → v ≡ w
given-same q = cc

refused-given : {X : Type 0} {r : Refusal} {v : Verdict} → ◌≡◌ {A = Answer} (Err r) (Ok v) → X
refused-given q = absurd cc

-- The verdict on a node is right of every run that has an outcome.
pub node-right : (n : Node) → Fair n → (place : ℕ) (v : Verdict) → node_verdict n place ≡ Ok v → (c : Choices)
    → AsSaid v (run n.types n.statements n.condition c)
unfolding node_verdict
node-right n fair place v q c = go (with_assignments n.statements n.condition) refl q
  where
    go : (d : Substituted) → with_assignments n.statements n.condition ≡ d → on_substituted place d ≡ Ok v
        → AsSaid v (run n.types n.statements n.condition c)
    go too_long is e = refused-given e
    go (into result) is e = on (fits result) e
      where
        fit : Fitting result
        fit = fitting-result n.statements (all-fitting n.types n.statements fair.assigned) nothing_held (λ v e is. not_free is) n.condition result (admitted-fitting (length n.types) n.condition fair.decides.tree) is

        on : (b : Bool) → cond b (Ok (decide result)) (Err (refusal Terms place)) ≡ Ok v → AsSaid v (run n.types n.statements n.condition c)
        on false e = refused-given e
        on true e =
            rw (sym (given-same e))
            (every-run n.types n.condition result (AsSaid (decide result)) (λ h. absurd (h refl))
            (λ ρ σ m f h. right n.types ρ σ m f result fit (outcome-has (ev n.types ρ σ (shared m) f result) h)) c n.statements fair.assigned is)

none-fair : Fair no_node
unfolding AdmittedAll Admitted flat
none-fair = record {
  few = omega arith;
  in_table = λ v h. absurd (omega arith);
  assigned = tt;
  decides = record { short = omega arith; tree = tt };
}

-- a node of an accepted sheet; where there is none of that number, the node that stands in asks for nothing
numbered-fair : (s : List ℕ) (sheet : Sheet) → Bytes s → reading_of s ≡ Ok sheet → (number : ℕ) → Fair (node_numbered s number)
numbered-fair s sheet small read number = go (dec_lt number (length (sheet_at s).nodes.list))
  where
    go : Dec (number < length (sheet_at s).nodes.list) → Fair (node_numbered s number)
    go (yes low) = node-admitted-at s small read number no_node low
    go (no high) = rw (get_or-eq_default (sheet_at s).nodes.list no_node {n = number} (omega arith)) none-fair

numbers-meet : (v : Verdict) (value reason : ℕ) (went : Bool) → verdict_numbers v ≡ decision value reason
    → Meets v (cond went (Some true) (Some false)) → value ≡ cond went 1 0
numbers-meet (Always r) value reason true e h = cc
numbers-meet (Always r) value reason false e h = cc
numbers-meet (Never r) value reason true e h = cc
numbers-meet (Never r) value reason false e h = cc
numbers-meet Undecided value reason went e h = cc
numbers-meet NoBranch value reason went e h = cc

some-outcome : (went : Bool) (t : Option Bool) → t ≡ cond went (Some true) (Some false) → t ≡ None → ⊥
some-outcome true t is none = cc
some-outcome false t is none = cc

-- The theorem: no run of a node goes against a decision on it.
pub node-runs : (s : List ℕ) → Bytes s → (number value reason : ℕ) → node_answer s number ≡ decision value reason
    → (went : Bool) → Ends s (node number) went → value ≡ cond went 1 0
unfolding node_answer
node-runs s small number value reason e went r = go (reading_of s) refl e
  where
    given : (sheet : Sheet) → reading_of s ≡ Ok sheet → (a : Answer) → node_verdict (node_numbered s number) (node_place s number) ≡ a
        → answer_numbers a ≡ decision value reason → value ≡ cond went 1 0
    given sheet read (Ok v) is q =
        numbers-meet v value reason went q
        (subst (Meets v) r.1
        (node-right (node_numbered s number) (numbered-fair s sheet small read number) (node_place s number) v is r.0
        (some-outcome went (node_run s number r.0) r.1)))
    given sheet read (Err r) is q = no-decision q

    go : (a : Reading) → reading_of s ≡ a → answer_numbers (on_node a s number) ≡ decision value reason → value ≡ cond went 1 0
    go (Err r) q e = no-decision e
    go (Ok sheet) q e = on (ltb number sheet.nodes.count) e
      where
        on : (t : Bool) → answer_numbers (cond t (node_verdict (node_numbered s number) (node_place s number)) (Err (refusal Number 0))) ≡ decision value reason
            → value ≡ cond went 1 0
        on true e = given sheet q (node_verdict (node_numbered s number) (node_place s number)) refl e
        on false e = no-decision e

-- A node whose substituted condition is an equality that `decide` decides is not answered undecided.
pub node-decided : (s : List ℕ) (number : ℕ) (equal : Bool) (a b : Expr)
    → with_assignments (node_numbered s number).statements (node_numbered s number).condition ≡ into (binary (cond equal op_equal op_not_equal) a b)
    → AlwaysDiffer a b → node_answer s number ≡ undecided → ⊥
unfolding node_answer node_verdict
node-decided s number equal a b is differ e = go (reading_of s) e
  where
    c : Expr
    c = binary (cond equal op_equal op_not_equal) a b

    not-undecided : {k at : ℕ} → refused k at ≡ undecided → ⊥
    not-undecided e = cc

    verdict-undecided : (v : Verdict) → verdict_numbers v ≡ undecided → v ≡ Undecided
    verdict-undecided (Always r) e = cc
    verdict-undecided (Never r) e = cc
    verdict-undecided Undecided e = refl
    verdict-undecided NoBranch e = cc

    on : (t : Bool) → answer_numbers (cond t (Ok (decide c)) (Err (refusal Terms (node_place s number)))) ≡ undecided → ⊥
    on true e = decided equal a b differ (verdict-undecided (decide c) e)
    on false e = not-undecided e

    there : (t : Bool) → answer_numbers (cond t (node_verdict (node_numbered s number) (node_place s number)) (Err (refusal Number 0))) ≡ undecided → ⊥
    there true e = on (fits c) (rw is at e)
    there false e = not-undecided e

    go : (r : Reading) → answer_numbers (on_node r s number) ≡ undecided → ⊥
    go (Err r) e = not-undecided e
    go (Ok sheet) e = there (ltb number sheet.nodes.count) e

-- No evaluation of a node contradicts its verdict: it is a run of the node.
pub evaluation-agrees : (s : List ℕ) → Bytes s → (number : ℕ) (values : List ℕ) (got value reason : ℕ)
    → evaluation_answer s number values ≡ outcome got → node_answer s number ≡ decision value reason → got ≡ value
evaluation-agrees s small number values got value reason e q =
    let says : SaysOf (outcome got) (node_run s number (lent values)) = rw e at (answers-run s number values (lent values) (λ v h. refl)) in
    go got (outcome-bit s number values got e) says
  where
    go : (got : ℕ) → got ≤ 1 → SaysOf (outcome got) (node_run s number (lent values)) → got ≡ value
    go zero bit says = sym (node-runs s small number value reason q false (lent values, says))
    go (suc k) bit says = omega (arith, bit, node-runs s small number value reason q true (lent values, says))

-- The probe table: a slot that is moved by an odd step and then copied. The two are equal afterwards, as this run shows, so no verdict may say that they never are.
pub probe-run : (c : Choices) × (run probe.types probe.statements probe.condition c ≡ Some true)
unfolding run_from ev type_of operate operators arithmetics shifts comparisons promoted common constant_type binary_type bits plain_type convert number residue negative
probe-run = (lent [], refl)
