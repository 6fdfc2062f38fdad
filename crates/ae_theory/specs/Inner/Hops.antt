-- Paths of equations from one name to another, and the lines that they give.
use Rattle.std.specs.Prelude.{ℕ, ◌<◌, ◌-◌, true, false, Bool, cond, List, [], ◌∷◌, ◌++◌, ◌≡◌, length, slice_get, slice_index_or, Some}
use Rattle.std.specs.List.{AllByRecursion, Contains}
use Rattle.ae_core.specs.Sorts.{sort_of}
use Rattle.ae_rules.specs.Built.{IsBuiltEquation}
use Rattle.ae_rules.specs.Lines.{AllAllowed, Given, Stated, equal, fact_ok}
use Rattle.ae_core.specs.declared.terms.Sort.{Sort}
use Rattle.ae_core.specs.declared.terms.Term.{Term}
use Rattle.ae_core.specs.declared.formulas.Formula.{Eq, False}
use Rattle.ae_core.specs.declared.formulas.Lit.{Lit}
use Rattle.ae_core.specs.declared.problems.Signature.{Signature}
use Rattle.ae_core.specs.declared.proofs.EqLine.{EqLine}
use Rattle.ae_theory.specs.declared.nodes.Node.{Node}
use Rattle.ae_theory.specs.declared.nodes.Edge.TheVariants.{Same, Other}
use Rattle.ae_theory.specs.declared.chains.Hop.{Hop}

-- the node of a hop is an equation of the list, from m to k
pub record IsHop (nodes xs : List Node) (h : Hop) (m k : ℕ) : Type 0 where
  pub node : Node
  pub left : ℕ
  pub right : ℕ
  pub at : slice_get nodes h.node ≡ Some node
  pub stands : Contains xs node
  pub edge : node.edge ≡ Same left right
  pub start : m ≡ cond h.turned right left
  pub end : k ≡ cond h.turned left right

-- the hops lead from m to n
abbrev pub IsPath : List Node → List Node → ℕ → ℕ → List Hop → Type 0
IsPath nodes xs m n [] = m ≡ n
IsPath nodes xs m n (h ∷ hs) = (k : ℕ) × IsHop nodes xs h m k × IsPath nodes xs k n hs

-- hops were added that lead from m to n
pub record AddsPath (nodes xs : List Node) (m n : ℕ) (old new : List Hop) : Type 0 where
  pub more : List Hop
  pub is : new ≡ old ++ more
  pub path : IsPath nodes xs m n more

-- allowed lines, equations of terms that are built of the names, the last of which equates s and t
pub record Shows (sig : Signature) (ts : List Term) (hyps : List Lit) (lines : List EqLine) (s t : Term) : Type 0 where
  pub all : AllAllowed sig (fact_ok sig) hyps [] lines
  pub some : 0 < length lines
  pub last : Stated lines (length lines - 1) (equal s t)
  pub built : AllByRecursion (IsBuiltEquation sig ts) lines

abbrev pub no_node : Node
no_node = record { lit = record { positive = false; formula = False }; tag = 0; edge = Other; from = 0; to = 0; parent = 0 }

-- the literal of a hop, and its tag
abbrev pub lit_of : List Node → Hop → Lit
lit_of nodes h = (slice_index_or nodes h.node no_node).lit

abbrev pub tag_of : List Node → Hop → ℕ
tag_of nodes h = (slice_index_or nodes h.node no_node).tag

-- the first hypotheses are the literals of the hops
abbrev pub AreHypotheses : List Node → List Hop → List Lit → Type 0
AreHypotheses nodes hops hyps = (i : ℕ) (h : Hop) → slice_get hops i ≡ Some h → slice_get hyps i ≡ Some (lit_of nodes h)

-- what adding the lines of a hop gives
abbrev pub Pushes : Lit → Bool → ℕ → Term → List EqLine → List EqLine → Type 0
Pushes lit turned hyp start old new =
    (sig : Signature) (ts : List Term) (hyps : List Lit) (sort : Sort) (s t : Term) → lit ≡ record { positive = true; formula = Eq s t } → Given hyps hyp true (Eq s t) → sort_of sig start ≡ Some sort
    → sort_of sig s ≡ Some sort → sort_of sig t ≡ Some sort → Contains ts start → Contains ts s → Contains ts t → Shows sig ts hyps old start (cond turned t s) → Shows sig ts hyps new start (cond turned s t)
