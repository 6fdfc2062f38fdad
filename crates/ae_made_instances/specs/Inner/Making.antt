-- An instance that may be made, and what making it changes.
use Rattle.std.specs.Prelude.{ℕ, suc, ◌<◌, ◌≡◌, ◌≢◌, ◌⊎◌, Bool, true, false, List, [], ◌∷◌, length, map, slice_get, Option, Some, MatchOption}
use Rattle.std.specs.List.{AllByRecursion, Contains, list_any}
use Rattle.ae_ages.specs.Interned.{IsHad}
use Rattle.ae_ages.specs.Laws.{AreJustifiedAges}
use Rattle.ae_ages.specs.declared.entries.Aged.{Aged}
use Rattle.ae_between_rounds.specs.declared.search.Owed.{Owed}
use Rattle.ae_between_rounds.specs.declared.search.Search.{Search}
use Rattle.ae_block_constants.specs.Blocks.{opened_pairs}
use Rattle.ae_block_constants.specs.declared.opened.Opened.{Opened}
use Rattle.ae_brought_clauses.specs.Brought.{HaveBodies}
use Rattle.ae_core.specs.declared.formulas.Formula.{Formula, Formula-F, out-Formula}
use Rattle.ae_core.specs.declared.formulas.Formula.TheOpen as layer
use Rattle.ae_core.specs.declared.formulas.Lit.{Lit}
use Rattle.ae_core.specs.declared.formulas.Quant.{Quant}
use Rattle.ae_core.specs.declared.problems.Problem.{Problem}
use Rattle.ae_core.specs.declared.terms.Sort.{Sort}
use Rattle.ae_core.specs.declared.terms.Term.{Term}
use Rattle.ae_inst.specs.Matches.{is_match}
use Rattle.ae_instance_lines.specs.Stated.{IsLineOfTerms}
use Rattle.ae_instance_lines.specs.declared.lines.InstanceLine.{InstanceLine}
use Rattle.ae_journal.specs.InstanceLines.{HasGeneration, IsInstance, IsMatchAt}
use Rattle.ae_journal.specs.Standing.{Setting}
use Rattle.ae_journal.specs.States.{Owner, of_axiom, instance_literals}
use Rattle.ae_journal.specs.declared.lines.Line.{Line}
use Rattle.ae_journal.specs.declared.lines.Line.TheVariants as line
use Rattle.ae_made_instances.specs.Inner.Beside.{IsBeside, IsInBatch}
use Rattle.ae_made_instances.specs.Inner.Noting.{Came, GoesOn, IsNoted}
use Rattle.ae_open_states.specs.Shown.{trail_literals}
use Rattle.ae_owed.specs.Generations.{IsJustified}
use Rattle.ae_owed.specs.Instances.{Instance}
use Rattle.ae_owed.specs.Owed.{OwnerIsThere}
use Rattle.ae_owed.specs.Recorded.{AreOpenedIn, HasLines, IsOfInstance}
use Rattle.ae_owners.specs.Owners.{owner_of}
use Rattle.ae_owners.specs.declared.owners.Owner.{Owner as OwnerEntry}
use Rattle.ae_rules.specs.Clauses.{Clause}
use Rattle.ae_rules.specs.Instances.{hypothesis}
use Rattle.ae_searching.specs.Told.{IsToldIn}
use Rattle.ae_store.specs.Shapes.{shapes}
use Rattle.ae_store.specs.Stores.{Stored}
use Rattle.ae_store.specs.Terms.{named, terms}
use Rattle.ae_theory.specs.Names.{terms_in}
use Rattle.ae_value_table.specs.Alike.{alike}

-- a match at n, by the equations that may stand, of an owner that is there
pub record IsDue (p : Problem) (g : ℕ) (o : Search) (n : ℕ) (w : Owner) (ss : List Sort) (ts : List Term) : Type 0 where
  pub there : OwnerIsThere (trail_literals o.solver.propagation.trail) w
  pub names : AllByRecursion (Contains (terms_in o.store)) ts
  pub matched : (x : Setting) → IsToldIn p g o.store o.blocks.opened x → IsMatchAt x o.journal.lines (HasGeneration x o.journal.lines n) w ss ts

-- so is what is owed
pub record IsDueOwed (p : Problem) (g : ℕ) (o : Search) (n : ℕ) (w : Owed) : Type 0 where
  pub owner : OwnerEntry
  pub at : slice_get o.owners w.owner ≡ Some owner
  pub within : AllByRecursion (λ v. v < length o.store.nodes) w.subst.terms
  pub due : IsDue p g o n (owner_of owner) w.subst.sorts (map (named (terms (shapes o.store.nodes))) w.subst.terms)

-- where the formula of an axiom is an `all` block, the line of its body was noted, else nothing changed
pub data IsBodyNoted (p : Problem) (g n k : ℕ) (ss : List Sort) (ts : List Term) (o o2 : Search) : Type 0 where
  plain : (f : Formula) → hypothesis p g k ss ≡ Some f → ((q : Quant) → out-Formula f ≢ layer.All q) → o2 ≡ o → IsBodyNoted p g n k ss ts o o2
  block : (f : Formula) (q : Quant) (l : InstanceLine) → hypothesis p g k ss ≡ Some f → out-Formula f ≡ layer.All q → IsLineOfTerms p g f ts l → IsNoted p g n l o o2 → IsBodyNoted p g n k ss ts o o2

-- the layer is that of a block for all values
abbrev pub is_all_layer : Formula-F Formula Quant → Bool
is_all_layer (layer.All q) = true
is_all_layer _ = false

-- the line of the body of an axiom's formula, where that is an `all` block
abbrev pub IsBodyLine : Problem → ℕ → ℕ → List Sort → List Term → Option InstanceLine → Type 0
IsBodyLine p g k ss ts o =
    (f : Formula) × (hypothesis p g k ss ≡ Some f) × MatchOption o ((q : Quant) → out-Formula f ≢ layer.All q) (λ l. (q : Quant) × (out-Formula f ≡ layer.All q) × IsLineOfTerms p g f ts l)

-- literals are had at n; what was had stays so, and what blocks say
pub record AreSaid (opened : List Opened) (n : ℕ) (old : Stored) (es : List Aged) (new : Stored) (fs : List Aged) (ls : List Lit) : Type 0 where
  pub had : (l : Lit) → Contains ls l → IsHad new fs n l.formula
  pub stay : (m : ℕ) (h : Formula) → IsHad old es m h → IsHad new fs m h
  pub bodies : HaveBodies opened old es → HaveBodies opened new fs
  pub justified : (x : Setting) (bound : ℕ) (js : List Line) → old.signature ≡ x.problem.signature → AreOpenedIn x (opened_pairs opened)
      → ((l : Lit) → Contains ls l → n < bound → HasGeneration x js n l.formula) → IsJustified x bound old js → AreJustifiedAges x bound es js → IsJustified x bound new js × AreJustifiedAges x bound fs js

-- a literal is in the clause of a line of the instance
pub record IsInLine (x : Setting) (js : List Line) (w : Owner) (ss : List Sort) (ts : List Term) (l : Lit) : Type 0 where
  pub own : Line
  pub clause : Clause
  pub noted : Contains js own
  pub instance : IsInstance x own clause w ss ts
  pub has : Contains clause l

abbrev pub made_of : Owner → List Sort → List Term → ℕ → Instance
made_of w ss ts n = record { owner = w; sorts = ss; terms = ts; number = n }

-- the lines of an instance are there, and what it says is had
pub record IsMade (p : Problem) (g n : ℕ) (w : Owner) (ss : List Sort) (ts : List Term) (o o2 : Search) : Type 0 where
  pub beside : IsBeside p g o2
  pub goes_on : GoesOn o o2
  pub came : Came o o2
  pub looked : o2.looked ≡ o.looked
  pub instances : o2.instances ≡ o.instances
  pub said : List Lit
  pub are_said : AreSaid o.blocks.opened (suc n) o.store o.ages o2.store o2.ages said
  pub covers : (l : Lit) → Contains (instance_literals p g w ss ts) l → Contains said l
  pub clauses : (x : Setting) → x.problem ≡ p → x.goal ≡ g → (l : Lit) → Contains said l → IsInLine x o2.journal.lines w ss ts l
  pub lines : (x : Setting) → x.problem ≡ p → x.goal ≡ g → HasLines x o2.journal.lines (made_of w ss ts n)
  pub only : (x : Setting) → x.problem ≡ p → x.goal ≡ g → (j : Line) → Contains o2.journal.lines j → Contains o.journal.lines j ⊎ IsOfInstance x o2.journal.lines (made_of w ss ts n ∷ []) j
  pub typed : (k : ℕ) → w ≡ of_axiom k → Contains o2.journal.lines (line.TypeInstance k ss)

-- more instances were made, or none, and then there are some left, none of which is taken
pub data HasMade (o o2 : Search) (left : List Owed) : Type 0 where
  more : length o.instances.made < length o2.instances.made → HasMade o o2 left
  not_yet : o2.instances.made ≡ o.instances.made → left ≢ [] → AllByRecursion (λ (w : Owed). list_any (is_match (alike o2.solver.theory.values) w.owner w.subst) o2.instances.taken.taken ≡ false) left → HasMade o o2 left

-- so far: the search is in the batch, what is left is due, and some were made or are left
pub record IsBeingMade (p : Problem) (g bound n level : ℕ) (first o : Search) (left : List Owed) : Type 0 where
  pub batch : IsInBatch p g bound level o
  pub goes_on : GoesOn first o
  pub came : Came first o
  pub due : AllByRecursion (IsDueOwed p g o n) left
  pub made : HasMade first o left
