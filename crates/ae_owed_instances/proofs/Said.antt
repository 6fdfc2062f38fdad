-- What instances say, as the definition of their literals has it.
use Rattle.std.specs.Prelude.{ℕ, Bool, List, [], ◌∷◌, ◌≡◌, map, Option, Some, None}
use Rattle.std.proofs.Common.{refl, sym, ap, ◌∙◌}
use Rattle.ae_core.specs.Putting.{put_formula}
use Rattle.ae_core.specs.declared.formulas.Formula.{Formula, Formula-F, out-Formula}
use Rattle.ae_core.specs.declared.formulas.Formula.TheOpen as layer
use Rattle.ae_core.specs.declared.formulas.Lit.{Lit}
use Rattle.ae_core.specs.declared.formulas.Quant.{Quant}
use Rattle.ae_core.specs.declared.problems.Problem.{Problem}
use Rattle.ae_core.specs.declared.terms.Sort.{Sort}
use Rattle.ae_core.specs.declared.terms.Term.{Term}
use Rattle.ae_journal.specs.States as states
use Rattle.ae_owed_instances.specs.Inner.Saying.{axiom_literals, block_literals}
use Rattle.ae_owners.proofs.Numbers.{literal_of, place_of}
use Rattle.ae_owners.specs.Owners.{owner_of}
use Rattle.ae_owners.specs.declared.owners.Owner.{Owner}
use Rattle.ae_rules.specs.Clauses.{literal}
use Rattle.ae_rules.specs.Instances.{hypothesis}

abbrev signed : List (Bool × Formula) → List Lit
signed es = map (λ (e : Bool × Formula). literal e.0 e.1) es

abbrev body_of : Bool → List Term → Option Quant → List (Bool × Formula)
body_of sign ts o = elim o as (λ _. List (Bool × Formula)) [ Some q ↦ (sign, put_formula ts q.body) ∷ [] | None ↦ [] ]

abbrev formula_of : List Term → Option Formula → List (Bool × Formula)
formula_of ts o = elim o as (λ _. List (Bool × Formula)) [ Some f ↦ states.axiom_instances ts f (out-Formula f) | None ↦ [] ]

block_says : (sign : Bool) (ts : List Term) (y : Formula-F Formula Quant) → block_literals sign ts y ≡ signed (body_of sign ts (states.quant_of y))
block_says sign ts (layer.All q) = refl
block_says sign ts (layer.Ex q) = refl
block_says sign ts layer.True = refl
block_says sign ts layer.False = refl
block_says sign ts (layer.Eq a b) = refl
block_says sign ts (layer.Lt a b) = refl
block_says sign ts (layer.Le a b) = refl
block_says sign ts (layer.Pred p ss us) = refl
block_says sign ts (layer.Not a) = refl
block_says sign ts (layer.And a b) = refl
block_says sign ts (layer.Or a b) = refl
block_says sign ts (layer.Xor a b) = refl
block_says sign ts (layer.Iff a b) = refl

formula_says : (ts : List Term) (f : Formula) (y : Formula-F Formula Quant) → axiom_literals ts f y ≡ signed (states.axiom_instances ts f y)
formula_says ts f (layer.All q) = refl
formula_says ts f (layer.Ex q) = refl
formula_says ts f layer.True = refl
formula_says ts f layer.False = refl
formula_says ts f (layer.Eq a b) = refl
formula_says ts f (layer.Lt a b) = refl
formula_says ts f (layer.Le a b) = refl
formula_says ts f (layer.Pred p ss us) = refl
formula_says ts f (layer.Not a) = refl
formula_says ts f (layer.And a b) = refl
formula_says ts f (layer.Or a b) = refl
formula_says ts f (layer.Xor a b) = refl
formula_says ts f (layer.Iff a b) = refl

module _ (p : Problem) (g : ℕ) (us : List Sort) (ts : List Term) where
  -- ---- of an axiom, by its formula with the sorts put
  pub none_said : (k : ℕ) → hypothesis p g k us ≡ None → [] ≡ states.instance_literals p g (states.of_axiom k) us ts
  none_said k e = ap (λ (o : Option Formula). signed (formula_of ts o)) (sym e)

  pub axiom_said : (k : ℕ) (f : Formula) → hypothesis p g k us ≡ Some f → axiom_literals ts f (out-Formula f) ≡ states.instance_literals p g (states.of_axiom k) us ts
  axiom_said k f e = formula_says ts f (out-Formula f) ∙ ap (λ (o : Option Formula). signed (formula_of ts o)) (sym e)

  -- ---- of an owner
  pub literal_said : (w : Owner) → w.place ≡ None → block_literals w.positive ts (out-Formula w.formula) ≡ states.instance_literals p g (owner_of w) us ts
  literal_said w e = block_says w.positive ts (out-Formula w.formula) ∙ ap (λ (z : states.Owner). states.instance_literals p g z us ts) (sym (literal_of w e))

  pub place_said : (w : Owner) (k : ℕ) → w.place ≡ Some k → states.instance_literals p g (states.of_axiom k) us ts ≡ states.instance_literals p g (owner_of w) us ts
  place_said w k e = ap (λ (z : states.Owner). states.instance_literals p g z us ts) (sym (place_of w k e))
