-- The clauses of the lines that put sorts or terms: hypotheses, instances, fresh constants, enumerations and the order of two numbers.
use Rattle.std.specs.Prelude.{ℕ, suc, ◌+◌, ◌^◌, Bool, false, nat_eq, nat_lt, nat_le, List, [], ◌∷◌, map, length, slice_get, Option, Some, None}
use Rattle.ae_core.specs.Sorts.{sort_of, sorts_of, same_sorts, same_numeric}
use Rattle.ae_base.specs.Options.{◌>>=◌, or_else, only, when}
use Rattle.ae_core.specs.Putting.{put_formula, instance}
use Rattle.ae_rules.specs.Clauses.{Clause, yes_of, no_of, is_true, is_false}
use Rattle.ae_core.specs.declared.terms.Sort.{Sort, Sort-F, out-Sort}
use Rattle.ae_core.specs.declared.terms.Sort.TheOpen as sort_layer
use Rattle.ae_core.specs.declared.terms.Term.{Term, Fresh, Apply}
use Rattle.ae_core.specs.declared.terms.Head.{Head}
use Rattle.ae_core.specs.declared.terms.Head.TheVariants as head
use Rattle.ae_core.specs.declared.formulas.Formula.{Formula, Formula-F, Eq, Lt, out-Formula}
use Rattle.ae_core.specs.declared.formulas.Formula.TheOpen as layer_of
use Rattle.ae_core.specs.declared.formulas.Quant.{Quant}
use Rattle.ae_core.specs.declared.problems.Signature.{Signature}
use Rattle.ae_core.specs.declared.problems.Problem.{Problem}
use Rattle.ae_core.specs.declared.problems.Item.TheVariants.{Axiom, Goal as GoalItem}
use Rattle.ae_core.specs.declared.problems.Kind.TheVariants.{Choices, Abstract, Fields}

-- an axiom's formula with sorts for its type variables, one for each
abbrev pub axiom_with : ℕ → Formula → List Sort → Option Formula
axiom_with v f ss = when (nat_eq (length ss) v) (instance ss f)

-- the axiom at place k among the items, before the goal at place g, with these sorts. An earlier goal is never a hypothesis.
abbrev pub hypothesis : Problem → ℕ → ℕ → List Sort → Option Formula
hypothesis p g k ss =
    only (nat_lt k g) (slice_get p.items k) >>= λ i. elim i [ Axiom n v f ↦ axiom_with v f ss | GoalItem n v f ↦ None ]

-- closed terms of the sorts of a block's variables, one for each
abbrev pub have_sorts : Signature → List Term → List Sort → Bool
have_sorts sig ts ss = or_else (sorts_of sig ts >>= λ os. Some (same_sorts os ss)) false

-- where a universal block is true, or an existential one false, so is its body with the terms put
abbrev pub instance_clause : Signature → Formula → List Term → Formula-F Formula Quant → Option Clause
instance_clause sig f ts (layer_of.All q) = when (have_sorts sig ts q.sorts) (is_false f ∷ yes_of (put_formula ts q.body) ∷ [])
instance_clause sig f ts (layer_of.Ex q) = when (have_sorts sig ts q.sorts) (is_true f ∷ no_of (put_formula ts q.body) ∷ [])
instance_clause sig f ts _ = None

-- ---- fresh constants, each a number with its sort
-- constants of the sorts, numbered from m
abbrev pub count_from : ℕ → List Sort → List Term
count_from m [] = []
count_from m (s ∷ ss) = Fresh m s ∷ count_from (suc m) ss

-- a constant's number is below 2^64
abbrev pub are_numbered : ℕ → List Sort → Bool
are_numbered m ss = nat_le (m + length ss) (2 ^ 64)

-- where an existential block is true, or a universal one false, so is its body with fresh constants put
abbrev pub fresh_clause : Formula → ℕ → Formula-F Formula Quant → Option Clause
fresh_clause f m (layer_of.Ex q) = when (are_numbered m q.sorts) (is_false f ∷ yes_of (put_formula (count_from m q.sorts) q.body) ∷ [])
fresh_clause f m (layer_of.All q) = when (are_numbered m q.sorts) (is_true f ∷ no_of (put_formula (count_from m q.sorts) q.body) ∷ [])
fresh_clause f m _ = None

abbrev pub block_sorts : Formula-F Formula Quant → List Sort
block_sorts (layer_of.All q) = q.sorts
block_sorts (layer_of.Ex q) = q.sorts
block_sorts _ = []

-- the constants that a line puts for the variables of the block f
abbrev pub fresh_terms : ℕ → Formula → List Term
fresh_terms m f = count_from m (block_sorts (out-Formula f))

-- ---- enumerations and numbers
-- the constructors of a sort that is an enumeration, in their order
abbrev pub choices_of : Signature → Sort-F Sort → Option (List Head)
choices_of sig (sort_layer.Named n ss) = slice_get sig.types n >>= λ e. elim e.kind [ Choices cs ↦ Some (map head.Symbol cs) | Abstract ↦ None | Fields fs ↦ None ]
choices_of sig sort_layer.Bool = Some (head.True ∷ head.False ∷ [])
choices_of sig sort_layer.Unit = Some (head.Void ∷ [])
choices_of sig _ = None

-- a term of an enumeration is one of its constructors
abbrev pub exhaustion : Signature → Term → Option Clause
exhaustion sig t =
    sort_of sig t >>= λ s. choices_of sig (out-Sort s) >>= λ cs. Some (map (λ h. is_true (Eq t (Apply h [] []))) cs)

-- two numbers of one sort are equal, or one is below the other
abbrev pub trichotomy : Signature → Term → Term → Option Clause
trichotomy sig s t = when (same_numeric (sort_of sig s) (sort_of sig t)) (is_true (Eq s t) ∷ is_true (Lt s t) ∷ is_true (Lt t s) ∷ [])
