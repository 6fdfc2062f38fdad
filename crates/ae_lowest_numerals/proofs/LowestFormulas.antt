-- Rules of formulas and triggers give trees whose numerals are in lowest terms, where what is named there is such.
use Rattle.std.specs.Prelude.{ℕ, List, [], ◌∷◌, ◌++◌, map, reverse, None}
use Rattle.std.specs.List.{AllByRecursion}
use Rattle.ae_base.proofs.AllOf.{all_append, all_reversed}
use Rattle.ae_core.specs.declared.terms.Sort.{Sort}
use Rattle.ae_core.specs.declared.problems.SymbolEntry.{SymbolEntry}
use Rattle.ae_syntax.specs.declared.spans.Span.{Span}
use Rattle.ae_syntax.specs.declared.exprs.Group.{Group}
use Rattle.ae_syntax.specs.declared.exprs.Quantifier.{Quantifier}
use Rattle.ae_elab.specs.declared.numbers.Numbers.TheVariants.{IntOrReal}
use Rattle.ae_elab.specs.Trees.{Claim, Relation, negation}
use Rattle.ae_elab.specs.Scope.{Scope, Class, formula, either, term}
use Rattle.ae_elab.specs.Rules.{Rule, give, ◌>>◌, Typed, Around, Part, as_term, as_formula, wanted}
use Rattle.ae_elab.specs.Formulas.{truth_rule, equation_rule, inequality_rule, of_one_sort, distinct_rule, connective_rule, conditional_rule}
use Rattle.ae_elab.specs.Formulas.{predicate_rule, Bound, local_of, with_block, groups_rule, merged_with, untested, pattern_rule, patterns_rule}
use Rattle.ae_elab.specs.Formulas.{triggers_rule, around_body, block_rule}
use Rattle.ae_lowest_numerals.proofs.LowestTrees.{LowestTree, LowestTrees, LowestPatterns, LowestClaim, claim_lowest, pattern_lowest}
use Rattle.ae_lowest_numerals.proofs.LowestTrees.{LowestLocal, LowestLocals, Gives, TypedLowest, LowestPart}
use Rattle.ae_lowest_numerals.proofs.LowestTerms.{operands_lowest, application_lowest}

pub truth_lowest : (place : Span) (r : Rule Typed) → Gives TypedLowest r → Gives LowestClaim (truth_rule place r)
truth_lowest place r h p = claim_lowest (r p).value.tree (h p)

module _ (sc : Scope) (l : LowestLocals sc) where
  -- ---- relations
  pub equation_lowest : (x : Relation) (a b : Part) → LowestPart a → LowestPart b → Gives LowestClaim (equation_rule x a b sc)
  equation_lowest x a b h k p = (h.term sc l a.place p, k.term sc l b.place (as_term sc a p).passed)

  pub inequality_lowest : (x : Relation) (a b : Part) → LowestPart a → LowestPart b → Gives LowestClaim (inequality_rule x a b sc)
  inequality_lowest x a b h k p = operands_lowest sc l IntOrReal a b h k p

  one_sort : (s : Sort) (es : List Part) → AllByRecursion LowestPart es → Gives LowestTrees (of_one_sort sc s es)
  one_sort s [] a p = tt
  one_sort s (e ∷ es) a p = (a.0.term sc l e.place p, one_sort s es a.1 (wanted sc s e p).passed)

  pub distinct_lowest : (es : List Part) → AllByRecursion LowestPart es → Gives LowestClaim (distinct_rule es sc)
  distinct_lowest [] a p = tt
  distinct_lowest (e ∷ es) a p = let t = as_term sc e p in (a.0.term sc l e.place p, one_sort t.value.sort es a.1 t.passed)

  -- ---- connectives
  pub connective_lowest : (join : Claim → Claim → Claim) → ((f g : Claim) → LowestClaim f → LowestClaim g → LowestClaim (join f g)) → (a b : Part) → LowestPart a
      → LowestPart b → Gives LowestClaim (connective_rule join a b sc)
  connective_lowest join j a b h k p =
      let f = as_formula sc a p in
      j f.value (as_formula sc b f.passed).value (h.formula sc l None a.place p) (k.formula sc l None b.place f.passed)

  pub negation_lowest : (a : Part) → LowestPart a → Gives LowestClaim (as_formula sc a >> λ f. give (negation f))
  negation_lowest a h p = h.formula sc l None a.place p

  pub conditional_lowest : (c a b : Part) → LowestPart c → LowestPart a → LowestPart b → Gives LowestClaim (conditional_rule c a b sc)
  conditional_lowest c a b h i j p =
      let f = as_formula sc c p in
      (h.formula sc l None c.place p, i.formula sc l None a.place f.passed, j.formula sc l None b.place (as_formula sc a f.passed).passed)

  pub predicate_lowest : (name : Span) (k : ℕ) (e : SymbolEntry) (args : List Part) → AllByRecursion LowestPart args → Gives LowestClaim (predicate_rule name k e args sc)
  predicate_lowest name k e args a p = application_lowest sc l name e args a p

  -- ---- triggers
  untested_lowest : (c : Class) (e : Part) → LowestPart e → Gives LowestTree (untested c e sc)
  untested_lowest formula e h p = pattern_lowest (as_formula sc e p).value (h.formula sc l None e.place p)
  untested_lowest either e h p = h.term sc l e.place p
  untested_lowest term e h p = h.term sc l e.place p

  patterns_lowest : (es : List Part) → AllByRecursion LowestPart es → Gives LowestTrees (patterns_rule sc es)
  patterns_lowest [] a p = tt
  patterns_lowest (e ∷ es) a p = (untested_lowest (e.class sc) e a.0 p, patterns_lowest es a.1 (pattern_rule sc e p).passed)

  pub triggers_lowest : (xs : List ℕ) (ts : List (List Part)) → AllByRecursion (AllByRecursion LowestPart) ts → Gives LowestPatterns (triggers_rule xs ts sc)
  triggers_lowest xs [] a p = tt
  triggers_lowest xs (es ∷ ts) a p = (patterns_lowest es a.0 p, triggers_lowest xs ts a.1 (patterns_rule sc es p).passed)

-- ---- blocks
bound_lowest : (bs : List Bound) → AllByRecursion LowestLocal (map local_of bs)
bound_lowest [] = tt
bound_lowest (b ∷ bs) = (tt, bound_lowest bs)

pub block_locals : (bs : List Bound) (sc : Scope) → LowestLocals sc → LowestLocals (with_block bs sc)
block_locals bs sc l =
    all_append LowestLocal (reverse (map local_of bs)) sc.locals (all_reversed LowestLocal (map local_of bs) (bound_lowest bs)) l

pub block_lowest : (q : Quantifier) (gs : List Group) (ts : List (List Part)) (body : Part) → AllByRecursion (AllByRecursion LowestPart) ts → LowestPart body
    → (sc : Scope) → LowestLocals sc → (around : Around) → Gives LowestClaim (block_rule q gs ts body sc around)
block_lowest q gs ts body a h sc l around p =
    let b = groups_rule [] gs sc p in
    let inner = with_block b.value sc in
    let k = block_locals b.value sc l in
    let merged = merged_with q around ++ map (λ (x : Bound). x.number) b.value in
    let t = triggers_rule merged ts inner b.passed in
    (triggers_lowest inner k merged ts a b.passed, h.formula inner k (around_body q merged ts) body.place t.passed)
