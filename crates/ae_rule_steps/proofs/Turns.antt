-- One rewriting by a rule: of one sort, and what is left beside the left side.
use Rattle.std.specs.Prelude.{ℕ, ◌<◌, ◌≤◌, ◌≡◌, List, [], ◌∷◌, ◌++◌, length, Option, Some}
use Rattle.std.specs.List.{AllByRecursion}
use Rattle.std.proofs.Common.{sym, ◌∙◌, subst, arith}
use Rattle.std.proofs.lemmas.Option.{same_Some}
use Rattle.ae_base.proofs.AllOf.{all_append, all_front, all_back, all_from_places}
use Rattle.ae_core.specs.declared.terms.Sort.{Sort}
use Rattle.ae_core.specs.declared.terms.Term.{Term}
use Rattle.ae_core.specs.declared.problems.AcSymbol.{AcSymbol}
use Rattle.ae_core.specs.declared.problems.Signature.{Signature}
use Rattle.ae_multiset.specs.Multisets.{count, IsSame, IsPart, minus}
use Rattle.ae_multiset.proofs.Counts.{count-append, count-minus, count_same}
use Rattle.ae_just.specs.declared.steps.Step.{Step}
use Rattle.ae_state_steps.specs.ManySteps.{IsOfSort, StatesMany}
use Rattle.ae_multiset_steps.specs.Equating.{AreNamesOf, IsRewriting}
use Rattle.ae_multiset_steps.proofs.Lists.{counted, count_at, all_same}
use Rattle.ae_monoid.specs.declared.rules.Kept.{Kept}
use Rattle.ae_monoid.specs.Rules.{IsWellKept, IsFit}
use Rattle.ae_monoid.specs.Reductions.{IsTurned}
use Rattle.ae_rule_steps.specs.Said.{IsSaid}

-- a part, and what is left beside it
pub parted : (left names rest : List ℕ) → IsPart left names → IsSame rest (minus names left) → IsSame names (left ++ rest)
parted left names rest p r = record { each = each }
  where
    each : (x : ℕ) → count x names ≡ count x (left ++ rest)
    each x = let a = p.each x in let b = r.each x in omega (arith, a, b, count-append x left rest, count-minus x names left)

-- a smaller multiset has names of the larger alone
pub all_of_part : (P : ℕ → Type 0) (part names : List ℕ) → ((x : ℕ) → count x part ≤ count x names) → AllByRecursion P names → AllByRecursion P part
all_of_part P part names l a = all_from_places P part (λ k x e. counted P x names a (let c = count_at part k x e in let f = l x in omega (arith, c, f)))

rest_below : (left names rest : List ℕ) → IsSame rest (minus names left) → (x : ℕ) → count x rest ≤ count x names
rest_below left names rest r x = let b = r.each x in omega (arith, b, count-minus x names left)

module _ (sig : Signature) (ts : List Term) where
  -- a name has one sort
  one_sort : (left names : List ℕ) (s t : Sort) → 0 < length left → IsPart left names → AllByRecursion (IsOfSort sig ts s) left → AllByRecursion (IsOfSort sig ts t) names → t ≡ s
  one_sort [] names s t l p a b = absurd (omega (arith, l))
  one_sort (x ∷ left) names s t l p a b =
      let h = p.each x in
      let q : IsOfSort sig ts t x = counted (IsOfSort sig ts t) x names b (omega (arith, h, count_same x left)) in
      same_Some t s (sym q ∙ a.0)

  -- the names of the rule and of what is left beside its left side are of the symbol
  pub names_of_turn : (rule : Kept) (u : AcSymbol) (names rest : List ℕ) → IsWellKept rule → rule.entry.symbol ≡ u → AreNamesOf sig ts rule.entry.symbol (rule.entry.left ++ rule.entry.right) → AreNamesOf sig ts u names
      → IsPart rule.entry.left names → IsSame rest (minus names rule.entry.left) → AreNamesOf sig ts u (rule.entry.left ++ rule.entry.right ++ rest)
  names_of_turn rule u names rest well of a b p r =
      let left = rule.entry.left in
      let right = rule.entry.right in
      let two = well.two in
      let e = one_sort left names a.sort b.sort (omega (arith, two)) p (all_front (IsOfSort sig ts a.sort) left right a.sorted) b.sorted in
      let P = IsOfSort sig ts b.sort in
      let both : AllByRecursion P (left ++ right) = subst (λ (s : Sort). AllByRecursion (IsOfSort sig ts s) (left ++ right)) (sym e) a.sorted in
      record { sort = b.sort; symbol = b.symbol; of_names = b.of_names; sorted = all_append P (left ++ right) rest both (all_of_part P rest names (rest_below left names rest r) b.sorted) }

  pub turn_rewrites : (steps : List Step) (rule : Kept) (u : AcSymbol) (names rest result : List ℕ) → IsWellKept rule → rule.entry.symbol ≡ u → IsSaid sig ts steps rule → AreNamesOf sig ts u names → IsPart rule.entry.left names
      → IsSame rest (minus names rule.entry.left) → IsSame result (rule.entry.right ++ rest) → IsRewriting sig ts steps u rule.entry.left rule.entry.right rule.just rest result
  turn_rewrites steps rule u names rest result well of said a p r after =
      let two = well.two in
      record {
        names = names_of_turn rule u names rest well of said.names a p r;
        states = subst (λ (v : AcSymbol). StatesMany steps rule.just v rule.entry.left rule.entry.right) of said.states;
        left_some = omega (arith, two);
        right_some = well.some;
        after = after;
      }

  -- what the rewriting gives is of the symbol too
  pub names_of_result : (steps : List Step) (u : AcSymbol) (left right : List ℕ) (step : ℕ) (rest result : List ℕ) → IsRewriting sig ts steps u left right step rest result → AreNamesOf sig ts u result
  names_of_result steps u left right step rest result w =
      let n = w.names in
      let P = IsOfSort sig ts n.sort in
      let both = all_front P (left ++ right) rest n.sorted in
      record { sort = n.sort; symbol = n.symbol; of_names = n.of_names; sorted = all_same P result (right ++ rest) w.after (all_append P right rest (all_back P left right both) (all_back P (left ++ right) rest n.sorted)) }

  -- the same with the rule's sides as lists that are equal to them
  pub rewrites_at : (steps : List Step) (rule : Kept) (u : AcSymbol) (names left right rest result : List ℕ) → left ≡ rule.entry.left → right ≡ rule.entry.right → IsWellKept rule → rule.entry.symbol ≡ u → IsSaid sig ts steps rule
      → AreNamesOf sig ts u names → IsPart rule.entry.left names → IsSame rest (minus names left) → IsSame result (right ++ rest) → IsRewriting sig ts steps u left right rule.just rest result
  rewrites_at steps rule u names left right rest result e f well of said a p r after =
      let r' = subst (λ (zs : List ℕ). IsSame rest (minus names zs)) e r in
      let after' = subst (λ (zs : List ℕ). IsSame result (zs ++ rest)) f after in
      subst (λ (zs : List ℕ). IsRewriting sig ts steps u zs right rule.just rest result) (sym e)
      (subst (λ (zs : List ℕ). IsRewriting sig ts steps u rule.entry.left zs rule.just rest result) (sym f) (turn_rewrites steps rule u names rest result well of said a p r' after'))

pub parted_at : (rule : Kept) (names left rest : List ℕ) → left ≡ rule.entry.left → IsPart rule.entry.left names → IsSame rest (minus names left) → IsSame names (left ++ rest)
parted_at rule names left rest e p r = parted left names rest (subst (λ (zs : List ℕ). IsPart zs names) (sym e) p) r

pub turn_of : (rule : Kept) (names left right rest result : List ℕ) → left ≡ rule.entry.left → right ≡ rule.entry.right
    → IsPart rule.entry.left names → IsSame rest (minus names left) → IsSame result (right ++ rest) → IsTurned rule names result
turn_of rule names left right rest result e f p r after =
    record {
      rest = rest;
      before = subst (λ (zs : List ℕ). IsSame names (zs ++ rest)) e (parted_at rule names left rest e p r);
      after = subst (λ (zs : List ℕ). IsSame result (zs ++ rest)) f after;
    }

-- the rule that stands there is the one that fits
pub fit_rule : (o : Option Kept) (u : AcSymbol) (names : List ℕ) (rule : Kept) → IsFit o u names → o ≡ Some rule → (rule.entry.symbol ≡ u) × IsPart rule.entry.left names
fit_rule o u names rule f e =
    let z : f.rule ≡ rule = same_Some f.rule rule (sym f.there ∙ e) in
    (subst (λ (k : Kept). k.entry.symbol ≡ u) z f.of, subst (λ (k : Kept). IsPart k.entry.left names) z f.part)
