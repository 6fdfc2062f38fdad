-- The equation of the overlap of two rules whose equations steps state.
use Rattle.std.specs.Prelude.{ℕ, ◌<◌, ◌≡◌, List, ◌++◌, length, Option, Some, None}
use Rattle.std.specs.List.{AllByRecursion}
use Rattle.std.proofs.Common.{sym, ap, ◌∙◌, subst, arith, length-append}
use Rattle.std.proofs.lemmas.Option.{none-some, same_Some}
use Rattle.ae_base.proofs.AllOf.{all_append, all_front, all_back, all_from_places}
use Rattle.ae_core.specs.declared.problems.AcSymbol.{AcSymbol}
use Rattle.ae_core.specs.declared.problems.Signature.{Signature}
use Rattle.ae_core.specs.declared.terms.Sort.{Sort}
use Rattle.ae_core.specs.declared.terms.Term.{Term}
use Rattle.ae_equation_turns.specs.Said.{IsWaitingSaid}
use Rattle.ae_equations.specs.declared.queue.Waiting.{Waiting}
use Rattle.ae_just.specs.Steps.{IsSymbolOfNames}
use Rattle.ae_just.specs.declared.steps.Step.{Step}
use Rattle.ae_monoid.specs.Equations.{IsDeduced, IsOverlap, AreApart}
use Rattle.ae_monoid.specs.Rules.{IsWellKept}
use Rattle.ae_monoid.specs.declared.pending.PendingPair.{PendingPair}
use Rattle.ae_monoid.specs.declared.rules.Kept.{Kept}
use Rattle.ae_multiset.specs.Multisets.{minus, common}
use Rattle.ae_multiset.proofs.Counts.{count-minus, length_same}
use Rattle.ae_multiset_steps.specs.Equating.{AreNamesOf, RestsOnThese}
use Rattle.ae_multiset_steps.proofs.Lists.{counted, count_at, all_same}
use Rattle.ae_rule_steps.specs.Said.{IsSaid, AreSaid}
use Rattle.ae_state_steps.specs.ManySteps.{IsSymbolOn, IsOfSort, StatesMany}
use Rattle.ae_gaps.specs.Inner.Overlapping.{IsOverlapSaid}

-- an overlap of two numbers is one of their rules
pub deduced_of : (kept : ℕ → Option Kept) (m n : ℕ) (p q : Kept) (pair : PendingPair) → kept m ≡ Some p → kept n ≡ Some q → IsOverlap (kept m) (kept n) pair → (p.entry.symbol ≡ q.entry.symbol) × IsDeduced p q pair
deduced_of kept m n p q pair f g o =
    let i : o.first ≡ p = same_Some o.first p (sym o.first_there ∙ f) in
    let j : o.second ≡ q = same_Some o.second q (sym o.second_there ∙ g) in
    subst (λ (b : Kept). (p.entry.symbol ≡ b.entry.symbol) × IsDeduced p b pair) j (subst (λ (a : Kept). (a.entry.symbol ≡ o.second.entry.symbol) × IsDeduced a o.second pair) i (o.same, o.deduced))

all_minus : (P : ℕ → Type 0) (a b : List ℕ) → AllByRecursion P a → AllByRecursion P (minus a b)
all_minus P a b h = all_from_places P (minus a b) (λ k x e. counted P x a h (let c = count_at (minus a b) k x e in omega (arith, c, count-minus x a b)))

module _ (sig : Signature) (ts : List Term) (steps : List Step) (p q : Kept) (pair : PendingPair) (wp : IsWellKept p) (wq : IsWellKept q) (sp : IsSaid sig ts steps p) (sq : IsSaid sig ts steps q)
    (one : p.entry.symbol ≡ q.entry.symbol) (d : IsDeduced p q pair) where
  -- the names of both rules are of one sort
  one_sort : sq.names.sort ≡ sp.names.sort
  one_sort =
      let s = sp.names.sort in
      let t = sq.names.sort in
      let a : IsOfSort sig ts s d.shared = counted (IsOfSort sig ts s) d.shared p.entry.left (all_front (IsOfSort sig ts s) p.entry.left p.entry.right sp.names.sorted) d.in_first in
      let b : IsOfSort sig ts t d.shared = counted (IsOfSort sig ts t) d.shared q.entry.left (all_front (IsOfSort sig ts t) q.entry.left q.entry.right sq.names.sorted) d.in_second in
      same_Some t s (sym b ∙ a)

  pub overlap_names : AreNamesOf sig ts pair.symbol (pair.left ++ pair.right)
  overlap_names =
      let s = sp.names.sort in
      let P = IsOfSort sig ts s in
      let second : AllByRecursion P (q.entry.left ++ q.entry.right) = subst (λ (t : Sort). AllByRecursion (IsOfSort sig ts t) (q.entry.left ++ q.entry.right)) one_sort sq.names.sorted in
      let l1 = all_front P p.entry.left p.entry.right sp.names.sorted in
      let r1 = all_back P p.entry.left p.entry.right sp.names.sorted in
      let l2 = all_front P q.entry.left q.entry.right second in
      let r2 = all_back P q.entry.left q.entry.right second in
      let c = common p.entry.left q.entry.left in
      record {
        sort = s;
        symbol = subst (λ (u : AcSymbol). IsSymbolOn sig u s) (sym d.symbol) sp.names.symbol;
        of_names = subst (λ (u : AcSymbol). IsSymbolOfNames sig ts u.head u.sorts) (sym d.symbol) sp.names.of_names;
        sorted =
            all_append P pair.left pair.right
            (all_same P pair.left (p.entry.right ++ minus q.entry.left c) d.left (all_append P p.entry.right (minus q.entry.left c) r1 (all_minus P q.entry.left c l2)))
            (all_same P pair.right (q.entry.right ++ minus p.entry.left c) d.right (all_append P q.entry.right (minus p.entry.left c) r2 (all_minus P p.entry.left c l1)));
      }

  left_some : 0 < length pair.left
  left_some =
      let e = length_same pair.left (p.entry.right ++ minus q.entry.left (common p.entry.left q.entry.left)) d.left in
      omega (arith, e, length-append p.entry.right (minus q.entry.left (common p.entry.left q.entry.left)), wp.some)

  right_some : 0 < length pair.right
  right_some =
      let e = length_same pair.right (q.entry.right ++ minus p.entry.left (common p.entry.left q.entry.left)) d.right in
      omega (arith, e, length-append q.entry.right (minus p.entry.left (common p.entry.left q.entry.left)), wq.some)

  pub overlap_waits : (new : List Step) (step : ℕ) → StatesMany new step pair.symbol pair.left pair.right → IsWaitingSaid sig ts new (record { symbol = pair.symbol; left = pair.left; right = pair.right; step = step })
  overlap_waits new step states = record { names = overlap_names; left_some = left_some; right_some = right_some; states = states }

-- the equation that was made of it
pub overlap_said : (sig : Signature) (ts : List Term) (old new : List Step) (kept : ℕ → Option Kept) (m n : ℕ) (p q : Kept) (pair : PendingPair) (w : Waiting) (step : ℕ) → kept m ≡ Some p → kept n ≡ Some q
    → IsOverlap (kept m) (kept n) pair → IsWellKept p → IsWellKept q → AreSaid sig ts old kept → w ≡ record { symbol = pair.symbol; left = pair.left; right = pair.right; step = step }
    → StatesMany new step pair.symbol pair.left pair.right → RestsOnThese old new step pair.justs → IsOverlapSaid sig ts old new kept m n w
overlap_said sig ts old new kept m n p q pair w step f g o wp wq said is states rests =
    let d = deduced_of kept m n p q pair f g o in
    record {
      pair = pair;
      overlap = o;
      symbol = ap (λ (z : Waiting). z.symbol) is;
      left = ap (λ (z : Waiting). z.left) is;
      right = ap (λ (z : Waiting). z.right) is;
      said = subst (IsWaitingSaid sig ts new) (sym is) (overlap_waits sig ts old p q pair wp wq (said.each m p f) (said.each n q g) d.0 d.1 new step states);
      rests = subst (λ (k : ℕ). RestsOnThese old new k pair.justs) (sym (ap (λ (z : Waiting). z.step) is)) rests;
    }

-- ---- rules that don't stand
pub no_first : (o u : Option Kept) → o ≡ None → AreApart o u
no_first o u e p q f = absurd (none-some p (sym e ∙ f))

pub no_second : (o u : Option Kept) → u ≡ None → AreApart o u
no_second o u e p q f g = absurd (none-some q (sym e ∙ g))
