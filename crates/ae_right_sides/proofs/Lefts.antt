-- Rules with the same left sides: what holds of left sides holds still, and reduced multisets stay so.
use Rattle.std.specs.Prelude.{ℕ, List, ◌≡◌, map, Option, Some}
use Rattle.std.proofs.Common.{refl, sym, ap, ◌∙◌, subst, arith}
use Rattle.std.proofs.lemmas.Option.{same_Some}
use native.Mathlib.Decide.{ℕ_discrete}
use Rattle.ae_base.proofs.AllOf.{all_always, all_of_map}
use Rattle.ae_core.specs.declared.problems.AcSymbol.{AcSymbol}
use Rattle.ae_multiset.specs.Multisets.{IsPart, rising}
use Rattle.ae_multiset.specs.Rewriting.{IsReduced}
use Rattle.ae_multiset.proofs.Rising.{count-rising}
use Rattle.ae_multiset_steps.proofs.Lists.{all_same}
use Rattle.ae_settled.specs.Swept.{AreOwn}
use Rattle.ae_monoid.specs.declared.rules.Kept.{Kept}
use Rattle.ae_monoid.specs.Rules.{IsRuleOf}
use Rattle.ae_monoid.specs.Changes.{IsReducible, with_right}
use Rattle.ae_sweeps.specs.Given.{rep_in}
use Rattle.ae_just.specs.declared.steps.Step.{Step}
use Rattle.ae_equation_turns.specs.Turned.{AreRightsOwn, AreLeast, IsComposed, IsRightRenamed, IsRightReduced}
use Rattle.ae_turns.specs.Ending.{HasSameLeft, HaveSameLefts}
use Rattle.ae_turns.specs.Cleared.{AreCleared}

-- ---- the same left sides
pub lefts_same : (old new : ℕ → Option Kept) → ((n : ℕ) → new n ≡ old n) → HaveSameLefts old new
lefts_same old new e =
    record {
      stay = λ n rule at. record { rule = rule; there = e n ∙ at; symbols = refl; lefts = refl };
      alone = λ n rule at. record { rule = rule; there = sym (e n) ∙ at; symbols = refl; lefts = refl };
    }

pub lefts_then : (a b c : ℕ → Option Kept) → HaveSameLefts a b → HaveSameLefts b c → HaveSameLefts a c
lefts_then a b c f g =
    record {
      stay = λ n rule at.
          let x = f.stay n rule at in
          let y = g.stay n x.rule x.there in
          record { rule = y.rule; there = y.there; symbols = y.symbols ∙ x.symbols; lefts = y.lefts ∙ x.lefts };
      alone = λ n rule at.
          let x = g.alone n rule at in
          let y = f.alone n x.rule x.there in
          record { rule = y.rule; there = y.there; symbols = y.symbols ∙ x.symbols; lefts = y.lefts ∙ x.lefts };
    }

-- one rule has another right side
module _ (old new : ℕ → Option Kept) (number : ℕ) (rule : Kept) (right : List ℕ) (just : ℕ) (h : IsComposed old new number rule right just) where
  stays : (n : ℕ) (other : Kept) → old n ≡ Some other → Dec (n ≡ number) → HasSameLeft other.entry.symbol other.entry.left (new n)
  stays n other at (no d) = record { rule = other; there = h.others n d ∙ at; symbols = refl; lefts = refl }
  stays n other at (yes e) =
      let same : rule ≡ other = same_Some rule other (sym h.there ∙ sym (ap old e) ∙ at) in
      record { rule = with_right rule right just; there = ap new e ∙ h.is; symbols = ap (λ (k : Kept). k.entry.symbol) same; lefts = ap (λ (k : Kept). k.entry.left) same }

  stood : (n : ℕ) (other : Kept) → new n ≡ Some other → Dec (n ≡ number) → HasSameLeft other.entry.symbol other.entry.left (old n)
  stood n other at (no d) = record { rule = other; there = sym (h.others n d) ∙ at; symbols = refl; lefts = refl }
  stood n other at (yes e) =
      let same : with_right rule right just ≡ other = same_Some (with_right rule right just) other (sym h.is ∙ sym (ap new e) ∙ at) in
      record { rule = rule; there = ap old e ∙ h.there; symbols = ap (λ (k : Kept). k.entry.symbol) same; lefts = ap (λ (k : Kept). k.entry.left) same }

  pub lefts_composed : HaveSameLefts old new
  lefts_composed = record { stay = λ n other at. stays n other at (ℕ_discrete n number); alone = λ n other at. stood n other at (ℕ_discrete n number) }

  -- the rule is now the one with the new right side
  pub composed_is : (other : Kept) → new number ≡ Some other → with_right rule right just ≡ other
  composed_is other at = same_Some (with_right rule right just) other (sym h.is ∙ at)

-- ---- what holds of left sides
module _ (old new : ℕ → Option Kept) (h : HaveSameLefts old new) where
  reducible_before : (n : ℕ) → IsReducible new n → IsReducible old n
  reducible_before n i =
      let x = h.alone n i.rule i.there in
      let y = h.alone i.other (i.fits).rule (i.fits).there in
      record {
        rule = x.rule;
        there = x.there;
        other = i.other;
        is_other = i.is_other;
        fits =
            record {
              rule = y.rule;
              there = y.there;
              of = y.symbols ∙ (i.fits).of ∙ sym x.symbols;
              part = subst (λ (z : List ℕ × List ℕ). IsPart z.0 z.1) (λ j. (sym y.lefts j, sym x.lefts j)) (i.fits).part;
            };
      }

  pub cleared_still : (reps : List ℕ) → AreCleared reps old → AreCleared reps new
  cleared_still reps c =
      record {
        own = λ n rule at. let x = h.alone n rule at in subst (λ (zs : List ℕ). AreOwn (rep_in reps) zs) x.lefts (c.own n x.rule x.there);
        alone = λ n i. c.alone n (reducible_before n i);
      }

  pub reduced_still : (u : AcSymbol) (names : List ℕ) → IsReduced (IsRuleOf old u) names → IsReduced (IsRuleOf new u) names
  reduced_still u names reduced l r i part =
      let x = h.alone i.number i.rule i.there in
      reduced l (x.rule).entry.right (record { number = i.number; rule = x.rule; there = x.there; of = x.symbols ∙ i.of; left = x.lefts ∙ i.left; right = refl }) part

-- ---- in rising order
reduced_rising : (R : List ℕ → List ℕ → Type 0) (names : List ℕ) → IsReduced R names → IsReduced R (rising names)
reduced_rising R names reduced l r i part = reduced l r i (record { each = λ x. omega (arith, part.each x, count-rising x names) })

own_rising : (reps names : List ℕ) → AreOwn (rep_in reps) names → AreOwn (rep_in reps) (rising names)
own_rising reps names a = all_same (λ n. rep_in reps n ≡ n) (rising names) names (record { each = λ x. count-rising x names }) a

pub own_same : (reps : List ℕ) (old new : ℕ → Option Kept) → ((n : ℕ) → new n ≡ old n) → AreRightsOwn reps old → AreRightsOwn reps new
own_same reps old new e rights = record { each = λ n rule at. rights.each n rule (sym (e n) ∙ at) }

-- ---- a right side that is renamed
pub renamed_own : (reps equal : List ℕ) (old new : ℕ → Option Kept) (steps more : List Step) (number : ℕ) → AreLeast reps → IsRightRenamed reps equal old new steps more number
    → (other : Kept) → new number ≡ Some other → AreOwn (rep_in reps) other.entry.right
renamed_own reps equal old new steps more number least r other at =
    let right = map (rep_in reps) (r.rule).entry.right in
    subst (λ (k : Kept). AreOwn (rep_in reps) k.entry.right) (composed_is old new number r.rule right r.just r.composed other at)
    (own_rising reps right (all_of_map (λ n. rep_in reps n ≡ n) (rep_in reps) (r.rule).entry.right (all_always (λ n. rep_in reps (rep_in reps n) ≡ rep_in reps n) least.own (r.rule).entry.right)))

-- ---- a right side that is reduced
module _ (old new : ℕ → Option Kept) (steps more : List Step) (number : ℕ) (r : IsRightReduced old new steps more number) where
  pub reduced_reduced : (other : Kept) → new number ≡ Some other → IsReduced (IsRuleOf new other.entry.symbol) other.entry.right
  reduced_reduced other at =
      subst (λ (k : Kept). IsReduced (IsRuleOf new k.entry.symbol) k.entry.right) (composed_is old new number r.rule r.right r.just r.composed other at)
      (reduced_rising (IsRuleOf new (r.rule).entry.symbol) r.right
      (reduced_still old new (lefts_composed old new number r.rule r.right r.just r.composed) (r.rule).entry.symbol r.right r.reduced))

  own_by : (reps : List ℕ) → AreRightsOwn reps old → (n : ℕ) (other : Kept) → new n ≡ Some other → Dec (n ≡ number) → AreOwn (rep_in reps) other.entry.right
  own_by reps rights n other at (no d) = rights.each n other (sym ((r.composed).others n d) ∙ at)
  own_by reps rights n other at (yes e) =
      subst (λ (k : Kept). AreOwn (rep_in reps) k.entry.right) (composed_is old new number r.rule r.right r.just r.composed other (sym (ap new e) ∙ at)) (own_rising reps r.right (r.own reps rights))

  pub reduced_own : (reps : List ℕ) → AreRightsOwn reps old → AreRightsOwn reps new
  reduced_own reps rights = record { each = λ n other at. own_by reps rights n other at (ℕ_discrete n number) }
