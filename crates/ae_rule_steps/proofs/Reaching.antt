-- A reduction with its steps, turn by turn.
use Rattle.std.specs.Prelude.{ℕ, ◌<◌, ◌≡◌, List, [], ◌∷◌, ◌++◌, length, Option, Some}
use Rattle.std.specs.List.Sorted.{IsNonDecreasing}
use Rattle.std.proofs.Common.{refl, sym, ap, ◌∙◌, subst, inl, inr}
use Rattle.std.proofs.lemmas.Option.{slice_get_within}
use Rattle.ae_base.proofs.AllOf.{all_append}
use Rattle.ae_core.specs.declared.terms.Term.{Term}
use Rattle.ae_core.specs.declared.problems.AcSymbol.{AcSymbol}
use Rattle.ae_core.specs.declared.problems.Signature.{Signature}
use Rattle.ae_multiset.specs.Multisets.{IsSame, count, rising}
use Rattle.ae_multiset.specs.Rewriting.{Step, ReducesTo, done, more}
use Rattle.ae_multiset.proofs.Counts.{same, back, then}
use Rattle.ae_multiset.proofs.Rising.{count-rising}
use Rattle.ae_store.specs.Growing.{IsFront}
use Rattle.ae_store.specs.Parts.{IsIn}
use Rattle.ae_store.proofs.EnterLaws.{front_then}
use Rattle.ae_store.proofs.PartLaws.{in_none, in_front, in_last, in_pushed, is_one}
use Rattle.ae_just.specs.declared.steps.Step as just_step
use Rattle.ae_just.specs.Steps.{Fits}
use Rattle.ae_just.proofs.EmitLaws.{rest_on_earlier}
use Rattle.ae_state_steps.specs.ManySteps.{IsOfSort, StatesMany}
use Rattle.ae_multiset_steps.specs.Equating.{RestsOnThese, AreNamesOf}
use Rattle.ae_multiset_steps.proofs.Fronts.{many_kept}
use Rattle.ae_multiset_steps.proofs.Lists.{all_same}
use Rattle.ae_multiset_steps.proofs.Resting.{rests_as_before, rests_through_two, rests_wider}
use Rattle.ae_monoid.specs.declared.rules.Kept.{Kept}
use Rattle.ae_monoid.specs.Rules.{IsRuleOf}
use Rattle.ae_monoid.specs.Reductions.{IsTurned}
use Rattle.ae_rule_steps.specs.Said.{IsSaid, IsJustOf, RestsOnRules}

pub record IsReaching (sig : Signature) (ts : List Term) (kept : ℕ → Option Kept) (symbol : AcSymbol) (names : List ℕ) (old steps : List just_step.Step) (now : List ℕ) (step : ℕ) : Type 0 where
  pub of : AreNamesOf sig ts symbol now
  pub follows : ReducesTo (IsRuleOf kept symbol) names now
  pub rises : IsNonDecreasing now
  pub states : StatesMany steps step symbol names now
  pub rests : RestsOnRules kept symbol old steps step
  pub stays : IsFront old steps
  pub fits : Fits sig ts steps

-- one step more behind others
pub then_step : (R : List ℕ → List ℕ → Type 0) {a b c : List ℕ} → ReducesTo R a b → Step R b c → ReducesTo R a c
then_step R (done s) t = more (record { left = t.left; right = t.right; rule = t.rule; rest = t.rest; before = then s t.before; after = t.after }) (done (same _))
then_step R (more s r) t = more s (then_step R r t)

pub said_kept : (sig : Signature) (ts : List Term) (old new : List just_step.Step) → IsFront old new → (rule : Kept) → IsSaid sig ts old rule → IsSaid sig ts new rule
said_kept sig ts old new f rule s = record { names = s.names; states = many_kept old new f rule.just rule.entry.symbol rule.entry.left rule.entry.right s.states }

module _ (sig : Signature) (ts : List Term) (kept : ℕ → Option Kept) (symbol : AcSymbol) (names : List ℕ) (old : List just_step.Step) where
  pub reaching_none : (steps : List just_step.Step) (now : List ℕ) (step : ℕ) → AreNamesOf sig ts symbol now → IsSame names now → IsNonDecreasing now → StatesMany steps step symbol names now
      → RestsOnThese old steps step [] → IsFront old steps
      → Fits sig ts steps → IsReaching sig ts kept symbol names old steps now step
  reaching_none steps now step of alike rises states rests front fits =
      record {
        of = of;
        follows = done alike;
        rises = rises;
        states = states;
        rests = record { given = []; are = λ j m. absurd (in_none j m); rests = rests };
        stays = front;
        fits = fits;
      }

  -- the turn's step rests on the rules' justifications
  rests_more : (steps new : List just_step.Step) (number : ℕ) (rule : Kept) (step id : ℕ) → kept number ≡ Some rule → rule.entry.symbol ≡ symbol → rule.just < length old → IsFront old steps → Fits sig ts steps
      → RestsOnRules kept symbol old steps step → RestsOnThese steps new id (step ∷ rule.just ∷ []) → RestsOnRules kept symbol old new id
  rests_more steps new number rule step id there of below front fits r h =
      let given : List ℕ = r.given ++ rule.just ∷ [] in
      let before = rests_wider old steps step r.given given (record { each = λ j m. in_front j r.given (rule.just ∷ []) m }) r.rests in
      let own = rests_wider old steps rule.just (rule.just ∷ []) given (record { each = λ j m. subst (λ (x : ℕ). IsIn x given) (sym (is_one j rule.just m)) (in_last rule.just r.given) })
      (rests_as_before old steps front (rest_on_earlier sig ts steps fits.allowed) rule.just below) in
      record { given = given; are = are; rests = rests_through_two old steps new id step rule.just given h before own }
    where
      are : (j : ℕ) → IsIn j (r.given ++ rule.just ∷ []) → IsJustOf kept symbol j
      are j m = elim (in_pushed j rule.just r.given m) [ inl i ↦ r.are j i | inr e ↦ record { number = number; rule = rule; there = there; of = of; is = sym e } ]

  pub reaching_more : (steps new : List just_step.Step) (now after : List ℕ) (step id number : ℕ) (rule : Kept) → IsReaching sig ts kept symbol names old steps now step → kept number ≡ Some rule → rule.entry.symbol ≡ symbol
      → IsSaid sig ts old rule → IsTurned rule now after → AreNamesOf sig ts symbol after → IsNonDecreasing after → StatesMany new id symbol names after → RestsOnThese steps new id (step ∷ rule.just ∷ []) → IsFront steps new
      → Fits sig ts new → IsReaching sig ts kept symbol names old new after id
  reaching_more steps new now after step id number rule i there of said turned names' rises states rests front fits =
      record {
        of = names';
        follows = then_step (IsRuleOf kept symbol) i.follows (record {
          left = rule.entry.left;
          right = rule.entry.right;
          rule = record { number = number; rule = rule; there = there; of = of; left = refl; right = refl };
          rest = turned.rest;
          before = turned.before;
          after = turned.after;
        });
        rises = rises;
        states = states;
        rests = rests_more steps new number rule step id there of (slice_get_within old rule.just _ said.states.there) i.stays i.fits i.rests rests;
        stays = front_then old steps new i.stays front;
        fits = fits;
      }

-- the names in rising order
pub same_spelled : (names first : List ℕ) → first ≡ rising names → IsSame names first
same_spelled names first e = record { each = λ x. sym (ap (count x) e ∙ count-rising x names) }

pub names_spelled : (sig : Signature) (ts : List Term) (symbol : AcSymbol) (names first : List ℕ) → first ≡ rising names → AreNamesOf sig ts symbol names → AreNamesOf sig ts symbol first
names_spelled sig ts symbol names first e a = record { sort = a.sort; symbol = a.symbol; of_names = a.of_names; sorted = all_same (IsOfSort sig ts a.sort) first names (back (same_spelled names first e)) a.sorted }

pub names_twice : (sig : Signature) (ts : List Term) (symbol : AcSymbol) (names first : List ℕ) → first ≡ rising names → AreNamesOf sig ts symbol names → AreNamesOf sig ts symbol (names ++ first)
names_twice sig ts symbol names first e a =
    let P = IsOfSort sig ts a.sort in
    record { sort = a.sort; symbol = a.symbol; of_names = a.of_names; sorted = all_append P names first a.sorted (all_same P first names (back (same_spelled names first e)) a.sorted) }
