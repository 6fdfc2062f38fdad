-- What earlier steps state, and equations of terms of one sort.
use Rattle.std.specs.Prelude.{ℕ, ◌≡◌, true, List, map, slice_get, Option, Some}
use Rattle.std.proofs.Common.{refl, ap, ◌∙◌}
use Rattle.ae_base.specs.Options.{◌>>=◌}
use Rattle.ae_base.proofs.Decided.{decided_of}
use Rattle.ae_base.proofs.ListFacts.{get_map}
use Rattle.ae_core.specs.Decided.{Sort_discrete}
use Rattle.ae_core.specs.Sorts.{same_known}
use Rattle.ae_core.specs.declared.terms.Sort.{Sort}
use Rattle.ae_core.specs.declared.terms.Term.{Term}
use Rattle.ae_core.specs.declared.proofs.EqLine.{EqLine}
use Rattle.ae_rules.specs.Lines.{Fact, equal, states, Stated}
use Rattle.ae_just.specs.declared.steps.Rule.{Rule}
use Rattle.ae_just.specs.declared.steps.Rule.TheVariants as rule
use Rattle.ae_just.specs.declared.steps.Step.{Step}
use Rattle.ae_just.specs.Sides.{side_term}
use Rattle.ae_just.specs.Steps.{fact_of, own_line, line_by}

own_states : (l r : Term) (by : Rule) → states (line_by 0 l r by) ≡ equal l r
own_states l r (rule.Hyp tag) = refl
own_states l r rule.Refl = refl
own_states l r (rule.Sym k) = refl
own_states l r (rule.Trans j k) = refl
own_states l r (rule.Cong ks) = refl
own_states l r rule.Ac = refl
own_states l r (rule.Lin d ps) = refl
own_states l r rule.Field = refl
own_states l r (rule.Fields ks) = refl

pub stated_by : (ts : List Term) (steps : List Step) (id : ℕ) (s : Step) → slice_get steps id ≡ Some s → Stated (map (own_line ts) steps) id (fact_of ts s)
stated_by ts steps id s e =
    ap (λ (o : Option EqLine). o >>= λ l. Some (states l)) (get_map (own_line ts) steps id s e) ∙ ap (λ (f : Fact). Some f) (own_states (side_term ts s.left) (side_term ts s.right) s.rule)

pub one_sort : (s : Sort) (o p : Option Sort) → o ≡ Some s → p ≡ Some s → same_known o p ≡ true
one_sort s o p e f = (λ i. same_known (e i) (f i)) ∙ decided_of (Sort_discrete s s) refl
