-- Parts of goals of the ground fragment.
use Rattle.std.specs.Prelude.{ℕ, List, ◌≡◌, slice_get, Some, None}
use Rattle.std.proofs.Common.{sym, ap, ◌∙◌}
use Rattle.std.proofs.lemmas.Option.{none-some}
use Rattle.ae_base.specs.Options.{◌>>=◌}
use Rattle.ae_core.specs.declared.formulas.Formula.{Formula}
use Rattle.ae_core.specs.declared.problems.Item.{Item}
use Rattle.ae_core.specs.declared.problems.Item.TheVariants.{Axiom, Goal}
use Rattle.ae_core.specs.declared.problems.Problem.{Problem}
use Rattle.ae_journal.specs.Ground.{IsGround}
use Rattle.ae_journal.specs.declared.answers.Answer.TheVariants.{Valid, Unknown, Steps, Number}
use Rattle.ae_rules.specs.Derivations.{goal_body}
use Rattle.ae_search_options.specs.declared.limits.Limits.{Limits}
use Rattle.ae_goal_parts.specs.Ground.{IsGroundPart, has_proof, has_state, has_journal, has_width}
use Rattle.ae_goal_parts.specs.Parts.{IsPart, of_axiom, of_goal}

no_axiom : (p : Problem) (k : ℕ) (name : List ℕ) (vars : ℕ) (body goal : Formula) → slice_get p.items k ≡ Some (Axiom name vars body) → goal_body p k ≡ Some goal → ⊥
no_axiom p k name vars body goal e g =
    none-some goal (sym (ap (λ o. o >>= λ (i : Item). elim i [ Axiom n v f ↦ None | Goal n v f ↦ Some f ]) e) ∙ g)

pub ground_part : (p : Problem) (k : ℕ) (limits : Limits) (bytes : List ℕ) → IsGround p k → IsPart p k limits bytes → IsGroundPart p k limits bytes
ground_part p k limits bytes g (of_axiom name vars body e w) = absurd (no_axiom p k name vars body g.goal e g.is)
ground_part p k limits bytes g (of_goal name vars body (Valid proof) e r w) = has_proof name proof (vars, body, e) (r.ground g) w
ground_part p k limits bytes g (of_goal name vars body (Unknown st) e r w) = has_state name st (vars, body, e) r.answer (r.ground g) w
ground_part p k limits bytes g (of_goal name vars body (Steps story) e r w) = has_journal name story (vars, body, e) (r.answer).0 (r.answer).1 w
ground_part p k limits bytes g (of_goal name vars body (Number story at) e r w) = has_width name story at (vars, body, e) r.answer w
