-- Steps that equate names are allowed.
use Rattle.std.specs.Prelude.{ℕ, ◌≡◌, true, List, map, Option, Some}
use Rattle.std.proofs.Common.{refl, sym, ap, ◌∙◌}
use Rattle.ae_base.specs.Options.{◌>>=◌, known}
use Rattle.ae_base.proofs.ListFacts.{get_map}
use Rattle.ae_core.proofs.SortFacts.{same_known_is, same_known_of}
use Rattle.ae_core.specs.Sorts.{sort_of}
use Rattle.ae_core.specs.declared.terms.Term.{Term}
use Rattle.ae_core.specs.declared.problems.Signature.{Signature}
use Rattle.ae_core.specs.declared.proofs.EqLine.{EqLine}
use Rattle.ae_rules.specs.Lines.{Fact, equal, states, Stated}
use Rattle.ae_store.specs.Terms.{named}
use Rattle.ae_just.specs.declared.steps.Side.TheVariants as side
use Rattle.ae_just.specs.declared.steps.Rule.{Rule}
use Rattle.ae_just.specs.declared.steps.Rule.TheVariants as rule
use Rattle.ae_just.specs.declared.steps.Step.{Step}
use Rattle.ae_just.specs.Steps.{Fits, IsAllowedStep, own_line, line_by}
use Rattle.ae_state_steps.specs.ValueSteps.{StatesEqual}

line_states : (l r : Term) (by : Rule) → states (line_by 0 l r by) ≡ equal l r
line_states l r (rule.Hyp tag) = refl
line_states l r rule.Refl = refl
line_states l r (rule.Sym k) = refl
line_states l r (rule.Trans j k) = refl
line_states l r (rule.Cong ks) = refl
line_states l r rule.Ac = refl
line_states l r (rule.Lin d ps) = refl
line_states l r rule.Field = refl
line_states l r (rule.Fields ks) = refl

-- what a step that equates two names states
equal_line : (ts : List Term) (steps : List Step) (id m n : ℕ) → StatesEqual steps id m n → Stated (map (own_line ts) steps) id (equal (named ts m) (named ts n))
equal_line ts steps id m n h =
    ap (λ (o : Option EqLine). o >>= λ l. Some (states l)) (get_map (own_line ts) steps id (record { left = side.Name m; right = side.Name n; rule = h.by }) h.there)
    ∙ ap (λ (f : Fact). Some f) (line_states (named ts m) (named ts n) h.by)

pub itself_step : (sig : Signature) (ts : List Term) (steps : List Step) (n : ℕ) → known (sort_of sig (named ts n)) ≡ true
    → IsAllowedStep sig ts steps (record { left = side.Name n; right = side.Name n; rule = rule.Refl })
itself_step sig ts steps n k = record { sorted = same_known_of (sort_of sig (named ts n)) (sort_of sig (named ts n)) k refl; allowed = refl }

module _ (sig : Signature) (ts : List Term) (steps : List Step) (fits : Fits sig ts steps) where
  pub chained_step : (l m r first second : ℕ) → StatesEqual steps first l m → StatesEqual steps second m r → IsAllowedStep sig ts steps (record { left = side.Name l; right = side.Name r; rule = rule.Trans first second })
  chained_step l m r first second a b =
      let p = same_known_is (sort_of sig (named ts l)) (sort_of sig (named ts m)) (fits.allowed.each first (record { left = side.Name l; right = side.Name m; rule = a.by }) a.there).sorted in
      let q = same_known_is (sort_of sig (named ts m)) (sort_of sig (named ts r)) (fits.allowed.each second (record { left = side.Name m; right = side.Name r; rule = b.by }) b.there).sorted in
      record {
        sorted = same_known_of (sort_of sig (named ts l)) (sort_of sig (named ts r)) p.0 (p.1 ∙ q.1);
        allowed = (named ts m, equal_line ts steps first l m a, equal_line ts steps second m r b);
      }

  pub turned_step : (l r id : ℕ) → StatesEqual steps id r l → IsAllowedStep sig ts steps (record { left = side.Name l; right = side.Name r; rule = rule.Sym id })
  turned_step l r id a =
      let p = same_known_is (sort_of sig (named ts r)) (sort_of sig (named ts l)) (fits.allowed.each id (record { left = side.Name r; right = side.Name l; rule = a.by }) a.there).sorted in
      record { sorted = same_known_of (sort_of sig (named ts l)) (sort_of sig (named ts r)) (ap known (sym p.1) ∙ p.0) (sym p.1); allowed = equal_line ts steps id r l a }
