-- Step after step.
use Rattle.std.specs.Prelude.{ℕ, ◌+◌, ◌<◌, ◌⊎◌, List, length, slice_get}
use Rattle.std.proofs.Common.{refl, sym, ap, ◌∙◌, arith, inl, inr}
use Rattle.std.proofs.lemmas.Bool.{cases_eq}
use Rattle.ae_between_rounds.specs.Between.{Holds}
use Rattle.ae_between_rounds.specs.Held.{HaveChoices}
use Rattle.ae_between_rounds.specs.declared.search.Search.{Search}
use Rattle.ae_core.specs.declared.problems.Problem.{Problem}
use Rattle.ae_core.specs.declared.problems.Signature.{Signature}
use Rattle.ae_entered_names.specs.Inner.Choosing.{GoesOn, IsChosenAt, IsSameBeside}
use Rattle.ae_open_states.specs.Choices.{IsChoiceOf}
use Rattle.ae_rules.specs.Clauses.{Clause}
use Rattle.ae_sat.specs.Standing.{IsOneOf}
use Rattle.ae_store.specs.Stores.{Stored}
use Rattle.ae_theory.specs.Names.{terms_in}

pub same_itself : (o : Search) → IsSameBeside o o
same_itself o = record { trail = refl; theory = refl; journal = refl; blocks = refl; ages = refl; owners = refl; instances = refl }

pub same_then : (a b c : Search) → IsSameBeside a b → IsSameBeside b c → IsSameBeside a c
same_then a b c x y = record {
  trail = y.trail ∙ x.trail;
  theory = y.theory ∙ x.theory;
  journal = y.journal ∙ x.journal;
  blocks = y.blocks ∙ x.blocks;
  ages = y.ages ∙ x.ages;
  owners = y.owners ∙ x.owners;
  instances = y.instances ∙ x.instances;
}

module _ (p : Problem) (g bound : ℕ) where
  pub goes_nowhere : (o : Search) → Holds p g bound o → GoesOn p g bound o o
  goes_nowhere o h = record {
    searching = λ level s. s;
    holds = h;
    extends = record { signature = refl; keeps = λ i t e. e };
    lines = omega arith;
    kept = λ c i. i;
    quantifiers = λ ds. omega arith;
  }

  pub goes_then : (a b c : Search) → GoesOn p g bound a b → GoesOn p g bound b c → GoesOn p g bound a c
  goes_then a b c x y = record {
    searching = λ level s. y.searching level (x.searching level s);
    holds = y.holds;
    extends = record { signature = y.extends.signature ∙ x.extends.signature; keeps = λ i t e. y.extends.keeps i t (x.extends.keeps i t e) };
    lines = (let k = x.lines in let m = y.lines in omega (arith, k, m));
    kept = λ d i. y.kept d (x.kept d i);
    quantifiers = λ ds. (let k = x.quantifiers ds in let m = y.quantifiers ds in omega (arith, k, m));
  }

-- a name more was looked at
pub one_looked : (sig : Signature) (s : Stored) (n : ℕ) (clauses : List Clause) → n < length s.nodes → IsChosenAt sig (terms_in s) n clauses → HaveChoices sig s n clauses → HaveChoices sig s (n + 1) clauses
one_looked sig s n clauses lt own h = record {
  within = omega (arith, lt);
  chosen = λ k u c l at e. elim (cases_eq k n) as (λ _. IsChoiceOf sig u u ⊎ IsOneOf clauses c) [
    | inl q ↦ own u (ap (slice_get (terms_in s)) (sym q) ∙ at) c e
    | inr d ↦ h.chosen k u c (omega (arith, l, d)) at e
  ];
}
