-- Conflicts of steps that stand for others.
use Rattle.std.specs.Prelude.{ℕ, List}
use Rattle.std.proofs.Common.{sym, ◌∙◌, subst}
use Rattle.ae_core.specs.declared.terms.Term.{Term}
use Rattle.ae_core.specs.declared.formulas.Lit.{Lit}
use Rattle.ae_core.specs.declared.problems.Signature.{Signature}
use Rattle.ae_just.specs.declared.steps.Step.{Step}
use Rattle.ae_conflicts.specs.declared.assumed.Assumed.{Assumed}
use Rattle.ae_conflicts.specs.Conflicting.{IsDenied, AreMixed, IsConstant, IsUnsolvable}
use Rattle.ae_conflicts.specs.Saying.{IsAssumedAt, SaysEqual}
use Rattle.ae_short_derivations.specs.Shortened.{IsShort}

module _ (sig : Signature) (ts : List Term) (steps : List Step) (held : List (ℕ × Assumed)) (id : ℕ) (short : List Step) (n : ℕ) (a : IsShort sig ts steps id short n) where
  says_short : (l r : Term) → SaysEqual ts steps held id l r → SaysEqual ts short held n l r
  says_short l r h =
      let w = a.says h.step h.is in
      record {
        step = w.step;
        is = w.is;
        states = w.same ∙ h.states;
        rests = record {
          each = λ k tag s on at e.
              let b = a.assumes k tag s at e in
              let p = (h.rests).each b.number tag b.step b.rests b.is b.assumed in
              (p.0, subst (λ (x : Lit). IsAssumedAt held p.0 x tag) (sym b.same) p.1);
        };
      }

  pub denied_short : (place : ℕ) → IsDenied ts steps held place id → IsDenied ts short held place n
  denied_short place d = record { left = d.left; right = d.right; tag = d.tag; denied = d.denied; says = says_short d.left d.right d.says }

  pub mixed_short : AreMixed sig ts steps held id → AreMixed sig ts short held n
  mixed_short d = record { first = d.first; second = d.second; first_is = d.first_is; second_is = d.second_is; differ = d.differ; says = says_short _ _ d.says }

  pub constant_short : IsConstant sig ts steps held id → IsConstant sig ts short held n
  constant_short d = record { left = d.left; right = d.right; numbers = d.numbers; number = d.number; other = d.other; says = says_short d.left d.right d.says }

  pub unsolvable_short : IsUnsolvable sig ts steps held id → IsUnsolvable sig ts short held n
  unsolvable_short d = record { left = d.left; right = d.right; integers = d.integers; unsolvable = d.unsolvable; says = says_short d.left d.right d.says }
