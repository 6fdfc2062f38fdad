-- What steps that rest on assumed literals state follows from equations that may stand.
use Rattle.std.specs.Prelude.{ℕ, Bool, true, false, List, [], ◌∷◌, ◌==◌, ◌≡◌, if◌then◌else◌, Option, Some}
use Rattle.std.specs.List.{Contains}
use Rattle.std.proofs.Common.{sym, subst}
use Rattle.std.proofs.lemmas.Option.{none-some, same_Some}
use Rattle.ae_conflicts.specs.Saying.{tagged, RestsOnAssumed}
use Rattle.ae_conflicts.specs.declared.assumed.Assumed.{Assumed}
use Rattle.ae_core.specs.declared.formulas.Lit.{Lit}
use Rattle.ae_core.specs.declared.terms.Term.{Term}
use Rattle.ae_core.specs.declared.problems.Signature.{Signature}
use Rattle.ae_follows.proofs.Following.{step_is_consequence}
use Rattle.ae_journal.specs.Standing.{Setting, MayEquate, MayFollow, MayStand}
use Rattle.ae_journal.specs.declared.lines.Line.{Line}
use Rattle.ae_journal.proofs.Splits.{contains_here, contains_later}
use Rattle.ae_just.specs.Steps.{Fits, literal}
use Rattle.ae_just.specs.declared.steps.Side.TheVariants as side
use Rattle.ae_just.specs.declared.steps.Step.{Step}
use Rattle.ae_pmap.specs.Forest.{present}
use Rattle.ae_pmap.specs.Pairs.{found}
use Rattle.ae_state.specs.Names.{assumed_in}
use Rattle.ae_state.specs.declared.holding.Holding.{Holding}
use Rattle.ae_state_steps.specs.ValueSteps.{StatesEqual}
use Rattle.ae_store.specs.Stores.{Stored}
use Rattle.ae_store.specs.Terms.{named}
use Rattle.ae_theory.specs.Names.{IsNamedBy, terms_in}
use Rattle.ae_theory.specs.Noting.{MayAll, literals}

-- a literal that is assumed at a place is one of those that are assumed
contains_by : (b : Bool) (x : Assumed) (ls : List Lit) (e : Assumed) (q : Option Assumed) → (q ≡ Some e → Contains ls e.lit) → (if b then Some x else q) ≡ Some e → Contains (x.lit ∷ ls) e.lit
contains_by true x ls e q later f = subst (λ (y : Assumed). Contains (x.lit ∷ ls) y.lit) (same_Some x e f) (contains_here x.lit ls)
contains_by false x ls e q later f = contains_later x.lit ls e.lit (later f)

pub assumed_there : (held : List (ℕ × Assumed)) (place : ℕ) (e : Assumed) → found held place ≡ Some e → Contains (literals (tagged held)) e.lit
assumed_there [] place e f = absurd (none-some e f)
assumed_there (p ∷ held) place e f = contains_by (p.0 == place) p.1 (literals (tagged held)) e (found held place) (assumed_there held place e) f

module _ (o : Holding) (s : Stored) (steps : List Step) (fits : Fits s.signature (terms_in s) steps) (x : Setting) (js : List Line) (named_by : IsNamedBy x s js)
    (may : MayAll x (literals (assumed_in o)) js) where
  abbrev ts : List Term
  ts = terms_in s

  stands : (place : ℕ) (e : Assumed) (l : Lit) → found (present o.assumed) place ≡ Some e → e.lit ≡ l → MayStand x js l
  stands place e l at is = subst (MayStand x js) is (may e.lit (assumed_there (present o.assumed) place e at))

  pub may_follow : (id m n : ℕ) → StatesEqual steps id m n → RestsOnAssumed ts steps (present o.assumed) id → MayFollow x js (named ts m) (named ts n)
  may_follow id m n e r =
      step_is_consequence x.problem.signature ts steps (MayEquate x js) (subst (λ (sig : Signature). Fits sig ts steps) (sym named_by.signature) fits) id
      (record { left = side.Name m; right = side.Name n; rule = e.by }) e.there
      (record { each = λ k tag st q at is. let w = r.each k tag st q at is in stands w.0 (w.1).entry (literal ts st) (w.1).at (w.1).lit_is })
