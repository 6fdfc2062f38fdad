-- What a search that has started stands on: its names, and lawful clauses that its lines state.
use Rattle.std.specs.Prelude.{ℕ, List, [], ◌≡◌, ◌⊎◌, length, Some}
use Rattle.std.specs.List.{Contains}
use Rattle.std.proofs.Common.{sym, ◌∙◌, subst, append-nil}
use Rattle.ae_core.specs.declared.problems.Problem.{Problem}
use Rattle.ae_core.specs.declared.proofs.ClauseLine.{ClauseLine}
use Rattle.ae_core.specs.declared.terms.Term.{Term}
use Rattle.ae_rules.specs.Clauses.{Clause}
use Rattle.ae_rules.specs.Instances.{exhaustion}
use Rattle.ae_explain.specs.declared.trail.Assigned.{Assigned}
use Rattle.ae_journal.specs.Standing.{IsEntered}
use Rattle.ae_journal.specs.declared.lines.Line.{Line}
use Rattle.ae_store.specs.Stores.{Stored}
use Rattle.ae_theory.specs.Names.{terms_in, IsNamedBy}
use Rattle.ae_sat.specs.Search.{AllNamed, IsStated, IsLawfulState}
use Rattle.ae_sat.specs.Standing.{IsOneOf}
use Rattle.ae_open_states.specs.Choices.{IsChoiceOf}
use Rattle.ae_first_clauses.specs.First.{search_setting}
use Rattle.ae_first_names.proofs.FirstNames.{all_named, entered_of, stands}
use Rattle.ae_choice_clauses.proofs.Begun.{choices_entered, choices_named, choices_chosen, choices_stated, choices_lawful}
use Rattle.ae_started.specs.Started.{AreOwn}
use Rattle.ae_goal_search.specs.Started.{IsStarted}

module _ (p : Problem) (g : ℕ) (lines : List ClauseLine) (clauses : List Clause) (s : Stored) (start : IsStarted p g lines clauses s) where
  pub same_signature : p.signature ≡ s.signature
  same_signature = sym (start.choices.signature ∙ start.names.named.signature ∙ start.names.signature)

  pub terms_named : AllNamed s clauses
  terms_named =
      choices_named p g start.before s start.firsts lines start.first clauses start.choices (all_named p g start.firsts start.first start.begun start.names.before start.before start.names.named)

  first_entered : (names : List Term) (t : Term) → Contains (terms_in start.before) t → IsEntered (search_setting p g names) [] t
  first_entered names t h =
      entered_of p g start.firsts start.first start.begun names t
      (stands p g start.firsts start.first start.begun start.names.before start.before start.names.signature start.names.empty start.names.named t h)

  pub names_entered : (js : List Line) → js ≡ [] → IsNamedBy (search_setting p g (terms_in s)) s js
  names_entered js e =
      subst (IsNamedBy (search_setting p g (terms_in s)) s) (sym e)
      (record {
        signature = same_signature;
        more = [];
        names = sym (append-nil (terms_in s));
        entered = choices_entered p g start.before s start.firsts lines start.first clauses start.choices (terms_in s) (first_entered (terms_in s));
      })

  -- a name of an enumeration is a constructor or has its clause
  pub chosen : (u : Term) (c : Clause) → Contains (terms_in s) u → exhaustion p.signature u ≡ Some c → IsChoiceOf p.signature u u ⊎ IsOneOf clauses c
  chosen = choices_chosen p g start.before s start.firsts lines start.first clauses start.choices start.lawful.signature

  module _ (own : List Clause) (places : List ℕ) (same : own ≡ clauses) (numbered : AreOwn (length clauses) places) where
    pub lines_state : IsStated p g lines own places
    lines_state =
        subst (λ (cs : List Clause). IsStated p g lines cs places) (sym same)
        (choices_stated p g start.before s start.firsts lines start.first clauses start.choices start.begun places numbered.size numbered.own)

    pub lawful_first : (t : List Assigned) (n : ℕ) (js : List Line) → t ≡ [] → n ≡ 0 → js ≡ [] → IsLawfulState (search_setting p g (terms_in s)) t own n lines js
    lawful_first t n js a b c =
        subst (λ (y : List Assigned × List Clause × ℕ × List Line). IsLawfulState (search_setting p g (terms_in s)) y.0 y.1 y.2 lines y.3)
        (λ i. (sym a i, sym same i, sym b i, sym c i))
        (choices_lawful p g start.before s start.firsts lines start.first clauses start.choices start.begun (terms_in s) (first_entered (terms_in s)))
