-- What a search leaves.
use Rattle.std.specs.Prelude.{ℕ, List, [], ◌++◌, ◌≡◌, length}
use Rattle.std.proofs.Common.{sym, ap, ◌∙◌, subst}
use Rattle.ae_core.specs.declared.problems.Problem.{Problem}
use Rattle.ae_core.specs.declared.proofs.ClauseLine.{ClauseLine}
use Rattle.ae_rules.specs.Clauses.{Clause}
use Rattle.ae_rules.specs.Derivations.{AreAllowed}
use Rattle.ae_explain.specs.declared.trail.Assigned.{Assigned}
use Rattle.ae_journal.specs.Legal.{AreLegal}
use Rattle.ae_journal.specs.Licences.{IsLicensed}
use Rattle.ae_journal.specs.Standing.{Setting}
use Rattle.ae_journal.specs.declared.answers.WideAt.{WideAt}
use Rattle.ae_journal.specs.declared.lines.Line.{Line}
use Rattle.ae_store.specs.Stores.{Stored}
use Rattle.ae_theory.specs.Names.{terms_in, IsNamedBy}
use Rattle.ae_sat.specs.Search.{IsStated, IsLawfulState, NotesLegally}
use Rattle.ae_first_clauses.specs.First.{search_setting}
use Rattle.ae_started.specs.Started.{AreOwn}
use Rattle.ae_goal_search.specs.Started.{IsStarted}
use Rattle.ae_goal_search.specs.Ended.{IsLeft}
use Rattle.ae_goal_search.proofs.Begun.{same_signature, names_entered, lines_state, lawful_first}

module _ (p : Problem) (g : ℕ) (lines : List ClauseLine) (clauses : List Clause) (s : Stored) (start : IsStarted p g lines clauses s) (js : List Line) (none : js ≡ []) where
  -- before the first step
  pub left_early : IsLeft p g s js lines
  left_early = record { allowed = start.choices.allowed start.begun.allowed; legal = λ bound. subst (AreLegal (search_setting p g (terms_in s)) bound []) (sym none) tt }

  left_so : (ks : List Line) (more : List ClauseLine) → AreAllowed p g [] more → ((bound : ℕ) → NotesLegally (search_setting p g (terms_in s)) bound js ks) → IsLeft p g s ks more
  left_so ks more a h = record {
    allowed = a;
    legal = λ bound.
        let n = h bound in
        subst (λ (y : List Line × List Line). AreLegal (search_setting p g (terms_in s)) bound y.0 y.1) (λ i. (none i, sym (n.is ∙ ap (λ (ws : List Line). ws ++ n.added) none) i)) n.legal;
  }

  -- a solver at its start: its clauses, their places, its trail, and how many literals are expanded
  module _ (own : List Clause) (places : List ℕ) (t : List Assigned) (n : ℕ) (same : own ≡ clauses) (numbered : AreOwn (length clauses) places) (bare : t ≡ []) (nothing : n ≡ 0) (ks : List Line) where
    pub left_after : (Y : Setting → Type 0) (more : List ClauseLine) → ((q : Problem) (m : ℕ) → q.signature ≡ s.signature → IsStated q m lines own places → AreAllowed q m [] more)
        → ((x : Setting) (bound : ℕ) → IsNamedBy x s js → IsStated x.problem x.goal lines own places → IsLawfulState x t own n lines js → NotesLegally x bound js ks × Y x) → IsLeft p g s ks more
    left_after Y more a h =
        let st = lines_state p g lines clauses s start own places same numbered in
        left_so ks more (a p g (same_signature p g lines clauses s start) st)
        (λ bound. (h (search_setting p g (terms_in s)) bound (names_entered p g lines clauses s start js none) st (lawful_first p g lines clauses s start own places same numbered t n js bare nothing none)).0)

    pub wide_after : (wide : WideAt) → ((x : Setting) → IsNamedBy x s js → IsStated x.problem x.goal lines own places → IsLawfulState x t own n lines js → IsLicensed x ks wide) → IsLicensed (search_setting p g (terms_in s)) ks wide
    wide_after wide h =
        h (search_setting p g (terms_in s)) (names_entered p g lines clauses s start js none) (lines_state p g lines clauses s start own places same numbered)
        (lawful_first p g lines clauses s start own places same numbered t n js bare nothing none)
