-- Where no AC symbol is applied and no rule is held, nothing but congruent names is left to do.
use Rattle.std.specs.Prelude.{ℕ, List, [], ◌∷◌}
use Rattle.std.proofs.Common.{sym, ap, ◌∙◌}
use Rattle.std.proofs.lemmas.Option.{none-some}
use Rattle.ae_core.specs.declared.terms.Term.{Term, Apply}
use Rattle.ae_journal.proofs.Splits.{contains_at}
use Rattle.ae_store.specs.Stores.{Stored, IsStore}
use Rattle.ae_store.specs.Terms.{named}
use Rattle.ae_sweeps.specs.Gaps.{IsUnflat, IsOpen}
use Rattle.ae_sweeps.specs.Given.{entry_of}
use Rattle.ae_theory.specs.Names.{terms_in}
use Rattle.ae_state.specs.declared.holding.Holding.{Holding}
use Rattle.ae_state.specs.Names.{rules_now}
use Rattle.ae_turns.specs.Budget.{MayNote}
use Rattle.ae_gaps.proofs.JoinedSorts.{join_there}

module _ (s : Stored) (o : Holding) (n : ℕ) (h : MayNote o s n) where
  -- no name applies an AC symbol
  pub no_unflat : IsStore s.signature s.nodes → (rep : ℕ → ℕ) (k : ℕ) (a : List ℕ) → IsUnflat s.signature s.nodes rep (rules_now o) k a → ⊥
  no_unflat store rep k a u =
      let ts = terms_in s in
      let v = u.symbol in
      let it : Term = Apply v.head v.sorts (named ts u.left ∷ named ts u.right ∷ []) in
      h.no_joins v.head v.sorts (named ts u.left) (named ts u.right) (contains_at ts k it (join_there s.signature s.nodes store k u.node v u.left u.right u.at u.joins)) (u.joins).joins

  -- no two rules overlap
  pub no_pair : (i j : ℕ) (a b : List ℕ) → IsOpen (rules_now o) i j a b → ⊥
  no_pair i j a b u = none-some u.first (sym (ap entry_of (h.no_rules i)) ∙ (u.pair).first)
