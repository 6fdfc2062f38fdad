-- The clause of a term of an enumeration, and which terms are among some.
use Rattle.std.specs.Prelude.{List, [], ◌∷◌, ◌≡◌, ◌⊎◌, map, Some}
use Rattle.std.specs.List.{Contains}
use Rattle.std.proofs.Common.{sym, ◌∙◌, subst, arith, inl, inr}
use Rattle.std.proofs.lemmas.Option.{same_Some}
use Rattle.ae_base.proofs.Options.{bind_some}
use Rattle.ae_base.specs.Options.{◌>>=◌}
use Rattle.ae_core.specs.Decided.{Term_discrete}
use Rattle.ae_core.specs.Sorts.{sort_of}
use Rattle.ae_core.specs.declared.formulas.Formula.{Eq}
use Rattle.ae_core.specs.declared.problems.Signature.{Signature}
use Rattle.ae_core.specs.declared.terms.Head.{Head}
use Rattle.ae_core.specs.declared.terms.Sort.{Sort, out-Sort}
use Rattle.ae_core.specs.declared.terms.Term.{Term}
use Rattle.ae_journal.proofs.Splits.{contains_cases, contains_here, contains_later}
use Rattle.ae_open_states.proofs.Choices.{choice, exhaustion_is, made_of}
use Rattle.ae_open_states.specs.Choices.{IsChoiceOf}
use Rattle.ae_rules.specs.Clauses.{Clause, is_true}
use Rattle.ae_rules.specs.Instances.{choices_of, exhaustion}

-- the clause is of literals that the term is a constructor
pub heads_of : (sig : Signature) (u : Term) (c : Clause) → exhaustion sig u ≡ Some c → (hs : List Head) × (c ≡ map (choice u) hs)
heads_of sig u c e =
    let s = bind_some (sort_of sig u) (λ (o : Sort). choices_of sig (out-Sort o) >>= λ (hs : List Head). Some (map (choice u) hs)) c e in
    let h = bind_some (choices_of sig (out-Sort s.0)) (λ (hs : List Head). Some (map (choice u) hs)) c s.2 in
    (h.0, sym (same_Some (map (choice u) h.0) c h.2))

-- that of a constructor has the equation of it with itself
pub has_itself : (sig : Signature) (u : Term) (c : Clause) → exhaustion sig u ≡ Some c → IsChoiceOf sig u u → Contains c (is_true (Eq u u))
has_itself sig u c e k =
    let own : Contains (map (choice u) k.heads) (choice u k.head) = made_of (choice u) k.heads k.head k.one in
    subst (λ (d : Clause). Contains d (is_true (Eq u u))) (same_Some (map (choice u) k.heads) c (sym (exhaustion_is sig u k.sort k.heads k.sorted k.choices) ∙ e))
    (subst (λ (w : Term). Contains (map (choice u) k.heads) (is_true (Eq u w))) (sym k.is) own)

-- a term is among some, or it isn't
pub has_term : (ts : List Term) (u : Term) → Contains ts u ⊎ (Contains ts u → ⊥)
has_term [] u = inr (λ h. absurd (omega (arith, h.1)))
has_term (w ∷ ts) u = by_head (Term_discrete w u) (has_term ts u)
  where
    by_head : Dec (w ≡ u) → Contains ts u ⊎ (Contains ts u → ⊥) → Contains (w ∷ ts) u ⊎ (Contains (w ∷ ts) u → ⊥)
    by_head (yes e) r = inl (subst (Contains (w ∷ ts)) e (contains_here w ts))
    by_head (no d) (inl h) = inl (contains_later w ts u h)
    by_head (no d) (inr n) = inr (λ h. elim (contains_cases w ts u h) as (λ _. ⊥) [ inl e ↦ d e | inr m ↦ n m ])
