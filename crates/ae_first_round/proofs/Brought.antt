-- Clauses that are brought at generation 0, one after the other.
use Rattle.std.specs.Prelude.{ℕ, ◌+◌, ◌<◌, ◌≡◌, take, get_or, List, [], ◌∷◌, ◌++◌, length}
use Rattle.std.specs.List.{Contains}
use Rattle.std.proofs.Common.{sym, ap, ◌∙◌, subst, arith, inl, inr}
use Rattle.std.proofs.lemmas.List.{take_more}
use Rattle.std.proofs.lemmas.List.Elements.{Contains-append_cases, Contains-append_left, Contains-append_right}
use Rattle.ae_ages.specs.Interned.{IsHad}
use Rattle.ae_ages.specs.declared.entries.Aged.{Aged}
use Rattle.ae_brought_clauses.specs.Brought.{AreBrought}
use Rattle.ae_core.specs.declared.terms.Term.{Term}
use Rattle.ae_first_round.specs.Inner.First.{AreAllBrought}
use Rattle.ae_goal_names.proofs.Joining.{as_many, both_named, flat_push, none_named}
use Rattle.ae_goal_names.specs.Named.{HasNamed, all_terms, clause_terms}
use Rattle.ae_journal.proofs.Splits.{contains_here, contains_one}
use Rattle.ae_rules.specs.Clauses.{Clause}
use Rattle.ae_store.specs.Stores.{Stored}
use Rattle.ae_theory.specs.Names.{terms_in}

pub none_all : (s : Stored) (es : List Aged) → AreAllBrought s es s es []
none_all s es = record {
  named = none_named s;
  had = λ c l h k. absurd (let i = h.1 in omega (arith, i));
  stay = λ h a. a;
  justified = λ x bound same has terms ages. (terms, ages);
}

one_all : (a : Stored) (es : List Aged) (b : Stored) (fs : List Aged) (d : Stored) (gs : List Aged) (cs : List Clause) (c : Clause) → AreAllBrought a es b fs cs → AreBrought [] 0 b fs d gs c → AreAllBrought a es d gs (cs ++ c ∷ [])
one_all a es b fs d gs cs c x y = record {
  named = subst (HasNamed a d) (sym (flat_push clause_terms cs c)) (both_named a b d (all_terms cs) (clause_terms c) x.named y.named);
  had = λ k l h i. elim (Contains-append_cases cs (c ∷ []) k h) as (λ _. IsHad d gs 0 l.formula) [
    | inl j ↦ y.stay 0 l.formula (x.had k l j i)
    | inr j ↦ y.had l (subst (λ (w : Clause). Contains w l) (sym (contains_one c k j)) i)
  ];
  stay = λ h i. y.stay 0 h (x.stay h i);
  justified = λ z bound same has terms ages.
      let m = x.justified z bound same (λ k l h i. has k l (Contains-append_left cs (c ∷ []) k h) i) terms ages in
      y.justified z bound [] (x.named.signature ∙ same) (λ f n i. absurd (let j = i.1 in omega (arith, j)))
      (λ l i lt. has c l (Contains-append_right cs (c ∷ []) c (contains_here c [])) i) m.0 m.1;
}

-- one of some clauses more
pub next_all : (a : Stored) (es : List Aged) (b : Stored) (fs : List Aged) (d : Stored) (gs : List Aged) (cs : List Clause) (i : ℕ) (c : Clause) → i < length cs → c ≡ get_or cs i c → AreAllBrought a es b fs (take i cs)
    → AreBrought [] 0 b fs d gs c → AreAllBrought a es d gs (take (i + 1) cs)
next_all a es b fs d gs cs i c lt e x y =
    subst (AreAllBrought a es d gs) (sym (take_more cs i c lt ∙ ap (λ (w : Clause). take i cs ++ w ∷ []) (sym e))) (one_all a es b fs d gs (take i cs) c x y)

-- an empty store has no terms
pub no_terms : {P : Type 0} (s : Stored) → s.nodes ≡ [] → (t : Term) → Contains (terms_in s) t → P
no_terms s empty t h = absurd (let i = h.1 in let n = as_many s in let z = ap length empty in omega (arith, i, n, z))
