-- The arguments of a name of an AC symbol reduce to its representative.
use Rattle.std.specs.Prelude.{ℕ, ◌<◌, List, [], ◌∷◌, ◌≡◌, map, length, Some}
use Rattle.std.specs.List.{AllByRecursion}
use Rattle.std.proofs.Common.{refl, sym, ap, ◌∙◌, subst}
use Rattle.ae_base.proofs.ListFacts.{cons_head, cons_tail}
use Rattle.ae_core.specs.declared.terms.Sort.{Sort}
use Rattle.ae_core.specs.declared.terms.Term.{Term, Apply}
use Rattle.ae_core.specs.declared.terms.Head.{Head}
use Rattle.ae_multiset.specs.Rewriting.{ReducesTo}
use Rattle.ae_journal.specs.Systems.{IsName, IsRule, IsJoin, StandsFor}
use Rattle.ae_store.specs.Terms.{named}
use Rattle.ae_settled.specs.Held.{Held, HasRule, terms_of, system_of}
use Rattle.ae_settled.specs.Settled.{IsSettled}
use Rattle.ae_settled.proofs.Nodes.{named_at, application}
use Rattle.ae_settled.proofs.Alike.{stands_by}
use Rattle.ae_settled.proofs.Entries.{from_rule, follows_by}

-- two names of two terms
pub record AreTwo (ts : List Term) (names : List ℕ) (a b : Term) : Type 0 where
  pub first : ℕ
  pub second : ℕ
  pub are : names ≡ first ∷ second ∷ []
  pub first_is : named ts first ≡ a
  pub second_is : named ts second ≡ b

two_names : (ts : List Term) (names : List ℕ) (a b : Term) → map (named ts) names ≡ a ∷ b ∷ [] → AreTwo ts names a b
two_names ts [] a b e = absurd (cc)
two_names ts (i ∷ []) a b e = let r = cons_tail (named ts i) a [] (b ∷ []) e in absurd (cc)
two_names ts (i ∷ j ∷ []) a b e =
    record { first = i; second = j; are = refl; first_is = cons_head (named ts i) a (named ts j ∷ []) (b ∷ []) e; second_is = cons_head (named ts j) b [] [] (cons_tail (named ts i) a (named ts j ∷ []) (b ∷ []) e) }
two_names ts (i ∷ j ∷ k ∷ names) a b e =
    let r = cons_tail (named ts j) b (named ts k ∷ map (named ts) names) [] (cons_tail (named ts i) a (named ts j ∷ named ts k ∷ map (named ts) names) (b ∷ []) e) in absurd (cc)

module _ (x : Held) (settled : IsSettled x) where
  pub joins : (n : ℕ) (h : Head) (ss : List Sort) (a b : Term) (p q r : ℕ) → IsName (system_of x) n (Apply h ss (a ∷ b ∷ [])) → IsJoin x.signature h a b
      → StandsFor x.signature (system_of x) a p → StandsFor x.signature (system_of x) b q → StandsFor x.signature (system_of x) (Apply h ss (a ∷ b ∷ [])) r
      → ReducesTo (IsRule (system_of x) h ss) (p ∷ q ∷ []) (r ∷ [])
  joins n h ss a b p q r e j f g k =
      let i = application x.signature x.nodes settled.store n h ss (a ∷ b ∷ []) e in
      let t = two_names (terms_of x) i.node.args a b i.shape.args in
      let within = subst (AllByRecursion (λ (c : ℕ). c < length (terms_of x))) t.are i.within in
      let join : IsJoin x.signature h (named (terms_of x) t.first) (named (terms_of x) t.second) =
      subst (λ (z : Term). IsJoin x.signature h (named (terms_of x) t.first) z) (sym t.second_is) (subst (λ (z : Term). IsJoin x.signature h z b) (sym t.first_is) j) in
      let flat : ReducesTo (HasRule x.rules (record { head = h; sorts = ss })) (x.rep t.first ∷ x.rep t.second ∷ []) (x.rep n ∷ []) =
      settled.swept.flat n i.node (record { head = h; sorts = ss }) t.first t.second i.at (record { head = i.shape.heads; sorts = i.shape.sorts; args = t.are; joins = join }) in
      let first : x.rep t.first ≡ p = stands_by x settled t.first p a (named_at (terms_of x) t.first within.0 ∙ ap (λ z. Some z) t.first_is) f in
      let second : x.rep t.second ≡ q = stands_by x settled t.second q b (named_at (terms_of x) t.second within.1.0 ∙ ap (λ z. Some z) t.second_is) g in
      let own : x.rep n ≡ r = stands_by x settled n r (Apply h ss (a ∷ b ∷ [])) e k in
      let moved = follows_by (HasRule x.rules (record { head = h; sorts = ss })) (IsRule (system_of x) h ss) (from_rule x settled.rules.below h ss) flat in
      subst (λ z. ReducesTo (IsRule (system_of x) h ss) (p ∷ q ∷ []) (z ∷ [])) own
      (subst (λ z. ReducesTo (IsRule (system_of x) h ss) (p ∷ z ∷ []) (x.rep n ∷ [])) second (subst (λ z. ReducesTo (IsRule (system_of x) h ss) (z ∷ x.rep t.second ∷ []) (x.rep n ∷ [])) first moved))
