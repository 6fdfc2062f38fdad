-- The rules of a completed system have normal forms, which a function finds.
use Rattle.std.specs.Prelude.{ℕ, zero, suc, Bool, true, false, cond, ◌&&◌, List, [], ◌∷◌, ◌≡◌, slice_get, Some}
use Rattle.std.proofs.Common.{inl, inr}
use mathlib.Core.Path.{refl, sym, ap, ◌∙◌, subst}
use native.Mathlib.Omega.{arith}
use Rattle.ae_base.specs.Decided.{decided}
use Rattle.ae_core.specs.Decided.{Head_discrete}
use Rattle.ae_core.specs.Sorts.{same_sorts}
use Rattle.ae_core.specs.declared.terms.Sort.{Sort}
use Rattle.ae_core.specs.declared.terms.Head.{Head}
use Rattle.ae_core.specs.declared.problems.Signature.{Signature}
use Rattle.ae_multiset.specs.Multisets.{IsLess}
use Rattle.ae_multiset.specs.Rewriting.{ReducesTo}
use Rattle.ae_multiset.specs.Rewriting.ReducesTo.{done, more}
use Rattle.ae_multiset.specs.Normal as normal
use Rattle.ae_multiset.proofs.Reducing.{rules_split, is_normal_form}
use Rattle.ae_journal.specs.Systems.{IsRule, IsCompleted}
use Rattle.ae_journal.specs.Evaluation.{Reduction}
use Rattle.ae_journal.specs.Evaluate.{sides_at, reduced_by}
use Rattle.ae_evaluation.proofs.Decisions.{same_head, same_list, yes_sorts}
use Rattle.ae_journal.specs.declared.systems.RuleEntry.{RuleEntry}
use Rattle.ae_journal.specs.declared.systems.System.{System}
use Rattle.ae_base.proofs.Decided.{decided_of}
use Rattle.std.proofs.lemmas.Bool.{and_parts}

abbrev pub Stands : List RuleEntry → Head → List Sort → List ℕ → List ℕ → Type 0
Stands es h ss l r = (k : ℕ) × (slice_get es k ≡ Some (record { symbol = record { head = h; sorts = ss }; left = l; right = r }))

later : (e : List ℕ × List ℕ) (es : List (List ℕ × List ℕ)) (l r : List ℕ) → normal.IsRule es l r → normal.IsRule (e ∷ es) l r
later e es l r h = (suc h.0, omega (arith, h.1), h.2)

here : (e : List ℕ × List ℕ) (es : List (List ℕ × List ℕ)) (l r : List ℕ) → e ≡ (l, r) → normal.IsRule (e ∷ es) l r
here e es l r q = (zero, omega arith, q)

pub to_sides : (es : List RuleEntry) (h : Head) (ss : List Sort) (l r : List ℕ) → Stands es h ss l r → normal.IsRule (sides_at h ss es) l r
to_sides [] h ss l r s = absurd (go s.0 s.1)
  where
    go : (k : ℕ) → slice_get {X = RuleEntry} [] k ≡ Some (record { symbol = record { head = h; sorts = ss }; left = l; right = r }) → ⊥
    go k e = cc
to_sides (e ∷ es) h ss l r s = by_place (to_sides es h ss l r) s.0 s.1
  where
    skip : (b : Bool) → normal.IsRule (sides_at h ss es) l r
        → normal.IsRule (cond b ((e.left, e.right) ∷ sides_at h ss es) (sides_at h ss es)) l r
    skip true i = later (e.left, e.right) (sides_at h ss es) l r i
    skip false i = i

    by_place : (Stands es h ss l r → normal.IsRule (sides_at h ss es) l r) → (k : ℕ)
        → slice_get (e ∷ es) k ≡ Some (record { symbol = record { head = h; sorts = ss }; left = l; right = r })
        → normal.IsRule (sides_at h ss (e ∷ es)) l r
    by_place ih (suc k) q = skip (decided (Head_discrete e.symbol.head h) && same_sorts e.symbol.sorts ss) (ih (k, q))
    by_place ih zero q =
        let z : e ≡ record { symbol = record { head = h; sorts = ss }; left = l; right = r } = cc in
        let a : decided (Head_discrete e.symbol.head h) ≡ true =
        decided_of (Head_discrete e.symbol.head h) (ap (λ (f : RuleEntry). f.symbol.head) z) in
        let b : same_sorts e.symbol.sorts ss ≡ true = ap (λ (f : RuleEntry). same_sorts f.symbol.sorts ss) z ∙ yes_sorts ss in
        subst (λ (c : Bool). normal.IsRule (cond c ((e.left, e.right) ∷ sides_at h ss es) (sides_at h ss es)) l r) (sym (λ i. a i && b i))
        (here (e.left, e.right) (sides_at h ss es) l r (λ i. ((z i).left, (z i).right)))

pub from_sides : (es : List RuleEntry) (h : Head) (ss : List Sort) (l r : List ℕ) → normal.IsRule (sides_at h ss es) l r
    → Stands es h ss l r
from_sides [] h ss l r s = absurd (omega (arith, s.1))
from_sides (e ∷ es) h ss l r s =
    by_test (from_sides es h ss l r) (decided (Head_discrete e.symbol.head h) && same_sorts e.symbol.sorts ss) refl s
  where
    next : Stands es h ss l r → Stands (e ∷ es) h ss l r
    next q = (suc q.0, q.1)

    by_test : (normal.IsRule (sides_at h ss es) l r → Stands es h ss l r) → (b : Bool)
        → b ≡ decided (Head_discrete e.symbol.head h) && same_sorts e.symbol.sorts ss
        → normal.IsRule (cond b ((e.left, e.right) ∷ sides_at h ss es) (sides_at h ss es)) l r → Stands (e ∷ es) h ss l r
    by_test ih false z s = next (ih s)
    by_test ih true z s =
        let p = and_parts (decided (Head_discrete e.symbol.head h)) (same_sorts e.symbol.sorts ss) (sym z) in
        let a = same_head e.symbol.head h p.0 in
        let b = same_list e.symbol.sorts ss p.1 in
        elim (rules_split (e.left, e.right) (sides_at h ss es) l r s) as (λ _. Stands (e ∷ es) h ss l r) [
          | inl q ↦ (zero, λ i. Some (record { symbol = record { head = a i; sorts = b i }; left = (q i).0; right = (q i).1 }))
          | inr q ↦ next (ih q)
        ]

module _ (R S : List ℕ → List ℕ → Type 0) (to : (l r : List ℕ) → R l r → S l r) where
  follows_by : {a b : List ℕ} → ReducesTo R a b → ReducesTo S a b
  follows_by (done p) = done p
  follows_by (more s f) =
      more (record { left = s.left; right = s.right; rule = to s.left s.right s.rule; rest = s.rest; before = s.before; after = s.after })
      (follows_by f)

-- the normal forms of rules that fall
pub reduction_of : (y : System) → ((k : ℕ) (e : RuleEntry) → slice_get y.rules k ≡ Some e → IsLess e.right e.left) → Reduction y (reduced_by y)
reduction_of y falls h ss =
    let nf = is_normal_form (sides_at h ss y.rules) (λ l r i. let q = from_sides y.rules h ss l r i in falls q.0 _ q.1) in
    record {
      follows = λ a. follows_by (normal.IsRule (sides_at h ss y.rules)) (IsRule y h ss) (from_sides y.rules h ss) (nf.follows a);
      reduced = λ a l r i p. nf.reduced a l r (to_sides y.rules h ss l r i) p;
      rises = nf.rises;
    }

module _ (sig : Signature) (y : System) (completed : IsCompleted sig y) where
  pub reduction : Reduction y (reduced_by y)
  reduction = reduction_of y (λ k e i. (completed.rules_fit k e i).falls)
