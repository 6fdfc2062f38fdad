-- The clause of a term of an enumeration: it is one of the constructors of its sort.
use Rattle.std.specs.Prelude.{List, [], ◌∷◌, ◌≡◌, map, Option, Some}
use Rattle.std.specs.List.{Contains}
use Rattle.std.proofs.Common.{ap, ◌∙◌, subst, arith, inl, inr}
use Rattle.ae_base.specs.Options.{◌>>=◌}
use Rattle.ae_core.specs.Sorts.{sort_of}
use Rattle.ae_core.specs.declared.terms.Sort.{Sort, out-Sort}
use Rattle.ae_core.specs.declared.terms.Term.{Term, Apply}
use Rattle.ae_core.specs.declared.terms.Head.{Head}
use Rattle.ae_core.specs.declared.formulas.Formula.{Eq}
use Rattle.ae_core.specs.declared.formulas.Lit.{Lit}
use Rattle.ae_core.specs.declared.problems.Signature.{Signature}
use Rattle.ae_rules.specs.Clauses.{is_true}
use Rattle.ae_rules.specs.Instances.{choices_of, exhaustion}
use Rattle.ae_journal.proofs.Splits.{contains_here, contains_later, contains_cases}

-- the literal that a term is a constructor
abbrev pub choice : Term → Head → Lit
choice u h = is_true (Eq u (Apply h [] []))

-- ---- what is made of each head
pub of_head : {X : Type 0} (f : Head → X) (hs : List Head) (x : X) → Contains (map f hs) x → (h : Head) × Contains hs h × (f h ≡ x)
of_head f [] x c = absurd (let k = c.1 in omega (arith, k))
of_head f (h ∷ hs) x c = elim (contains_cases (f h) (map f hs) x c) as (λ _. (k : Head) × Contains (h ∷ hs) k × (f k ≡ x)) [
  | inl e ↦ (h, contains_here h hs, e)
  | inr d ↦ (let r = of_head f hs x d in (r.0, contains_later h hs r.0 r.1, r.2))
]

pub made_of : {X : Type 0} (f : Head → X) (hs : List Head) (h : Head) → Contains hs h → Contains (map f hs) (f h)
made_of f [] h c = absurd (let k = c.1 in omega (arith, k))
made_of f (k ∷ hs) h c = elim (contains_cases k hs h c) as (λ _. Contains (map f (k ∷ hs)) (f h)) [
  | inl e ↦ subst (λ (w : Head). Contains (f k ∷ map f hs) (f w)) e (contains_here (f k) (map f hs))
  | inr d ↦ contains_later (f k) (map f hs) (f h) (made_of f hs h d)
]

pub exhaustion_is : (sig : Signature) (u : Term) (o : Sort) (hs : List Head) → sort_of sig u ≡ Some o → choices_of sig (out-Sort o) ≡ Some hs → exhaustion sig u ≡ Some (map (choice u) hs)
exhaustion_is sig u o hs so ch =
    ap (λ (x : Option Sort). x >>= λ s. choices_of sig (out-Sort s) >>= λ cs. Some (map (choice u) cs)) so
    ∙ ap (λ (x : Option (List Head)). x >>= λ cs. Some (map (choice u) cs)) ch
