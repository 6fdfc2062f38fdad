-- What is found of patterns: one pattern more, and what it is of an owner's matches.
use Rattle.std.specs.Prelude.{ℕ, ◌+◌, Bool, true, List, [], ◌∷◌, ◌++◌, ◌≡◌, map, Some}
use Rattle.std.specs.List.{AllByRecursion, Contains}
use Rattle.std.proofs.Common.{refl, sym, ap, ◌∙◌, subst, arith, inl, inr}
use Rattle.std.proofs.lemmas.List.Elements.{Contains-append_left, Contains-append_right, Contains-append_cases}
use Rattle.std.proofs.lemmas.Option.{same_Some, slice_get-get_or}
use Rattle.ae_base.proofs.AllOf.{all_always, all_of_map}
use Rattle.ae_base.proofs.ListFacts.{get_map}
use Rattle.ae_base.proofs.Options.{bind_some}
use Rattle.ae_base.specs.Options.{only}
use Rattle.ae_core.specs.declared.formulas.Formula.{out-Formula}
use Rattle.ae_core.specs.declared.formulas.Lit.{Lit}
use Rattle.ae_core.specs.declared.problems.Problem.{Problem}
use Rattle.ae_core.specs.declared.problems.Signature.{Signature}
use Rattle.ae_core.specs.declared.terms.Sort.{Sort}
use Rattle.ae_core.specs.declared.terms.Term.{Term}
use Rattle.ae_journal.proofs.Splits.{contains_at, contains_cases, contains_here, contains_later, contains_one}
use Rattle.ae_journal.specs.States as states
use Rattle.ae_match.specs.Seen.{seen}
use Rattle.ae_matches.specs.Answers.{HasClosedConstants, IsMatchOf, AreMatches, is_same_match}
use Rattle.ae_matching.specs.Laws.{In, IsKnownTerm, AreSame}
use Rattle.ae_owed.specs.Known.{IsYoung, AreAlike, IsFoundAt}
use Rattle.ae_owed.proofs.Moving.{match_moved}
use Rattle.ae_owners.specs.Owners.{IsOwnerIn, owner_of}
use Rattle.ae_owners.specs.declared.owners.Owner.{Owner}
use Rattle.ae_rules.specs.Matches.{IsMatch}
use Rattle.ae_store.specs.Shapes.{shapes}
use Rattle.ae_store.specs.Stores.{Stored}
use Rattle.ae_store.specs.Terms.{terms, named}
use Rattle.ae_trigger.specs.Patterns.{pattern, patterns_of}
use Rattle.ae_trigger.specs.declared.patterns.Pattern.{Pattern}
use Rattle.ae_trigger.specs.declared.patterns.Subst.{Subst}
use Rattle.ae_owed_matches.specs.Found.{AreFound}
use Rattle.ae_owed_matches.specs.Laws.{AnyMatchIsFound, FoundOnesAreMatches, LiteralPatternsAreClosed}
use Rattle.ae_owed_matches.proofs.Bridges.{known_of_young, young_of_known, same_of_alike, alike_of_same}

contains_in : {A : Type 0} (xs : List A) (y : A) → In xs y → Contains xs y
contains_in [] y i = absurd i
contains_in (x ∷ xs) y (inl e) = subst (Contains (x ∷ xs)) e (contains_here x xs)
contains_in (x ∷ xs) y (inr i) = contains_later x xs y (contains_in xs y i)

in_contains : {A : Type 0} (xs : List A) (y : A) → Contains xs y → In xs y
in_contains [] y c = absurd (let l = c.1 in omega (arith, l))
in_contains (x ∷ xs) y c = elim (contains_cases x xs y c) as (λ _. In (x ∷ xs) y) [ inl e ↦ inl e | inr r ↦ inr (in_contains xs y r) ]

-- ---- one pattern more
module _ (s : Stored) (alike : ℕ → ℕ → Bool) (n : ℕ) where
  pub none_found : AreFound s alike n [] []
  none_found = record { sound = λ m c. absurd (let l = c.1 in omega (arith, l)); complete = λ p m c i. absurd (let l = c.1 in omega (arith, l)) }

  pub found_more : (ps : List Pattern) (p : Pattern) (ms more : List Subst) → AreFound s alike n ps ms → AreMatches s alike (n + 1) p more → AreFound s alike n (ps ++ p ∷ []) (ms ++ more)
  found_more ps p ms more f a = record {
    sound = λ m c. elim (Contains-append_cases ms more m c) as (λ _. (q : Pattern) × Contains (ps ++ p ∷ []) q × IsMatchOf s alike (n + 1) q m) [
      | inl l ↦ (let r = f.sound m l in (r.0, Contains-append_left ps (p ∷ []) r.0 r.1, r.2))
      | inr r ↦ (p, Contains-append_right ps (p ∷ []) p (contains_here p []), a.sound m (in_contains more m r))
    ];
    complete = λ q m c i. elim (Contains-append_cases ps (p ∷ []) q c) as (λ _. (b : Subst) × Contains (ms ++ more) b × (is_same_match alike m b ≡ true)) [
      | inl l ↦ (let r = f.complete q m l i in (r.0, Contains-append_left ms more r.0 r.1, r.2))
      | inr r ↦
          (let e = a.complete m (subst (λ (z : Pattern). IsMatchOf s alike (n + 1) z m) (sym (contains_one p q r)) i) in
          (e.answer, Contains-append_right ms more e.answer (contains_in more e.answer e.among), e.same))
    ];
  }

-- ---- an owner's matches
pub contains_map : {A B : Type 0} (f : A → B) (xs : List A) (x : A) → Contains xs x → Contains (map f xs) (f x)
contains_map f xs x c = contains_at (map f xs) c.0 (f x) (get_map f xs c.0 x (slice_get-get_or xs c.0 x c.1 ∙ ap (λ z. Some z) c.2))

-- an element of what a list is mapped to
pub from_map : {A B : Type 0} (f : A → B) (xs : List A) (y : B) → Contains (map f xs) y → (x : A) × Contains xs x × (f x ≡ y)
from_map f [] y c = absurd (let l = c.1 in omega (arith, l))
from_map f (x ∷ xs) y c =
    elim (contains_cases (f x) (map f xs) y c) [ inl e ↦ (x, contains_here x xs, e) | inr r ↦ (let k = from_map f xs y r in (k.0, contains_later x xs k.0 k.1, k.2)) ]

module _ (p : Problem) (g : ℕ) (s : Stored) (alike : ℕ → ℕ → Bool) (n : ℕ) (w : Owner) (same : s.signature ≡ p.signature) (right : IsOwnerIn p g w) where
  abbrev value : ℕ → Term
  value = named (terms (shapes s.nodes))

  -- a match of the owner is one of one of its patterns
  pub pattern_for : (us : List Sort) (ns : List ℕ) (ts : List Term) (f : IsFoundAt p g s alike n (owner_of w) us ts) → map value ns ≡ ts
      → (q : Pattern) × Contains w.patterns q
      × IsMatch s.signature (IsKnownTerm (seen s.signature s.nodes) (n + 1)) (AreSame (seen s.signature s.nodes) alike) q.sort_vars q.vars q.terms us (map value ns)
  pattern_for us ns ts f e =
      let one : right.pattern ≡ f.pattern = same_Some right.pattern f.pattern (sym right.is ∙ f.of_owner) in
      let q = pattern f.pattern.type_vars f.pattern.vars f.trigger in
      let there : Contains (patterns_of f.pattern) q = contains_map (pattern f.pattern.type_vars f.pattern.vars) f.pattern.choices f.trigger f.chosen in
      let m = match_moved p.signature (IsYoung s n) (IsKnownTerm (seen s.signature s.nodes) (n + 1)) (known_of_young s n) (AreAlike s alike) (AreSame (seen s.signature s.nodes) alike) (λ t u a b c. same_of_alike s alike t u c) us ts
      f.pattern.type_vars f.pattern.vars f.trigger f.matches in (
        q,
        subst (λ (z : List Pattern). Contains z q) (ap patterns_of (sym one) ∙ sym right.patterns) there,
        subst (λ (z : Signature × List Term). IsMatch z.0 (IsKnownTerm (seen s.signature s.nodes) (n + 1)) (AreSame (seen s.signature s.nodes) alike) f.pattern.type_vars f.pattern.vars f.trigger us z.1) (λ i. (sym same i, sym e i)) m,
      )

  pub found_of : (q : Pattern) (m : Subst) → Contains w.patterns q → IsMatchOf s alike (n + 1) q m → IsFoundAt p g s alike n (owner_of w) m.sorts (map value m.terms)
  found_of q m c i =
      let k = from_map (pattern right.pattern.type_vars right.pattern.vars) right.pattern.choices q (subst (λ (z : List Pattern). Contains z q) right.patterns c) in
      let j : IsMatch p.signature (IsKnownTerm (seen s.signature s.nodes) (n + 1)) (AreSame (seen s.signature s.nodes) alike) right.pattern.type_vars right.pattern.vars k.0 m.sorts (map value m.terms) =
      subst (λ (z : Signature × Pattern). IsMatch z.0 (IsKnownTerm (seen s.signature s.nodes) (n + 1)) (AreSame (seen s.signature s.nodes) alike) z.1.sort_vars z.1.vars z.1.terms m.sorts (map value m.terms)) (λ a. (same a, sym k.2 a)) i.is in
      record {
        pattern = right.pattern;
        of_owner = right.is;
        trigger = k.0;
        chosen = k.1;
        matches = match_moved p.signature (IsKnownTerm (seen s.signature s.nodes) (n + 1)) (IsYoung s n) (young_of_known s n) (AreSame (seen s.signature s.nodes) alike) (AreAlike s alike) (λ t u a b c. alike_of_same s alike t u c)
            m.sorts (map value m.terms) right.pattern.type_vars right.pattern.vars k.0 j;
      }

pub found_ones_are_matches : FoundOnesAreMatches
found_ones_are_matches p g s alike n w ms m same right f c = let r = f.sound m c in found_of p g s alike n w same right r.0 m r.1 r.2

pub any_match_is_found : AnyMatchIsFound
any_match_is_found p g s alike n w us ns same right within = (
  λ a. found_of p g s alike n w same right a.0 (record { sorts = us; terms = ns }) a.1 a.2,
  λ f. let z = pattern_for p g s alike n w same right us ns (map (named (terms (shapes s.nodes))) ns) f refl in (z.0, z.1, record { within = within; is = z.2 }),
)

-- ---- constants
literal_vars : (p : Problem) (g : ℕ) (l : Lit) (q : states.Pattern) → states.pattern_of p g (states.of_literal l) ≡ Some q → q.type_vars ≡ 0
literal_vars p g l q e =
    let b = bind_some (only (states.is_universal l) (states.quant_of (out-Formula l.formula))) (λ z. Some (states.literal_pattern p.signature z)) q e in
    ap (λ (z : states.Pattern). z.type_vars) (sym (same_Some (states.literal_pattern p.signature b.0) q b.2))

pub literal_patterns_are_closed : LiteralPatternsAreClosed
literal_patterns_are_closed p g w l right own =
    let v : right.pattern.type_vars ≡ 0 = literal_vars p g l right.pattern (sym (ap (states.pattern_of p g) own) ∙ right.is) in
    subst (AllByRecursion HasClosedConstants) (sym right.patterns)
    (all_of_map HasClosedConstants (pattern right.pattern.type_vars right.pattern.vars) right.pattern.choices
    (all_always (λ t. HasClosedConstants (pattern right.pattern.type_vars right.pattern.vars t)) (λ t. record { none = λ i h. absurd (omega (arith, h, v)) }) right.pattern.choices))
