use Rattle.std.proofs.Common.{◌≡◌, ℕ, ◌<◌, List, [], ◌∷◌, ◌++◌, refl, sym, ◌∙◌, ap, arith, Option, Some, None, subst, length, get_or, inl, inr}
use Rattle.std.proofs.lemmas.Bool.{cases_lt}
use Rattle.std.proofs.lemmas.Bool.Decides.{nat_tests}
use Rattle.ae_pmap.specs.Pairs.{AllAbove, Rises}
use Rattle.ae_pmap.specs.Walk.{left_above, left_after, first_of, IsPast}
use Rattle.ae_pmap.specs.declared.nodes.Node.{Node}
use Rattle.ae_pmap.specs.Trees.{pairs}
use Rattle.ae_pmap.specs.Nodes.{tree_at}
use Rattle.ae_pmap.specs.Forest.{Forest, AllNamed, IsRoot, valued}
use Rattle.ae_pmap.proofs.PairLemmas.{AllBelow}
use Rattle.ae_pmap.proofs.Values.{valued_step}
use Rattle.std.proofs.lemmas.Option.{slice_get_read}
use Rattle.ae_pmap.proofs.Opened.{Opened}
use Rattle.ae_pmap.proofs.Searches.{parts, entries}

-- the first pair of a list, or else another
abbrev pub first_or : Option (ℕ × ℕ) → Option (ℕ × ℕ) → Option (ℕ × ℕ)
first_or None b = b
first_or (Some p) b = Some p

abbrev pub next_pair : Option ℕ → List (ℕ × ℕ) → Option (ℕ × ℕ)
next_pair last ps = first_of (left_after last ps)

pub next-left : (last : Option ℕ) (k v : ℕ) (ps qs : List (ℕ × ℕ)) → IsPast last k → next_pair last (ps ++ (k, v) ∷ qs) ≡ first_or (next_pair last ps) (Some (k, v))
next-left None k v [] qs h = refl
next-left None k v (p ∷ ps) qs h = refl
next-left (Some last) k v [] qs h = grind (arith, nat_tests)
next-left (Some last) k v (p ∷ ps) qs h = elim (cases_lt last p.0) as (λ _. next_pair (Some last) (p ∷ (ps ++ (k, v) ∷ qs)) ≡ first_or (next_pair (Some last) (p ∷ ps)) (Some (k, v))) [
  | inl lt ↦ grind (arith, nat_tests)
  | inr ge ↦ grind (arith, nat_tests, next-left (Some last) k v ps qs h)
]

pub next-right : (last : Option ℕ) (k v : ℕ) (ps qs : List (ℕ × ℕ)) → ¬ (IsPast last k) → AllBelow k ps → next_pair last (ps ++ (k, v) ∷ qs) ≡ next_pair last qs
next-right None k v ps qs h a = absurd (h tt)
next-right (Some last) k v [] qs h a = grind (arith, nat_tests)
next-right (Some last) k v (p ∷ ps) qs h a = grind (arith, nat_tests, next-right (Some last) k v ps qs h a.1, a.0)

pub none_next : (last : Option ℕ) → next_pair last [] ≡ None
none_next None = refl
none_next (Some last) = refl

pub first_or-assoc : (a : Option (ℕ × ℕ)) (p : ℕ × ℕ) (b : Option (ℕ × ℕ)) → first_or (first_or a (Some p)) b ≡ first_or a (Some p)
first_or-assoc None p b = refl
first_or-assoc (Some q) p b = refl

-- what the walk still has after a pair
left-all : (last : ℕ) (ps : List (ℕ × ℕ)) → AllAbove last ps → left_after (Some last) ps ≡ ps
left-all last [] h = refl
left-all last (p ∷ ps) h = grind (arith, nat_tests, h.0)

left-head : (q : ℕ × ℕ) (qs : List (ℕ × ℕ)) → Rises (q ∷ qs) → left_after (Some q.0) (q ∷ qs) ≡ qs
left-head q qs h = let e = left-all q.0 qs h.0 in grind (arith, nat_tests, e)

next_above : (k last : ℕ) (ps : List (ℕ × ℕ)) (p : ℕ × ℕ) → AllAbove k ps → next_pair (Some last) ps ≡ Some p → k < p.0
next_above k last [] p h e = cc
next_above k last (q ∷ qs) p h e = elim (cases_lt last q.0) as (λ _. k < p.0) [
  | inl lt ↦ grind (arith, nat_tests, h.0, e)
  | inr ge ↦ grind (arith, nat_tests, next_above k last qs p h.1, e)
]

pub left-next : (last : Option ℕ) (ps : List (ℕ × ℕ)) (p : ℕ × ℕ) → Rises ps → Some p ≡ next_pair last ps → left_after last ps ≡ p ∷ left_after (Some p.0) ps
left-next None [] p h e = cc
left-next None (q ∷ qs) p h e =
    let i : p ≡ q = cc in
    subst (λ (x : ℕ × ℕ). q ∷ qs ≡ x ∷ left_after (Some x.0) (q ∷ qs)) (sym i) (ap (λ (xs : List (ℕ × ℕ)). q ∷ xs) (sym (left-head q qs h)))
left-next (Some last) [] p h e = cc
left-next (Some last) (q ∷ qs) p h e = elim (cases_lt last q.0) as (λ _. left_after (Some last) (q ∷ qs) ≡ p ∷ left_after (Some p.0) (q ∷ qs)) [
  | inl lt ↦
      let t : left_after (Some last) (q ∷ qs) ≡ q ∷ qs = grind (arith, nat_tests) in
      let i : Some p ≡ Some q = e ∙ ap first_of t in
      let j : p ≡ q = cc in
      t ∙ subst (λ (x : ℕ × ℕ). q ∷ qs ≡ x ∷ left_after (Some x.0) (q ∷ qs)) (sym j) (ap (λ (xs : List (ℕ × ℕ)). q ∷ xs) (sym (left-head q qs h)))
  | inr ge ↦
      let t : left_after (Some last) (q ∷ qs) ≡ left_after (Some last) qs = grind (arith, nat_tests) in
      let i : Some p ≡ next_pair (Some last) qs = e ∙ ap first_of t in
      let above : q.0 < p.0 = next_above q.0 last qs p h.0 (sym i) in
      let u : left_after (Some p.0) (q ∷ qs) ≡ left_after (Some p.0) qs = grind (arith, nat_tests) in
      t ∙ (left-next (Some last) qs p h.1 i ∙ ap (λ (xs : List (ℕ × ℕ)). p ∷ xs) (sym u))
]

pub none_left : (xs : List (ℕ × ℕ)) → None ≡ first_of xs → xs ≡ []
none_left [] e = refl
none_left (x ∷ xs) e = cc

-- a search for the next pair at a node
module _ (nodes : List Node) (place : ℕ) (n : Node) (o : Opened nodes place n) (rises : Rises (pairs (tree_at nodes place))) (last : Option ℕ) (best : Option (ℕ × ℕ)) where
  pub walk_left : IsPast last n.key → first_or (next_pair last (pairs (tree_at nodes n.left))) (Some (n.key, n.value)) ≡ first_or (next_pair last (pairs (tree_at nodes place))) best
  walk_left h =
      sym (ap (λ (ps : List (ℕ × ℕ)). first_or (next_pair last ps) best) (entries nodes place n o rises)
      ∙ (ap (λ (p : Option (ℕ × ℕ)). first_or p best) (next-left last n.key n.value (pairs (tree_at nodes n.left)) (pairs (tree_at nodes n.right)) h)
      ∙ first_or-assoc (next_pair last (pairs (tree_at nodes n.left))) (n.key, n.value) best))

  pub walk_right : ¬ (IsPast last n.key) → first_or (next_pair last (pairs (tree_at nodes n.right))) best ≡ first_or (next_pair last (pairs (tree_at nodes place))) best
  walk_right h =
      sym (ap (λ (ps : List (ℕ × ℕ)). first_or (next_pair last ps) best) (entries nodes place n o rises)
      ∙ ap (λ (p : Option (ℕ × ℕ)). first_or p best) (next-right last n.key n.value (pairs (tree_at nodes n.left)) (pairs (tree_at nodes n.right)) h (parts nodes place n o rises).below))

-- the next pair names a value
above_named : (n last : ℕ) (ps : List (ℕ × ℕ)) (p : ℕ × ℕ) → AllNamed n ps → Some p ≡ first_of (left_above last ps) → p.1 < n
above_named n last [] p h e = cc
above_named n last (q ∷ qs) p h e = elim (cases_lt last q.0) as (λ _. p.1 < n) [
  | inl lt ↦ grind (arith, nat_tests, h.0, e)
  | inr ge ↦ grind (arith, nat_tests, above_named n last qs p h.1, e)
]

pub next_named : (n : ℕ) (last : Option ℕ) (ps : List (ℕ × ℕ)) (p : ℕ × ℕ) → AllNamed n ps → Some p ≡ next_pair last ps → p.1 < n
next_named n None [] p h e = cc
next_named n None (q ∷ qs) p h e = let i : p ≡ q = cc in rw i h.0
next_named n (Some last) ps p h e = above_named n last ps p h e

-- a step of the walk
pub walked : {V : Type 0} (f : Forest V) (last : Option ℕ) (key place : ℕ) (x : V) → IsRoot f f.root → Some (key, place) ≡ next_pair last (pairs (tree_at f.nodes f.root)) → x ≡ get_or f.values place x
    → valued f.values (left_after last (pairs (tree_at f.nodes f.root))) ≡ (key, x) ∷ valued f.values (left_above key (pairs (tree_at f.nodes f.root)))
walked f last key place x h e i =
    let ps = pairs (tree_at f.nodes f.root) in
    ap (valued f.values) (left-next last ps (key, place) h.rises e)
    ∙ valued_step f.values (key, place) (left_above key ps) x (slice_get_read f.values (length f.values) place x refl (next_named (length f.values) last ps (key, place) h.named e) i)
