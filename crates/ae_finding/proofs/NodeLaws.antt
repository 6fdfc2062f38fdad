-- What is seen at the node of a name.
use Rattle.std.specs.Prelude.{ℕ, ◌≤◌, ◌≡◌, ◌↔◌, Bool, true, false, not, ◌&&◌, nat_lt, List, map, length, slice_get, Option, Some, None}
use Rattle.std.proofs.Math.Bool.{and-false}
use Rattle.std.specs.Option.{option_map}
use Rattle.std.proofs.Common.{refl, sym, ap, ◌∙◌}
use Rattle.std.proofs.lemmas.Option.{slice_get-map, same_Some, slice_get_past}
use Rattle.ae_base.proofs.Decided.{decided_of, decided_yes}
use Rattle.ae_core.specs.Decided.{Head_discrete}
use Rattle.ae_store.specs.Stores.{IsStore}
use Rattle.ae_store.proofs.TermLaws.{term_at}
use Rattle.ae_matching.specs.Views as views
use Rattle.ae_base.specs.Options.{or_else, ◌>>=◌}
use Rattle.ae_base.specs.Decided.{decided}
use Rattle.ae_base.proofs.ListFacts.{get_map}
use Rattle.ae_core.specs.declared.terms.Head.{Head}
use Rattle.ae_core.specs.declared.terms.Head.TheVariants as head
use Rattle.ae_core.specs.declared.terms.Term.{Term}
use Rattle.ae_core.specs.declared.problems.Signature.{Signature}
use Rattle.ae_rules.specs.Linear.{rule_of}
use Rattle.ae_rules.specs.Matches.{is_arithmetic, is_computed}
use Rattle.ae_store.specs.declared.nodes.Node.{Node}
use Rattle.ae_store.specs.declared.nodes.NodeHead.{NodeHead}
use Rattle.ae_store.specs.declared.nodes.NodeHead.TheVariants as node
use Rattle.ae_store.specs.Shapes.{shapes, shape_of}
use Rattle.ae_store.specs.Terms.{terms, term_of, named}
use Rattle.ae_matching.specs.Generating.{applies}
use Rattle.ae_match.specs.Seen.{applied, seen, seen_node}
use Rattle.ae_finding.specs.Nodes.{is_near, is_site, is_operation}
use Rattle.ae_finding.proofs.ComputedRules.{arithmetic_apply}

pub head_test : (b : Bool) (h k : Head) → b ≡ true ↔ h ≡ k → b ≡ decided (Head_discrete h k)
head_test true h k f = sym (decided_of (Head_discrete h k) (f.0 refl))
head_test false h k f = elim (Head_discrete h k) as (λ d. false ≡ decided d) [ yes p ↦ f.1 p | no n ↦ refl ]

-- ---- terms that linear forms don't compute
plain : (h : Head) (us : List Term) → is_operation h ≡ false → is_computed (rule_of h us) ≡ false
plain (head.Symbol n) us e = refl
plain (head.Build n) us e = refl
plain (head.Field n i) us e = refl
plain (head.Int o) us e = cc e
plain (head.Real o) us e = cc e
plain head.True us e = refl
plain head.False us e = refl
plain head.Void us e = refl

plain_node : (ts : List Term) (x : Node) (h : Head) → is_operation h ≡ false → x.head ≡ node.Of h → is_arithmetic (term_of ts (shape_of x)) ≡ false
plain_node ts x h o e =
    ap (λ (k : NodeHead). is_arithmetic (term_of ts (record (shape_of x) { head = k }))) e ∙ arithmetic_apply h x.sorts (map (named ts) x.args) ∙ plain h (map (named ts) x.args) o

-- ---- what a store shows
module _ (sig : Signature) (ns : List Node) where
  abbrev ts : List Term
  ts = terms (shapes ns)

  pub seen_missing : (m : ℕ) → length ns ≤ m → slice_get (map (seen_node ts) ns) m ≡ None
  seen_missing m h = slice_get-map (seen_node ts) ns m ∙ ap (option_map (seen_node ts)) (slice_get_past ns m h)

  pub seen_at : (m : ℕ) (x : Node) → slice_get ns m ≡ Some x → slice_get (map (seen_node ts) ns) m ≡ Some (seen_node ts x)
  seen_at m x e = get_map (seen_node ts) ns m x e

  module _ (alike : ℕ → ℕ → Bool) (below : ℕ) where
    pub near_missing : (n m : ℕ) → length ns ≤ m → is_near (seen sig ns) alike below n m ≡ false
    near_missing n m h = ap (λ o. or_else (o >>= λ x. Some (nat_lt x.generation below && alike m n)) false) (seen_missing m h)

    pub near_at : (n m : ℕ) (x : Node) → slice_get ns m ≡ Some x → is_near (seen sig ns) alike below n m ≡ (nat_lt x.generation below && alike m n)
    near_at n m x e = ap (λ o. or_else (o >>= λ x. Some (nat_lt x.generation below && alike m n)) false) (seen_at m x e)

    pub site_far : (h : Head) (n m : ℕ) → is_near (seen sig ns) alike below n m ≡ false → is_site (seen sig ns) alike below h n m ≡ false
    site_far h n m e = go (slice_get (map (seen_node ts) ns) m) e
      where
        go : (o : Option views.Node) → or_else (o >>= λ x. Some (nat_lt x.generation below && alike m n)) false ≡ false
            → or_else (o >>= λ x. Some (nat_lt x.generation below && alike m n && not x.arithmetic && applies h x.head)) false ≡ false
        go None e = refl
        go (Some x) e = ap (λ b. b && not x.arithmetic && applies h x.head) e

    pub site_missing : (h : Head) (n m : ℕ) → length ns ≤ m → is_site (seen sig ns) alike below h n m ≡ false
    site_missing h n m l = ap (λ o. or_else (o >>= λ x. Some (nat_lt x.generation below && alike m n && not x.arithmetic && applies h x.head)) false) (seen_missing m l)

    site_at : (h : Head) (n m : ℕ) (x : Node) → slice_get ns m ≡ Some x
        → is_site (seen sig ns) alike below h n m ≡ (nat_lt x.generation below && alike m n && not (is_arithmetic (term_of ts (shape_of x))) && applies h (applied x.head))
    site_at h n m x e = ap (λ o. or_else (o >>= λ x. Some (nat_lt x.generation below && alike m n && not x.arithmetic && applies h x.head)) false) (seen_at m x e)

    pub site_other : (h : Head) (n m : ℕ) (x : Node) → slice_get ns m ≡ Some x → applies h (applied x.head) ≡ false → is_site (seen sig ns) alike below h n m ≡ false
    site_other h n m x at e =
        site_at h n m x at ∙ ap (λ b. nat_lt x.generation below && alike m n && not (is_arithmetic (term_of ts (shape_of x))) && b) e
        ∙ and-false (nat_lt x.generation below && alike m n && not (is_arithmetic (term_of ts (shape_of x))))

    -- near, and of this head
    site_here : (h : Head) (n m : ℕ) (x : Node) → slice_get ns m ≡ Some x → is_near (seen sig ns) alike below n m ≡ true → applies h (applied x.head) ≡ true
        → is_site (seen sig ns) alike below h n m ≡ not (is_arithmetic (term_of ts (shape_of x)))
    site_here h n m x at near e =
        site_at h n m x at ∙ (λ i. (sym (near_at n m x at) ∙ near) i && not (is_arithmetic (term_of ts (shape_of x))) && e i) ∙ by (not (is_arithmetic (term_of ts (shape_of x))))
      where
        by : (b : Bool) → (true && b && true) ≡ b
        by true = refl
        by false = refl

    pub site_plain : (h : Head) (n m : ℕ) (x : Node) → slice_get ns m ≡ Some x → is_near (seen sig ns) alike below n m ≡ true → applies h (applied x.head) ≡ true → is_operation h ≡ false
        → is_site (seen sig ns) alike below h n m ≡ true
    site_plain h n m x at near e o = site_here h n m x at near e ∙ ap not (plain_node ts x h o (of_head x.head refl e))
      where
        of_head : (k : NodeHead) → x.head ≡ k → applies h (applied k) ≡ true → x.head ≡ node.Of h
        of_head (node.Of k) i e = i ∙ ap node.Of (sym (decided_yes (Head_discrete h k) e))
        of_head (node.Num a b) i e = cc e
        of_head (node.Fresh k) i e = cc e

    pub site_term : (h : Head) (n m : ℕ) (x : Node) (t : Term) → IsStore sig ns → slice_get ns m ≡ Some x → slice_get ts m ≡ Some t → is_near (seen sig ns) alike below n m ≡ true → applies h (applied x.head) ≡ true
        → is_site (seen sig ns) alike below h n m ≡ not (is_arithmetic t)
    site_term h n m x t s at it near e =
        let own : slice_get ts m ≡ Some (term_of ts (shape_of x)) = term_at sig (shapes ns) s.sound m (shape_of x) (get_map shape_of ns m x at) in
        site_here h n m x at near e ∙ ap (λ u. not (is_arithmetic u)) (same_Some (term_of ts (shape_of x)) t (sym own ∙ it))
