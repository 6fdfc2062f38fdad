-- Paths of equations between names that are the same.
use Rattle.std.proofs.Common.{◌≡◌, ◌≢◌, ℕ, zero, suc, ◌-◌, ◌<◌, Bool, true, false, cond, nat_eq, List, [], ◌∷◌, ◌++◌, length, map, ◌∙◌, ap, subst, sym, refl, arith}
use Rattle.std.specs.List.{AllByRecursion, Contains}
use Rattle.std.specs.Prelude.{MatchBool}
use Rattle.std.proofs.lemmas.Bool.{eqb-true, MatchBool-at_false, MatchBool-at_true}
use Rattle.std.proofs.lemmas.List.{append-nil, append_assoc}
use Rattle.std.proofs.lemmas.Option.{slice_get_within}
use Rattle.std.proofs.lemmas.List.Elements.{Contains-append_left, Contains-append_right}
use Rattle.ae_base.proofs.ListFacts.{get_read}
use Rattle.ae_theory.specs.Noting.{IsBlockOf}
use Rattle.ae_theory.specs.Paths.{list_at}
use Rattle.ae_theory.specs.Classes.{class_of, merged_by, tagged}
use Rattle.ae_theory.specs.Inner.Hops.{AddsPath, IsHop, IsPath, lit_of, tag_of, no_node}
use Rattle.ae_theory.specs.declared.nodes.Node.{Node}
use Rattle.ae_theory.specs.declared.nodes.Edge.{Edge}
use Rattle.ae_theory.specs.declared.nodes.Edge.TheVariants.{Same, Apart, Other}
use Rattle.ae_theory.specs.declared.chains.Hop.{Hop}
use Rattle.ae_theory.proofs.Sharing.{IsPlaced, class_push}

module _ (nodes : List Node) where
  hop_more : (xs : List Node) (x : Node) (h : Hop) (m k : ℕ) → IsHop nodes xs h m k → IsHop nodes (xs ++ x ∷ []) h m k
  hop_more xs x h m k p = record {
    node = p.node;
    left = p.left;
    right = p.right;
    at = p.at;
    stands = Contains-append_left xs (x ∷ []) p.node p.stands;
    edge = p.edge;
    start = p.start;
    end = p.end;
  }

  path_more : (xs : List Node) (x : Node) (m n : ℕ) (hs : List Hop) → IsPath nodes xs m n hs → IsPath nodes (xs ++ x ∷ []) m n hs
  path_more xs x m n [] p = p
  path_more xs x m n (h ∷ hs) p = (p.0, hop_more xs x h m p.0 p.1, path_more xs x p.0 n hs p.2)

  path_append : (xs : List Node) (m k n : ℕ) (hs gs : List Hop) → IsPath nodes xs m k hs → IsPath nodes xs k n gs → IsPath nodes xs m n (hs ++ gs)
  path_append xs m k n [] gs p q = subst (λ w. IsPath nodes xs w n gs) (sym p) q
  path_append xs m k n (h ∷ hs) gs p q = (p.0, p.1, path_append xs p.0 k n hs gs p.2 q)

  -- over the equation of a node, behind the nodes xs
  pub adds_over : (xs : List Node) (x : Node) (h : Hop) (m a b n : ℕ) (old mid pushed new : List Hop) → AddsPath nodes xs m a old mid → IsHop nodes (xs ++ x ∷ []) h a b → pushed ≡ mid ++ h ∷ []
      → AddsPath nodes xs b n pushed new → AddsPath nodes (xs ++ x ∷ []) m n old new
  adds_over xs x h m a b n old mid pushed new p q e r = record {
    more = p.more ++ h ∷ r.more;
    is = r.is ∙ (ap (λ (w : List Hop). w ++ r.more) (e ∙ ap (λ (w : List Hop). w ++ h ∷ []) p.is) ∙ shape old p.more h r.more);
    path = path_append (xs ++ x ∷ []) m a n p.more (h ∷ r.more) (path_more xs x m a p.more p.path) (b, q, path_more xs x b n r.more r.path);
  }
    where
      shape : (a b : List Hop) (h : Hop) (c : List Hop) → ((a ++ b) ++ h ∷ []) ++ c ≡ a ++ (b ++ h ∷ c)
      shape a b h c = append_assoc (a ++ b) (h ∷ []) c ∙ append_assoc a b (h ∷ c)

  pub adds_more : (xs : List Node) (x : Node) (m n : ℕ) (old new : List Hop) → AddsPath nodes xs m n old new → AddsPath nodes (xs ++ x ∷ []) m n old new
  adds_more xs x m n old new p = record { more = p.more; is = p.is; path = path_more xs x m n p.more p.path }

  pub adds_none : (xs : List Node) (m n : ℕ) (old : List Hop) → m ≡ n → AddsPath nodes xs m n old old
  adds_none xs m n old e = record { more = []; is = sym (append-nil old); path = e }

  pub adds_all : (xs : List Node) (m n : ℕ) (old new : List Hop) → AddsPath nodes xs m n old new → old ≡ [] → IsPath nodes xs m n new
  adds_all xs m n old new p e = subst (IsPath nodes xs m n) (sym (p.is ∙ ap (λ (w : List Hop). w ++ p.more) e)) p.path

  -- ---- what a way says
  pub path_within : (xs : List Node) (m n : ℕ) (hs : List Hop) → IsPath nodes xs m n hs → AllByRecursion (λ h. h.node < length nodes) hs
  path_within xs m n [] p = tt
  path_within xs m n (h ∷ hs) p = (slice_get_within nodes h.node (p.1).node (p.1).at, path_within xs p.0 n hs p.2)

  contains_tagged : (xs : List Node) (x : Node) → Contains xs x → Contains (map tagged xs) (tagged x)
  contains_tagged [] x c = absurd (omega (arith, c.1))
  contains_tagged (y ∷ xs) x (zero, l, e) = (0, omega arith, ap tagged e)
  contains_tagged (y ∷ xs) x (suc k, l, e) = let c = contains_tagged xs x (k, omega (arith, l), e) in (suc c.0, omega (arith, c.1), c.2)

  -- its literals and tags, and those of a further node
  pub block_tags : (xs : List Node) (m n : ℕ) (hs : List Hop) (x : Node) → IsPath nodes xs m n hs → Contains xs x → IsBlockOf (map tagged xs) (map (lit_of nodes) hs ++ x.lit ∷ []) (map (tag_of nodes) hs ++ x.tag ∷ [])
  block_tags xs m n [] x p c = (contains_tagged xs x c, tt)
  block_tags xs m n (h ∷ hs) x p c =
      let e = (get_read nodes h.node (p.1).node no_node (p.1).at).0 in
      (subst (λ (w : Node). Contains (map tagged xs) (record { lit = w.lit; tag = w.tag })) (sym e) (contains_tagged xs (p.1).node (p.1).stands), block_tags xs p.0 n hs x p.2 c)

-- ---- which side a name is on
abbrev OneOf : ℕ → ℕ → ℕ → ℕ → Bool → Type 0
OneOf m n l r t = (m ≡ cond t r l) × (n ≡ cond t l r)

merged_cases : (m n l r : ℕ) (x y : Bool) → nat_eq m r ≡ x → nat_eq n r ≡ y → m ≢ n → cond x l m ≡ cond y l n → (t : Bool) → (t ≡ false → m ≡ l) → (t ≡ true → m ≢ l) → OneOf m n l r t
merged_cases m n l r true true p q d e t f g = absurd (d (eqb-true m r p ∙ sym (eqb-true n r q)))
merged_cases m n l r true false p q d e true f g = (eqb-true m r p, sym e)
merged_cases m n l r true false p q d e false f g = absurd (d (f refl ∙ e))
merged_cases m n l r false true p q d e true f g = absurd (g refl e)
merged_cases m n l r false true p q d e false f g = (e, eqb-true n r q)
merged_cases m n l r false false p q d e t f g = absurd (d e)

-- two names that the equation makes the same are on its two sides
pub sides_of : (rep : ℕ → ℕ) (m n l r : ℕ) → rep m ≢ rep n → merged_by rep (Same l r) m ≡ merged_by rep (Same l r) n → (t : Bool) → (t ≡ false → rep m ≡ rep l) → (t ≡ true → rep m ≢ rep l) → OneOf (rep m) (rep n) (rep l) (rep r) t
sides_of rep m n l r d e t f g = merged_cases (rep m) (rep n) (rep l) (rep r) (nat_eq (rep m) (rep r)) (nat_eq (rep n) (rep r)) refl refl d e t f g

-- ---- at a place
cond_ap : (f : ℕ → ℕ) (t : Bool) (a b : ℕ) → f (cond t a b) ≡ cond t (f a) (f b)
cond_ap f true a b = refl
cond_ap f false a b = refl

pub class_placed : (nodes : List Node) (place : ℕ) (x : Node) → IsPlaced nodes place x → (n : ℕ) → class_of (list_at nodes place) n ≡ merged_by (class_of (list_at nodes x.parent)) x.edge n
class_placed nodes place x p n = ap (λ (w : List Node). class_of w n) p.list ∙ class_push (list_at nodes x.parent) x n

module _ (nodes : List Node) (place from to : ℕ) (x : Node) (p : IsPlaced nodes place x) (same : class_of (list_at nodes place) from ≡ class_of (list_at nodes place) to) where
  abbrev rep : ℕ → ℕ
  rep = class_of (list_at nodes x.parent)

  merged_same : merged_by rep x.edge from ≡ merged_by rep x.edge to
  merged_same = sym (class_placed nodes place x p from) ∙ (same ∙ class_placed nodes place x p to)

  pub not_apart : (l r : ℕ) → x.edge ≡ Apart l r → rep from ≡ rep to
  not_apart l r e = subst (λ (w : Edge). merged_by rep w from ≡ merged_by rep w to) e merged_same

  pub not_other : x.edge ≡ Other → rep from ≡ rep to
  not_other e = subst (λ (w : Edge). merged_by rep w from ≡ merged_by rep w to) e merged_same

  module _ (l r : ℕ) (t : Bool) (edge : x.edge ≡ Same l r) (differ : rep from ≢ rep to) (turned : MatchBool t (rep from ≢ rep l) (rep from ≡ rep l)) where
    way : OneOf (rep from) (rep to) (rep l) (rep r) t
    way = sides_of rep from to l r differ (subst (λ (w : Edge). merged_by rep w from ≡ merged_by rep w to) edge merged_same) t (λ e. MatchBool-at_false _ _ e turned) (λ e. MatchBool-at_true _ _ e turned)

    pub near_same : (near : ℕ) → near ≡ cond t r l → rep from ≡ rep near
    near_same near e = way.0 ∙ (sym (cond_ap rep t r l) ∙ ap rep (sym e))

    pub far_same : (far : ℕ) → far ≡ cond t l r → rep far ≡ rep to
    far_same far e = ap rep e ∙ (cond_ap rep t l r ∙ sym way.1)

  -- the hop over the last node
  pub hop_at : (l r : ℕ) (t : Bool) → x.edge ≡ Same l r → (near far : ℕ) → near ≡ cond t r l → far ≡ cond t l r → IsHop nodes (list_at nodes x.parent ++ x ∷ []) (record { node = place - 1; turned = t }) near far
  hop_at l r t e near far n f = record {
    node = x;
    left = l;
    right = r;
    at = p.at;
    stands = Contains-append_right (list_at nodes x.parent) (x ∷ []) x (0, omega arith, refl);
    edge = e;
    start = n;
    end = f;
  }
