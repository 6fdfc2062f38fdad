-- Assumed equations: which nodes a place has, what marks keep, and why a clash is a contradiction.
use Rattle.std.proofs.Common.{◌≡◌, ℕ, zero, suc, cond, nat_eq, ◌+◌, ◌<◌, ◌≤◌, Bool, true, false, List, [], ◌∷◌, ◌++◌, length, map, get_or, slice_get, Option, Some, None, ◌∙◌, ap, subst, sym, refl, arith, length-append, inl, inr}
use Rattle.std.specs.List.{AllByRecursion, Contains}
use Rattle.std.proofs.lemmas.Bool.{and_from}
use Rattle.std.proofs.lemmas.Option.{same_Some, slice_get_within}
use Rattle.std.proofs.lemmas.List.{append-nil, append_assoc, length-map, map_push}
use Rattle.std.proofs.lemmas.List.Elements.{Contains-append_left, Contains-append_right, Contains-append_cases}
use Rattle.std.proofs.lemmas.Bool.{cases_lt, cases_eq}
use Rattle.std.proofs.lemmas.List.Folds.{list_all-append}
use Rattle.ae_base.proofs.AllOf.{all_append, all_weaker}
use Rattle.ae_base.proofs.ListFacts.{get_append, get_read, get_after, get_seam, last_or_before}
use Rattle.ae_core.specs.Sorts.{sort_of, formula_ok, is_closed_sort}
use Rattle.ae_core.proofs.SortLaws.{formula_in_eq}
use Rattle.ae_core.specs.declared.terms.Term.{Term}
use Rattle.ae_core.specs.declared.formulas.Lit.{Lit}
use Rattle.ae_core.specs.declared.problems.Signature.{Signature}
use Rattle.ae_core.specs.declared.proofs.Ending.TheVariants.{Neq}
use Rattle.ae_rules.specs.Lines.{equal, fact_ok, Follows, by_sym, by_trans, Among, Shown}
use Rattle.ae_rules.specs.Derivations.{AreContradictory, clause_ok}
use Rattle.ae_rules.proofs.Written.{written}
use Rattle.ae_store.specs.Stores.{Stored}
use Rattle.ae_store.specs.Shapes.{shape_of, shapes}
use Rattle.ae_store.proofs.TermLaws.{length_terms}
use Rattle.ae_theory.specs.Names.{Extends, terms_in}
use Rattle.ae_theory.specs.Noting.{literals}
use Rattle.ae_theory.specs.Paths.{Paths, list_at, standing}
use Rattle.ae_theory.specs.Classes.{AllFit, FitsFrom, IsEdgeOf, IsEquation, IsConflict, IsMark, Clashes, ClashesBy, NoneClashes, class_of, merged_by, tagged}
use Rattle.ae_theory.specs.Inner.Trees.{IsPushed}
use Rattle.ae_theory.specs.declared.nodes.Node.{Node}
use Rattle.ae_theory.specs.declared.nodes.Edge.{Edge}
use Rattle.ae_theory.specs.declared.nodes.Edge.TheVariants.{Same, Apart, Other}
use Rattle.ae_theory.proofs.Sharing.{class_push, list_grown, list_new, list_old, lists_beyond}
use Rattle.ae_theory.proofs.Following.{all_reach, sorted_pair}

-- ---- the nodes of a place
abbrev pub HasNode : List Node → Node → Type 0
HasNode nodes x = (k : ℕ) × (slice_get nodes k ≡ Some x)

abbrev OfNodes : List Node → Type 0
OfNodes nodes = (place : ℕ) (x : Node) → Contains (list_at nodes place) x → HasNode nodes x

has_more : (nodes more : List Node) (x : Node) → HasNode nodes x → HasNode (nodes ++ more) x
has_more nodes more x h = (h.0, get_append nodes more h.0 x h.1)

nothing_there : {P : Type 0} (x : Node) → Contains [] x → P
nothing_there x c = absurd (omega (arith, c.1))

pub one_there : (n x : Node) → Contains (n ∷ []) x → x ≡ n
one_there n x (zero, l, e) = sym e
one_there n x (suc k, l, e) = absurd (omega (arith, l))

of_push : (nodes : List Node) (n : Node) → OfNodes nodes → OfNodes (nodes ++ n ∷ [])
of_push nodes n h place x c = elim (cases_lt place (length nodes + 1)) [
  | inl below ↦ has_more nodes (n ∷ []) x (h place x (subst (λ (w : List Node). Contains w x) (list_old nodes n place (omega (arith, below))) c))
  | inr above ↦ elim (cases_eq place (length nodes + 1)) [
    | inl same ↦ elim (Contains-append_cases (list_at nodes n.parent) (n ∷ []) x (subst (λ (w : List Node). Contains w x) (ap (list_at (nodes ++ n ∷ [])) same ∙ list_new nodes n) c)) [
      | inl old ↦ has_more nodes (n ∷ []) x (h n.parent x old)
      | inr new ↦ (length nodes, get_seam nodes [] n ∙ ap Some (sym (one_there n x new)))
    ]
    | inr other ↦ nothing_there x (subst (λ (w : List Node). Contains w x) (lists_beyond (nodes ++ n ∷ []) place (omega (arith, above, other, length-append nodes (n ∷ [])))) c)
  ]
]

of_all : (first nodes : List Node) → OfNodes first → OfNodes (first ++ nodes)
of_all first [] h = subst OfNodes (sym (append-nil first)) h
of_all first (n ∷ nodes) h = subst OfNodes (append_assoc first (n ∷ []) nodes) (of_all (first ++ n ∷ []) nodes (of_push first n h))

of_none : OfNodes []
of_none place x c = elim (cases_lt 0 place) [
  | inl above ↦ nothing_there x (subst (λ (w : List Node). Contains w x) (lists_beyond [] place (omega (arith, above))) c)
  | inr below ↦ nothing_there x (subst (λ (w : _). Contains (list_at [] w) x) (let e : place ≡ 0 = omega (arith, below) in e) c)
]

pub of_nodes : (nodes : List Node) (place : ℕ) (x : Node) → Contains (list_at nodes place) x → HasNode nodes x
of_nodes nodes = of_all [] nodes of_none

-- ---- which literals the equations come from
abbrev held_lit : Lit → Edge → List Lit
held_lit l (Same a b) = l ∷ []
held_lit l (Apart a b) = l ∷ []
held_lit l Other = []

abbrev held_lits : List Node → List Lit
held_lits [] = []
held_lits (x ∷ xs) = held_lit x.lit x.edge ++ held_lits xs

among_after : (hs ls : List Lit) (l : Lit) → Among ls l → Among (hs ++ ls) l
among_after hs ls l a = (length hs + a.0, get_after hs ls a.0 ∙ a.1)

held_at : (xs : List Node) (x : Node) → Contains xs x → held_lit x.lit x.edge ≡ x.lit ∷ [] → Among (held_lits xs) x.lit
held_at [] x c e = nothing_there x c
held_at (y ∷ xs) x (zero, l, q) e =
    let h : held_lit y.lit y.edge ≡ x.lit ∷ [] = ap (λ (w : Node). held_lit w.lit w.edge) q ∙ e in
    (0, ap (λ (w : List Lit). slice_get (w ++ held_lits xs) 0) h)
held_at (y ∷ xs) x (suc k, l, q) e = among_after (held_lit y.lit y.edge) (held_lits xs) x.lit (held_at xs x (k, omega (arith, l), q) e)

pub equation_sorted : (s : Stored) (b : Bool) (x : Lit) (l r : ℕ) → IsEquation s b x l r → formula_ok s.signature x.formula ≡ true
equation_sorted s b x l r e =
    ap (λ (w : Lit). formula_ok s.signature w.formula) e.is
    ∙ (formula_in_eq s.signature (is_closed_sort s.signature) [] e.left e.right ∙ sorted_pair s.signature e.left e.right e.sort e.left_sorted e.right_sorted)

lit_sorted : (s : Stored) (l : Lit) (e : Edge) → IsEdgeOf s l e → clause_ok s.signature (held_lit l e) ≡ true
lit_sorted s l (Same a b) h = and_from (formula_ok s.signature l.formula) true (equation_sorted s true l a b h) refl
lit_sorted s l (Apart a b) h = and_from (formula_ok s.signature l.formula) true (equation_sorted s false l a b h) refl
lit_sorted s l Other h = refl

lits_sorted : (s : Stored) (xs : List Node) → ((x : Node) → Contains xs x → IsEdgeOf s x.lit x.edge) → clause_ok s.signature (held_lits xs) ≡ true
lits_sorted s [] h = refl
lits_sorted s (x ∷ xs) h =
    list_all-append (λ (l : Lit). formula_ok s.signature l.formula) (held_lit x.lit x.edge) (held_lits xs)
    ∙ and_from _ _ (lit_sorted s x.lit x.edge (h x (Contains-append_left (x ∷ []) xs x (0, omega arith, refl)))) (lits_sorted s xs (λ y c. h y (Contains-append_right (x ∷ []) xs y c)))

lit_among : (l : Lit) (e : Edge) (ls : List Lit) → AllByRecursion (Contains (l ∷ ls)) (held_lit l e)
lit_among l (Same a b) ls = ((0, omega arith, refl), tt)
lit_among l (Apart a b) ls = ((0, omega arith, refl), tt)
lit_among l Other ls = tt

lits_among : (xs : List Node) → AllByRecursion (Contains (literals (map tagged xs))) (held_lits xs)
lits_among [] = tt
lits_among (x ∷ xs) =
    all_append (Contains (literals (map tagged (x ∷ xs)))) (held_lit x.lit x.edge) (held_lits xs) (lit_among x.lit x.edge (literals (map tagged xs)))
    (all_weaker (Contains (literals (map tagged xs))) (Contains (literals (map tagged (x ∷ xs)))) (λ l c. Contains-append_right (x.lit ∷ []) (literals (map tagged xs)) l c) (held_lits xs) (lits_among xs))

-- ---- what stands for names
pub apart_of : (xs : List Node) (e : Edge) → ClashesBy xs e → (l : ℕ) × (r : ℕ) × (e ≡ Apart l r) × (class_of xs l ≡ class_of xs r)
apart_of xs (Same l r) h = absurd h
apart_of xs (Apart l r) h = (l, r, refl, h)
apart_of xs Other h = absurd h

-- a name with a term is one of the store's
pub name_within : (s : Stored) (n : ℕ) (t : Term) → slice_get (terms_in s) n ≡ Some t → n < length s.nodes
name_within s n t e = omega (arith, slice_get_within (terms_in s) n t e, length_terms (shapes s.nodes), length-map s.nodes shape_of)

-- the sides of a denied equation
pub record IsApart (nodes xs : List Node) (number : ℕ) (l r : ℕ) : Type 0 where
  pub node : Node
  pub at : slice_get nodes number ≡ Some node
  pub stands : Contains xs node
  pub edge : node.edge ≡ Apart l r
  pub alike : class_of xs l ≡ class_of xs r

pub apart_from : (nodes : List Node) (last number : ℕ) (d : Node) (a b : ℕ) → IsConflict (record { nodes = nodes; last = last }) number
    → ((l r : ℕ) → (get_or nodes number d).edge ≡ Apart l r → (a ≡ l) × (b ≡ r)) → IsApart nodes (list_at nodes last) number a b
apart_from nodes last number d a b c ends =
    let (l, r, apart, same) = apart_of (list_at nodes last) c.node.edge c.clashes in
    let read : get_or nodes number d ≡ c.node = (get_read nodes number c.node d c.at).0 in
    let e = ends l r (ap (λ (w : Node). w.edge) read ∙ apart) in
    record {
      node = c.node;
      at = c.at;
      stands = c.stands;
      edge = apart ∙ (λ i. Apart (sym e.0 i) (sym e.1 i));
      alike = ap (class_of (list_at nodes last)) e.0 ∙ (same ∙ ap (class_of (list_at nodes last)) (sym e.1));
    }

pub apart_within : (s : Stored) (nodes xs : List Node) (number l r : ℕ) → AllFit s nodes → IsApart nodes xs number l r → l < length s.nodes
apart_within s nodes xs number l r fit a =
    let e : IsEquation s false a.node.lit l r = subst (IsEdgeOf s a.node.lit) a.edge (fit number a.node a.at) in
    name_within s l e.left e.left_at

module _ (o : Paths) (s : Stored) (fit : AllFit s o.nodes) where
  pub fits_at : (x : Node) → Contains (standing o) x → IsEdgeOf s x.lit x.edge
  fits_at x c = let k = of_nodes o.nodes o.last x c in fit k.0 x k.1

  pub alike_sorted : (m n : ℕ) (a b : Term) → class_of (standing o) m ≡ class_of (standing o) n → slice_get (terms_in s) m ≡ Some a → slice_get (terms_in s) n ≡ Some b → sort_of s.signature a ≡ sort_of s.signature b
  alike_sorted m n a b e p q =
      let H : Lit → Type 0 = λ l. Unit {0} in
      let all = all_reach s H (standing o) (record { fit = fits_at; given = λ x l r c e. tt }) in
      let x = all m a p in
      let y = all n b q in
      x.sorts ∙ (ap (sort_of s.signature) (same_Some _ _ (sym x.at ∙ (ap (slice_get (terms_in s)) e ∙ y.at))) ∙ sym y.sorts)

  -- the sides of a clash follow to be equal
  pub clash_follows : (l r : ℕ) (x : Lit) → class_of (standing o) l ≡ class_of (standing o) r → (e : IsEquation s false x l r)
      → Follows s.signature (fact_ok s.signature) (Among (held_lits (standing o))) (equal e.left e.right)
  clash_follows l r x same e =
      let sig = s.signature in
      let H : Lit → Type 0 = Among (held_lits (standing o)) in
      let all = all_reach s H (standing o) (record { fit = fits_at; given = λ x a b c q. held_at (standing o) x c (ap (held_lit x.lit) q) }) in
      let a = all l e.left e.left_at in
      let b = all r e.right e.right_at in
      let met : b.end ≡ a.end = same_Some _ _ (sym b.at ∙ (ap (slice_get (terms_in s)) (sym same) ∙ a.at)) in
      let end_is : sort_of sig a.end ≡ Some e.sort = sym a.sorts ∙ e.left_sorted in
      let back : Follows sig (fact_ok sig) H (equal a.end e.right) =
      by_sym (subst (λ w. Follows sig (fact_ok sig) H (equal e.right w)) met (b.follows e.sort e.right_sorted)) (sorted_pair sig a.end e.right e.sort end_is e.right_sorted) in
      by_trans (a.follows e.sort e.left_sorted) back (sorted_pair sig e.left e.right e.sort e.left_sorted e.right_sorted)

  pub conflict_contradicts : (k : ℕ) → IsConflict o k → AreContradictory s.signature (literals (map tagged (standing o)))
  conflict_contradicts k c =
      let (l, r, apart, same) = apart_of (standing o) c.node.edge c.clashes in
      let e : IsEquation s false c.node.lit l r = subst (IsEdgeOf s c.node.lit) apart (fits_at c.node c.stands) in
      let hs = held_lits (standing o) in
      let shown : Shown s.signature (fact_ok s.signature) hs (equal e.left e.right) = written s.signature (fact_ok s.signature) hs (clash_follows l r c.node.lit same e) in
      let i = held_at (standing o) c.node c.stands (ap (held_lit c.node.lit) apart) in
      record {
        block = record { deriv = record { hyps = hs; lines = shown.lines }; ending = Neq shown.at i.0 };
        sorted = lits_sorted s (standing o) fits_at;
        among = lits_among (standing o);
        contradictory = (shown.all, (e.left, e.right, shown.is, i.1 ∙ ap Some e.is));
      }

-- a store with more terms
equation_more : (a b : Stored) → Extends a b → (p : Bool) (x : Lit) (l r : ℕ) → IsEquation a p x l r → IsEquation b p x l r
equation_more a b e p x l r h = record {
  left = h.left;
  right = h.right;
  sort = h.sort;
  is = h.is;
  left_at = e.keeps l h.left h.left_at;
  right_at = e.keeps r h.right h.right_at;
  left_sorted = ap (λ (w : Signature). sort_of w h.left) e.signature ∙ h.left_sorted;
  right_sorted = ap (λ (w : Signature). sort_of w h.right) e.signature ∙ h.right_sorted;
}

edge_more : (a b : Stored) → Extends a b → (x : Lit) (e : Edge) → IsEdgeOf a x e → IsEdgeOf b x e
edge_more a b h x (Same l r) f = equation_more a b h true x l r f
edge_more a b h x (Apart l r) f = equation_more a b h false x l r f
edge_more a b h x Other f = tt

-- ---- one node more
pub fit_push : (s : Stored) (nodes : List Node) (x : Node) → AllFit s nodes → IsEdgeOf s x.lit x.edge → AllFit s (nodes ++ x ∷ [])
fit_push s nodes x f h k y e = elim (last_or_before nodes x k y e) [ inl old ↦ f k y old | inr new ↦ subst (λ (w : Node). IsEdgeOf s w.lit w.edge) new h ]

-- and so it is in each store with more terms
pub fits_push : (s : Stored) (nodes : List Node) (x : Node) → FitsFrom nodes s → IsEdgeOf s x.lit x.edge → FitsFrom (nodes ++ x ∷ []) s
fits_push s nodes x f e t g =
    let each : AllFit t (nodes ++ x ∷ []) = fit_push t nodes x (f t g).each (edge_more s t g x.lit x.edge e) in
    record { each = each; sorted = λ place m n same a b p q. alike_sorted (record { nodes = nodes ++ x ∷ []; last = place }) t each m n a b same p q }

pub fits_none : (s : Stored) → FitsFrom [] s
fits_none s t g =
    let each : AllFit t [] = λ k x e. absurd (let q : ◌≡◌ {A = Option Node} None (Some x) = e in cc) in
    record { each = each; sorted = λ place m n same a b p q. alike_sorted (record { nodes = []; last = place }) t each m n a b same p q }

same_merged : (rep : ℕ → ℕ) (e : Edge) (l r : ℕ) → rep l ≡ rep r → merged_by rep e l ≡ merged_by rep e r
same_merged rep (Same a b) l r h = ap (λ w. cond (nat_eq w (rep b)) (rep a) w) h
same_merged rep (Apart a b) l r h = h
same_merged rep Other l r h = h

clash_push : (xs : List Node) (x : Node) (e : Edge) → ClashesBy xs e → ClashesBy (xs ++ x ∷ []) e
clash_push xs x (Same l r) h = h
clash_push xs x (Apart l r) h = class_push xs x l ∙ (same_merged (class_of xs) x.edge l r h ∙ sym (class_push xs x r))
clash_push xs x Other h = h

pub standing_push : (nodes : List Node) (x : Node) (last : ℕ) → x.parent ≡ last → list_at (nodes ++ x ∷ []) (length (nodes ++ x ∷ [])) ≡ list_at nodes last ++ x ∷ []
standing_push nodes x last p =
    ap (list_at (nodes ++ x ∷ [])) (let e : length (nodes ++ x ∷ []) ≡ length nodes + 1 = omega (arith, length-append nodes (x ∷ [])) in e)
    ∙ (list_new nodes x ∙ ap (λ w. list_at nodes w ++ x ∷ []) p)

pub mark_push : (nodes : List Node) (x : Node) (last new m : ℕ) (then : Paths) → IsMark (record { nodes = nodes; last = last }) m then → IsMark (record { nodes = nodes ++ x ∷ []; last = new }) m then
mark_push nodes x last new m then h = record {
  is = h.is;
  within = h.within;
  more = h.more ++ x ∷ [];
  grown = ap (λ (w : List Node). w ++ x ∷ []) h.grown ∙ append_assoc then.nodes h.more (x ∷ []);
}

pub mark_now : (o : Paths) → o.last ≤ length o.nodes → IsMark o o.last o
mark_now o l = record { is = refl; within = l; more = []; grown = sym (append-nil o.nodes) }

-- ---- going back
pub restored : (o then : Paths) (m : ℕ) → IsMark o m then → list_at o.nodes m ≡ standing then
restored o then m h = ap (λ (w : List Node). list_at w m) h.grown ∙ (ap (list_at (then.nodes ++ h.more)) h.is ∙ list_grown then.nodes h.more then.last h.within)

pub mark_within : (o then : Paths) (m : ℕ) → IsMark o m then → m ≤ length o.nodes
mark_within o then m h = omega (arith, h.is, h.within, ap length h.grown, length-append then.nodes h.more)

pub restored_conflict : (o then : Paths) (m k : ℕ) → IsMark o m then → IsConflict then k → IsConflict (record { nodes = o.nodes; last = m }) k
restored_conflict o then m k h c = record {
  node = c.node;
  at = ap (λ (w : List Node). slice_get w k) h.grown ∙ get_append then.nodes h.more k c.node c.at;
  stands = subst (λ (w : List Node). Contains w c.node) (sym (restored o then m h)) c.stands;
  clashes = subst (λ (w : List Node). Clashes w c.node) (sym (restored o then m h)) c.clashes;
}

pub restored_mark : (o then now : Paths) (m : ℕ) → now.nodes ≡ o.nodes → IsMark o m then → IsMark now m then
restored_mark o then now m e h = record { is = h.is; within = h.within; more = h.more; grown = e ∙ h.grown }

-- ---- what a push leaves
module _ (nodes new : List Node) (last place : ℕ) (lit : Lit) (tag : ℕ) (edge : Edge) (p : IsPushed nodes new last lit tag edge) (end : place ≡ length new) where
  pub standing_pushed : list_at new place ≡ list_at nodes last ++ p.node ∷ []
  standing_pushed = (λ i. list_at (p.is i) ((end ∙ ap length p.is) i)) ∙ standing_push nodes p.node last p.parent_is

  pub assumed_pushed : map tagged (list_at new place) ≡ map tagged (list_at nodes last) ++ record { lit = lit; tag = tag } ∷ []
  assumed_pushed =
      ap (map tagged) standing_pushed ∙ (map_push tagged (list_at nodes last) p.node ∙ (λ i. map tagged (list_at nodes last) ++ record { lit = p.lit_is i; tag = p.tag_is i } ∷ []))

  pub fits_pushed : (s : Stored) → FitsFrom nodes s → IsEdgeOf s lit edge → FitsFrom new s
  fits_pushed s f e = subst (λ (w : List Node). FitsFrom w s) (sym p.is) (fits_push s nodes p.node f (subst (λ (w : Lit). IsEdgeOf s w p.node.edge) (sym p.lit_is) (subst (IsEdgeOf s lit) (sym p.edge_is) e)))

  pub mark_pushed : (m : ℕ) (then : Paths) → IsMark (record { nodes = nodes; last = last }) m then → IsMark (record { nodes = new; last = place }) m then
  mark_pushed m then h = subst (λ (w : List Node). IsMark (record { nodes = w; last = place }) m then) (sym p.is) (mark_push nodes p.node last place m then h)

  pub conflict_pushed : (k : ℕ) → IsConflict (record { nodes = nodes; last = last }) k → IsConflict (record { nodes = new; last = place }) k
  conflict_pushed k c = record {
    node = c.node;
    at = ap (λ (w : List Node). slice_get w k) p.is ∙ get_append nodes (p.node ∷ []) k c.node c.at;
    stands = subst (λ (w : List Node). Contains w c.node) (sym standing_pushed) (Contains-append_left (list_at nodes last) (p.node ∷ []) c.node c.stands);
    clashes = subst (λ (w : List Node). Clashes w c.node) (sym standing_pushed) (clash_push (list_at nodes last) p.node c.node.edge c.clashes);
  }

-- the same for what contracts see of the object
module _ (old : Paths) (nodes new : List Node) (last place : ℕ) (lit copy : Lit) (tag : ℕ) (edge : Edge) (view : record { nodes = nodes; last = last } ≡ old) (same : copy ≡ lit)
    (p : IsPushed nodes new last copy tag edge) (end : place ≡ length new) where
  pub assumed_to : map tagged (list_at new place) ≡ map tagged (standing old) ++ record { lit = lit; tag = tag } ∷ []
  assumed_to = assumed_pushed nodes new last place copy tag edge p end ∙ (λ i. map tagged (standing (view i)) ++ record { lit = same i; tag = tag } ∷ [])

  pub fits_to : (s : Stored) → FitsFrom old.nodes s → IsEdgeOf s lit edge → FitsFrom new s
  fits_to s f e = fits_pushed nodes new last place copy tag edge p end s (subst (λ (w : Paths). FitsFrom w.nodes s) (sym view) f) (subst (λ (w : Lit). IsEdgeOf s w edge) (sym same) e)

  pub mark_to : (m : ℕ) (then : Paths) → IsMark old m then → IsMark (record { nodes = new; last = place }) m then
  mark_to m then h = mark_pushed nodes new last place copy tag edge p end m then (subst (λ (w : Paths). IsMark w m then) (sym view) h)

  pub conflict_to : (k : ℕ) → IsConflict old k → IsConflict (record { nodes = new; last = place }) k
  conflict_to k c = conflict_pushed nodes new last place copy tag edge p end k (subst (λ (w : Paths). IsConflict w k) (sym view) c)

module _ (o : Paths) (nodes : List Node) (last m : ℕ) (view : record { nodes = nodes; last = last } ≡ o) where
  pub back_standing : (then : Paths) → IsMark o m then → list_at nodes m ≡ standing then
  back_standing then h = ap (λ (w : Paths). list_at w.nodes m) view ∙ restored o then m h

  pub back_assumed : (then : Paths) → IsMark o m then → map tagged (list_at nodes m) ≡ map tagged (standing then)
  back_assumed then h = ap (map tagged) (back_standing then h)

  pub back_complete : (then : Paths) → IsMark o m then → NoneClashes (standing then) → NoneClashes (list_at nodes m)
  back_complete then h n = subst NoneClashes (sym (back_standing then h)) n

  pub back_conflict : (then : Paths) → IsMark o m then → (k : ℕ) → IsConflict then k → IsConflict (record { nodes = nodes; last = m }) k
  back_conflict then h k c = subst (λ (w : Paths). IsConflict (record { nodes = w.nodes; last = m }) k) (sym view) (restored_conflict o then m k h c)

  pub back_fits : (s : Stored) → FitsFrom o.nodes s → FitsFrom nodes s
  back_fits s f = subst (λ (w : Paths). FitsFrom w.nodes s) (sym view) f

  pub back_mark : (k : ℕ) (then : Paths) → IsMark o k then → IsMark (record { nodes = nodes; last = m }) k then
  back_mark k then h = restored_mark o then (record { nodes = nodes; last = m }) k (ap (λ (w : Paths). w.nodes) view) h

  pub back_within : (then : Paths) → IsMark o m then → m ≤ length nodes
  back_within then h = subst (λ (w : Paths). m ≤ length w.nodes) (sym view) (mark_within o then m h)
