-- Marks of entries, told from those of the entries before.
use Rattle.std.proofs.Common.{◌≡◌, ◌∙◌, ℕ, zero, suc, ◌+◌, ◌<◌, ◌≤◌, Bool, true, false, cond, ◌&&◌, ◌||◌, nat_eq, nat_lt, List, [], ◌∷◌, ◌++◌, map, length, take, get_or, Option, Some, None, refl, sym, ap, slice_get}
use Rattle.std.specs.List.{list_any}
use Rattle.std.proofs.lemmas.List.{append_assoc, append-nil, map-append, take_more, take_all}
use Rattle.ae_core.specs.declared.terms.Head.{Head}
use Rattle.ae_core.specs.declared.terms.Op.{Op}
use Rattle.ae_core.specs.declared.terms.Sort.{Sort}
use Rattle.ae_expressions.specs.declared.marks.Sought.{Sought}
use Rattle.ae_expressions.specs.declared.marks.Sought.TheVariants.{Variable, Choice}
use Rattle.ae_elab.specs.declared.nodes.Node.{Node}
use Rattle.ae_elab.specs.declared.nodes.Node.TheVariants as node
use Rattle.ae_expressions.specs.Inner.Marks.{applies, base_mark, choice_mark, found_in, has_mark, mark_of, mark_in, marked}
use Rattle.ae_elab.specs.Nodes.{Entry, a_tree, a_claim, tree_in, tree_at, trees_at, entry_of, entries_after, entries_of}
use Rattle.ae_elab.specs.Rules.{no_tree}
use Rattle.ae_elab.specs.Trees as tree
use Rattle.ae_elab.specs.Trees.{Tree, Trees, Claim, more, is_application, variables_in, variables_among}
use Rattle.std.proofs.lemmas.List.Folds.{list_any-append}
use Rattle.ae_elab.proofs.NodeLaws.{entries_more}

-- ---- what stands in several terms stands in one of them
pub mark_none : (s : Sought) → has_mark s tree.none ≡ false
mark_none (Variable x) = refl
mark_none Choice = refl

pub mark_more : (s : Sought) (t : Tree) (us : Trees) → has_mark s (more t us) ≡ (found_in s t || has_mark s us)
mark_more (Variable x) t us = list_any-append (nat_eq x) (variables_in t) (variables_among us)
mark_more Choice t us = refl

-- ---- what stands in a term
module _ (h : Head) (ss : List Sort) (us : Trees) where
  pub found_apply : (s : Sought) → found_in s (tree.apply h ss us) ≡ has_mark s us
  found_apply (Variable x) = refl
  found_apply Choice = refl

module _ (o : Op) (r : Sort) (us : Trees) where
  pub found_operation : (s : Sought) → found_in s (tree.operation o r us) ≡ has_mark s us
  found_operation (Variable x) = refl
  found_operation Choice = refl

module _ (k : ℕ) (ss : List Sort) (n : ℕ) (ps : List ℕ) (us : Trees) where
  pub found_build : (s : Sought) → found_in s (tree.build k ss n ps us) ≡ has_mark s us
  found_build (Variable x) = refl
  found_build Choice = refl

  any_left : (x : ℕ) (is_left : Bool) (xs : List ℕ) → list_any (nat_eq x) (cond is_left xs []) ≡ (is_left && list_any (nat_eq x) xs)
  any_left x true xs = refl
  any_left x false xs = refl

  pub found_update : (b : Tree) (s : Sought) → found_in s (tree.update k ss n b ps us) ≡ (base_mark s (nat_lt (length ps) n) (found_in s b) || has_mark s us)
  found_update b (Variable x) =
      list_any-append (nat_eq x) (cond (nat_lt (length ps) n) (variables_in b) []) (variables_among us)
      ∙ ap (λ z. z || list_any (nat_eq x) (variables_among us)) (any_left x (nat_lt (length ps) n) (variables_in b))
  found_update b Choice = refl

pub found_choice : (c : Claim) (a b : Tree) (s : Sought) → found_in s (tree.choice c a b) ≡ choice_mark s (found_in s a) (found_in s b)
found_choice c a b (Variable x) = list_any-append (nat_eq x) (variables_in a) (variables_in b)
found_choice c a b Choice = refl

-- ---- the marks of entries
module _ (s : Sought) where
  nothing : found_in s no_tree ≡ false
  nothing = by_sought s
    where
      by_sought : (k : Sought) → found_in k no_tree ≡ false
      by_sought (Variable x) = refl
      by_sought Choice = refl

  abbrev map_mark : Option Entry → Option Bool
  map_mark None = None
  map_mark (Some e) = Some (mark_of s e)

  by_entry : (o : Option Entry) → mark_in (map_mark o) ≡ found_in s (tree_in o)
  by_entry None = sym nothing
  by_entry (Some (a_tree t)) = refl
  by_entry (Some (a_claim f)) = sym nothing

  get_mark : (es : List Entry) (n : ℕ) → slice_get (map (mark_of s) es) n ≡ map_mark (slice_get es n)
  get_mark [] n = refl
  get_mark (e ∷ es) zero = refl
  get_mark (e ∷ es) (suc n) = get_mark es n

  module _ (bs : List Bool) (es : List Entry) (are : bs ≡ map (mark_of s) es) where
    pub marked_at : (n : ℕ) → marked bs n ≡ found_in s (tree_at es n)
    marked_at n = ap (λ z. marked z n) are ∙ ap mark_in (get_mark es n) ∙ by_entry (slice_get es n)

    pub marked_among : (ns : List ℕ) → list_any (marked bs) ns ≡ has_mark s (trees_at es ns)
    marked_among [] = sym (mark_none s)
    marked_among (n ∷ ns) = ap (λ b. b || list_any (marked bs) ns) (marked_at n) ∙ ap (λ b. found_in s (tree_at es n) || b) (marked_among ns) ∙ sym (mark_more s (tree_at es n) (trees_at es ns))

-- ---- the next mark
pub marks_next : (s : Sought) (bs later : List Bool) (ns : List Node) (i : ℕ) (n : Node) (b : Bool) → i < length ns → n ≡ get_or ns i n → b ≡ mark_of s (entry_of (entries_of (take i ns)) n)
    → later ≡ bs ++ b ∷ [] → bs ≡ map (mark_of s) (entries_of (take i ns)) → later ≡ map (mark_of s) (entries_of (take (i + 1) ns))
marks_next s bs later ns i n b l is one longer are =
    let es = entries_of (take i ns) in
    longer ∙ ap (λ z. z ++ b ∷ []) are ∙ ap (λ z. map (mark_of s) es ++ z ∷ []) one ∙ sym (map-append (mark_of s) es (entry_of es n ∷ []))
    ∙ ap (map (mark_of s)) (sym (entries_more [] (take i ns) n)) ∙ ap (λ z. map (mark_of s) (entries_of z)) (sym (take_more ns i n l ∙ ap (λ z. take i ns ++ z ∷ []) (sym is)))

pub marks_whole : (s : Sought) (bs : List Bool) (ns : List Node) (i : ℕ) → length ns ≤ i → bs ≡ map (mark_of s) (entries_of (take i ns)) → bs ≡ map (mark_of s) (entries_of ns)
marks_whole s bs ns i l are = are ∙ ap (λ z. map (mark_of s) (entries_of z)) (take_all i ns l)

-- ---- applications
abbrev entry_applies : Entry → Bool
entry_applies e = is_application (tree_in (Some e))

node_applies : (es : List Entry) (n : Node) → entry_applies (entry_of es n) ≡ applies n
node_applies es (node.Variable x) = refl
node_applies es (node.Numeral a b r) = refl
node_applies es (node.Apply h ss us) = refl
node_applies es (node.Operation o s us) = refl
node_applies es (node.Build k ss n ps us) = refl
node_applies es (node.Update k ss n b ps us) = refl
node_applies es (node.Choice c a b) = refl
node_applies es node.Truth = refl
node_applies es node.Falsity = refl
node_applies es (node.Relation r a b) = refl
node_applies es (node.Predicate k ss us) = refl
node_applies es (node.Distinct us) = refl
node_applies es (node.Holds t) = refl
node_applies es (node.Negation a) = refl
node_applies es (node.Joined c a b) = refl
node_applies es (node.Conditional c a b) = refl
node_applies es (node.Quantified q xs ss ps f) = refl

all_apply : (es : List Entry) (ns : List Node) → map entry_applies (entries_after es ns) ≡ map entry_applies es ++ map applies ns
all_apply es [] = sym (append-nil (map entry_applies es))
all_apply es (n ∷ ns) =
    all_apply (es ++ entry_of es n ∷ []) ns ∙ ap (λ z. z ++ map applies ns) (map-append entry_applies es (entry_of es n ∷ []))
    ∙ append_assoc (map entry_applies es) (entry_applies (entry_of es n) ∷ []) (map applies ns) ∙ ap (λ b. map entry_applies es ++ b ∷ map applies ns) (node_applies es n)

abbrev or_applies : Option Bool → Bool
or_applies (Some b) = b
or_applies None = true

abbrev map_some : {A : Type 0} → (A → Bool) → Option A → Option Bool
map_some f None = None
map_some f (Some x) = Some (f x)

get_map : {A : Type 0} (f : A → Bool) (xs : List A) (n : ℕ) → slice_get (map f xs) n ≡ map_some f (slice_get xs n)
get_map f [] n = refl
get_map f (x ∷ xs) zero = refl
get_map f (x ∷ xs) (suc n) = get_map f xs n

entry_at : (o : Option Entry) → or_applies (map_some entry_applies o) ≡ is_application (tree_in o)
entry_at None = refl
entry_at (Some e) = refl

pub applies_at : (ns : List Node) (n : ℕ) (o : Option Node) → slice_get ns n ≡ o → is_application (tree_at (entries_of ns) n) ≡ or_applies (map_some applies o)
applies_at ns n o is =
    sym (entry_at (slice_get (entries_of ns) n)) ∙ ap or_applies (sym (get_map entry_applies (entries_of ns) n) ∙ ap (λ z. slice_get z n) (all_apply [] ns) ∙ get_map applies ns n ∙ ap (map_some applies) is)
