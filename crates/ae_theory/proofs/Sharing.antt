-- The lists that places stand for, and what nodes that are added leave of them.
use Rattle.std.proofs.Common.{◌≡◌, ℕ, suc, ◌+◌, ◌-◌, ◌<◌, ◌≤◌, cond, nat_eq, get_or, List, [], ◌∷◌, ◌++◌, length, slice_get, Option, None, Some, Result, Ok, Err, OnOk, OnErr, ◌∙◌, ap, subst, sym, refl, arith, length-append, inl, inr}
use Rattle.std.proofs.Math.ListN.{get_or-append}
use Rattle.std.proofs.Math.Seq.{get_or-append_seam}
use Rattle.std.proofs.lemmas.List.Sums.{fold_push}
use Rattle.std.proofs.lemmas.Option.{slice_get_within, slice_get-get_or}
use Rattle.std.specs.List.{fold}
use Rattle.std.specs.Prelude.{slice_index_or}
use Rattle.std.proofs.lemmas.List.{append_cancel_left, append-nil, append_assoc, get_or_past}
use Rattle.ae_store.proofs.Gets.{get_pushed}
use Rattle.ae_journal.specs.declared.lines.Line.{Line}
use Rattle.ae_journal.specs.Standing.{Setting}
use Rattle.ae_journal.specs.Legal.{AreLegal}
use Rattle.ae_theory.specs.Paths.{extended, lists_of, list_at}
use Rattle.ae_theory.specs.Classes.{class_of, merged, merged_by}
use Rattle.ae_theory.specs.Inner.Trees.{IsTree, IsNodeAt, IsCached, renamed}
use Rattle.ae_theory.specs.declared.nodes.Edge.{Edge}
use Rattle.ae_theory.specs.declared.nodes.Edge.TheVariants.{Same, Apart, Other}
use Rattle.ae_theory.specs.declared.nodes.Node.{Node}

fold_length : (lists : List (List Node)) (nodes : List Node) → length (fold extended lists nodes) ≡ length lists + length nodes
fold_length lists [] = omega arith
fold_length lists (n ∷ nodes) = omega (arith, fold_length (extended lists n) nodes, length-append lists ((slice_index_or lists n.parent [] ++ n ∷ []) ∷ []))

lists_length : (nodes : List Node) → length (lists_of nodes) ≡ length nodes + 1
lists_length nodes = omega (arith, fold_length ([] ∷ []) nodes)

pub list_old : (nodes : List Node) (n : Node) (place : ℕ) → place ≤ length nodes → list_at (nodes ++ n ∷ []) place ≡ list_at nodes place
list_old nodes n place l =
    ap (λ (w : List (List Node)). slice_index_or w place []) (fold_push extended ([] ∷ []) nodes n)
    ∙ get_or-append (lists_of nodes) _ [] place (omega (arith, lists_length nodes))

pub list_new : (nodes : List Node) (n : Node) → list_at (nodes ++ n ∷ []) (length nodes + 1) ≡ list_at nodes n.parent ++ n ∷ []
list_new nodes n =
    ap (λ (w : List (List Node)). slice_index_or w (length nodes + 1) []) (fold_push extended ([] ∷ []) nodes n)
    ∙ subst (λ (k : ℕ). slice_index_or (extended (lists_of nodes) n) k [] ≡ list_at nodes n.parent ++ n ∷ []) (lists_length nodes)
    (get_or-append_seam (lists_of nodes) _ [] [])

pub lists_beyond : (nodes : List Node) (place : ℕ) → length nodes < place → list_at nodes place ≡ []
lists_beyond nodes place l = get_or_past (lists_of nodes) place [] (omega (arith, l, lists_length nodes))

-- more nodes
pub list_grown : (nodes more : List Node) (place : ℕ) → place ≤ length nodes → list_at (nodes ++ more) place ≡ list_at nodes place
list_grown nodes [] place l = ap (λ (w : List Node). list_at w place) (append-nil nodes)
list_grown nodes (n ∷ more) place l =
    ap (λ (w : List Node). list_at w place) (sym (append_assoc nodes (n ∷ []) more))
    ∙ (list_grown (nodes ++ n ∷ []) more place (omega (arith, l, length-append nodes (n ∷ []))) ∙ list_old nodes n place l)

pub list_none : (nodes : List Node) → list_at nodes 0 ≡ []
list_none nodes = list_grown [] nodes 0 (omega arith)

-- the list of a node's place
abbrev Steps : List Node → Type 0
Steps nodes = (k : ℕ) (x : Node) → slice_get nodes k ≡ Some x → x.parent ≤ k → list_at nodes (suc k) ≡ list_at nodes x.parent ++ x ∷ []

steps_push : (nodes : List Node) (n : Node) → Steps nodes → Steps (nodes ++ n ∷ [])
steps_push nodes n h k x e p = elim (get_pushed nodes n k x e) [
  | inl old ↦
      let w : k < length nodes = slice_get_within nodes k x old in
      list_old nodes n (suc k) (omega (arith, w)) ∙ (h k x old p ∙ ap (λ (w : List Node). w ++ x ∷ []) (sym (list_old nodes n x.parent (omega (arith, w, p)))))
  | inr new ↦
      let q : x.parent ≤ length nodes = subst (λ w. x.parent ≤ w) new.0 p in
      subst (λ w. list_at (nodes ++ n ∷ []) (suc w) ≡ list_at (nodes ++ n ∷ []) x.parent ++ x ∷ []) (sym new.0) (
      subst (λ (w : Node). w.parent ≤ length nodes → list_at (nodes ++ n ∷ []) (suc (length nodes)) ≡ list_at (nodes ++ n ∷ []) w.parent ++ w ∷ []) new.1
      (λ r. subst (λ w. list_at (nodes ++ n ∷ []) w ≡ list_at nodes n.parent ++ n ∷ []) (omega arith) (list_new nodes n) ∙ ap (λ (w : List Node). w ++ n ∷ []) (sym (list_old nodes n n.parent r))) q
      )
]

steps_all : (first nodes : List Node) → Steps first → Steps (first ++ nodes)
steps_all first [] h = subst Steps (sym (append-nil first)) h
steps_all first (n ∷ nodes) h = subst Steps (append_assoc first (n ∷ []) nodes) (steps_all (first ++ n ∷ []) nodes (steps_push first n h))

pub list_step : (nodes : List Node) (k : ℕ) (x : Node) → IsTree nodes → slice_get nodes k ≡ Some x → list_at nodes (suc k) ≡ list_at nodes x.parent ++ x ∷ []
list_step nodes k x t e = steps_all [] nodes (λ k x e. absurd (let q : ◌≡◌ {A = Option Node} None (Some x) = e in cc)) k x e (t.each k x e).parent

-- the last node of a place
pub record IsPlaced (nodes : List Node) (place : ℕ) (x : Node) : Type 0 where
  pub at : slice_get nodes (place - 1) ≡ Some x
  pub below : x.parent < place
  pub within : x.parent ≤ length nodes
  pub list : list_at nodes place ≡ list_at nodes x.parent ++ x ∷ []

pub placed : (nodes : List Node) (place : ℕ) (d : Node) → IsTree nodes → (place ≡ 0 → ⊥) → place ≤ length nodes → IsPlaced nodes place (get_or nodes (place - 1) d)
placed nodes place d t some l =
    let e : slice_get nodes (place - 1) ≡ Some (get_or nodes (place - 1) d) = slice_get-get_or nodes (place - 1) d (omega (arith, some, l)) in
    let p = (t.each (place - 1) (get_or nodes (place - 1) d) e).parent in
    record {
      at = e;
      below = omega (arith, p, some);
      within = omega (arith, p, some, l);
      list = ap (list_at nodes) (let q : place ≡ suc (place - 1) = omega (arith, some) in q) ∙ list_step nodes (place - 1) (get_or nodes (place - 1) d) t e;
    }

-- one node more
pub class_push : (xs : List Node) (x : Node) (n : ℕ) → class_of (xs ++ x ∷ []) n ≡ merged (class_of xs) x n
class_push xs x n = ap (λ (f : ℕ → ℕ). f n) (fold_push merged (λ n. n) xs x)

-- the renaming that a node keeps is what its equation does
pub renamed_is : (xs : List Node) (e : Edge) (from to n : ℕ) → IsCached xs e from to → renamed e from to (class_of xs n) ≡ merged_by (class_of xs) e n
renamed_is xs (Same l r) from to n c = (λ i. cond (nat_eq (class_of xs n) (c.0 i)) (c.1 i) (class_of xs n))
renamed_is xs (Apart l r) from to n c = refl
renamed_is xs Other from to n c = refl

pub tree_push : (nodes : List Node) (n : Node) → IsTree nodes → n.parent ≤ length nodes → IsCached (list_at nodes n.parent) n.edge n.from n.to → IsTree (nodes ++ n ∷ [])
tree_push nodes n t p c = record {
  each = λ k x e. elim (get_pushed nodes n k x e) [
    | inl old ↦
        let w : k < length nodes = slice_get_within nodes k x old in
        let at = t.each k x old in
        record { parent = at.parent; cached = subst (λ (w : List Node). IsCached w x.edge x.from x.to) (sym (list_old nodes n x.parent (omega (arith, w, at.parent)))) at.cached }
    | inr new ↦ subst (λ (w : Node). IsNodeAt (nodes ++ n ∷ []) k w) new.1 (record {
      parent = subst (λ w. n.parent ≤ w) (sym new.0) p;
      cached = subst (λ (w : List Node). IsCached w n.edge n.from n.to) (sym (list_old nodes n n.parent p)) c;
    })
  ];
}

-- after a push, whether there was memory or not
pub tree_pushed : {A E : Type 0} (r : Result A E) (old new : List Node) (x : Node) → OnOk r (new ≡ old ++ x ∷ []) → OnErr r (new ≡ old) → IsTree old → IsTree (old ++ x ∷ []) → IsTree new
tree_pushed (Ok a) old new x ok err t s = subst IsTree (sym ok) s
tree_pushed (Err e) old new x ok err t s = subst IsTree (sym err) t

-- where nothing was added, nothing has to be legal
pub none_added : (x : Setting) (bound : ℕ) (js added : List Line) → js ≡ js ++ added → AreLegal x bound js added
none_added x bound js added e =
    subst (AreLegal x bound js) (let q : [] ≡ added = append_cancel_left js [] added (append-nil js ∙ e) in q) tt
