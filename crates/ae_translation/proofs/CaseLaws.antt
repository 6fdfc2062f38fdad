-- Values that hang on conditions, one after another, and how they are held.
use Rattle.std.proofs.Common.{◌≡◌, ◌∙◌, ℕ, List, [], ◌∷◌, ◌++◌, refl, sym, ap}
use Rattle.std.proofs.lemmas.List.{append_assoc, append-nil}
use Rattle.ae_core.specs.declared.terms.Term.{Term}
use Rattle.ae_core.specs.declared.terms.Sort.{Sort}
use Rattle.ae_core.specs.declared.formulas.Formula.{Formula, Eq}
use Rattle.ae_elab.specs.declared.nodes.Relation as code
use Rattle.ae_elab.specs.Elaboration.{Cases, leaf, branch, ◌|>◌, formula_of, record_of, related, true_term}
use Rattle.ae_elab.specs.Nodes.{relation_of}
use Rattle.ae_lifting.specs.declared.cases.Atom.TheVariants.{Holds, Relation}
use Rattle.ae_lifting.specs.declared.cases.Cases as held
use Rattle.ae_lifting.specs.declared.cases.Cases.{Leaf, Branch, fold-roll-Cases}
use Rattle.ae_lifting.specs.declared.cases.Cases.TheOpen as layer
use Rattle.ae_lifting.specs.declared.cases.Cases.TheVariants.{rolls-Leaf, rolls-Branch}
use Rattle.ae_lifting.specs.Lifting.{cases_of, cases_step, changed_in, said_of}
use Rattle.ae_translation.specs.Listed.{listed}

-- ---- the cases that are held, at each variant
pub held_leaf : (us : List Term) → cases_of (Leaf us) ≡ leaf us
unfolding cases_of
held_leaf us = ap cases_of (sym (rolls-Leaf us)) ∙ fold-roll-Cases (Cases (List Term)) cases_step (layer.Leaf us)

pub held_branch : (c : Formula) (a b : held.Cases) → cases_of (Branch c a b) ≡ branch c (cases_of a) (cases_of b)
unfolding cases_of
held_branch c a b = ap cases_of (sym (rolls-Branch c a b)) ∙ fold-roll-Cases (Cases (List Term)) cases_step (layer.Branch c a b)

-- ---- one value after another
pub onward : {A B C : Type 0} (f : A → Cases B) (g : B → Cases C) (h : A → Cases C) → ((x : A) → (f x |> g) ≡ h x) → (c : Cases A) → ((c |> f) |> g) ≡ (c |> h)
onward f g h e (leaf x) = e x
onward f g h e (branch c a b) = ap (λ z. branch c z ((b |> f) |> g)) (onward f g h e a) ∙ ap (branch c (a |> h)) (onward f g h e b)

pub alike : {A B : Type 0} (f g : A → Cases B) → ((x : A) → f x ≡ g x) → (c : Cases A) → (c |> f) ≡ (c |> g)
alike f g e (leaf x) = e x
alike f g e (branch c a b) = ap (λ z. branch c z (b |> f)) (alike f g e a) ∙ ap (branch c (a |> g)) (alike f g e b)

as_it_is : {A : Type 0} (f : A → A) → ((x : A) → f x ≡ x) → (c : Cases A) → (c |> λ x. leaf (f x)) ≡ c
as_it_is f e (leaf x) = ap leaf (e x)
as_it_is f e (branch c a b) = ap (λ z. branch c z (b |> λ x. leaf (f x))) (as_it_is f e a) ∙ ap (branch c a) (as_it_is f e b)

-- ---- one term of terms
pub listed_of : (f : List Term → Term) (x : Cases (List Term)) → (x |> λ (us : List Term). leaf (f us ∷ [])) ≡ listed (x |> λ (us : List Term). leaf (f us))
listed_of f x = sym (onward (λ (us : List Term). leaf (f us)) (λ (t : Term). leaf (t ∷ [])) (λ (us : List Term). leaf (f us ∷ [])) (λ (us : List Term). refl) x)

-- ---- a record with its values
module _ (of count : ℕ) (ss : List Sort) (ps : List ℕ) (c : Cases Term) (y : Cases (List Term)) where
  pub record_listed : ((listed c |> λ (us : List Term). y |> λ (vs : List Term). leaf (us ++ vs)) |> λ (us : List Term). leaf (changed_in of ss count ps us ∷ []))
      ≡ listed (c |> λ (v : Term). y |> λ (vs : List Term). leaf (record_of of ss count v ps vs))
  record_listed =
      let whole = λ (us : List Term). leaf (changed_in of ss count ps us ∷ []) in
      let made = λ (v : Term). y |> λ (vs : List Term). leaf (record_of of ss count v ps vs ∷ []) in
      ap (λ (z : Cases (List Term)). z |> whole) (onward (λ (v : Term). leaf (v ∷ [])) (λ (us : List Term). y |> λ (vs : List Term). leaf (us ++ vs)) (λ (v : Term). y |> λ (vs : List Term). leaf (v ∷ vs)) (λ (v : Term). refl) c)
      ∙ onward (λ (v : Term). y |> λ (vs : List Term). leaf (v ∷ vs)) whole made (λ (v : Term). onward (λ (vs : List Term). leaf (v ∷ vs)) whole (λ (vs : List Term). leaf (record_of of ss count v ps vs ∷ [])) (λ (vs : List Term). refl) y) c
      ∙ sym (onward (λ (v : Term). y |> λ (vs : List Term). leaf (record_of of ss count v ps vs)) (λ (t : Term). leaf (t ∷ [])) made
      (λ (v : Term). onward (λ (vs : List Term). leaf (record_of of ss count v ps vs)) (λ (t : Term). leaf (t ∷ [])) (λ (vs : List Term). leaf (record_of of ss count v ps vs ∷ [])) (λ (vs : List Term). refl) y) c)

-- ---- a relation of two terms
pub related_listed : (r : code.Relation) (x y : Cases Term)
    → (listed x |> λ (us : List Term). listed y |> λ (vs : List Term). leaf (said_of (Relation r) (us ++ vs))) ≡ (x |> λ (u : Term). y |> λ (v : Term). leaf (related (relation_of r) u v))
related_listed r x y =
    onward (λ (u : Term). leaf (u ∷ [])) (λ (us : List Term). listed y |> λ (vs : List Term). leaf (said_of (Relation r) (us ++ vs))) (λ (u : Term). y |> λ (v : Term). leaf (related (relation_of r) u v))
    (λ (u : Term). onward (λ (v : Term). leaf (v ∷ [])) (λ (vs : List Term). leaf (said_of (Relation r) (u ∷ vs))) (λ (v : Term). leaf (related (relation_of r) u v)) (λ (v : Term). refl) y) x

-- ---- a term that stands for a formula
pub holds_listed : (x : Cases Term) → formula_of (listed x |> λ (us : List Term). leaf (said_of Holds us)) ≡ formula_of (x |> λ (u : Term). leaf (Eq u true_term))
holds_listed x =
    ap formula_of (onward (λ (u : Term). leaf (u ∷ [])) (λ (us : List Term). leaf (said_of Holds us)) (λ (u : Term). leaf (Eq u true_term)) (λ (u : Term). refl) x)

-- ---- terms in turn
pub none_before : (x : Cases (List Term)) → (leaf [] |> λ (us : List Term). x |> λ (vs : List Term). leaf (us ++ vs)) ≡ x
none_before x = as_it_is (λ (vs : List Term). vs) (λ (vs : List Term). refl) x

pub none_behind : (x : Cases (List Term)) → (x |> λ (us : List Term). leaf [] |> λ (vs : List Term). leaf (us ++ vs)) ≡ x
none_behind x = as_it_is (λ (us : List Term). us ++ []) append-nil x

module _ (all : Cases (List Term)) (t : Cases Term) (rest : Cases (List Term)) where
  pub one_behind : ((all |> λ (us : List Term). listed t |> λ (vs : List Term). leaf (us ++ vs)) |> λ (us : List Term). rest |> λ (vs : List Term). leaf (us ++ vs))
      ≡ (all |> λ (us : List Term). (t |> λ (v : Term). rest |> λ (vs : List Term). leaf (v ∷ vs)) |> λ (vs : List Term). leaf (us ++ vs))
  one_behind =
      let on = λ (us : List Term). rest |> λ (vs : List Term). leaf (us ++ vs) in
      onward (λ (us : List Term). listed t |> λ (vs : List Term). leaf (us ++ vs)) on (λ (us : List Term). (t |> λ (v : Term). rest |> λ (vs : List Term). leaf (v ∷ vs)) |> λ (vs : List Term). leaf (us ++ vs))
      (λ (us : List Term).
      let moved = λ (v : Term). rest |> λ (ws : List Term). leaf ((us ++ v ∷ []) ++ ws) in
      ap (λ (z : Cases (List Term)). z |> on) (onward (λ (v : Term). leaf (v ∷ [])) (λ (vs : List Term). leaf (us ++ vs)) (λ (v : Term). leaf (us ++ v ∷ [])) (λ (v : Term). refl) t)
      ∙ onward (λ (v : Term). leaf (us ++ v ∷ [])) on moved (λ (v : Term). refl) t
      ∙ sym (onward (λ (v : Term). rest |> λ (vs : List Term). leaf (v ∷ vs)) (λ (vs : List Term). leaf (us ++ vs)) moved
      (λ (v : Term). onward (λ (vs : List Term). leaf (v ∷ vs)) (λ (vs : List Term). leaf (us ++ vs)) (λ (ws : List Term). leaf ((us ++ v ∷ []) ++ ws)) (λ (ws : List Term). ap leaf (sym (append_assoc us (v ∷ []) ws))) rest) t))
      all
