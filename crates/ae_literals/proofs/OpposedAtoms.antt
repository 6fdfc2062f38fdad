-- Atoms of congruent names, and literals that are opposed.
use Rattle.std.specs.Prelude.{ℕ, suc, zero, ◌<◌, Bool, true, false, List, [], ◌∷◌, ◌≡◌, map, length, get_or, slice_get, Some}
use Rattle.std.proofs.Common.{refl, sym, ap, ◌∙◌, subst, arith}
use Rattle.std.proofs.lemmas.List.{length-map}
use Rattle.std.proofs.lemmas.Option.{same_Some}
use Rattle.ae_base.proofs.Tests.{false_true}
use Rattle.ae_core.specs.declared.terms.Head.{Head}
use Rattle.ae_store.specs.declared.nodes.Node.{Node}
use Rattle.ae_store.specs.declared.nodes.NodeHead.{NodeHead}
use Rattle.ae_store.specs.declared.nodes.NodeHead.TheVariants.{Of}
use Rattle.ae_settled.specs.Swept.{AreCongruent}
use Rattle.ae_literals.specs.declared.said.Said.{Said}
use Rattle.ae_literals.specs.declared.said.Said.TheVariants.{Equal, Atom, Other}
use Rattle.ae_literals.specs.Unmet.{AreCongruentNames, AreOpposed}
use Rattle.ae_literals.specs.Inner.Parts.{Opposes}

-- ---- lists of names
pub same_at : (rep : ℕ → ℕ) (xs ys : List ℕ) → map rep xs ≡ map rep ys → (k : ℕ) → k < length xs → rep (get_or xs k 0) ≡ rep (get_or ys k 0)
same_at rep [] ys e k l = absurd (omega (arith, l))
same_at rep (x ∷ xs) [] e k l = absurd (let n : suc (length (map rep xs)) ≡ 0 = ap length e in omega (arith, n))
same_at rep (x ∷ xs) (y ∷ ys) e zero l = cc e
same_at rep (x ∷ xs) (y ∷ ys) e (suc k) l = let f : map rep xs ≡ map rep ys = cc e in same_at rep xs ys f k (omega (arith, l))

pub same_each : (rep : ℕ → ℕ) (xs ys : List ℕ) → length xs ≡ length ys → ((k : ℕ) → k < length xs → rep (get_or xs k 0) ≡ rep (get_or ys k 0)) → map rep xs ≡ map rep ys
same_each rep [] [] n h = refl
same_each rep [] (y ∷ ys) n h = absurd (omega (arith, n))
same_each rep (x ∷ xs) [] n h = absurd (omega (arith, n))
same_each rep (x ∷ xs) (y ∷ ys) n h =
    let first : rep x ≡ rep y = h 0 (omega arith) in
    let rest : map rep xs ≡ map rep ys = same_each rep xs ys (omega (arith, n)) (λ k l. h (suc k) (omega (arith, l))) in
    λ i. first i ∷ rest i

pub same_length : (rep : ℕ → ℕ) (xs ys : List ℕ) → map rep xs ≡ map rep ys → length xs ≡ length ys
same_length rep xs ys e = sym (length-map xs rep) ∙ ap length e ∙ length-map ys rep

-- ---- nodes
pub congruent_head : (rep : ℕ → ℕ) (p q : Node) (h k : Head) → p.head ≡ Of h → q.head ≡ Of k → AreCongruent rep p q → h ≡ k
congruent_head rep p q h k e f c =
    let a : ◌≡◌ {A = NodeHead} (Of h) (Of c.head) = sym e ∙ c.first in
    let b : ◌≡◌ {A = NodeHead} (Of k) (Of c.head) = sym f ∙ c.second in
    cc (a, b)

module _ (nodes : List Node) (rep : ℕ → ℕ) (m n : ℕ) (p q : Node) (first_at : slice_get nodes m ≡ Some p) (second_at : slice_get nodes n ≡ Some q) where
  pub names_of : AreCongruent rep p q → AreCongruentNames nodes rep m n
  names_of c = record { first = p; second = q; first_at = first_at; second_at = second_at; congruent = c }

  pub nodes_of : AreCongruentNames nodes rep m n → AreCongruent rep p q
  nodes_of c =
      let e : c.first ≡ p = same_Some c.first p (sym c.first_at ∙ first_at) in
      let f : c.second ≡ q = same_Some c.second q (sym c.second_at ∙ second_at) in
      subst (λ z. AreCongruent rep p z) f (subst (λ z. AreCongruent rep z c.second) e c.congruent)

-- ---- literals
module _ (nodes : List Node) (rep : ℕ → ℕ) (said : List Said) (at : ℕ) (positive : Bool) (name : ℕ) (there : slice_get said at ≡ Some (Atom positive name)) where
  opposed_of : positive ≡ true → (k : ℕ) (y : Said) → slice_get said k ≡ Some y → Opposes nodes rep name y → AreOpposed nodes rep said at k
  opposed_of t k (Equal b l r) e h = absurd h
  opposed_of t k (Atom b n) e h =
      record { first = name; second = n; positive = there ∙ ap (λ c. Some (Atom c name)) t; negative = e ∙ ap (λ c. Some (Atom c n)) h.0; alike = h.1 }
  opposed_of t k Other e h = absurd h

  pub opposed_by : positive ≡ true → (k : ℕ) → ((y : Said) × (slice_get said k ≡ Some y) × Opposes nodes rep name y) → AreOpposed nodes rep said at k
  opposed_by t k h = opposed_of t k h.0 h.1 h.2

  pub opposed_to_none : ((k : ℕ) (y : Said) → slice_get said k ≡ Some y → ¬ Opposes nodes rep name y) → (k : ℕ) → ¬ AreOpposed nodes rep said at k
  opposed_to_none h k o =
      let z : ◌≡◌ {A = Said} (Atom positive name) (Atom true o.first) = same_Some (Atom positive name) (Atom true o.first) (sym there ∙ o.positive) in
      let e : name ≡ o.first = cc z in
      h k (Atom false o.second) o.negative (refl, subst (λ a. AreCongruentNames nodes rep a o.second) (sym e) o.alike)

  pub negative_opposes_none : positive ≡ false → (k : ℕ) → ¬ AreOpposed nodes rep said at k
  negative_opposes_none f k o =
      let z : ◌≡◌ {A = Said} (Atom positive name) (Atom true o.first) = same_Some (Atom positive name) (Atom true o.first) (sym there ∙ o.positive) in
      let e : positive ≡ true = cc z in
      false_true (sym f ∙ e)

pub equation_opposes_none : (nodes : List Node) (rep : ℕ → ℕ) (said : List Said) (at : ℕ) (b : Bool) (l r : ℕ) → slice_get said at ≡ Some (Equal b l r) → (k : ℕ) → ¬ AreOpposed nodes rep said at k
equation_opposes_none nodes rep said at b l r there k o =
    let z : ◌≡◌ {A = Said} (Equal b l r) (Atom true o.first) = same_Some (Equal b l r) (Atom true o.first) (sym there ∙ o.positive) in cc z

pub other_opposes_none : (nodes : List Node) (rep : ℕ → ℕ) (said : List Said) (at : ℕ) → slice_get said at ≡ Some Other → (k : ℕ) → ¬ AreOpposed nodes rep said at k
other_opposes_none nodes rep said at there k o =
    let z : ◌≡◌ {A = Said} Other (Atom true o.first) = same_Some Other (Atom true o.first) (sym there ∙ o.positive) in cc z
