-- The assumed literals that are looked at, one after another, and the names of applications.
use Rattle.std.specs.Prelude.{ℕ, zero, suc, ◌+◌, ◌<◌, ◌≤◌, Bool, true, false, not, List, [], ◌∷◌, ◌≡◌, ◌↔◌, get_or, length, slice_get, Some, IsTrue}
use Rattle.std.proofs.Common.{refl, sym, ap, ◌∙◌, subst, arith}
use Rattle.std.proofs.lemmas.List.{take_all}
use Rattle.std.proofs.lemmas.Option.{same_Some}
use Rattle.ae_base.specs.Relations.{Pairwise}
use Rattle.ae_base.proofs.Tests.{false_true, true_false}
use native.Mathlib.Decide.{ℕ_discrete}
use Rattle.ae_core.specs.declared.terms.Head.{Head}
use Rattle.ae_pmap.specs.Forest.{present}
use Rattle.ae_pmap.specs.Pairs.{found}
use Rattle.ae_store.specs.Stores.{Stored, IsStore}
use Rattle.ae_store.specs.declared.nodes.Node.{Node}
use Rattle.ae_store.specs.declared.nodes.NodeHead.{NodeHead}
use Rattle.ae_store.specs.declared.nodes.NodeHead.TheVariants.{Of}
use Rattle.ae_theory.specs.Names.{terms_in}
use Rattle.ae_value_table.specs.Table.{Contents as Values}
use Rattle.ae_literals.specs.declared.said.Said.{Said}
use Rattle.ae_literals.specs.Said.{IsWithin}
use Rattle.ae_state.specs.declared.holding.Holding.{Holding}
use Rattle.ae_state.specs.Fitting.{FitsStore}
use Rattle.ae_state.proofs.Shown.{terms_shown}
use Rattle.ae_turns.specs.Representing.{IsTaken}
use Rattle.ae_unmet.proofs.SaidPlaces.{placed, said_at_place, within_of}
use Rattle.ae_unmet.proofs.TakenNames.{terms_long}
use Rattle.ae_saturation.specs.Lasting.{AreSameNodes, AreSameApplications}

-- ---- lists place by place
pub pairs_of : (R : ℕ → ℕ → Type 0) (xs ys : List ℕ) → length xs ≡ length ys → ((k : ℕ) → k < length xs → R (get_or xs k 0) (get_or ys k 0)) → Pairwise R xs ys
pairs_of R [] [] n h = tt
pairs_of R [] (y ∷ ys) n h = absurd (omega (arith, n))
pairs_of R (x ∷ xs) [] n h = absurd (omega (arith, n))
pairs_of R (x ∷ xs) (y ∷ ys) n h = (h 0 (omega arith), pairs_of R xs ys (omega (arith, n)) (λ k l. h (suc k) (omega (arith, l))))

pub pair_at : (R : ℕ → ℕ → Type 0) (xs ys : List ℕ) → Pairwise R xs ys → (k : ℕ) → k < length xs → R (get_or xs k 0) (get_or ys k 0)
pair_at R [] ys a k l = absurd (omega (arith, l))
pair_at R (x ∷ xs) [] a k l = absurd a
pair_at R (x ∷ xs) (y ∷ ys) a zero l = a.0
pair_at R (x ∷ xs) (y ∷ ys) a (suc k) l = pair_at R xs ys a.1 k (omega (arith, l))

-- ---- nodes
pub heads_same : (c : Values) (p q : Node) (h k : Head) → p.head ≡ Of h → q.head ≡ Of k → AreSameNodes c p q → h ≡ k
heads_same c p q h k e f x =
    let a : ◌≡◌ {A = NodeHead} (Of h) (Of x.head) = sym e ∙ x.first in
    let b : ◌≡◌ {A = NodeHead} (Of k) (Of x.head) = sym f ∙ x.second in
    cc (a, b)

module _ (nodes : List Node) (c : Values) (m n : ℕ) (p q : Node) (first_at : slice_get nodes m ≡ Some p) (second_at : slice_get nodes n ≡ Some q) where
  pub names_of : AreSameNodes c p q → AreSameApplications nodes c m n
  names_of same = record { first = p; second = q; first_at = first_at; second_at = second_at; same = same }

  pub nodes_of : AreSameApplications nodes c m n → AreSameNodes c p q
  nodes_of a =
      let e : a.first ≡ p = same_Some a.first p (sym a.first_at ∙ first_at) in
      let f : a.second ≡ q = same_Some a.second q (sym a.second_at ∙ second_at) in
      subst (λ (x : Node). AreSameNodes c p x) f (subst (λ (x : Node). AreSameNodes c x a.second) e a.same)

-- ---- truth values
false_of : (r : Bool) → not r ≡ true → r ≡ false
false_of true t = false_true t
false_of false t = refl

pub opposite_true : (b d : Bool) → d ≡ true → IsTrue (not b) ↔ (b ≡ not d)
opposite_true true d e = (λ t. false_true t, λ h. true_false (h ∙ ap not e))
opposite_true false d e = (λ t. sym (ap not e), λ h. refl)

pub opposite_false : (b d : Bool) → d ≡ false → IsTrue b ↔ (b ≡ not d)
opposite_false b d e = (λ t. t ∙ sym (ap not e), λ h. h ∙ ap not e)

pub answered_true : (a r d : Bool) → r ≡ a → d ≡ true → IsTrue r ↔ (a ≡ d)
answered_true a r d e f = (λ t. sym e ∙ t ∙ sym f, λ h. e ∙ h ∙ f)

pub answered_false : (a r d : Bool) → r ≡ a → d ≡ false → IsTrue (not r) ↔ (a ≡ d)
answered_false a r d e f = (λ t. sym e ∙ false_of r t ∙ sym f, λ h. ap not (e ∙ h ∙ f))

-- ---- what a literal says
module _ (s : Stored) (o : Holding) (t : IsTaken o s) (place : ℕ) (below : place < o.next) (r : Said) (told : (y : Said) → found (present o.said) place ≡ Some y → r ≡ y) where
  pub said_is : found (present o.said) place ≡ Some r
  said_is =
      let p = placed o.next (present o.assumed) ((t.fits).right).numbered place below in
      let w = said_at_place s o t place below (p.0).1 (p.1).is in
      w.2 ∙ ap (λ (y : Said). Some y) (sym (told w.0 w.2))

  pub said_within : IsWithin (length s.nodes) r
  said_within =
      let p = placed o.next (present o.assumed) ((t.fits).right).numbered place below in
      let w = said_at_place s o t place below (p.0).1 (p.1).is in
      subst (IsWithin (length s.nodes)) (sym (told w.0 w.2)) (within_of s ((p.0).1).lit w.0 (terms_long o s t) w.1)

-- what holds at each place from one on and below another, and at that one, holds below the next
pub below_next : (o : Holding) (P : Said → Type 0) (from place : ℕ) (x : Said) → ((y : Said) → found (present o.said) place ≡ Some y → x ≡ y) → P x
    → ((k : ℕ) (y : Said) → from ≤ k → k < place → found (present o.said) k ≡ Some y → P y) → (k : ℕ) (y : Said) → from ≤ k → k < place + 1 → found (present o.said) k ≡ Some y → P y
below_next o P from place x told h all k y i l e = by_place (ℕ_discrete k place)
  where
    by_place : Dec (k ≡ place) → P y
    by_place (yes f) = subst P (told y (ap (found (present o.said)) (sym f) ∙ e)) h
    by_place (no f) = all k y i (omega (arith, l, f)) e

-- ---- all names of a store have values
pub taken_by : (o : Holding) (s : Stored) → FitsStore o s → IsStore s.signature s.nodes → o.values.taken ≡ length s.nodes → length (terms_in s) ≡ length s.nodes → IsTaken o s
taken_by o s fits store many long =
    record { store = store; fits = fits; all = sym (terms_shown o s fits) ∙ take_all o.values.taken (terms_in s) (omega (arith, many, long)) }
