-- Rising lists of the same numbers are the same, so a proof has one list of axioms.
use Rattle.std.proofs.Common.{ℕ, zero, suc, ◌<◌, ◌≡◌, ◌⊎◌, List, [], ◌∷◌, refl, sym, ◌∙◌, subst, arith, inl, inr, Some, None, Bool, true}
use Rattle.std.specs.Prelude.{slice_get}
use Rattle.ae_core.specs.declared.proofs.Proof.{Proof}
use Rattle.ae_trim.specs.Axioms.{AreAxioms}
use Rattle.std.specs.Bool.{Decides}
use Rattle.std.proofs.lemmas.Option.{none-some, same_Some}
use Rattle.ae_prooftext.specs.declared.proofs.ProofText.{ProofText}
use Rattle.ae_verdicts.specs.Verdicts.{ListsItsAxioms}
use Rattle.ae_trim.proofs.Rising.{at_contains, contains_at, rises}

abbrev Rises : List ℕ → Type 0
Rises ks = (i j a b : ℕ) → i < j → slice_get ks i ≡ Some a → slice_get ks j ≡ Some b → a < b

abbrev Has : List ℕ → ℕ → Type 0
Has ks k = (i : ℕ) × (slice_get ks i ≡ Some k)

tail_rises : (x : ℕ) (xs : List ℕ) → Rises (x ∷ xs) → Rises xs
tail_rises x xs r i j a b l e f = r (suc i) (suc j) a b (omega (arith, l)) e f

none_there : (k i : ℕ) → slice_get {X = ℕ} [] i ≡ Some k → ⊥
none_there k i e = none-some k e

least : (y : ℕ) (ys : List ℕ) (x i : ℕ) → Rises (y ∷ ys) → slice_get (y ∷ ys) i ≡ Some x → (y ≡ x) ⊎ (y < x)
least y ys x zero s e = inl (same_Some y x e)
least y ys x (suc i) s e = inr (s zero (suc i) y x (omega arith) refl e)

same_first : (x y : ℕ) → (y ≡ x) ⊎ (y < x) → (x ≡ y) ⊎ (x < y) → x ≡ y
same_first x y (inl e) q = sym e
same_first x y (inr l) (inl e) = e
same_first x y (inr l) (inr m) = absurd (omega (arith, l, m))

behind : (x : ℕ) (xs : List ℕ) (y : ℕ) (ys : List ℕ) (k i j : ℕ) → Rises (x ∷ xs) → x ≡ y → slice_get xs i ≡ Some k → slice_get (y ∷ ys) j ≡ Some k → Has ys k
behind x xs y ys k i zero r s e f = absurd (let l : x < k = r zero (suc i) x k (omega arith) refl e in let q = same_Some y k f in omega (arith, l, q, s))
behind x xs y ys k i (suc j) r s e f = (j, f)

same_rising : (xs ys : List ℕ) → Rises xs → Rises ys → ((k : ℕ) → Has xs k → Has ys k) → ((k : ℕ) → Has ys k → Has xs k) → xs ≡ ys
same_rising [] [] r s f g = refl
same_rising [] (y ∷ ys) r s f g = absurd (let h = g y (zero, refl) in none_there y h.0 h.1)
same_rising (x ∷ xs) [] r s f g = absurd (let h = f x (zero, refl) in none_there x h.0 h.1)
same_rising (x ∷ xs) (y ∷ ys) r s f g =
    let a = f x (zero, refl) in
    let b = g y (zero, refl) in
    let same = same_first x y (least y ys x a.0 s a.1) (least x xs y b.0 r b.1) in
    let rest = same_rising xs ys (tail_rises x xs r) (tail_rises y ys s)
    (λ k h. let t = f k (suc h.0, h.1) in behind x xs y ys k h.0 t.0 r same h.1 t.1)
    (λ k h. let t = g k (suc h.0, h.1) in behind y ys x xs k h.0 t.0 s (sym same) h.1 t.1) in
    λ i. same i ∷ rest i

same_axioms : (proof : Proof) (ks ns : List ℕ) → AreAxioms proof ks → AreAxioms proof ns → ks ≡ ns
same_axioms proof ks ns a b =
    same_rising ks ns (rises ks a.rising) (rises ns b.rising)
    (λ k h. contains_at ns k ((b.each k).1 ((a.each k).0 (at_contains ks h.0 k h.1))))
    (λ k h. contains_at ks k ((a.each k).1 ((b.each k).0 (at_contains ns h.0 k h.1))))

-- the list that was found decides of any other
pub are_axioms_where : (proof : Proof) (own places : List ℕ) (r : Bool) → AreAxioms proof own → Decides r (own ≡ places) → Decides r (AreAxioms proof places)
are_axioms_where proof own places r a d = (λ t. subst (AreAxioms proof) (d.0 t) a, λ b. d.1 (same_axioms proof own places a b))

pub listed_none : (t : ProofText) → t.axioms ≡ None → Decides true (ListsItsAxioms t)
listed_none t e = (λ r ks f. absurd (none-some ks (sym e ∙ f)), λ l. refl)

pub listed_some : (t : ProofText) (ks : List ℕ) (r : Bool) → t.axioms ≡ Some ks → Decides r (AreAxioms t.proof ks) → Decides r (ListsItsAxioms t)
listed_some t ks r e d = (λ b ns f. subst (AreAxioms t.proof) (same_Some ks ns (sym e ∙ f)) (d.0 b), λ l. d.1 (l ks e))
