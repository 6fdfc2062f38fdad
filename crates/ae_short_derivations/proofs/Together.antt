-- Sides that are the same term.
use Rattle.std.specs.Prelude.{ℕ, zero, suc, ◌+◌, ◌-◌, ◌<◌, List, [], ◌∷◌, ◌++◌, ◌≡◌, map, take, length, slice_get, get_or, Some}
use Rattle.std.proofs.Common.{refl, sym, ap, ◌∙◌, arith}
use Rattle.std.proofs.lemmas.List.{take_more}
use Rattle.std.proofs.Math.Seq.{take-length}
use Rattle.ae_core.specs.declared.terms.Sort.{Sort}
use Rattle.ae_core.specs.declared.terms.Head.{Head}
use Rattle.ae_core.specs.declared.terms.Term.{Term}
use Rattle.ae_store.specs.declared.nodes.Node.{Node}
use Rattle.ae_store.specs.declared.nodes.NodeHead.TheVariants as node
use Rattle.ae_store.specs.Shapes.{shapes}
use Rattle.ae_store.specs.Terms.{terms, named, IsPlaced}
use Rattle.ae_store.proofs.StoreLaws.{applied_term_at, arg_below, name_term}
use Rattle.ae_just.specs.Sides.{joined, many_from, many_of}

-- ---- lists, place by place
module _ {A : Type 0} (xs ys : List A) (long : length xs ≡ length ys) where
  pub same_front : (i : ℕ) (x y : A) → i < length xs → take i xs ≡ take i ys → x ≡ get_or xs i x → y ≡ get_or ys i y → x ≡ y → take (i + 1) xs ≡ take (i + 1) ys
  same_front i x y l e p q same =
      take_more xs i x l ∙ (λ k. e k ++ (sym p ∙ same ∙ q) k ∷ []) ∙ sym (take_more ys i y (omega (arith, l, long)))

two_of : (xs : List ℕ) → length xs ≡ 2 → xs ≡ get_or xs 0 0 ∷ get_or xs 1 0 ∷ []
two_of [] e = absurd (omega (arith, e))
two_of (a ∷ []) e = absurd (omega (arith, e))
two_of (a ∷ b ∷ []) e = refl
two_of (a ∷ b ∷ c ∷ xs) e = absurd (omega (arith, e))

-- ---- applications, grouped to the left
module _ (h : Head) (ss : List Sort) (ts : List Term) where
  many_more : (t : Term) (ns : List ℕ) (n : ℕ) → many_from h ss ts t (ns ++ n ∷ []) ≡ joined h ss (many_from h ss ts t ns) (named ts n)
  many_more t [] n = refl
  many_more t (m ∷ ns) n = many_more (joined h ss t (named ts m)) ns n

  many_last : (ns : List ℕ) (m d : ℕ) → 0 < m → m < length ns → many_of h ss ts (take (m + 1) ns) ≡ joined h ss (many_of h ss ts (take m ns)) (named ts (get_or ns m d))
  many_last [] m d p l = absurd (omega (arith, l))
  many_last (n ∷ ns) zero d p l = absurd (omega (arith, p))
  many_last (n ∷ ns) (suc m) d p l =
      ap (many_of h ss ts) (take_more (n ∷ ns) (suc m) d l) ∙ many_more (named ts n) (take m ns) (get_or ns m d)

  -- the rest of the application is still to be looked at
  abbrev pub IsFront : ℕ → List ℕ → ℕ → ℕ → Type 0
  IsFront name ns i at = named ts at ≡ many_of h ss ts (take (length ns + 1 - i) ns) → named ts name ≡ many_of h ss ts ns

  pub front_first : (name : ℕ) (ns : List ℕ) → IsFront name ns 1 name
  front_first name ns e = e ∙ ap (many_of h ss ts) (ap (λ k. take k ns) (let z : length ns + 1 - 1 ≡ length ns = omega arith in z) ∙ take-length ns)

  pub front_turn : (name at first : ℕ) (ns : List ℕ) (i j d : ℕ) → 0 < i → i < length ns → j ≡ get_or ns (length ns - i) d → named ts at ≡ joined h ss (named ts first) (named ts j) → IsFront name ns i at → IsFront name ns (i + 1) first
  front_turn name at first ns i j d p l q e f rest =
      let m = length ns - i in
      let a : length ns + 1 - (i + 1) ≡ m = omega (arith, l) in
      let b : length ns + 1 - i ≡ m + 1 = omega (arith, l) in
      let last = many_last ns m d (omega (arith, l)) (omega (arith, p, l)) in
      f (e ∙ (λ k. joined h ss ((rest ∙ ap (λ n. many_of h ss ts (take n ns)) a) k) (named ts (q k))) ∙ sym last ∙ sym (ap (λ n. many_of h ss ts (take n ns)) b))

  first_alone : (n : ℕ) (ns : List ℕ) → many_of h ss ts (take 1 (n ∷ ns)) ≡ named ts n
  first_alone n [] = refl
  first_alone n (m ∷ ns) = refl

  pub front_end : (name at i d : ℕ) (ns : List ℕ) → 0 < length ns → i ≡ length ns → get_or ns 0 d ≡ at → IsFront name ns i at → named ts name ≡ many_of h ss ts ns
  front_end name at i d [] p e q f = absurd (omega (arith, p))
  front_end name at i d (n ∷ ns) p e q f =
      let one : length (n ∷ ns) + 1 - i ≡ 1 = omega (arith, e) in
      f (sym (ap (named ts) q) ∙ sym (first_alone n ns) ∙ sym (ap (λ k. many_of h ss ts (take k (n ∷ ns))) one))

-- ---- a name that is an application to two
module _ (nodes : List Node) (placed : IsPlaced (shapes nodes)) (n : ℕ) (p : Node) (at : slice_get nodes n ≡ Some p) (h : Head) (is : p.head ≡ node.Of h) (args : List ℕ) (are : args ≡ p.args) (two : length args ≡ 2) where
  abbrev pub ts : List Term
  ts = terms (shapes nodes)

  pub two_applied : (ss : List Sort) → ss ≡ p.sorts → (b : ℕ) → get_or args 1 0 ≡ b → named ts n ≡ joined h ss (named ts (get_or args 0 0)) (named ts b)
  two_applied ss e b second =
      let us : named ts (get_or args 0 0) ∷ named ts b ∷ [] ≡ map (named ts) p.args =
      (λ k. named ts (get_or args 0 0) ∷ named ts (sym second k) ∷ []) ∙ ap (map (named ts)) (sym (two_of args two) ∙ are) in
      name_term ts n (joined h ss (named ts (get_or args 0 0)) (named ts b)) (applied_term_at nodes placed n p at h ss (named ts (get_or args 0 0) ∷ named ts b ∷ []) is e us)

  pub first_below : get_or args 0 0 < n
  first_below = arg_below nodes placed n p at args 0 are (omega (arith, two))
