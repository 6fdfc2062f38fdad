-- Which formulas are small.
use Rattle.std.proofs.Common.{arith, ◌≡◌, ◌∙◌, ℕ, ◌+◌, ◌<◌, Bool, true, Option, Some, None, List, [], ◌∷◌, ◌++◌, map, length, take, get_or, slice_get, nat_le, ◌&&◌, ◌≤◌, refl, sym, ap}
use Rattle.std.proofs.lemmas.List.{take_all, take_more, map-append, length-map}
use Rattle.std.proofs.lemmas.Option.{slice_get_within, slice_get-get_or, unwrap_or-slice_get}
use Rattle.std.specs.Option.{unwrap_or}
use Rattle.ae_core.specs.declared.terms.Sort.{Sort}
use Rattle.ae_elab.specs.Conditions.{shown}
use Rattle.ae_elab.specs.Elaboration.{formula_in}
use Rattle.ae_elab.specs.Nodes.{Entry, a_claim, claim_in, claim_at}
use Rattle.ae_elab.specs.Trees.{truth}
use Rattle.ae_elab.specs.Sizes.{Size, formula_size, is_within}
use Rattle.std.proofs.lemmas.Bool.Decides.{nat_tests}
use Rattle.ae_sizes.specs.declared.measures.Measure.{Measure}
use Rattle.ae_sizes.specs.declared.weights.Size as code_size
use Rattle.ae_sizes.specs.Inner.Counted.{capped, counted, told}
use Rattle.ae_sizes.specs.Inner.Weights.{claim_size}
use Rattle.ae_sizes.specs.Small.{is_small_entry}
use Rattle.ae_sizes.proofs.FormulaSizes.{claim_weighs}

-- no formula, in the place of which `false` stands
pub none_small : (m : ℕ → Sort) (es : List Entry) (n : ℕ) → slice_get es n ≡ None → true ≡ is_within (formula_size (formula_in (shown m) [] (claim_at es n)))
none_small m es n h =
    sym (ap (λ o. is_within (formula_size (formula_in (shown m) [] (claim_in o)))) h ∙ ap is_within (claim_weighs (shown m) (claim_in None) []))

-- ---- one more
take_get : {A : Type 0} (xs : List A) (i : ℕ) (x : A) → slice_get xs i ≡ Some x → take (i + 1) xs ≡ take i xs ++ x ∷ []
take_get xs i x e =
    take_more xs i x (slice_get_within xs i x e)
    ∙ ap (λ y. take i xs ++ y ∷ []) (sym (unwrap_or-slice_get xs i x) ∙ ap (λ o. unwrap_or o x) e)

pub small_is : (m : ℕ → Sort) (e : Entry) → is_within (claim_size (shown m) (claim_in (Some e))) ≡ is_small_entry m e
small_is m e = sym (ap is_within (claim_weighs (shown m) (claim_in (Some e)) []))

pub small_next : (m : ℕ → Sort) (es : List Entry) (ms : List Measure) (i : ℕ) (bs : List Bool) (b : Bool) → ms ≡ map (told (shown m)) es
    → i < length ms → b ≡ is_within (claim_size (shown m) (claim_at es i)) → bs ≡ map (is_small_entry m) (take i es)
    → bs ++ b ∷ [] ≡ map (is_small_entry m) (take (i + 1) es)
small_next m es ms i bs b all low here so_far = found (slice_get es i) refl
  where
    found : (o : Option Entry) → slice_get es i ≡ o → bs ++ b ∷ [] ≡ map (is_small_entry m) (take (i + 1) es)
    found None p =
        let long : length ms ≡ length es = ap length all ∙ length-map es (told (shown m)) in
        absurd (let q : None ≡ Some (get_or es i (a_claim truth)) = sym p ∙ slice_get-get_or es i (a_claim truth) (omega arith) in cc)
    found (Some e) p =
        ap (λ z. z ++ b ∷ []) so_far
        ∙ ap (λ z. map (is_small_entry m) (take i es) ++ z ∷ []) (here ∙ ap (λ o. is_within (claim_size (shown m) (claim_in o))) p ∙ small_is m e)
        ∙ sym (map-append (is_small_entry m) (take i es) (e ∷ []))
        ∙ ap (map (is_small_entry m)) (sym (take_get es i e p))

pub small_all : (m : ℕ → Sort) (es : List Entry) (ms : List Measure) (n : ℕ) (bs : List Bool) → ms ≡ map (told (shown m)) es → length ms ≤ n
    → bs ≡ map (is_small_entry m) (take n es) → bs ≡ map (is_small_entry m) es
small_all m es ms n bs all l h =
    h ∙ ap (map (is_small_entry m)) (take_all n es (let e : length ms ≡ length es = ap length all ∙ length-map es (told (shown m)) in omega arith))

-- what is counted of a size tells whether it is within the limits
pub within_is : (whole : code_size.Size) (s : Size) → whole ≡ counted s → (nat_le whole.nodes 1000000 && nat_le whole.levels 4000) ≡ is_within s
within_is whole s h =
    let n : whole.nodes ≡ capped s.nodes = ap (λ z. z.nodes) h in
    let l : whole.levels ≡ capped s.levels = ap (λ z. z.levels) h in
    let a : nat_le whole.nodes 1000000 ≡ nat_le s.nodes 1000000 = grind (arith, nat_tests) in
    let b : nat_le whole.levels 4000 ≡ nat_le s.levels 4000 = grind (arith, nat_tests) in
    ap (λ x. x && nat_le whole.levels 4000) a ∙ ap (λ x. nat_le s.nodes 1000000 && x) b
