-- Bindings that are among others.
use Rattle.std.specs.Prelude.{ℕ, ◌+◌, ◌≡◌, ◌<◌, Bool, List, [], ◌∷◌, ◌++◌, length, take}
use Rattle.std.specs.List.{flat_map}
use Rattle.std.proofs.Common.{sym, ap, ◌∙◌, subst, inl, inr, get_or}
use Rattle.std.proofs.lemmas.Grind.{flat_map-append}
use Rattle.std.proofs.lemmas.List.{append-nil, take_more}
use Rattle.ae_core.specs.declared.terms.Term.{Term}
use Rattle.ae_matching.specs.Views.{Store}
use Rattle.ae_matching.specs.declared.bindings.Bindings.{Bindings}
use Rattle.ae_matching.specs.Laws.{In}
use Rattle.ae_matching.proofs.Complete.{in_left, in_right, in_flat}
use Rattle.ae_matching.proofs.Covers.{in_parts, in_flat_back}
use Rattle.ae_known.specs.declared.known.Known.{Known}
use Rattle.ae_matches.specs.Candidates.{AllAmong, roots, chained}

-- ---- from each of them
pub each_among : (f : Bindings → List Bindings) (xs ys zs : List Bindings) (i : ℕ) (x : Bindings) → i < length xs → x ≡ get_or xs i x → AllAmong (flat_map f (take i xs)) ys → AllAmong (f x) zs → AllAmong (flat_map f (take (i + 1) xs)) (ys ++ zs)
each_among f xs ys zs i x l is a b env h =
    let more : take (i + 1) xs ≡ take i xs ++ x ∷ [] = take_more xs i x l ∙ ap (λ y. take i xs ++ y ∷ []) (sym is) in
    elim (in_parts (flat_map f (take i xs)) (f x) env
    (subst (λ l. In l env) (ap (flat_map f) more ∙ flat_map-append f (take i xs) (x ∷ []) ∙ ap (λ l. flat_map f (take i xs) ++ l) (append-nil (f x))) h)) as (λ _. In (ys ++ zs) env) [
      | inl p ↦ in_left ys zs env (a env p)
      | inr q ↦ in_right ys zs env (b env q)
    ]

flat_among : (f : Bindings → List Bindings) (xs ys : List Bindings) → AllAmong xs ys → AllAmong (flat_map f xs) (flat_map f ys)
flat_among f xs ys a env h = let r = in_flat_back f xs env h in in_flat f ys r.0 env (a r.0 r.1) r.2

pub chained_among : (store : Store) (alike : ℕ → ℕ → Bool) (below : ℕ) (k : Known) (ps : List Term) (xs ys : List Bindings) → AllAmong xs ys → AllAmong (chained store alike below k ps xs) (chained store alike below k ps ys)
chained_among store alike below k [] xs ys a = a
chained_among store alike below k (p ∷ ps) xs ys a =
    chained_among store alike below k ps (flat_map (roots store alike below k p) xs) (flat_map (roots store alike below k p) ys) (flat_among (roots store alike below k p) xs ys a)
