-- Names that are listed.
use Rattle.std.specs.Prelude.{ℕ, ◌≡◌, Bool, true, false, ◌||◌, nat_eq, List, [], ◌∷◌, ◌++◌}
use Rattle.std.specs.List.{list_any}
use Rattle.std.proofs.Common.{refl, ap, ◌∙◌}
use Rattle.std.proofs.lemmas.List.Folds.{list_any-append}
use Rattle.ae_base.proofs.Tests.{nat_eq_itself}
use Rattle.ae_known.specs.Index.{is_listed}

or_true : (b : Bool) → (b || true) ≡ true
or_true true = refl
or_true false = refl

pub listed_last : (n : ℕ) (ns : List ℕ) → is_listed n (ns ++ n ∷ []) ≡ true
listed_last n ns = list_any-append (nat_eq n) ns (n ∷ []) ∙ ap (λ b. list_any (nat_eq n) ns || (b || false)) (nat_eq_itself n) ∙ or_true (list_any (nat_eq n) ns)

pub listed_more : (m n : ℕ) (ns : List ℕ) → is_listed m ns ≡ true → is_listed m (ns ++ n ∷ []) ≡ true
listed_more m n ns e = list_any-append (nat_eq m) ns (n ∷ []) ∙ ap (λ b. b || list_any (nat_eq m) (n ∷ [])) e
