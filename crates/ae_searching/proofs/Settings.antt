-- Settings for more terms and more blocks.
use Rattle.std.proofs.Common.{◌≡◌, ℕ, zero, suc, List, [], ◌∷◌, ◌++◌, refl, sym, ◌∙◌, ap, subst, Some, append_assoc}
use Rattle.std.specs.List.{Contains}
use Rattle.std.proofs.lemmas.Option.{same_Some, slice_get-get_or}
use Rattle.ae_base.proofs.Options.{never_some}
use Rattle.ae_core.specs.declared.problems.Problem.{Problem}
use Rattle.ae_core.specs.declared.terms.Term.{Term}
use Rattle.ae_journal.proofs.Splits.{contains_at}
use Rattle.ae_journal.specs.Standing.{Setting}
use Rattle.ae_store.specs.Stores.{Stored}
use Rattle.ae_store.specs.Terms.{Keeps}
use Rattle.ae_theory.specs.Names.{Extends, terms_in}
use Rattle.ae_searching.specs.Told.{IsToldIn}
use Rattle.ae_block_constants.specs.declared.opened.Opened.{Opened}

-- what keeps each term at its place begins with them all
pub keeps_splits : (a b : List Term) → Keeps a b → (more : List Term) × (b ≡ a ++ more)
keeps_splits [] b k = (b, refl)
keeps_splits (t ∷ a) [] k = never_some t (k zero t refl)
keeps_splits (t ∷ a) (u ∷ b) k =
    let r = keeps_splits a b (λ i w h. k (suc i) w h) in
    let q : u ≡ t = same_Some u t (k zero t refl) in
    (r.0, ap (λ (w : Term). w ∷ b) q ∙ ap (λ (w : List Term). t ∷ w) r.1)

-- the setting that is told in more is told in less
pub told_before : (p : Problem) (g : ℕ) (old new : Stored) (opened opened2 : List Opened) (x : Setting) → Extends old new → ((o : Opened) → Contains opened o → Contains opened2 o)
    → IsToldIn p g new opened2 x → IsToldIn p g old opened x
told_before p g old new opened opened2 x e within h =
    let r = keeps_splits (terms_in old) (terms_in new) e.keeps in
    record {
      problem = h.problem;
      goal = h.goal;
      more = r.0 ++ h.more;
      names = h.names ∙ (ap (λ (w : List Term). w ++ h.more) r.1 ∙ append_assoc (terms_in old) r.0 h.more);
      fresh = λ o c. h.fresh o (within o c);
    }

-- what is said of the problem and the goal is said of those of the setting
pub for_setting : (P : Problem → ℕ → Type 0) (p : Problem) (g : ℕ) (s : Stored) (opened : List Opened) (x : Setting) → IsToldIn p g s opened x → P p g → P x.problem x.goal
for_setting P p g s opened x h a = subst (λ (q : Problem). P q x.goal) (sym h.problem) (subst (P p) (sym h.goal) a)

-- terms with names have them still
pub contains_kept : (a b : List Term) (t : Term) → Keeps a b → Contains a t → Contains b t
contains_kept a b t k h = contains_at b h.0 t (k h.0 t (slice_get-get_or a h.0 t h.1 ∙ ap Some h.2))
