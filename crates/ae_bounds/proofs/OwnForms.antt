-- Rows of which the own form counts.
use Rattle.std.specs.Prelude.{ℕ, ◌≡◌, Option, Some, None}
use Rattle.ae_num.specs.declared.forms.Lin.{Lin}
use Rattle.std.proofs.Common.{sym, ◌∙◌}
use Rattle.ae_bounds.specs.declared.rows.Row.{Row}
use Rattle.ae_bounds.specs.declared.rows.Unrounded.{Unrounded}
use Rattle.ae_bounds.specs.declared.rows.Origin.{Origin}
use Rattle.ae_bounds.specs.declared.rows.Origin.TheVariants.{Assumed, Combined}
use Rattle.ae_bounds.specs.Rounding.{DoesCount, HasForm}
use Rattle.ae_bounds.specs.Rounding.HasForm.{own, assumed}

pub combined_counts : (r : Row) (lower upper : ℕ) → r.from ≡ Combined lower upper → DoesCount r
combined_counts r lower upper e tag f = absurd (let z : ◌≡◌ {A = Origin} (Assumed tag) (Combined lower upper) = sym f ∙ e in cc)

pub counts_of : (r : Row) (l : Lin) → HasForm r l → DoesCount r
counts_of r _ (own d m) = d
counts_of r _ (assumed d tag u f g) = d

pub own_combined : (r : Row) (lower upper : ℕ) → r.from ≡ Combined lower upper → HasForm r r.lin
own_combined r lower upper e = own (combined_counts r lower upper e) (λ l. let z : ◌≡◌ {A = Origin} (Assumed l.tag) (Combined lower upper) = sym l.from ∙ e in cc)

pub own_unrounded : (r : Row) → DoesCount r → r.unrounded ≡ None → HasForm r r.lin
own_unrounded r d e = own d (λ l. let z : ◌≡◌ {A = Option Unrounded} None (Some l.earlier) = sym e ∙ l.was in cc)
