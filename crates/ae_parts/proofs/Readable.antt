-- A text that is read has no fault.
use Rattle.std.proofs.Common.{◌≡◌, ◌≢◌, ℕ, List, [], refl, sym, ap, ◌∙◌, subst}
use Rattle.std.specs.Prelude.{Ok, Err}
use Rattle.ae_choices.specs.Whole.{ReadsWhole}
use Rattle.ae_codes.specs.Codes.{Code, NotGot, got, reads_text}
use Rattle.ae_readers.specs.Readers.{FaultIs}
use Rattle.ae_readers.specs.declared.fault.Fault.{Fault}
use Rattle.ae_readers.specs.declared.fault.Fault.TheVariants.{At, WideNumber, Memory}

module _ {A : Type 0} (c : Code A) (text : List ℕ) (v : A) where
  read_again : ReadsWhole c text (Ok v) → c.read text ≡ got v []
  unfolding ReadsWhole
  read_again h = ap c.read h.0 ∙ reads_text c v h.1

  pub at_none : (p : ℕ) → ReadsWhole c text (Err (At p)) → ¬ (ReadsWhole c text (Ok v))
  unfolding ReadsWhole
  at_none p r h = r.1.no_text v h.1 h.0

  pub faulty_none : (f : Fault) → FaultIs text f (c.read text) → f ≢ Memory → ¬ (ReadsWhole c text (Ok v))
  faulty_none (At p) r told h = subst NotGot (sym r ∙ read_again h) tt
  faulty_none (WideNumber p) r told h = subst NotGot (sym r ∙ read_again h) tt
  faulty_none Memory r told h = told refl
