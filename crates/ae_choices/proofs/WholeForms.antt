-- A text that is read from its first byte on: what is read is the whole, or more stands behind it.
use Rattle.std.proofs.Common.{ℕ, suc, List, [], ◌∷◌, ◌++◌, ◌≡◌, length, drop, sym, ap, ◌∙◌, append_assoc, arith}
use Rattle.std.specs.Prelude.{Ok, Err}
use mathlib.Core.List.{append-nil}
use Rattle.ae_codes.specs.Codes.{Code, prefix_free}
use Rattle.ae_choices.specs.Whole.{ReadsWhole}
use Rattle.ae_readers.specs.Readers.{ReadsExactly}
use Rattle.ae_readers.specs.declared.fault.Fault.{Fault}
use Rattle.ae_readers.specs.declared.fault.Fault.TheVariants.{At, Memory}

not_empty : (x : ℕ) (xs : List ℕ) → x ∷ xs ≡ [] → ⊥
not_empty x xs e = let l : suc (length xs) ≡ 0 = ap length e in omega arith

module _ {A : Type 0} (c : Code A) (text : List ℕ) where
  pub whole_end : (v : A) (next : ℕ) → ReadsExactly c text 0 (Ok (v, next)) → drop next text ≡ [] → ReadsWhole c text (Ok v)
  unfolding ReadsExactly ReadsWhole
  whole_end v next h e = (h.0 ∙ ap (λ z. c.text v ++ z) e ∙ append-nil (c.text v), h.1)

  -- a byte behind the end
  pub whole_more : (v : A) (next x : ℕ) (xs : List ℕ) → ReadsExactly c text 0 (Ok (v, next)) → drop next text ≡ x ∷ xs → ReadsWhole c text (Err (At next))
  unfolding ReadsExactly ReadsWhole
  whole_more v next x xs h e = (
    c.text v,
    record {
      cut = h.0;
      before = record { value = v; more = []; fits = h.1; spelled = sym (append-nil (c.text v)) };
      here = λ y ys is go.
          not_empty y go.more ((prefix_free c v go.value (y ∷ go.more) h.1 go.fits (go.spelled ∙ append_assoc (c.text v) (y ∷ []) go.more)).1);
      no_text = λ a f is. not_empty x xs ((prefix_free c v a (x ∷ xs) h.1 f (sym is ∙ h.0 ∙ ap (λ z. c.text v ++ z) e)).1);
    },
  )

  pub whole_fault : (f : Fault) → ReadsExactly c text 0 (Err f) → ReadsWhole c text (Err f)
  unfolding ReadsExactly ReadsWhole
  whole_fault f h = h

  pub whole_memory : ReadsWhole c text (Err Memory)
  unfolding ReadsWhole
  whole_memory = tt
