-- A whole text: what is read at its first byte, and what stands behind it.
use Rattle.std.proofs.Common.{ℕ, ◌≤◌, ◌<◌, Bool, true, false, nat_le, List, [], ◌∷◌, ◌++◌, ◌≡◌, length, drop, refl, sym, ap, ◌∙◌, append_assoc, append-nil, arith}
use Rattle.std.specs.Prelude.{Ok, Err, IsTrue}
use mathlib.Core.List.{cons≢nil}
use Rattle.std.proofs.lemmas.Bool.{leb-true, le-leb}
use Rattle.std.proofs.lemmas.List.{drop_all, length-drop}
use Rattle.ae_codes.specs.Codes.{Code, StopsAfter, got, prefix_free, stops_after, takes, too_wide, wides}
use Rattle.ae_readers.specs.Readers.{FaultIs, FaultWithin}
use Rattle.ae_readers.specs.declared.fault.Fault.{Fault}
use Rattle.ae_readers.specs.declared.fault.Fault.TheVariants.{At, WideNumber, Memory}
use Rattle.ae_choices.specs.Whole.{ReadsWhole}
use Rattle.ae_proofreader.specs.Whole.{StandsIn}

some_left : (text : List ℕ) (end : ℕ) → end < length text → drop end text ≡ [] → ⊥
some_left text end l e = let n : length (drop end text) ≡ 0 = ap length e in let d = length-drop end text in omega arith

module _ {A : Type 0} (c : Code A) (text : List ℕ) where
  -- nothing is left
  pub whole_read : (a : A) (end : ℕ) → c.read text ≡ got a (drop end text) → drop end text ≡ [] → ReadsWhole c text (Ok a)
  unfolding ReadsWhole
  whole_read a end e n = let t = takes c text a (drop end text) e in (t.0 ∙ ap (λ z. c.text a ++ z) n ∙ append-nil (c.text a), t.1)

  -- no text of the kind goes on behind another
  behind_stops : (a : A) (r : List ℕ) → (r ≡ [] → ⊥) → (text ≡ c.text a ++ r) × c.Fits a → StopsAfter c text (c.text a) r
  behind_stops a r n t = record {
    cut = t.0;
    before = record { value = a; more = []; fits = t.1; spelled = sym (append-nil (c.text a)) };
    here = λ x xs is go. cons≢nil ((prefix_free c a go.value (x ∷ go.more) t.1 go.fits (go.spelled ∙ append_assoc (c.text a) (x ∷ []) go.more)).1);
    no_text = λ b f is. n ((prefix_free c a b r t.1 f (sym is ∙ t.0)).1);
  }

  pub whole_behind : (a : A) (end : ℕ) → c.read text ≡ got a (drop end text) → end < length text → ReadsWhole c text (Err (At end))
  unfolding ReadsWhole
  whole_behind a end e l = (c.text a, behind_stops a (drop end text) (some_left text end l) (takes c text a (drop end text) e))

  pub whole_faulty : (f : Fault) → FaultIs text f (c.read text) → ReadsWhole c text (Err f)
  unfolding ReadsWhole
  whole_faulty (At p) e = stops_after c text (drop p text) e
  whole_faulty (WideNumber p) e = wides c text (drop p text) e
  whole_faulty Memory e = tt

-- ---- the fault's place
wide_in : (text : List ℕ) (p : ℕ) → IsTrue (too_wide (drop p text)) → p ≤ length text
wide_in text p h = go (nat_le p (length text)) refl
  where
    go : (b : Bool) → nat_le p (length text) ≡ b → p ≤ length text
    go true e = leb-true p (length text) e
    go false e =
        let n : ¬ (p ≤ length text) = λ l. let t = le-leb p (length text) l in absurd cc in
        let none = drop_all p text (omega (arith, n)) in
        let f : false ≡ true = sym (ap too_wide none) ∙ h in absurd cc

pub stands_in : {A : Type 0} (c : Code A) (text : List ℕ) (f : Fault) → FaultIs text f (c.read text) → FaultWithin text 0 f → StandsIn text f
stands_in c text (At p) e w = w (omega arith)
stands_in c text (WideNumber p) e w = wide_in text p ((wides c text (drop p text) e).numeral)
stands_in c text Memory e w = tt
