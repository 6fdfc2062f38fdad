-- The laws that the clauses of laws.rt name.
use Rattle.std.specs.Prelude.{ℕ, List, [], ◌∷◌, ◌++◌, ◌≡◌, ◌<◌, ◌^◌, IsTrue, map}
use mathlib.Core.Path.{subst}
use Rattle.std.specs.List.{AllByRecursion}
use Rattle.ae_codes.specs.Closers.{Close, closers}
use Rattle.ae_codes.specs.Codes.{Exact, exact}
use Rattle.ae_num.specs.Forms.{IsNormal}
use Rattle.ae_num.specs.declared.forms.Lin.{Lin}
use Rattle.ae_num.specs.declared.forms.Value.{Value, Leaf, Number, Fields}
use Rattle.ae_num.specs.declared.forms.Value.TheVariants.{rolls-Leaf, rolls-Number, rolls-Fields}
use Rattle.ae_valuetext.specs.Lins.{linear_form, linear_form_spelled, form_fits, fits_form, lin_fits, lin_stands}
use Rattle.ae_valuetext.specs.Texts.{lin_text, value_text, AreNames}
use Rattle.ae_valuetext.specs.Values.{InRow, ValueEnd, value, value_is_spelled, leaf_has, number_has, fields_have}
use Rattle.ae_valuetext.proofs.NormalForms.{normal_stands, stands_normal, stands_names}

pub forms_exact : Exact linear_form
forms_exact = exact linear_form

pub forms_spelled : (l : Lin) → linear_form.Fits l → linear_form.text l ≡ lin_text l
forms_spelled = linear_form_spelled

pub normal_forms_fit : (l : Lin) → IsNormal l → AreNames (map (λ p. p.key) l.parts) → linear_form.Fits l
normal_forms_fit l n k = form_fits l (lin_fits l (normal_stands l n k))

pub forms_are_normal : (l : Lin) → linear_form.Fits l → IsNormal l × AreNames (map (λ p. p.key) l.parts)
forms_are_normal l f = let s = lin_stands l (fits_form l f) in (stands_normal l s, stands_names l s)

pub values_exact : (k : Close) → Exact (value k)
values_exact k = exact (value k)

pub values_spelled : (k : Close) (v : ValueEnd) → (value k).text v ≡ value_text v.0 ++ v.1 ∷ []
values_spelled k v = value_is_spelled k v

pub names_fit : (k : Close) (n e : ℕ) → n < 2 ^ 64 → IsTrue (closers k.one k.two e) → (value k).Fits (Leaf n, e)
names_fit k n e l h = subst (λ v. (value k).Fits (v, e)) (rolls-Leaf n) (leaf_has k n e l h)

pub numbers_fit : (k : Close) (l : Lin) (e : ℕ) → IsNormal l → AreNames (map (λ p. p.key) l.parts) → IsTrue (closers k.one k.two e) → (value k).Fits (Number l, e)
numbers_fit k l e n a h = subst (λ v. (value k).Fits (v, e)) (rolls-Number l) (number_has k l e (lin_fits l (normal_stands l n a)) h)

pub fields_fit : (k : Close) (vs : List Value) (e : ℕ) → AllByRecursion InRow vs → IsTrue (closers k.one k.two e) → (value k).Fits (Fields vs, e)
fields_fit k vs e a h = subst (λ v. (value k).Fits (v, e)) (rolls-Fields vs) (fields_have k vs e a h)
