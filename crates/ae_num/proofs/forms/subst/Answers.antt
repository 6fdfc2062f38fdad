use Rattle.std.specs.Prelude.{◌≡◌, Some, None, OnOk, IfErr, true, false}
use Rattle.std.proofs.Common.{subst, sym, ap, ◌∙◌, refl}
use native.Mathlib.Decide.{ℕ_discrete}
use Rattle.ae_math.specs.Forms.{substitute}
use Rattle.ae_num.specs.declared.forms.Lin.{Lin}
use Rattle.ae_num.specs.declared.sums.Combination.{Combination}
use Rattle.ae_num.specs.declared.sums.Combination.TheVariants.{Substitution}
use Rattle.ae_num.specs.Forms.{meaning, SameMeaning, IsNormal, IsRising, first_wide, IfWide, has_key, factor_of, others, Reduced}
use Rattle.ae_num.specs.Inner.Reduction.{whole_of, whole_steps}
use Rattle.ae_base.proofs.Results.{if_ok_both}
use Rattle.ae_num.proofs.KeyLaws.{others_none, rising_others}
use Rattle.ae_num.proofs.MeaningLaws.{subst_means, subst_absent}
use Rattle.ae_num.proofs.WholeLaws.{subst_stated}
use Rattle.ae_num.proofs.forms.subst.Goals as goal

-- without an absent key a form is the same
unchanged : (p rest : Lin) (key : _) → rest ≡ record p { parts = others p.parts key } → has_key p.parts key ≡ false → p ≡ rest
unchanged p rest key e h = sym (e ∙ (λ i. record p { parts = others_none p.parts key h i }))

pub returns-in_default-clause-exact : goal.returns-in_default-clause-exact
returns-in_default-clause-exact c =
    let p = c.args.into.now in
    let q = c.args.by.now in
    let none : has_key p.parts c.args.key ≡ false = subst (λ ps. has_key ps c.args.key ≡ false) c.as_slice.ensures c.in_default.ensures.none in
    subst (λ (f : Lin). SameMeaning (meaning f) (substitute ℕ_discrete (meaning p) c.args.key (meaning q))) (unchanged p c.in_ok-rest.rest c.args.key c.in_ok-rest.ensures none) (subst_absent p q c.args.key c.requires.into none)

pub returns-in_default-clause-normal : goal.returns-in_default-clause-normal
returns-in_default-clause-normal c =
    let p = c.args.into.now in
    let none : has_key p.parts c.args.key ≡ false = subst (λ ps. has_key ps c.args.key ≡ false) c.as_slice.ensures c.in_default.ensures.none in
    subst IsNormal (unchanged p c.in_ok-rest.rest c.args.key c.in_ok-rest.ensures none) c.requires.into

pub made-requires-clause-left : goal.made-requires-clause-left
made-requires-clause-left c = subst (λ (f : Lin). IsRising f.parts) (sym c.in_ok-rest.ensures) (rising_others c.args.into.now.parts c.args.key c.requires.into.rising)

pub returns-clause-exact : goal.returns-clause-exact
returns-clause-exact c =
    let p = c.args.into.now in
    let q = c.args.by.now in
    let rest : Lin = record p { parts = others p.parts c.args.key } in
    let number = c.in-Some.ensures.some.1 ∙ ap (λ ps. factor_of ps c.args.key) c.as_slice.ensures in
    let rule : c.substitution_rule.result ≡ Substitution q.den (factor_of p.parts c.args.key) = c.substitution_rule.ensures ∙ ap (Substitution q.den) number in
    if_ok_both c.made.result (Reduced (whole_of c.substitution_rule.result c.in_ok-rest.rest q)) IsNormal (λ f. SameMeaning (meaning f) (substitute ℕ_discrete (meaning p) c.args.key (meaning q)))
    (λ (f : Lin) r n. subst_means p q (whole_of (Substitution q.den (factor_of p.parts c.args.key)) rest q) f c.args.key refl
    (subst (λ (l : Lin). Reduced (whole_of (Substitution q.den (factor_of p.parts c.args.key)) l q) f) c.in_ok-rest.ensures (subst (λ (m : Combination). Reduced (whole_of m c.in_ok-rest.rest q) f) rule r)) n c.requires.into c.requires.by c.requires.absent)
    c.made.ensures.exact c.made.ensures.normal

pub returns-clause-fits : goal.returns-clause-fits
returns-clause-fits c =
    let p = c.args.into.now in
    let q = c.args.by.now in
    let some : has_key p.parts c.args.key ≡ true = subst (λ ps. has_key ps c.args.key ≡ true) c.as_slice.ensures c.in-Some.ensures.some.0 in
    let number = c.in-Some.ensures.some.1 ∙ ap (λ ps. factor_of ps c.args.key) c.as_slice.ensures in
    let rule : c.substitution_rule.result ≡ Substitution q.den (factor_of p.parts c.args.key) = c.substitution_rule.ensures ∙ ap (Substitution q.den) number in
    subst (λ t. OnOk c.made.result (first_wide t ≡ None)) ((λ i. whole_steps (rule i) (c.in_ok-rest.ensures i) q) ∙ sym (subst_stated p q c.args.key some)) c.made.ensures.fits

pub returns-clause-wide : goal.returns-clause-wide
returns-clause-wide c =
    let p = c.args.into.now in
    let q = c.args.by.now in
    let some : has_key p.parts c.args.key ≡ true = subst (λ ps. has_key ps c.args.key ≡ true) c.as_slice.ensures c.in-Some.ensures.some.0 in
    let number = c.in-Some.ensures.some.1 ∙ ap (λ ps. factor_of ps c.args.key) c.as_slice.ensures in
    let rule : c.substitution_rule.result ≡ Substitution q.den (factor_of p.parts c.args.key) = c.substitution_rule.ensures ∙ ap (Substitution q.den) number in
    subst (λ t. IfErr c.made.result (λ fail. IfWide fail (λ w. first_wide t ≡ Some w))) ((λ i. whole_steps (rule i) (c.in_ok-rest.ensures i) q) ∙ sym (subst_stated p q c.args.key some)) c.made.ensures.wide
