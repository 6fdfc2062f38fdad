use Rattle.std.proofs.Common.{◌≡◌, ◌++◌, List, ℕ, sym, ap, ◌∙◌, codes}
use Rattle.std.proofs.lemmas.Result.{on_ok_weaker}
use Rattle.ae_core.specs.declared.problems.Signature.{Signature}
use Rattle.ae_core.specs.declared.formulas.Formula.{Formula}
use Rattle.ae_prooftext.specs.Texts.{formula_text}
use Rattle.ae_prooftext.specs.Inner.Pieces.{left_bytes, right_bytes}
use Rattle.ae_prooftext.proofs.Pieces.{closed}
use Rattle.ae_prooftext.proofs.Rules.{text_and, text_or, text_xor, text_iff}
use Rattle.ae_prooftext.proofs.formulas.+put_formula.Goals as goal

halves : (sig : Signature) (f g a b x y : Formula) (w : List ℕ) → f ≡ g → formula_text sig g ≡ left_bytes sig w a ++ right_bytes sig b → x ≡ a → y ≡ b → formula_text sig f ≡ left_bytes sig w x ++ right_bytes sig y
halves sig f g a b x y w e t p q =
    ap (formula_text sig) e ∙ t ∙ ap (λ z. left_bytes sig w z ++ right_bytes sig b) (sym p) ∙ ap (λ z. left_bytes sig w x ++ right_bytes sig z) (sym q)

pub put_formula-returns-in_ok-put_left-in-And : goal.put_formula-returns-in_ok-put_left-in-And
put_formula-returns-in_ok-put_left-in-And t c =
    on_ok_weaker c.put_right.result (λ e. closed c.args.out.now.items _ _ (left_bytes c.args.signature.now (codes "(@and ") c.get-in-And.result.now) (right_bytes c.args.signature.now c.get-in-And-2.result.now) _
    c.in_ok-put_left-in-And.ensures (halves c.args.signature.now c.args.formula.now _ _ _ _ _ (codes "(@and ") c.in-And.is (text_and c.args.signature.now c.in-And.a c.in-And.b) c.get-in-And.ensures c.get-in-And-2.ensures) e) c.put_right.ensures

pub put_formula-returns-in_ok-put_left-in-Or : goal.put_formula-returns-in_ok-put_left-in-Or
put_formula-returns-in_ok-put_left-in-Or t c =
    on_ok_weaker c.put_right-in-Or.result (λ e. closed c.args.out.now.items _ _ (left_bytes c.args.signature.now (codes "(@or ") c.get-in-Or.result.now) (right_bytes c.args.signature.now c.get-in-Or-2.result.now) _
    c.in_ok-put_left-in-Or.ensures (halves c.args.signature.now c.args.formula.now _ _ _ _ _ (codes "(@or ") c.in-Or.is (text_or c.args.signature.now c.in-Or.a c.in-Or.b) c.get-in-Or.ensures c.get-in-Or-2.ensures) e) c.put_right-in-Or.ensures

pub put_formula-returns-in_ok-put_left-in-Xor : goal.put_formula-returns-in_ok-put_left-in-Xor
put_formula-returns-in_ok-put_left-in-Xor t c =
    on_ok_weaker c.put_right-in-Xor.result (λ e. closed c.args.out.now.items _ _ (left_bytes c.args.signature.now (codes "(@xor ") c.get-in-Xor.result.now) (right_bytes c.args.signature.now c.get-in-Xor-2.result.now) _
    c.in_ok-put_left-in-Xor.ensures (halves c.args.signature.now c.args.formula.now _ _ _ _ _ (codes "(@xor ") c.in-Xor.is (text_xor c.args.signature.now c.in-Xor.a c.in-Xor.b) c.get-in-Xor.ensures c.get-in-Xor-2.ensures) e) c.put_right-in-Xor.ensures

pub put_formula-returns-in_ok-put_left-in-Iff : goal.put_formula-returns-in_ok-put_left-in-Iff
put_formula-returns-in_ok-put_left-in-Iff t c =
    on_ok_weaker c.put_right-in-Iff.result (λ e. closed c.args.out.now.items _ _ (left_bytes c.args.signature.now (codes "(@iff ") c.get-in-Iff.result.now) (right_bytes c.args.signature.now c.get-in-Iff-2.result.now) _
    c.in_ok-put_left-in-Iff.ensures (halves c.args.signature.now c.args.formula.now _ _ _ _ _ (codes "(@iff ") c.in-Iff.is (text_iff c.args.signature.now c.in-Iff.a c.in-Iff.b) c.get-in-Iff.ensures c.get-in-Iff-2.ensures) e) c.put_right-in-Iff.ensures
