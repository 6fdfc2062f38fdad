use Rattle.std.proofs.Common.{◌++◌, ◌≡◌, List, true, false, sym, ap, ◌∙◌}
use Rattle.std.proofs.lemmas.Result.{on_ok_weaker}
use Rattle.ae_core.specs.declared.problems.Signature.{Signature}
use Rattle.ae_core.specs.declared.terms.Sort.{Sort}
use Rattle.ae_core.specs.declared.terms.Head.{Head}
use Rattle.ae_core.specs.declared.terms.Term.{Term, Apply}
use Rattle.ae_prooftext.specs.Texts.{term_text}
use Rattle.ae_prooftext.specs.Words.{head_word}
use Rattle.ae_prooftext.specs.Inner.Pieces.{is_lone, opening_bytes, args_bytes}
use Rattle.ae_prooftext.proofs.Pieces.{application_lone, application_opens, closed}
use Rattle.ae_prooftext.proofs.Rules.{text_apply}
use Rattle.ae_prooftext.proofs.terms.+put_term.Goals as goal

lone_text : (sig : Signature) (t : Term) (h : Head) (ss : List Sort) (ts us : List Term) → t ≡ Apply h ss ts → us ≡ ts → is_lone sig h us ≡ true → term_text sig t ≡ head_word sig h
lone_text sig t h ss ts us e q l = ap (term_text sig) e ∙ text_apply sig h ss ts ∙ application_lone sig h ss ts (ap (is_lone sig h) (sym q) ∙ l)

open_text : (sig : Signature) (t : Term) (h : Head) (ss rs : List Sort) (ts us vs : List Term) → t ≡ Apply h ss ts → rs ≡ ss → us ≡ ts → vs ≡ ts → is_lone sig h us ≡ false → term_text sig t ≡ opening_bytes sig h rs ++ args_bytes sig vs
open_text sig t h ss rs ts us vs e r q v l =
    ap (term_text sig) e ∙ text_apply sig h ss ts ∙ application_opens sig h ss ts (ap (is_lone sig h) (sym q) ∙ l)
    ∙ ap (λ z. opening_bytes sig h z ++ args_bytes sig ts) (sym r) ∙ ap (λ z. opening_bytes sig h rs ++ args_bytes sig z) (sym v)

pub put_term-returns-then-is_lone : goal.put_term-returns-then-is_lone
put_term-returns-then-is_lone t c =
    on_ok_weaker c.put_head.result (λ e. e ∙ ap (λ z. c.args.out.now.items ++ z)
    (sym (lone_text c.args.signature.now c.args.term.now c.in-Apply.head c.in-Apply.sorts c.in-Apply.args c.as_slice.result.now c.in-Apply.is c.as_slice.ensures (sym c.is_lone.ensures ∙ c.if-is_lone.true)))) c.put_head.ensures

pub put_term-returns-in_ok-put_opening-in-Apply : goal.put_term-returns-in_ok-put_opening-in-Apply
put_term-returns-in_ok-put_opening-in-Apply t c =
    on_ok_weaker c.put_args.result (λ e. closed c.args.out.now.items _ _ (opening_bytes c.args.signature.now c.in-Apply.head c.as_slice-in-Apply.result.now) (args_bytes c.args.signature.now c.as_slice-in-Apply-2.result.now) _
    c.in_ok-put_opening-in-Apply.ensures
    (open_text c.args.signature.now c.args.term.now c.in-Apply.head c.in-Apply.sorts c.as_slice-in-Apply.result.now c.in-Apply.args c.as_slice.result.now c.as_slice-in-Apply-2.result.now
    c.in-Apply.is c.as_slice-in-Apply.ensures c.as_slice.ensures c.as_slice-in-Apply-2.ensures (sym c.is_lone.ensures ∙ c.if-is_lone.false)) e) c.put_args.ensures
