use Rattle.std.proofs.Common.{ap, ◌∙◌, [], ◌∷◌}
use Rattle.ae_lex.specs.declared.kinds.TokenKind.TheVariants as kind
use Rattle.ae_lex.specs.declared.kinds.Sign.TheVariants as sign
use Rattle.ae_syntax.specs.Inner.Machine as machine
use Rattle.ae_syntax.proofs.ParserMeetsMachine.Decls.{declared, undeclared, no_word}
use Rattle.ae_syntax.proofs.read_decls.read_decl.Goals as goal

pub returns-in-Type_ : goal.returns-in-Type_
returns-in-Type_ c = declared c.args.tokens.now c.args.at c.args.first (machine.type_head ∷ []) c.read_type_decl.result c.requires.here (ap (λ k. machine.decl_wants k) (c.in-Some.ensures.some ∙ ap (λ w. kind.Reserved w) c.in-Type_.is)) c.read_type_decl.ensures

pub returns-in-Logic : goal.returns-in-Logic
returns-in-Logic c = declared c.args.tokens.now c.args.at c.args.first (machine.logic_head ∷ []) c.read_logic.result c.requires.here (ap (λ k. machine.decl_wants k) (c.in-Some.ensures.some ∙ ap (λ w. kind.Reserved w) c.in-Logic.is)) c.read_logic.ensures

pub returns-in-Function : goal.returns-in-Function
returns-in-Function c = declared c.args.tokens.now c.args.at c.args.first (machine.keep kind.Ident 0 ∷ machine.past sign.OpenParen 1 ∷ machine.formals_end ∷ machine.past sign.Colon 0 ∷ machine.a_type 0 ∷ machine.past sign.Equal 0 ∷ machine.an_expr 0 ∷ machine.make machine.be_function ∷ []) c.read_function.result c.requires.here (ap (λ k. machine.decl_wants k) (c.in-Some.ensures.some ∙ ap (λ w. kind.Reserved w) c.in-Function.is)) c.read_function.ensures

pub returns-in-Predicate : goal.returns-in-Predicate
returns-in-Predicate c = declared c.args.tokens.now c.args.at c.args.first (machine.keep kind.Ident 0 ∷ machine.predicate_head ∷ machine.an_expr 0 ∷ machine.make machine.be_predicate ∷ []) c.read_predicate.result c.requires.here (ap (λ k. machine.decl_wants k) (c.in-Some.ensures.some ∙ ap (λ w. kind.Reserved w) c.in-Predicate.is)) c.read_predicate.ensures

pub returns-in-Axiom : goal.returns-in-Axiom
returns-in-Axiom c = declared c.args.tokens.now c.args.at c.args.first (machine.keep kind.Ident 0 ∷ machine.past sign.Colon 0 ∷ machine.an_expr 0 ∷ machine.make machine.be_axiom ∷ []) c.read_axiom.result c.requires.here (ap (λ k. machine.decl_wants k) (c.in-Some.ensures.some ∙ ap (λ w. kind.Reserved w) c.in-Axiom.is)) c.read_axiom.ensures

pub returns-in-Goal : goal.returns-in-Goal
returns-in-Goal c = declared c.args.tokens.now c.args.at c.args.first (machine.keep kind.Ident 0 ∷ machine.past sign.Colon 0 ∷ machine.an_expr 0 ∷ machine.make machine.be_goal ∷ []) c.read_goal.result c.requires.here (ap (λ k. machine.decl_wants k) (c.in-Some.ensures.some ∙ ap (λ w. kind.Reserved w) c.in-Goal.is)) c.read_goal.ensures

pub returns-in_default : goal.returns-in_default
returns-in_default c = undeclared c.args.tokens.now c.args.at c.args.first c.requires.here c.in_default.ensures.none

pub returns-in_default-word : goal.returns-in_default-word
returns-in_default-word c = undeclared c.args.tokens.now c.args.at c.args.first c.requires.here (ap (λ k. machine.decl_wants k) c.in-Some.ensures.some ∙ no_word c.in-Some.word c.in_default-word.not-Type_ c.in_default-word.not-Logic c.in_default-word.not-Function c.in_default-word.not-Predicate c.in_default-word.not-Axiom c.in_default-word.not-Goal)
