use Rattle.std.proofs.Common.{[], ◌∷◌, refl}
use Rattle.std.proofs.lemmas.Result.{err_from_is_err_and}
use Rattle.ae_lex.specs.declared.kinds.Sign.TheVariants as sign
use Rattle.ae_syntax.specs.Parts.{group, names, sort, group_of}
use Rattle.ae_syntax.specs.Inner.Machine.{make, pass, the_sign, items_wants, element_wants, a_type, group_names}
use Rattle.ae_syntax.proofs.ParserMeetsMachine.Steps.{then_reads, fails_on, start, done, then_makes, then_passes, lacks_pass}
use Rattle.ae_syntax.specs.Grammar.{of_groups, of_names}
use Rattle.ae_syntax.proofs.ParserMeetsMachine.Levels.{small_grip}
use Rattle.ae_syntax.proofs.read_groups.read_group.Goals as goal

pub returns-in_err-names : goal.returns-in_err-names
returns-in_err-names c = let p = err_from_is_err_and c.from_residual.result c.from_residual.ensures.1 in rw (p.1, p.2) (fails_on (λ p. group p) (λ p. names p) 8 8 (items_wants of_names c.args.depth) (pass (the_sign sign.Colon) c.args.depth ∷ a_type c.args.depth ∷ make group_names ∷ []) [] [] c.in_err-names.field-0.0 (start c.args.tokens.now (element_wants of_groups c.args.depth) [] c.args.at c.requires.within) (c.in_err-names.ensures of_names c.args.depth refl refl c.requires.shallow))

pub returns-in_err-take_sign : goal.returns-in_err-take_sign
returns-in_err-take_sign c = let p = err_from_is_err_and c.from_residual-in_err-take_sign.result c.from_residual-in_err-take_sign.ensures.1 in rw (p.1, p.2) (lacks_pass (λ p. group p) 8 c.in_err-take_sign.field-0.0 (then_reads (items_wants of_names c.args.depth) (pass (the_sign sign.Colon) c.args.depth ∷ a_type c.args.depth ∷ make group_names ∷ []) [] [] (start c.args.tokens.now (element_wants of_groups c.args.depth) [] c.args.at c.requires.within) (c.in_ok-names.ensures of_names c.args.depth refl refl c.requires.shallow)) c.in_err-take_sign.ensures.lacks c.in_err-take_sign.ensures.wrong)

pub returns-in_err-sort : goal.returns-in_err-sort
returns-in_err-sort c = let p = err_from_is_err_and c.from_residual-in_err-sort.result c.from_residual-in_err-sort.ensures.1 in rw (p.1, p.2) (fails_on (λ p. group p) (λ p. sort p) 8 8 (a_type c.args.depth ∷ []) (make group_names ∷ []) [] (names c.in_ok-names.names ∷ []) c.in_err-sort.field-0.0 (then_passes _ (then_reads (items_wants of_names c.args.depth) (pass (the_sign sign.Colon) c.args.depth ∷ a_type c.args.depth ∷ make group_names ∷ []) [] [] (start c.args.tokens.now (element_wants of_groups c.args.depth) [] c.args.at c.requires.within) (c.in_ok-names.ensures of_names c.args.depth refl refl c.requires.shallow)) c.in_ok-take_sign.ensures.is c.in_ok-take_sign.ensures.kind c.requires.shallow) c.in_err-sort.ensures)

pub returns : goal.returns
returns c = rw c.group_of.ensures (done (then_makes (group (group_of c.in_ok-names.names c.in_ok-sort.sort) ∷ []) (then_reads (a_type c.args.depth ∷ []) (make group_names ∷ []) [] (names c.in_ok-names.names ∷ []) (then_passes _ (then_reads (items_wants of_names c.args.depth) (pass (the_sign sign.Colon) c.args.depth ∷ a_type c.args.depth ∷ make group_names ∷ []) [] [] (start c.args.tokens.now (element_wants of_groups c.args.depth) [] c.args.at c.requires.within) (c.in_ok-names.ensures of_names c.args.depth refl refl c.requires.shallow)) c.in_ok-take_sign.ensures.is c.in_ok-take_sign.ensures.kind c.requires.shallow) c.in_ok-sort.ensures) (λ v. refl)) (small_grip _))
