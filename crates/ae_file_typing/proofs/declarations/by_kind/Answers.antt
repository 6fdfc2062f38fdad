use Rattle.std.proofs.Common.{List, ◌∷◌, ◌++◌, false, true, map, sym, subst}
use Rattle.std.specs.List.{AllByRecursion}
use Rattle.std.proofs.lemmas.Result.{IfErr-weaker, on_ok_weaker}
use Rattle.ae_base.proofs.AllOf.{all_front, all_back}
use Rattle.ae_declaration_typing.specs.Drafts.{DraftAnswer}
use Rattle.ae_elab.specs.Declarations.{enumeration_decl, function_decl, logic_decl, predicate_decl, statement_decl, type_decl}
use Rattle.ae_elab.specs.declared.faults.TypeFault.{TypeFault}
use Rattle.ae_elab.specs.Rules.{Passed}
use Rattle.ae_elab.specs.Steps.{IsHalted}
use Rattle.ae_elab.specs.Names.{IsName, joined, names_in, names_in_all, names_in_result, names_in_type, names_in_typed}
use Rattle.ae_expressions.proofs.ExprParts.{all_joined}
use Rattle.ae_syntax.specs.declared.decls.DeclKind.TheVariants as kind
use Rattle.ae_syntax.specs.declared.decls.TypedName.{TypedName}
use Rattle.ae_file_typing.proofs.KindLaws.{kind_names, of_kind}
use Rattle.ae_file_typing.proofs.declarations.by_kind.Goals as goal

pub type_decl-requires : goal.type_decl-requires
type_decl-requires c =
    let text = c.args.context.now.text.now in
    let P = IsName text in
    let k = c.in-Type in
    let all = kind_names text c.args.context.now.known c.args.place c.args.kind.now (kind.Type k.params k.name k.fields) c.in-Type.is c.requires.names in
    record {
      params = all_front P k.params (k.name ∷ names_in_all k.fields) all;
      name = (all_back P k.params (k.name ∷ names_in_all k.fields) all).0;
      fields = all_joined P names_in_typed k.fields (all_back P k.params (k.name ∷ names_in_all k.fields) all).1;
    }

pub enumeration-requires : goal.enumeration-requires
enumeration-requires c =
    let text = c.args.context.now.text.now in
    let P = IsName text in
    let k = c.in-Enumeration in
    let all = kind_names text c.args.context.now.known c.args.place c.args.kind.now (kind.Enumeration k.name k.constructors) c.in-Enumeration.is c.requires.names in
    record {
      name = all.0;
      constructors = all.1;
    }

pub logic-requires : goal.logic-requires
logic-requires c =
    let text = c.args.context.now.text.now in
    let P = IsName text in
    let k = c.in-Logic in
    let all = kind_names text c.args.context.now.known c.args.place c.args.kind.now (kind.Logic k.ac k.names k.args k.result) c.in-Logic.is c.requires.names in
    record {
      names = all_front P k.names (joined (map names_in_type k.args)) (all_front P (k.names ++ joined (map names_in_type k.args)) (names_in_result k.result.sort) all);
      args = all_joined P names_in_type k.args (all_back P k.names (joined (map names_in_type k.args)) (all_front P (k.names ++ joined (map names_in_type k.args)) (names_in_result k.result.sort) all));
      value = all_back P (k.names ++ joined (map names_in_type k.args)) (names_in_result k.result.sort) all;
    }

pub function-requires : goal.function-requires
function-requires c =
    let text = c.args.context.now.text.now in
    let P = IsName text in
    let k = c.in-Function in
    let all = kind_names text c.args.context.now.known c.args.place c.args.kind.now (kind.Function k.name k.formals k.result k.body) c.in-Function.is c.requires.names in
    record {
      locals = c.requires.locals;
      name = all.0;
      formals = subst (AllByRecursion (λ (x : TypedName). AllByRecursion P (names_in_typed x))) (sym c.as_slice-formals.ensures)
          (all_joined P names_in_typed k.formals (all_front P (names_in_all k.formals) (names_in_type k.result) (all_front P (names_in_all k.formals ++ names_in_type k.result) (names_in k.body) all.1)));
      value = all_back P (names_in_all k.formals) (names_in_type k.result) (all_front P (names_in_all k.formals ++ names_in_type k.result) (names_in k.body) all.1);
      body = all_back P (names_in_all k.formals ++ names_in_type k.result) (names_in k.body) all.1;
    }

pub predicate-requires : goal.predicate-requires
predicate-requires c =
    let text = c.args.context.now.text.now in
    let P = IsName text in
    let k = c.in-Predicate in
    let all = kind_names text c.args.context.now.known c.args.place c.args.kind.now (kind.Predicate k.name k.formals k.body) c.in-Predicate.is c.requires.names in
    record {
      locals = c.requires.locals;
      name = all.0;
      formals = subst (AllByRecursion (λ (x : TypedName). AllByRecursion P (names_in_typed x))) (sym c.as_slice-formals-in-Predicate.ensures)
          (all_joined P names_in_typed k.formals (all_front P (names_in_all k.formals) (names_in k.body) all.1));
      body = all_back P (names_in_all k.formals) (names_in k.body) all.1;
    }

pub statement-requires : goal.statement-requires
statement-requires c =
    let text = c.args.context.now.text.now in
    let P = IsName text in
    let k = c.in-Axiom in
    let all = kind_names text c.args.context.now.known c.args.place c.args.kind.now (kind.Axiom k.name k.body) c.in-Axiom.is c.requires.names in
    record {
      locals = c.requires.locals;
      names = all.1;
    }

pub statement-requires-in-Goal : goal.statement-requires-in-Goal
statement-requires-in-Goal c =
    let text = c.args.context.now.text.now in
    let P = IsName text in
    let k = c.in-Goal in
    let all = kind_names text c.args.context.now.known c.args.place c.args.kind.now (kind.Goal k.name k.body) c.in-Goal.is c.requires.names in
    record {
      locals = c.requires.locals;
      names = all.1;
    }

pub returns-in-Type-clause-declared : goal.returns-in-Type-clause-declared
returns-in-Type-clause-declared c =
    let d = c.args.context.now in
    let text = d.text.now in
    let old = c.args.typing.now in
    let k = c.in-Type in
    let r = type_decl text d.known k.params k.name k.fields in
    of_kind text d.known c.args.place c.args.kind.now (kind.Type k.params k.name k.fields) c.type_decl.new.known old _ c.no_draft.result k.is
    (c.no_draft.ensures text r c.type_decl.new.known old c.type_decl.new.passing c.requires.locals c.type_decl.ensures.declared c.type_decl.ensures.fault)

pub returns-in-Enumeration-clause-declared : goal.returns-in-Enumeration-clause-declared
returns-in-Enumeration-clause-declared c =
    let d = c.args.context.now in
    let text = d.text.now in
    let old = c.args.typing.now in
    let k = c.in-Enumeration in
    let r = enumeration_decl text d.known k.name k.constructors in
    of_kind text d.known c.args.place c.args.kind.now (kind.Enumeration k.name k.constructors) c.enumeration.new.known old _ c.no_draft-in-Enumeration.result k.is
    (c.no_draft-in-Enumeration.ensures text r c.enumeration.new.known old old.passing c.requires.locals (on_ok_weaker c.enumeration.result (λ a. a old.passing) c.enumeration.ensures.declared) (IfErr-weaker c.enumeration.result
    (λ (e : TypeFault). (p : Passed) → IsHalted r p e) (IsHalted r old.passing) (λ e a. a old.passing) c.enumeration.ensures.fault))

pub returns-in-Logic-clause-declared : goal.returns-in-Logic-clause-declared
returns-in-Logic-clause-declared c =
    let d = c.args.context.now in
    let text = d.text.now in
    let old = c.args.typing.now in
    let k = c.in-Logic in
    let r = logic_decl text d.known c.args.place k.ac k.names k.args k.result in
    of_kind text d.known c.args.place c.args.kind.now (kind.Logic k.ac k.names k.args k.result) c.logic.new.known old _ c.no_draft-in-Logic.result k.is
    (c.no_draft-in-Logic.ensures text r c.logic.new.known old c.logic.new.passing c.requires.locals c.logic.ensures.declared c.logic.ensures.fault)

pub returns-in-Function-clause-declared : goal.returns-in-Function-clause-declared
returns-in-Function-clause-declared c =
    let d = c.args.context.now in
    let text = d.text.now in
    let old = c.args.typing.now in
    let k = c.in-Function in
    let r = function_decl text d.known c.args.place k.name k.formals k.result k.body in
    of_kind text d.known c.args.place c.args.kind.now (kind.Function k.name k.formals k.result k.body) c.function.new.context.known old c.function.new.typing c.one_draft.result k.is
    (c.one_draft.ensures text r c.function.new.context.known old c.function.new.typing
    (subst (λ (xs : List TypedName). DraftAnswer text
    (function_decl text d.known c.args.place k.name xs k.result k.body) c.function.new.context.known old c.function.new.typing c.function.result) c.as_slice-formals.ensures c.function.ensures.draft))

pub returns-in-Predicate-clause-declared : goal.returns-in-Predicate-clause-declared
returns-in-Predicate-clause-declared c =
    let d = c.args.context.now in
    let text = d.text.now in
    let old = c.args.typing.now in
    let k = c.in-Predicate in
    let r = predicate_decl text d.known c.args.place k.name k.formals k.body in
    of_kind text d.known c.args.place c.args.kind.now (kind.Predicate k.name k.formals k.body) c.predicate.new.context.known old c.predicate.new.typing c.one_draft-in-Predicate.result k.is
    (c.one_draft-in-Predicate.ensures text r c.predicate.new.context.known old c.predicate.new.typing
    (subst (λ (xs : List TypedName). DraftAnswer text
    (predicate_decl text d.known c.args.place k.name xs k.body) c.predicate.new.context.known old c.predicate.new.typing c.predicate.result) c.as_slice-formals-in-Predicate.ensures c.predicate.ensures.draft))

pub returns-in-Axiom-clause-declared : goal.returns-in-Axiom-clause-declared
returns-in-Axiom-clause-declared c =
    let d = c.args.context.now in
    let text = d.text.now in
    let old = c.args.typing.now in
    let k = c.in-Axiom in
    let r = statement_decl text d.known c.args.place false k.name k.body in
    of_kind text d.known c.args.place c.args.kind.now (kind.Axiom k.name k.body) d.known old c.statement.new.typing c.one_draft-in-Axiom.result k.is
    (c.one_draft-in-Axiom.ensures text r d.known old c.statement.new.typing c.statement.ensures)

pub returns-in-Goal-clause-declared : goal.returns-in-Goal-clause-declared
returns-in-Goal-clause-declared c =
    let d = c.args.context.now in
    let text = d.text.now in
    let old = c.args.typing.now in
    let k = c.in-Goal in
    let r = statement_decl text d.known c.args.place true k.name k.body in
    of_kind text d.known c.args.place c.args.kind.now (kind.Goal k.name k.body) d.known old c.statement-in-Goal.new.typing c.one_draft-in-Goal.result k.is
    (c.one_draft-in-Goal.ensures text r d.known old c.statement-in-Goal.new.typing c.statement-in-Goal.ensures)
