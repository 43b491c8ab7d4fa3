use Rattle.std.proofs.Common.{refl}
use Rattle.ml_typing.specs.Steps.{expr_kind}
use Rattle.hm_steps.proofs.Walks.{compared_of_kind, compared_by_kind}
use Rattle.hm_steps.proofs.ExpressionLayers as L
use Rattle.hm_steps.proofs.comparisons.compared.Goals as goal

pub returns-in-Binary : goal.returns-in-Binary
returns-in-Binary c = λ names. compared_of_kind (expr_kind names) c.args.kind.now _ _ c.args.n _ c.in-Binary.is (L.binary names _ _ _) c.operands.ensures

pub returns-in-Con : goal.returns-in-Con
returns-in-Con c = λ names. compared_by_kind (expr_kind names) c.args.kind.now _ c.args.n _ c.in-Con.is (L.con_compares names _ _ c.args.n)

pub returns-in-If : goal.returns-in-If
returns-in-If c = λ names. compared_by_kind (expr_kind names) c.args.kind.now _ c.args.n _ c.in-If.is (L.if_compares names _ _ _ c.args.n)

pub returns-in-Int : goal.returns-in-Int
returns-in-Int c = λ names. compared_of_kind (expr_kind names) c.args.kind.now _ _ c.args.n _ c.in-Int.is (L.int_value names _) refl

pub returns-in-Char : goal.returns-in-Char
returns-in-Char c = λ names. compared_of_kind (expr_kind names) c.args.kind.now _ _ c.args.n _ c.in-Char.is (L.char_value names _) refl

pub returns-in-Text : goal.returns-in-Text
returns-in-Text c = λ names. compared_of_kind (expr_kind names) c.args.kind.now _ _ c.args.n _ c.in-Text.is (L.text_value names _) refl

pub returns-in-Name : goal.returns-in-Name
returns-in-Name c = λ names. compared_of_kind (expr_kind names) c.args.kind.now _ _ c.args.n _ c.in-Name.is (L.name names _) refl

pub returns-in-Path : goal.returns-in-Path
returns-in-Path c = λ names. compared_of_kind (expr_kind names) c.args.kind.now _ _ c.args.n _ c.in-Path.is (L.path names _ _) refl

pub returns-in-Cons : goal.returns-in-Cons
returns-in-Cons c = λ names. compared_of_kind (expr_kind names) c.args.kind.now _ _ c.args.n _ c.in-Cons.is (L.cons names _ _) refl

pub returns-in-Tuple : goal.returns-in-Tuple
returns-in-Tuple c = λ names. compared_of_kind (expr_kind names) c.args.kind.now _ _ c.args.n _ c.in-Tuple.is (L.tuple names _) refl

pub returns-in-List : goal.returns-in-List
returns-in-List c = λ names. compared_of_kind (expr_kind names) c.args.kind.now _ _ c.args.n _ c.in-List.is (L.list names _) refl

pub returns-in-Fields : goal.returns-in-Fields
returns-in-Fields c = λ names. compared_of_kind (expr_kind names) c.args.kind.now _ _ c.args.n _ c.in-Fields.is (L.fields names _) refl

pub returns-in-Field : goal.returns-in-Field
returns-in-Field c = λ names. compared_of_kind (expr_kind names) c.args.kind.now _ _ c.args.n _ c.in-Field.is (L.field names _ _) refl

pub returns-in-Index : goal.returns-in-Index
returns-in-Index c = λ names. compared_of_kind (expr_kind names) c.args.kind.now _ _ c.args.n _ c.in-Index.is (L.index names _ _) refl

pub returns-in-Apply : goal.returns-in-Apply
returns-in-Apply c = λ names. compared_of_kind (expr_kind names) c.args.kind.now _ _ c.args.n _ c.in-Apply.is (L.apply names _ _) refl

pub returns-in-Minus : goal.returns-in-Minus
returns-in-Minus c = λ names. compared_of_kind (expr_kind names) c.args.kind.now _ _ c.args.n _ c.in-Minus.is (L.minus names _) refl

pub returns-in-Let : goal.returns-in-Let
returns-in-Let c = λ names. compared_of_kind (expr_kind names) c.args.kind.now _ _ c.args.n _ c.in-Let.is (L.binding names _ _ _) refl

pub returns-in-Seq : goal.returns-in-Seq
returns-in-Seq c = λ names. compared_of_kind (expr_kind names) c.args.kind.now _ _ c.args.n _ c.in-Seq.is (L.sequence names _) refl

pub returns-in-Match : goal.returns-in-Match
returns-in-Match c = λ names. compared_of_kind (expr_kind names) c.args.kind.now _ _ c.args.n _ c.in-Match.is (L.cases names _ _) refl

pub returns-in-Fun : goal.returns-in-Fun
returns-in-Fun c = λ names. compared_of_kind (expr_kind names) c.args.kind.now _ _ c.args.n _ c.in-Fun.is (L.function names _ _) refl

pub returns-in-Function : goal.returns-in-Function
returns-in-Function c = λ names. compared_of_kind (expr_kind names) c.args.kind.now _ _ c.args.n _ c.in-Function.is (L.matching names _) refl

pub returns-in-Paren : goal.returns-in-Paren
returns-in-Paren c = λ names. compared_of_kind (expr_kind names) c.args.kind.now _ _ c.args.n _ c.in-Paren.is (L.paren names _) refl

pub returns-in-Typed : goal.returns-in-Typed
returns-in-Typed c = λ names. compared_of_kind (expr_kind names) c.args.kind.now _ _ c.args.n _ c.in-Typed.is (L.typed names _ _) refl

pub returns-in-Worded : goal.returns-in-Worded
returns-in-Worded c = λ names. compared_of_kind (expr_kind names) c.args.kind.now _ _ c.args.n _ c.in-Worded.is (L.worded names _ _) refl

pub returns-in-Exclave : goal.returns-in-Exclave
returns-in-Exclave c = λ names. compared_of_kind (expr_kind names) c.args.kind.now _ _ c.args.n _ c.in-Exclave.is (L.exclave names _) refl

pub returns-in-Borrow : goal.returns-in-Borrow
returns-in-Borrow c = λ names. compared_of_kind (expr_kind names) c.args.kind.now _ _ c.args.n _ c.in-Borrow.is (L.borrow names _ _ _) refl

pub returns-in-Overwrite : goal.returns-in-Overwrite
returns-in-Overwrite c = λ names. compared_of_kind (expr_kind names) c.args.kind.now _ _ c.args.n _ c.in-Overwrite.is (L.overwrite names _ _) refl
