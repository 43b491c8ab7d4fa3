-- The steps of an item behind those of its binds.
use Rattle.std.proofs.Common.{◌≡◌, Bool, List, [], ◌∷◌, ◌++◌, map, Some, None, sym, ap, ◌∙◌}
use Rattle.ml_tree.specs.declared.types.Decl.{Decl}
use Rattle.ml_tree.specs.declared.expr.Bind.{Bind}
use Rattle.ml_tree.specs.declared.program.Item.{Item}
use Rattle.ml_tree.specs.declared.program.ItemKind.{ItemKind}
use Rattle.ml_tree.specs.declared.program.ItemKind.TheVariants.{Types, Let}
use Rattle.ml_typing.specs.declared.equation.Equation.{Equation}
use Rattle.ml_typing.specs.declared.equation.Step.{Step}
use Rattle.ml_typing.specs.Written.{Names}
use Rattle.ml_typing.specs.Steps.{bind, binds_steps, kind_steps, item_steps}

abbrev pub own : Item → List Equation → Step
own item es = record { span = item.span; node = Some item.id; equations = es; compared = None }

behind : (names : Names) (item : Item) (k : ItemKind) (mid new : List Step) (es : List Equation) → item.kind ≡ k → mid ≡ kind_steps names k → es ≡ [] → new ≡ mid ++ own item es ∷ [] → new ≡ item_steps names item
behind names item k mid new es is before none grown =
    grown ∙ (ap (λ z. mid ++ own item z ∷ []) none ∙ ap (λ z. z ++ own item [] ∷ []) (before ∙ ap (kind_steps names) (sym is)))

pub of_types : (names : Names) (item : Item) (decls : List Decl) (old new : List Step) (es : List Equation) → item.kind ≡ Types decls → old ≡ [] → es ≡ [] → new ≡ old ++ own item es ∷ [] → new ≡ item_steps names item
of_types names item decls old new es is start none grown = behind names item (Types decls) old new es is start none grown

pub of_binds : (names : Names) (item : Item) (recursive : Bool) (binds list : List Bind) (old mid new : List Step) (es : List Equation) → item.kind ≡ Let recursive binds → list ≡ binds → old ≡ [] → es ≡ [] → mid ≡ old ++ binds_steps (map (bind names) list) → new ≡ mid ++ own item es ∷ [] → new ≡ item_steps names item
of_binds names item recursive binds list old mid new es is same start none before grown =
    behind names item (Let recursive binds) mid new es is (before ∙ (ap (λ z. z ++ binds_steps (map (bind names) list)) start ∙ ap (λ z. binds_steps (map (bind names) z)) same)) none grown
