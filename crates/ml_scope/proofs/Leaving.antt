-- What is bound for a while is gone after it.
use Rattle.std.proofs.Common.{◌≡◌, List, [], ◌∷◌, ◌++◌, ◌-◌, Bool, ◌∙◌, ap, sym, refl, length, drop, append_assoc}
use Rattle.ml_scope.specs.declared.binder.Binder.{Binder}
use Rattle.ml_scope.specs.Names.{Known, Env, spelling}
use Rattle.ml_scope.specs.Binding.{bound, value_at}
use Rattle.ml_scope.proofs.Tables.{left_is}

bound_more : (k : Known) (top : Bool) (bs : List Binder) (env : Env) → bound k top bs env ≡ bound k top bs [] ++ env
bound_more k top [] env = refl
bound_more k top (b ∷ bs) env =
    bound_more k top bs ((spelling k.text b.name, value_at top b.node) ∷ env)
    ∙ sym (append_assoc (bound k top bs []) ((spelling k.text b.name, value_at top b.node) ∷ []) env)
    ∙ ap (λ e. e ++ env) (sym (bound_more k top bs ((spelling k.text b.name, value_at top b.node) ∷ [])))

pub bound_left : (k : Known) (top : Bool) (bs : List Binder) (env : Env) → drop (length (bound k top bs env) - length env) (bound k top bs env) ≡ env
bound_left k top bs env = ap (λ e. drop (length e - length env) e) (bound_more k top bs env) ∙ left_is (bound k top bs []) env
