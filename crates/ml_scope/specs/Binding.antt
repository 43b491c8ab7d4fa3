-- Names that come into scope together: the parameters of one function, the names of one `let`, of a pattern.
use Rattle.std.specs.Prelude.{ℕ, List, [], ◌∷◌, Bool, true, false, is_some}
use Rattle.oxml_base.specs.declared.rule.Rule.TheVariants.{BoundTwice}
use Rattle.ml_tree.specs.declared.reference.Ref.{Ref}
use Rattle.ml_tree.specs.declared.reference.Ref.TheVariants.{Top, Local}
use Rattle.ml_scope.specs.declared.binder.Binder.{Binder}
use Rattle.ml_scope.specs.declared.meaning.Meaning.{Meaning}
use Rattle.ml_scope.specs.Names.{Known, Env, find, spelling}
use Rattle.ml_scope.specs.Journal.{Journal, offence_where}

-- what a use of a bound name points to: an item's binder, or any other
abbrev pub binder_of : Bool → ℕ → Ref
binder_of true node = Top node
binder_of false node = Local node

abbrev pub value_at : Bool → ℕ → Meaning
value_at top node = record { target = binder_of top node; declaration = 0; place = 0; parts = 0 }

module _ (k : Known) where
  -- the names come into scope, the last the nearest
  abbrev pub bound : Bool → List Binder → Env → Env
  bound top [] env = env
  bound top (b ∷ bs) env = bound top bs ((spelling k.text b.name, value_at top b.node) ∷ env)

  -- a name of the group that was bound in it before is bound twice
  abbrev pub twice : Env → List Binder → Journal → Journal
  twice seen [] js = js
  twice seen (b ∷ bs) js = twice ((spelling k.text b.name, value_at false b.node) ∷ seen) bs (offence_where (is_some (find seen (spelling k.text b.name))) BoundTwice b.name js)
