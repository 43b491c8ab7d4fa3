-- What the evaluator's values and names stand for in the meaning.
use Rattle.std.specs.Prelude.{List, [], ◌∷◌}
use Rattle.ml_values.specs.declared.value.Word.{Word, fold-Word}
use Rattle.ml_values.specs.declared.value.Words.{Words, fold-Words}
use Rattle.ml_values.specs.declared.value.Word.TheOpen as w
use Rattle.ml_values.specs.declared.value.Word.TheOpen.{Word-F, Words-F, Pair-F}
use Rattle.ml_values.specs.declared.value.Env.{Env, fold-Env}
use Rattle.ml_values.specs.declared.value.Env.TheOpen as n
use Rattle.ml_values.specs.declared.value.Env.TheOpen.{Env-F, Bound-F}
use Rattle.ml_values.specs.declared.value.Code.{Code}
use Rattle.ml_values.specs.declared.value.Code.TheVariants as code
use Rattle.ml_meaning.specs.Values as v
use Rattle.ml_meaning.specs.Values.{Value, Values, listed}
use Rattle.ml_meaning.specs.Patterns as p

abbrev pub code_of : Code → v.Code
code_of (code.Source node) = v.Source node
code_of (code.Primitive op) = v.Primitive op

abbrev pub word_step : Word-F Value Values Values → Value
word_step (w.Number z) = v.Number z
word_step (w.Character c) = v.Character c
word_step (w.Bytes b) = v.Bytes b.now
word_step (w.Constant k) = v.Constant k
word_step (w.Block k parts) = v.Block k parts
word_step (w.Function c captured held) = v.Function (code_of c) captured held

abbrev pub words_step : Words-F Value Values Values → Values
words_step w.Empty = v.no_values
words_step (w.And pair) = pair.now

abbrev pub pair_step : Pair-F Value Values Values → Values
pair_step pair = v.value_and pair.first pair.rest

-- a value, and a list of values
abbrev pub value : Word → Value
value word = fold-Word Value Values Values word_step words_step pair_step word

abbrev pub values : Words → Values
values words = fold-Words Value Values Values word_step words_step pair_step words

abbrev pub values_list : Words → List Value
values_list words = listed (values words)

abbrev pub names_step : Env-F p.Env p.Env → p.Env
names_step n.Nothing = []
names_step (n.And bound) = bound.now

abbrev pub bound_step : Bound-F p.Env p.Env → p.Env
bound_step bound = (bound.name, value bound.word) ∷ bound.rest

-- what the local names stand for
abbrev pub names : Env → p.Env
names env = fold-Env p.Env p.Env names_step bound_step env
