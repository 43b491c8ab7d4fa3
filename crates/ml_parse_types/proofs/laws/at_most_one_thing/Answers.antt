use Rattle.ml_parse_types.proofs.Unique.{same_words, same_type, same_decls}
use Rattle.ml_parse_types.proofs.laws.at_most_one_thing.Goals as goal

pub returns-clause-words : goal.returns-clause-words
returns-clause-words c ts o p a b = same_words a b

pub returns-clause-types : goal.returns-clause-types
returns-clause-types c k ts o p a b = same_type a b

pub returns-clause-decls : goal.returns-clause-decls
returns-clause-decls c = same_decls
