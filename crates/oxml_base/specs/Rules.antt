-- The rules of the language, by number and text.
use Rattle.std.specs.Prelude.{ℕ, List, codes}
use Rattle.oxml_base.specs.declared.rule.Rule.{Rule}
use Rattle.oxml_base.specs.declared.rule.Rule.TheVariants.{OutsideAlphabet, OpenComment, OpenText, BadEscape, BadNumber, Syntax, UnboundValue, UnboundConstructor, UnboundType, BoundTwice, FieldCount, LeftOut, ArgumentCount, UnboundVariable, DeclaredTwice, CyclicAbbreviation, TypesDiffer, InfiniteType, Comparison, NameMode, UsedTwice, FieldMode, ComponentMode, FunctionMode, CallMode, BoundMode, BorrowLeaves, ExclaveNotTail, OverwriteNotAllowed, WrittenMode, TopLevelMode, BranchMode, ArrowModes, WrittenArrow}

-- the number that a refusal prints
abbrev pub rule_number : Rule → ℕ
rule_number OutsideAlphabet = 1
rule_number OpenComment = 2
rule_number OpenText = 3
rule_number BadEscape = 4
rule_number BadNumber = 5
rule_number Syntax = 10
rule_number UnboundValue = 20
rule_number UnboundConstructor = 21
rule_number UnboundType = 22
rule_number BoundTwice = 23
rule_number FieldCount = 24
rule_number LeftOut = 25
rule_number ArgumentCount = 30
rule_number UnboundVariable = 31
rule_number DeclaredTwice = 32
rule_number CyclicAbbreviation = 33
rule_number TypesDiffer = 40
rule_number InfiniteType = 41
rule_number Comparison = 42
rule_number NameMode = 61
rule_number UsedTwice = 62
rule_number FieldMode = 63
rule_number ComponentMode = 64
rule_number FunctionMode = 65
rule_number CallMode = 66
rule_number BoundMode = 67
rule_number BorrowLeaves = 68
rule_number ExclaveNotTail = 69
rule_number OverwriteNotAllowed = 70
rule_number WrittenMode = 71
rule_number TopLevelMode = 72
rule_number BranchMode = 73
rule_number ArrowModes = 75
rule_number WrittenArrow = 76

-- the text that a refusal prints
abbrev pub rule_text : Rule → List ℕ
rule_text OutsideAlphabet = codes "byte outside the alphabet"
rule_text OpenComment = codes "comment is not closed"
rule_text OpenText = codes "text is not closed"
rule_text BadEscape = codes "bad escape"
rule_text BadNumber = codes "bad number literal"
rule_text Syntax = codes "syntax"
rule_text UnboundValue = codes "unbound value"
rule_text UnboundConstructor = codes "unbound constructor or field"
rule_text UnboundType = codes "unbound type"
rule_text BoundTwice = codes "name bound twice"
rule_text FieldCount = codes "wrong number of fields"
rule_text LeftOut = codes "form left out"
rule_text ArgumentCount = codes "wrong number of type arguments"
rule_text UnboundVariable = codes "unbound type variable"
rule_text DeclaredTwice = codes "declared twice"
rule_text CyclicAbbreviation = codes "type abbreviation names itself"
rule_text TypesDiffer = codes "types differ"
rule_text InfiniteType = codes "type would contain itself"
rule_text Comparison = codes "comparison at this type"
rule_text NameMode = codes "name is not usable at this mode"
rule_text UsedTwice = codes "name is used several times"
rule_text FieldMode = codes "field does not fit the block"
rule_text ComponentMode = codes "component does not fit its name"
rule_text FunctionMode = codes "function does not fit its captures or result"
rule_text CallMode = codes "argument or result does not fit the call"
rule_text BoundMode = codes "bound value does not fit"
rule_text BorrowLeaves = codes "borrow leaves its region"
rule_text ExclaveNotTail = codes "exclave is not in tail position"
rule_text OverwriteNotAllowed = codes "overwrite is not allowed here"
rule_text WrittenMode = codes "value does not have the written mode"
rule_text TopLevelMode = codes "top-level value must be global, shared and many"
rule_text BranchMode = codes "branch does not fit"
rule_text ArrowModes = codes "modes of equal function types differ"
rule_text WrittenArrow = codes "mode of a written function type"
