-- The predefined declarations over a table, at the ids of the variable 0 and of its list.
use Rattle.std.specs.Prelude.{ℕ, List, [], ◌∷◌, map, None}
use Rattle.ml_tree.specs.declared.pattern.ConName.{ConName}
use Rattle.ml_tree.specs.declared.pattern.ConName.TheVariants as n
use Rattle.ml_types.specs.declared.node.TyId.{TyId}
use Rattle.ml_types.specs.declared.declared.DeclInfo.{DeclInfo}
use Rattle.ml_types.specs.declared.declared.ConInfo.{ConInfo}
use Rattle.ml_types.specs.declared.declared.ArgInfo.{ArgInfo}
use Rattle.ml_decls.specs.Said.{nowhere, no_words}

abbrev pub plain_arg : TyId → ArgInfo
plain_arg x = record { words = no_words; ty = x }

abbrev pub con_info : ConName → List TyId → ConInfo
con_info name types = record { name = name; args = map plain_arg types }

abbrev pub variant_info : ℕ → List ConInfo → DeclInfo
variant_info vars cons = record { name = nowhere; vars = vars; cons = cons; fields = []; alias = None }

abbrev pub bool_info : DeclInfo
bool_info = variant_info 0 (con_info n.False [] ∷ con_info n.True [] ∷ [])

abbrev pub unit_info : DeclInfo
unit_info = variant_info 0 (con_info n.Unit [] ∷ [])

abbrev pub list_info : TyId → TyId → DeclInfo
list_info element list = variant_info 1 (con_info n.Nil [] ∷ con_info (n.Named nowhere) (element ∷ list ∷ []) ∷ [])

abbrev pub option_info : TyId → DeclInfo
option_info element = variant_info 1 (con_info (n.Named nowhere) [] ∷ con_info (n.Named nowhere) (element ∷ []) ∷ [])

abbrev pub all_infos : TyId → TyId → List DeclInfo
all_infos element list = variant_info 0 [] ∷ variant_info 0 [] ∷ variant_info 0 [] ∷ bool_info ∷ unit_info ∷ list_info element list ∷ option_info element ∷ []
