use Rattle.std.proofs.Common.{◌∙◌}
use Rattle.ml_decls.proofs.Infos.{says_variant, says_record, says_alias}
use Rattle.ml_decls.proofs.build.decl_info.Goals as goal

pub returns-in_ok-info-in-Variant-clause-says : goal.returns-in_ok-info-in-Variant-clause-says
returns-in_ok-info-in-Variant-clause-says c = says_variant c.args.s.now.types _ _ c.args.one.now _ _ _ c.in-Variant.is c.as_slice.ensures (c.in_ok-vars.ensures ∙ c.len.ensures) c.in_ok-info-in-Variant.ensures.says

pub returns-in_ok-info-in-Fields-clause-says : goal.returns-in_ok-info-in-Fields-clause-says
returns-in_ok-info-in-Fields-clause-says c = says_record c.args.s.now.types _ _ c.args.one.now _ _ _ c.in-Fields.is c.as_slice-in-Fields.ensures (c.in_ok-vars.ensures ∙ c.len.ensures) c.in_ok-info-in-Fields.ensures.says

pub returns-in_ok-info-in-Alias-clause-says : goal.returns-in_ok-info-in-Alias-clause-says
returns-in_ok-info-in-Alias-clause-says c = says_alias c.args.s.now.types _ _ c.args.one.now _ _ c.in-Alias.is (c.in_ok-vars.ensures ∙ c.len.ensures) c.in_ok-info-in-Alias.ensures.says
