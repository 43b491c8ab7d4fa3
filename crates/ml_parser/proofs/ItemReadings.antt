-- Items and programs, from what the readers of their parts answer.
use Rattle.std.proofs.Common.{◌≡◌, ◌≢◌, ℕ, zero, suc, ◌<◌, ◌≤◌, max, Bool, true, false, cond, List, [], ◌∷◌, ◌++◌, drop, length, refl, sym, ap, subst, ◌∙◌, arith}
use Rattle.std.specs.Prelude.{slice_get, unwrap_or}
use Rattle.ml_lexer.specs.declared.token.Token.{Token}
use Rattle.ml_lexer.specs.declared.token.TokenKind.{TokenKind}
use Rattle.ml_lexer.specs.declared.token.TokenKind.TheVariants as Kinds
use Rattle.ml_cursor.specs.declared.front.Front.{Front}
use Rattle.ml_cursor.specs.declared.front.Front.TheVariants as F
use Rattle.ml_cursor.specs.Fronts.{front, of_kind, of_sign, of_word, signs, words}
use Rattle.ml_cursor.proofs.Lists.{past_all}
use Rattle.ml_tree.specs.declared.program.Item.{Item}
use Rattle.ml_numbers.specs.Numbered.{numbered}
use Rattle.ml_parse_types.proofs.Shorter.{length-drop as length_dropped, drop_one, decls_rest}
use Rattle.ml_parse_types.specs.Types.{got}
use Rattle.ml_grammar.specs.declared.looks.ItemLead.{ItemLead}
use Rattle.ml_grammar.specs.declared.looks.ItemLead.TheVariants as I
use Rattle.ml_grammar.specs.Looks.{item_by, item_lead}
use Rattle.ml_grammar.specs.Readings.{IsRead, AreDeep}
use Rattle.ml_grammar.specs.Programs.{AnItem, AnItemBy, a_let_item, a_types_item, IsItem, Derives, NoProgram}
use Rattle.ml_grammar.proofs.Shorter.{list_shorter, rec_rest}
use Rattle.ml_grammar.proofs.Programs.{ItemsUpTo, items_init, items_between, items_step, items_done, items_deep}

pub is_item : {text : List ℕ} {l : ItemLead} {ts r : List Token} {i : Item} {d : ℕ} → IsRead (AnItemBy text l ts) 1000 i d r → IsItem text l ts r i
is_item {d = d} x = record { depth = d; reads = x.reads; small = x.small }

item_rest : {text : List ℕ} {l : ItemLead} {ts r : List Token} {i : Item} {d : ℕ} → AnItemBy text l ts i d r → length r < length ts
item_rest (a_let_item {ts = ts} x) = let i = list_shorter x in let j = rec_rest (drop 1 ts) in let k = length_dropped 1 ts in omega arith
item_rest (a_types_item {ts = ts} {rest = r} {ds = ds} x) = let i = decls_rest (drop 1 ts) (got ds r) x in let k = length_dropped 1 ts in omega arith

pub item_shorter : {text : List ℕ} {l : ItemLead} {ts us r : List Token} {i : Item} → us ≡ ts → IsItem text l us r i → length r < length ts
item_shorter {r = r} e x = subst (λ us. length r < length us) e (item_rest x.reads)

-- a token is something

abbrev is_nothing : Front → Bool
is_nothing F.Nothing = true
is_nothing _ = false

abbrev has_nothing : List Front → Bool
has_nothing [] = false
has_nothing (f ∷ fs) = cond (is_nothing f) true (has_nothing fs)

cond_false : (a b : Bool) → cond a true b ≡ false → (a ≡ false) × (b ≡ false)
cond_false true b h = (h, cc)
cond_false false b h = (refl, h)

no_nothing : (fs : List Front) (n : ℕ) → has_nothing fs ≡ false → is_nothing (unwrap_or (slice_get fs n) F.Unused) ≡ false
no_nothing [] n h = refl
no_nothing (f ∷ fs) zero h = (cond_false (is_nothing f) (has_nothing fs) h).0
no_nothing (f ∷ fs) (suc n) h = no_nothing fs n (cond_false (is_nothing f) (has_nothing fs) h).1

kind_stands : (k : TokenKind) → is_nothing (of_kind k) ≡ false
unfolding of_word of_sign
kind_stands Kinds.Lower = refl
kind_stands Kinds.Upper = refl
kind_stands Kinds.TypeVar = refl
kind_stands (Kinds.Int n) = refl
kind_stands (Kinds.Char n) = refl
kind_stands Kinds.Text = refl
kind_stands (Kinds.Word n) = no_nothing words n refl
kind_stands (Kinds.Sign n) = no_nothing signs n refl

false_true : {P : Type 0} → false ≡ true → P
false_true q = cc

front_stands : (ts : List Token) → front ts ≡ F.Nothing → ts ≡ []
front_stands [] e = refl
front_stands (t ∷ ts) e = false_true (sym (kind_stands t.kind) ∙ ap is_nothing e)

end_front : (f : Front) → item_by f ≡ I.End → f ≡ F.Nothing
end_front F.Nothing e = refl
end_front _ e = cc

semis_front : (f : Front) → item_by f ≡ I.SemiSemi → f ≡ F.SemiSemi
semis_front F.SemiSemi e = refl
semis_front _ e = cc

dropped : {A : Type 0} (n : ℕ) (xs : List A) → n < length xs → drop n xs ≡ [] → ⊥
dropped zero [] h e = omega arith
dropped zero (x ∷ xs) h e = cc
dropped (suc n) [] h e = omega arith
dropped (suc n) (x ∷ xs) h e = dropped n xs (omega arith) e

no_end : (tokens : List Token) (at : ℕ) → at < length tokens → item_lead (drop at tokens) ≢ I.End
unfolding item_lead
no_end tokens at h e = dropped at tokens h (front_stands (drop at tokens) (end_front (front (drop at tokens)) e))

no_semis : (ts : List Token) → front ts ≢ F.SemiSemi → item_lead ts ≢ I.SemiSemi
unfolding item_lead
no_semis ts n e = n (semis_front (front ts) e)

-- the loop over the items

pub up_to_init : {text : List ℕ} {ts : List Token} {done : List Item} → done ≡ [] → ItemsUpTo text ts done ts
up_to_init {text} {ts} e = subst (λ done. ItemsUpTo text ts done ts) (sym e) (record { depth = 0; so_far = items_init })

pub up_to_between : {text : List ℕ} {start ts us : List Token} {done : List Item} → ItemsUpTo text start done ts → front ts ≡ F.SemiSemi → us ≡ drop 1 ts → ItemsUpTo text start done us
up_to_between i e f = record { depth = i.depth; so_far = items_between i.so_far e f }

pub up_to_step : {text : List ℕ} {start ts us r : List Token} {done xs : List Item} {i : Item} → ItemsUpTo text start done ts → us ≡ ts → IsItem text (item_lead us) us r i → xs ≡ done ++ (i ∷ []) → ItemsUpTo text start xs r
up_to_step {text} {start} {ts} {us} {r} {done} {xs} {i} s e x f =
    let y : IsItem text (item_lead ts) ts r i = subst (λ us. IsItem text (item_lead us) us r i) e x in
    let z : IsRead (AnItem text ts) 1000 i y.depth r = record { reads = y.reads; small = y.small } in
    subst (λ xs. ItemsUpTo text start xs r) (sym f) (record { depth = max s.depth y.depth; so_far = items_step s.so_far z })

pub up_to_done : {text : List ℕ} {done : List Item} (tokens : List Token) (at : ℕ) → ItemsUpTo text tokens done (drop at tokens) → length tokens ≤ at → Derives text tokens (numbered done)
up_to_done tokens at s h = items_done s.so_far (past_all at tokens h) refl

pub up_to_fails : {text : List ℕ} {done : List Item} {us : List Token} (tokens : List Token) (at : ℕ) → ItemsUpTo text tokens done (drop at tokens) → at < length tokens → front (drop at tokens) ≢ F.SemiSemi → us ≡ drop at tokens → AreDeep (AnItemBy text (item_lead us) us) 1000 → NoProgram text tokens
up_to_fails {text} tokens at s h n e x = record {
  none = items_deep s.so_far (no_end tokens at h) (no_semis (drop at tokens) n) (subst (λ us. AreDeep (AnItemBy text (item_lead us) us) 1000) e x);
}

pub semis_shorter : (ts us : List Token) → front ts ≡ F.SemiSemi → us ≡ drop 1 ts → length us < length ts
semis_shorter ts us e f = let i = drop_one ts (λ q. semis_nothing (sym e ∙ q)) in let k = ap length f in omega arith
  where
    semis_nothing : {P : Type 0} → F.SemiSemi ≡ F.Nothing → P
    semis_nothing q = cc
