-- Items and programs: no list of tokens has two, where one is refused, and that it is found.
use Rattle.std.proofs.Common.{◌≡◌, ◌≢◌, ℕ, ◌≤◌, max, Bool, List, [], ◌∷◌, ◌++◌, drop, refl, subst, ap, sym, ◌∙◌, arith}
use Rattle.ml_lexer.specs.declared.token.Token.{Token}
use Rattle.ml_cursor.specs.Fronts.{front}
use Rattle.ml_cursor.specs.declared.front.Front.TheVariants as F
use Rattle.ml_cursor.specs.Places.{span, first_span, extent}
use Rattle.ml_tree.specs.declared.expr.Bind.{Bind}
use Rattle.ml_tree.specs.declared.types.Decl.{Decl}
use Rattle.ml_tree.specs.declared.program.Program.{Program}
use Rattle.ml_tree.specs.declared.program.Item.{Item}
use Rattle.ml_tree.specs.declared.program.ItemKind.TheVariants as K
use Rattle.ml_numbers.specs.Numbered.{numbered}
use Rattle.ml_grammar.specs.declared.looks.ItemLead.{ItemLead}
use Rattle.ml_grammar.specs.declared.looks.ItemLead.TheVariants as I
use Rattle.ml_grammar.specs.Looks.{item_by, item_lead, is_rec, behind_rec}
use Rattle.ml_grammar.specs.Trees.{end_behind, end_of_bind}
use Rattle.ml_parse_types.specs.Types.{Got, got}
use Rattle.ml_parse_types.specs.Decls.{ReadsDecls}
use Rattle.ml_parse_types.specs.Readers.{IsNone}
use Rattle.ml_parse_types.proofs.Unique.{same_items as same_items_of, same_decl}
use Rattle.ml_grammar.specs.Grammar.{Lists, binds}
use Rattle.ml_grammar.specs.Readings.{IsRead, AreDeep}
use Rattle.ml_grammar.specs.Programs.{let_item, types_item, AnItemBy, a_let_item, a_types_item, AnItem, ItemsBy, no_item, between, let_first, types_first, AreItems, Derives}
use Rattle.ml_grammar.proofs.Deep.{Along, along, deep_along, deep_at, never, read_as}
use Rattle.ml_grammar.proofs.Unique.{Same, same_list, made}

one_decls : {ts r s : List Token} {ds es : List Decl} → ReadsDecls ts (got ds r) → ReadsDecls ts (got es s) → Same ds es 0 0 r s
one_decls x y =
    let e = same_items_of same_decl y x in
    record { tree = ap (λ (g : Got (List Decl)). g.value) e; depth = refl; rest = ap (λ (g : Got (List Decl)). g.rest) e }

pub same_an_item : {text : List ℕ} {l : ItemLead} {ts r s : List Token} {i j : Item} {d c : ℕ} → AnItemBy text l ts i d r → AnItemBy text l ts j c s → Same i j d c r s
same_an_item {ts = ts} (a_let_item x) (a_let_item y) = made (λ bs us. let_item ts bs) (λ d. d) (λ r. r) (same_list x y)
same_an_item {ts = ts} (a_types_item x) (a_types_item y) = made (λ ds us. types_item ts ds us) (λ d. d) (λ r. r) (one_decls x y)

pub record SameItems (is js : List Item) (d c : ℕ) : Type 0 where
  pub items : js ≡ is
  pub depth : c ≡ d

after_one : {us vs : List Token} {i j : Item} {is js : List Item} {di dj d c : ℕ} → Same i j di dj us vs → SameItems is js d c → SameItems (i ∷ is) (j ∷ js) (max di d) (max dj c)
after_one {i = i} {j = j} {is = is} {js = js} {di = di} {dj = dj} {d = d} {c = c} s t = record {
  items = ap (λ i. i ∷ js) s.tree ∙ ap (λ is. i ∷ is) t.items;
  depth = ap (λ d. max d c) s.depth ∙ ap (λ c. max di c) t.depth;
}

pub same_items : {text : List ℕ} {l : ItemLead} {ts : List Token} {is js : List Item} {d c : ℕ} → ItemsBy text l ts is d → ItemsBy text l ts js c → SameItems is js d c
same_items no_item no_item = record { items = refl; depth = refl }
same_items (between x) (between y) = same_items x y
same_items {text = text} (let_first x m) (let_first {is = js} {d = c} y n) =
    let i = same_an_item x y in
    after_one i (same_items m (subst (λ us. ItemsBy text (item_lead us) us js c) i.rest n))
same_items {text = text} (types_first x m) (types_first {is = js} {d = c} y n) =
    let i = same_an_item x y in
    after_one i (same_items m (subst (λ us. ItemsBy text (item_lead us) us js c) i.rest n))

pub one_program : (text : List ℕ) (ts : List Token) (p q : Program) → Derives text ts p → Derives text ts q → q ≡ p
one_program text ts p q a b = b.program_is ∙ (ap numbered (same_items a.reads b.reads).items ∙ sym a.program_is)

-- an item

pub item_read : {text : List ℕ} {l : ItemLead} {ts r : List Token} {i : Item} {d left : ℕ} → l ≡ item_lead ts → IsRead (AnItemBy text l ts) left i d r → IsRead (AnItem text ts) left i d r
item_read {text} {l} {ts} {r} {i} {d} {left} e x = subst (λ l. IsRead (AnItemBy text l ts) left i d r) e x

pub item_deep : {text : List ℕ} {l : ItemLead} {ts : List Token} {left : ℕ} → l ≡ item_lead ts → AreDeep (AnItemBy text l ts) left → AreDeep (AnItem text ts) left
item_deep {text} {l} {ts} {left} e x = subst (λ l. AreDeep (AnItemBy text l ts) left) e x

item_leads : {text : List ℕ} {l : ItemLead} {ts r : List Token} {i : Item} {d : ℕ} → AnItemBy text l ts i d r → (l ≡ I.Let → ⊥) → (l ≡ I.Types → ⊥) → ⊥
item_leads (a_let_item x) n m = n refl
item_leads (a_types_item x) n m = m refl

pub no_item_here : {text : List ℕ} {ts : List Token} {left : ℕ} → item_lead ts ≢ I.Let → item_lead ts ≢ I.Types → AreDeep (AnItem text ts) left
no_item_here n m = never (λ i d r x. item_leads x n m)

pub let_item_deep : {text : List ℕ} {ts us vs : List Token} {left : ℕ} → us ≡ drop 1 ts → vs ≡ behind_rec us → AreDeep (Lists text binds vs) left → AreDeep (AnItemBy text I.Let ts) left
let_item_deep {text} {ts} e f h = deep_along (λ i d r x. inner x) (deep_at (Lists text binds) (f ∙ ap behind_rec e) h)
  where
    inner : {i : Item} {d : ℕ} {r : List Token} → AnItemBy text I.Let ts i d r → Along (Lists text binds (behind_rec (drop 1 ts))) d
    inner (a_let_item x) = along _ _ _ x (omega arith)

pub let_item_read : {text : List ℕ} {ts us vs r : List Token} {rc : Bool} {bs : List Bind} {i : Item} {d from to left : ℕ} → us ≡ drop 1 ts → vs ≡ behind_rec us → rc ≡ is_rec (front us) → IsRead (Lists text binds vs) left bs d r → from ≡ (first_span ts).start → to ≡ end_behind end_of_bind 0 bs → i ≡ record { id = 0; span = span from to; kind = K.Let rc bs } → IsRead (AnItemBy text I.Let ts) left i d r
let_item_read {text} {ts} {us} {vs} {r} {rc} {bs} {i} {d} {from} {to} e f g x h k m =
    let y = subst (λ us. Lists text binds us bs d r) (f ∙ ap behind_rec e) x.reads in
    let p : Item = record { id = 0; span = span from to; kind = K.Let rc bs } in
    let w = ap (λ a. item_of a to rc bs) h ∙ (ap (λ a. item_of (first_span ts).start a rc bs) k ∙ ap (λ a. item_of (first_span ts).start (end_behind end_of_bind 0 bs) a bs) (g ∙ ap (λ us. is_rec (front us)) e)) in
    read_as r (a_let_item y) (m ∙ w) refl x.small
  where
    item_of : ℕ → ℕ → Bool → List Bind → Item
    item_of a b c bs = record { id = 0; span = span a b; kind = K.Let c bs }

pub types_item_deep : {text : List ℕ} {ts us : List Token} {left : ℕ} → us ≡ drop 1 ts → IsNone ReadsDecls us → AreDeep (AnItemBy text I.Types ts) left
types_item_deep {text} {ts} {us} e n = never (λ i d r x. inner x)
  where
    inner : {i : Item} {d : ℕ} {r : List Token} → AnItemBy text I.Types ts i d r → ⊥
    inner (a_types_item {rest = r} {ds = ds} x) = n.none (got ds r) (subst (λ us. ReadsDecls us (got ds r)) (sym e) x)

pub types_item_read : {text : List ℕ} {ts us r : List Token} {ds : List Decl} {i : Item} {left : ℕ} → us ≡ drop 1 ts → ReadsDecls us (got ds r) → i ≡ record { id = 0; span = extent ts r; kind = K.Types ds } → IsRead (AnItemBy text I.Types ts) left i 0 r
types_item_read {r = r} {ds = ds} e x h = read_as r (a_types_item (subst (λ us. ReadsDecls us (got ds r)) e x)) h refl (omega arith)

-- items read one by one: with those read so far, what follows is a program from the start

-- some items that are no deeper than this
pub record ItemsAlong (text : List ℕ) (ts : List Token) (limit : ℕ) : Type 0 where
  pub items : List Item
  pub depth : ℕ
  pub reads : AreItems text ts items depth
  pub most : depth ≤ limit

pub record ItemsSoFar (text : List ℕ) (start : List Token) (done : List Item) (depth : ℕ) (ts : List Token) : Type 0 where
  pub forth : (is : List Item) (d : ℕ) → AreItems text ts is d → AreItems text start (done ++ is) (max depth d)
  pub back : (is : List Item) (d : ℕ) → AreItems text start is d → ItemsAlong text ts d
  pub small : depth ≤ 1000

pub items_init : {text : List ℕ} {ts : List Token} → ItemsSoFar text ts [] 0 ts
items_init {text} {ts} = record {
  forth = λ is d x. subst (λ d. AreItems text ts is d) (let e : d ≡ max 0 d = omega arith in e) x;
  back = λ is d x. record { items = is; depth = d; reads = x; most = omega arith };
  small = omega arith;
}

behind_semis : {text : List ℕ} {ts : List Token} {is : List Item} {d : ℕ} → ItemsBy text I.SemiSemi ts is d → AreItems text (drop 1 ts) is d
behind_semis (between x) = x

semis_lead : (ts : List Token) → front ts ≡ F.SemiSemi → item_lead ts ≡ I.SemiSemi
unfolding item_lead
semis_lead ts e = ap item_by e

pub items_between : {text : List ℕ} {start ts us : List Token} {done : List Item} {depth : ℕ} → ItemsSoFar text start done depth ts → front ts ≡ F.SemiSemi → us ≡ drop 1 ts → ItemsSoFar text start done depth us
items_between {text} {start} {ts} {us} {done} {depth} i e f = record {
  forth = λ is d x. i.forth is d (subst (λ l. ItemsBy text l ts is d) (sym (semis_lead ts e)) (between (subst (λ us. AreItems text us is d) f x)));
  back = λ is d x.
      let a = i.back is d x in
      record { items = a.items; depth = a.depth; reads = subst (λ us. AreItems text us a.items a.depth) (sym f) (behind_semis (subst (λ l. ItemsBy text l ts a.items a.depth) (semis_lead ts e) a.reads)); most = a.most };
  small = i.small;
}

put_first : {text : List ℕ} {l : ItemLead} {ts us : List Token} {i : Item} {is : List Item} {di d : ℕ} → AnItemBy text l ts i di us → AreItems text us is d → ItemsBy text l ts (i ∷ is) (max di d)
put_first (a_let_item x) y = let_first (a_let_item x) y
put_first (a_types_item x) y = types_first (a_types_item x) y

others_of : {text : List ℕ} {l : ItemLead} {ts us : List Token} {i : Item} {is : List Item} {di d : ℕ} → AnItemBy text l ts i di us → ItemsBy text l ts is d → ItemsAlong text us d
others_of x no_item = elim x [ ]
others_of x (between y) = elim x [ ]
others_of {text} x (let_first {is = is} {d = d} y z) =
    record { items = is; depth = d; reads = subst (λ us. AreItems text us is d) (same_an_item x y).rest z; most = omega arith }
others_of {text} x (types_first {is = is} {d = d} y z) =
    record { items = is; depth = d; reads = subst (λ us. AreItems text us is d) (same_an_item x y).rest z; most = omega arith }

append_one : {A : Type 0} (done : List A) (x : A) (xs : List A) → done ++ (x ∷ xs) ≡ (done ++ (x ∷ [])) ++ xs
append_one [] x xs = refl
append_one (y ∷ done) x xs = ap (λ zs. y ∷ zs) (append_one done x xs)

pub items_step : {text : List ℕ} {start ts us : List Token} {done : List Item} {i : Item} {depth di : ℕ} → ItemsSoFar text start done depth ts → IsRead (AnItem text ts) 1000 i di us → ItemsSoFar text start (done ++ (i ∷ [])) (max depth di) us
items_step {text} {start} {ts} {us} {done} {i} {depth} {di} s x = record {
  forth = λ is d y.
      subst (λ d. AreItems text start ((done ++ (i ∷ [])) ++ is) d) (let e : max depth (max di d) ≡ max (max depth di) d = omega arith in e)
      (subst (λ is. AreItems text start is (max depth (max di d))) (append_one done i is) (s.forth (i ∷ is) (max di d) (put_first x.reads y)));
  back = λ is d y.
      let a = s.back is d y in
      let b = others_of x.reads a.reads in
      let m = a.most in
      let n = b.most in
      record { items = b.items; depth = b.depth; reads = b.reads; most = omega arith };
  small = let m = s.small in let n = x.small in omega arith;
}

-- the first item of items that begin with one
first_item : {text : List ℕ} {l : ItemLead} {ts : List Token} {is : List Item} {d : ℕ} → ItemsBy text l ts is d → (l ≡ I.End → ⊥) → (l ≡ I.SemiSemi → ⊥) → Along (AnItemBy text l ts) d
first_item no_item n m = absurd (n refl)
first_item (between x) n m = absurd (m refl)
first_item (let_first x y) n m = along _ _ _ x (omega arith)
first_item (types_first x y) n m = along _ _ _ x (omega arith)

pub items_deep : {text : List ℕ} {start ts : List Token} {done : List Item} {depth : ℕ} → ItemsSoFar text start done depth ts → item_lead ts ≢ I.End → item_lead ts ≢ I.SemiSemi → AreDeep (AnItem text ts) 1000 → (p : Program) → Derives text start p → ⊥
items_deep s n m h p x =
    let a = s.back x.items x.depth x.reads in
    let b = first_item a.reads n m in
    let c = h.deep b.tree b.depth b.rest b.reads in
    let u = a.most in
    let v = b.most in
    let w = x.small in
    omega arith

end_lead : (ts : List Token) → ts ≡ [] → item_lead ts ≡ I.End
unfolding item_lead
end_lead ts e = ap (λ ts. item_by (front ts)) e

append-nothing : {A : Type 0} (xs : List A) → xs ++ [] ≡ xs
append-nothing [] = refl
append-nothing (x ∷ xs) = ap (λ ys. x ∷ ys) (append-nothing xs)

pub items_done : {text : List ℕ} {start ts : List Token} {done : List Item} {depth : ℕ} {p : Program} → ItemsSoFar text start done depth ts → ts ≡ [] → p ≡ numbered done → Derives text start p
items_done {text} {start} {ts} {done} {depth} s e f = record {
  items = done;
  depth = depth;
  reads = subst (λ d. AreItems text start done d) (let q : max depth 0 ≡ depth = omega arith in q)
      (subst (λ is. AreItems text start is (max depth 0)) (append-nothing done) (s.forth [] 0 (subst (λ l. ItemsBy text l ts [] 0) (sym (end_lead ts e)) no_item)));
  small = s.small;
  program_is = f;
}

-- the same, with their depth
pub record ItemsUpTo (text : List ℕ) (start : List Token) (done : List Item) (ts : List Token) : Type 0 where
  pub depth : ℕ
  pub so_far : ItemsSoFar text start done depth ts
