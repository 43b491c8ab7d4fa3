-- A list of items, read one by one: the items so far, and those that go on.
use Rattle.std.proofs.Common.{◌≡◌, ◌<◌, ℕ, List, [], ◌∷◌, ◌++◌, length, drop, refl, subst, sym, ap, ◌∙◌, arith}
use Rattle.ml_lexer.specs.declared.token.Token.{Token}
use Rattle.ml_parse_types.specs.declared.looks.After.{After}
use Rattle.ml_parse_types.specs.declared.looks.After.TheVariants.{Goes, Ends, Fails}
use Rattle.ml_parse_types.specs.Types.{Got, got}
use Rattle.ml_parse_types.specs.Decls.{ReadsItems, items, ItemsBy, last_item, next_item}
use Rattle.ml_parse_types.specs.Readers.{IsNone}
use Rattle.ml_parse_types.proofs.Unique.{IsOneThing}
use Rattle.ml_parse_types.proofs.Shorter.{Advances, length-drop}

-- behind some items
abbrev pub behind_items : {A : Type 0} → List A → Got (List A) → Got (List A)
behind_items acc o = got (acc ++ o.value) o.rest

-- the list that goes on, and that it does
pub record GoesOn {A : Type 0} (Item : List Token → Got A → Type 0) (behind : List Token → After) (ts : List Token) (acc : List A) (o : Got (List A)) : Type 0 where
  more : Got (List A)
  reads : ReadsItems Item behind ts more
  is : o ≡ behind_items acc more

-- the items from start on are these, and then those from ts on
pub record ItemsAlong {A : Type 0} (Item : List Token → Got A → Type 0) (behind : List Token → After) (start ts : List Token) (acc : List A) : Type 0 where
  forth : (o : Got (List A)) → ReadsItems Item behind ts o → ReadsItems Item behind start (behind_items acc o)
  back : (o : Got (List A)) → ReadsItems Item behind start o → GoesOn Item behind ts acc o

pub items_none : {A : Type 0} (Item : List Token → Got A → Type 0) (behind : List Token → After) (ts : List Token) (acc : List A) → acc ≡ [] → ItemsAlong Item behind ts ts acc
items_none Item behind ts acc e = record {
  forth = λ o d. subst (λ (x : List _). ReadsItems Item behind ts (behind_items x o)) (sym e) d;
  back = λ o d. record { more = o; reads = d; is = ap (λ x. behind_items x o) (sym e) };
}

append-one : {A : Type 0} (xs ys : List A) (a : A) → (xs ++ a ∷ []) ++ ys ≡ xs ++ a ∷ ys
append-one [] ys a = refl
append-one (x ∷ xs) ys a = ap (λ (zs : List _). x ∷ zs) (append-one xs ys a)

by_look : {A : Type 0} {Item : List Token → Got A → Type 0} {behind : List Token → After} {a : Got A} {l : Got (List A)} (k w : After) → k ≡ w → ItemsBy Item behind k a l → ItemsBy Item behind w a l
by_look {Item = Item} {behind = behind} {a = a} {l = l} k w e d = subst (λ (x : After). ItemsBy Item behind x a l) e d

-- what is read from a place where an item stands
record Opened {A : Type 0} (Item : List Token → Got A → Type 0) (behind : List Token → After) (a : Got A) (w : After) (o : Got (List A)) : Type 0 where
  by : ItemsBy Item behind w a o

opened : {A : Type 0} {Item : List Token → Got A → Type 0} {behind : List Token → After} {ts : List Token} {o : Got (List A)} → IsOneThing Item → (a : Got A) → Item ts a → (w : After) → behind a.rest ≡ w → ReadsItems Item behind ts o → ItemsBy Item behind w a o
opened {Item = Item} {behind = behind} {o = o} one a i w e (items {ts = ts} {a = b} j f) =
    by_look _ w e (subst (λ (x : Got _). ItemsBy Item behind (behind x.rest) x o) (one ts b a j i) f)

ungoes : {A : Type 0} {Item : List Token → Got A → Type 0} {behind : List Token → After} {a : Got A} {o : Got (List A)} → ItemsBy Item behind Goes a o → GoesOn Item behind (drop 1 a.rest) (a.value ∷ []) o
ungoes (next_item {l = l} d) = record { more = l; reads = d; is = refl }

none_fails : {A : Type 0} {Item : List Token → Got A → Type 0} {behind : List Token → After} {a : Got A} {o : Got (List A)} → ItemsBy Item behind Fails a o → ⊥
none_fails d = elim d [ ]

pub items_more : {A : Type 0} (Item : List Token → Got A → Type 0) (behind : List Token → After) (start ts us vs : List Token) (acc more : List A) (a : A) (k : After) → IsOneThing Item → ItemsAlong Item behind start ts acc → Item ts (got a us) → k ≡ behind us → k ≡ Goes → vs ≡ drop 1 us → more ≡ acc ++ a ∷ [] → ItemsAlong Item behind start vs more
items_more {A} Item behind start ts us vs acc more a k one along i h e v m = record {
  forth = λ o d.
      let inner : ItemsBy Item behind Goes (got a us) (got (a ∷ o.value) o.rest) = next_item (subst (λ (x : List Token). ReadsItems Item behind x o) v d) in
      let whole : ReadsItems Item behind ts (got (a ∷ o.value) o.rest) = items i (by_look Goes (behind us) (sym (sym h ∙ e)) inner) in
      let far = along.forth _ whole in
      subst (λ (x : List A). ReadsItems Item behind start (got x o.rest)) (sym (append-one acc o.value a) ∙ ap (λ (x : List A). x ++ o.value) (sym m)) far;
  back = λ o d.
      let far = along.back o d in
      let by = opened one (got a us) i Goes (sym h ∙ e) far.reads in
      let next = ungoes by in
      record {
        more = next.more;
        reads = subst (λ (x : List Token). ReadsItems Item behind x next.more) (sym v) next.reads;
        is = far.is ∙ (ap (behind_items acc) next.is ∙ (ap (λ (x : List A). got x next.more.rest) (sym (append-one acc next.more.value a) ∙ ap (λ (x : List A). x ++ next.more.value) (sym m))));
      };
}

pub items_end : {A : Type 0} (Item : List Token → Got A → Type 0) (behind : List Token → After) (start ts us vs : List Token) (acc more : List A) (a : A) (k : After) (n : ℕ) → ItemsAlong Item behind start ts acc → Item ts (got a us) → k ≡ behind us → k ≡ Ends n → vs ≡ drop n us → more ≡ acc ++ a ∷ [] → ReadsItems Item behind start (got more vs)
items_end {A} Item behind start ts us vs acc more a k n along i h e v m =
    let inner : ItemsBy Item behind (Ends n) (got a us) (got (a ∷ []) (drop n us)) = last_item in
    let whole : ReadsItems Item behind ts (got (a ∷ []) (drop n us)) = items i (by_look (Ends n) (behind us) (sym (sym h ∙ e)) inner) in
    let far = along.forth _ whole in
    subst (λ (x : List A). ReadsItems Item behind start (got x vs)) (sym m) (subst (λ (x : List Token). ReadsItems Item behind start (got (acc ++ a ∷ []) x)) (sym v) far)

pub items_fail : {A : Type 0} (Item : List Token → Got A → Type 0) (behind : List Token → After) (start ts us : List Token) (acc : List A) (a : A) (k : After) → IsOneThing Item → ItemsAlong Item behind start ts acc → Item ts (got a us) → k ≡ behind us → k ≡ Fails → IsNone (ReadsItems Item behind) start
items_fail Item behind start ts us acc a k one along i h e = record {
  none = λ o d. none_fails (opened one (got a us) i Fails (sym h ∙ e) (along.back o d).reads);
}

no_list : {A : Type 0} {Item : List Token → Got A → Type 0} {behind : List Token → After} {ts : List Token} {o : Got (List A)} → IsNone Item ts → ReadsItems Item behind ts o → ⊥
no_list n (items {a = a} i f) = n.none a i

pub items_bad : {A : Type 0} (Item : List Token → Got A → Type 0) (behind : List Token → After) (start ts : List Token) (acc : List A) → ItemsAlong Item behind start ts acc → IsNone Item ts → IsNone (ReadsItems Item behind) start
items_bad Item behind start ts acc along n = record { none = λ o d. no_list n (along.back o d).reads }

pub items_shorter : {A : Type 0} (Item : List Token → Got A → Type 0) (ts us vs : List Token) (a : A) → Advances Item → Item ts (got a us) → vs ≡ drop 1 us → length vs < length ts
items_shorter Item ts us vs a one i v = omega (arith, ap length v, length-drop 1 us, one ts (got a us) i)
