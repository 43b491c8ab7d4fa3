-- What a walk adds to the journal: the numbers of the nodes and of the type expressions that name something, and of the functions that begin, are among those of the tree, in their order.
use Rattle.std.proofs.Common.{◌≡◌, ℕ, List, [], ◌∷◌, ◌++◌, map, Option, Some, None, Bool, true, false, refl, sym, ap, ◌∙◌, subst, append_assoc, append-nil, if◌then◌else◌}
use Rattle.std.specs.Option.{option_map}
use Rattle.oxml_base.specs.declared.span.Span.{Span}
use Rattle.oxml_base.specs.declared.rule.Rule.{Rule}
use Rattle.ml_tree.specs.declared.reference.Ref.{Ref}
use Rattle.ml_numbers.specs.Ids.{Ids, no_ids, node_id, type_id, joined, all, maybe}
use Rattle.ml_scope.specs.declared.found.Found.{Found}
use Rattle.ml_scope.specs.declared.found.Found.TheVariants.{Names, NamesType, Variable, Offends, Opens}
use Rattle.ml_scope.specs.declared.binder.Binder.{Binder}
use Rattle.ml_scope.specs.Names.{Known, Env, spelling}
use Rattle.ml_scope.specs.Journal.{Journal, add, offence, offence_where, each, perhaps}
use Rattle.ml_scope.specs.Binding.{twice, value_at}
use Rattle.ml_scope.specs.Captures.{open_number}

-- ---- the numbers in a journal

abbrev pub node_number : Found → List ℕ
node_number (Names node target) = node ∷ []
node_number _ = []

abbrev pub type_number : Found → List ℕ
type_number (NamesType id declaration) = id ∷ []
type_number (Variable id name) = id ∷ []
type_number _ = []

abbrev pub numbers : (Found → List ℕ) → Journal → List ℕ
numbers number [] = []
numbers number (f ∷ js) = number f ++ numbers number js

numbers_add : (number : Found → List ℕ) (js : Journal) (f : Found) → numbers number (js ++ f ∷ []) ≡ numbers number js ++ number f
numbers_add number [] f = append-nil (number f)
numbers_add number (g ∷ js) f = ap (λ xs. number g ++ xs) (numbers_add number js f) ∙ sym (append_assoc (number g) (numbers number js) (number f))

-- ---- some elements of a list, in their order

pub data Sub : List ℕ → List ℕ → Type 0 where
  nothing : Sub [] []
  leaves : {x : ℕ} {xs ys : List ℕ} → Sub xs ys → Sub xs (x ∷ ys)
  keeps : {x : ℕ} {xs ys : List ℕ} → Sub xs ys → Sub (x ∷ xs) (x ∷ ys)

pub sub_nothing : (ys : List ℕ) → Sub [] ys
sub_nothing [] = nothing
sub_nothing (y ∷ ys) = leaves (sub_nothing ys)

sub_all : (ys : List ℕ) → Sub ys ys
sub_all [] = nothing
sub_all (y ∷ ys) = keeps (sub_all ys)

sub_join : {xs ys zs ws : List ℕ} → Sub xs ys → Sub zs ws → Sub (xs ++ zs) (ys ++ ws)
sub_join nothing h = h
sub_join (leaves s) h = leaves (sub_join s h)
sub_join (keeps s) h = keeps (sub_join s h)

sub_wider : {xs : List ℕ} → Sub xs [] → (ys : List ℕ) → Sub xs ys
sub_wider nothing ys = sub_nothing ys

sub_behind : {xs ys zs : List ℕ} → Sub xs [] → Sub ys zs → Sub (xs ++ ys) zs
sub_behind nothing h = h

-- ---- one journal after another

pub record Grown (number : Found → List ℕ) (ids : List ℕ) (js later : Journal) : Type 0 where
  pub more : List ℕ
  pub is : numbers number later ≡ numbers number js ++ more
  pub among : Sub more ids

grown_none : (number : Found → List ℕ) (ids : List ℕ) (js : Journal) → Grown number ids js js
grown_none number ids js = record { more = []; is = sym (append-nil (numbers number js)); among = sub_nothing ids }

grown_then : (number : Found → List ℕ) (is ks : List ℕ) (js later last : Journal) → Grown number is js later → Grown number ks later last → Grown number (is ++ ks) js last
grown_then number is ks js later last g h = record {
  more = g.more ++ h.more;
  is = h.is ∙ ap (λ xs. xs ++ h.more) g.is ∙ append_assoc (numbers number js) g.more h.more;
  among = sub_join g.among h.among;
}

grown_add : (number : Found → List ℕ) (js : Journal) (f : Found) → Grown number (number f) js (js ++ f ∷ [])
grown_add number js f = record { more = number f; is = numbers_add number js f; among = sub_all (number f) }

grown_quiet : (number : Found → List ℕ) (ids : List ℕ) (js : Journal) (f : Found) → number f ≡ [] → Grown number ids js (js ++ f ∷ [])
grown_quiet number ids js f e = record { more = []; is = numbers_add number js f ∙ ap (λ xs. numbers number js ++ xs) e; among = sub_nothing ids }

grown_wider : (number : Found → List ℕ) (ids : List ℕ) (js later : Journal) → Grown number [] js later → Grown number ids js later
grown_wider number ids js later g = record { more = g.more; is = g.is; among = sub_wider g.among ids }

grown_still : (number : Found → List ℕ) (ids : List ℕ) (js later : Journal) (f : Found) → Grown number ids js later → number f ≡ [] → Grown number ids js (later ++ f ∷ [])
grown_still number ids js later f g e = record {
  more = g.more;
  is = numbers_add number later f ∙ ap (λ xs. numbers number later ++ xs) e ∙ append-nil (numbers number later) ∙ g.is;
  among = g.among;
}

grown_last : (number : Found → List ℕ) (ids : List ℕ) (js later : Journal) (f : Found) → Grown number [] js later → Sub (number f) ids → Grown number ids js (later ++ f ∷ [])
grown_last number ids js later f g s = record {
  more = g.more ++ number f;
  is = numbers_add number later f ∙ ap (λ xs. xs ++ number f) g.is ∙ append_assoc (numbers number js) g.more (number f);
  among = sub_behind g.among s;
}

-- the numbers of functions are among those of the parts where functions may begin
abbrev pub opening : Bool → List ℕ → List ℕ
opening true ids = ids
opening false ids = []

opening_then : (l : Bool) (is ks : List ℕ) (js later last : Journal) → Grown open_number (opening l is) js later → Grown open_number (opening l ks) later last → Grown open_number (opening l (is ++ ks)) js last
opening_then true is ks js later last g h = grown_then open_number is ks js later last g h
opening_then false is ks js later last g h = grown_then open_number [] [] js later last g h

pub record Grows (l : Bool) (i : Ids) (js later : Journal) : Type 0 where
  pub nodes : Grown node_number i.nodes js later
  pub types : Grown type_number i.types js later
  pub opens : Grown open_number (opening l i.nodes) js later

pub grows_none : (l : Bool) (i : Ids) (js : Journal) → Grows l i js js
grows_none l i js = record { nodes = grown_none node_number i.nodes js; types = grown_none type_number i.types js; opens = grown_none open_number (opening l i.nodes) js }

pub grows_then : (l : Bool) (i j : Ids) (js later last : Journal) → Grows l i js later → Grows l j later last → Grows l (joined i j) js last
grows_then l i j js later last g h = record {
  nodes = grown_then node_number i.nodes j.nodes js later last g.nodes h.nodes;
  types = grown_then type_number i.types j.types js later last g.types h.types;
  opens = opening_then l i.nodes j.nodes js later last g.opens h.opens;
}

-- ---- what a part of a walk adds; in patterns and types no function begins

pub record Adds (l : Bool) (f : Journal → Journal) (i : Ids) : Type 0 where
  pub by : (js : Journal) → Grows l i js (f js)

pub adds_loud : {f : Journal → Journal} {i : Ids} → Adds false f i → Adds true f i
adds_loud {f} {i} a = record { by = λ js. record { nodes = (a.by js).nodes; types = (a.by js).types; opens = grown_wider open_number i.nodes js (f js) (a.by js).opens } }

pub adds_none : {l : Bool} (i : Ids) → Adds l (λ js. js) i
adds_none {l} i = record { by = λ js. grows_none l i js }

pub adds_then : {l : Bool} {f g : Journal → Journal} {i j : Ids} → Adds l f i → Adds l g j → Adds l (λ js. g (f js)) (joined i j)
adds_then {l} {f} {g} {i} {j} a b = record { by = λ js. grows_then l i j js (f js) (g (f js)) (a.by js) (b.by (f js)) }

-- the parts may have more numbers, before or behind
pub adds_behind : {l : Bool} {f : Journal → Journal} {i : Ids} (j : Ids) → Adds l f i → Adds l f (joined j i)
adds_behind {l} {f} {i} j a = record { by = λ js. grows_then l j i js js (f js) (grows_none l j js) (a.by js) }

-- something quiet at the end
pub adds_end : {l : Bool} {f g : Journal → Journal} {i : Ids} → Adds l f i → Adds l g no_ids → Adds l (λ js. g (f js)) i
adds_end {l} {f} {g} {i} a b = record { by = λ js. subst (λ (k : Ids). Grows l k js (g (f js))) (no_more i) (grows_then l i no_ids js (f js) (g (f js)) (a.by js) (b.by (f js))) }
  where
    no_more : (i : Ids) → joined i no_ids ≡ i
    no_more i = ap (λ ns. record { nodes = ns; types = i.types ++ [] }) (append-nil i.nodes) ∙ ap (λ ts. record { nodes = i.nodes; types = ts }) (append-nil i.types)

pub adds_quiet : {l : Bool} (found : Found) → node_number found ≡ [] → type_number found ≡ [] → open_number found ≡ [] → (i : Ids) → Adds l (λ js. add js found) i
adds_quiet {l} found n t o i = record { by = λ js. record { nodes = grown_quiet node_number i.nodes js found n; types = grown_quiet type_number i.types js found t; opens = grown_quiet open_number (opening l i.nodes) js found o } }

pub adds_name : {l : Bool} (node : ℕ) (target : Ref) → Adds l (λ js. add js (Names node target)) (node_id node)
adds_name {l} node target = record { by = λ js. record { nodes = grown_add node_number js (Names node target); types = grown_quiet type_number [] js (Names node target) refl; opens = grown_quiet open_number (opening l (node ∷ [])) js (Names node target) refl } }

pub adds_type : {l : Bool} (id declaration : ℕ) → Adds l (λ js. add js (NamesType id declaration)) (type_id id)
adds_type {l} id declaration = record { by = λ js. record { nodes = grown_quiet node_number [] js (NamesType id declaration) refl; types = grown_add type_number js (NamesType id declaration); opens = grown_quiet open_number (opening l []) js (NamesType id declaration) refl } }

pub adds_variable : {l : Bool} (id : ℕ) (name : Span) → Adds l (λ js. add js (Variable id name)) (type_id id)
adds_variable {l} id name = record { by = λ js. record { nodes = grown_quiet node_number [] js (Variable id name) refl; types = grown_add type_number js (Variable id name); opens = grown_quiet open_number (opening l []) js (Variable id name) refl } }

-- a function begins
pub adds_opens : (node : ℕ) → Adds true (λ js. add js (Opens node)) (node_id node)
adds_opens node = record { by = λ js. record { nodes = grown_quiet node_number (node ∷ []) js (Opens node) refl; types = grown_quiet type_number [] js (Opens node) refl; opens = grown_add open_number js (Opens node) } }

-- a function begins behind parts that have its number
pub adds_opened : {f : Journal → Journal} {i : Ids} (found : Found) → node_number found ≡ [] → type_number found ≡ [] → Sub (open_number found) i.nodes → Adds false f i → Adds true (λ js. add (f js) found) i
adds_opened {f} {i} found n t s a = record {
  by = λ js. record {
    nodes = grown_still node_number i.nodes js (f js) found (a.by js).nodes n;
    types = grown_still type_number i.types js (f js) found (a.by js).types t;
    opens = grown_last open_number i.nodes js (f js) found (a.by js).opens s;
  };
}

pub adds_offence : {l : Bool} (rule : Rule) (place : Span) (i : Ids) → Adds l (offence rule place) i
adds_offence rule place i = adds_quiet (Offends (record { rule = rule; span = place })) refl refl refl i

pub adds_where : {l : Bool} (wrong : Bool) (rule : Rule) (place : Span) (i : Ids) → Adds l (offence_where wrong rule place) i
adds_where true rule place i = adds_offence rule place i
adds_where false rule place i = adds_none i

pub adds_if : {l : Bool} (b : Bool) {f g : Journal → Journal} {i : Ids} → Adds l f i → Adds l g i → Adds l (λ js. if b then f js else g js) i
adds_if true a b = a
adds_if false a b = b

pub adds_perhaps : {l : Bool} {A : Type 0} (f : A → Journal → Journal) (ids : A → Ids) (o : Option A) → ((x : A) → Adds l (f x) (ids x)) → Adds l (perhaps (option_map f o)) (maybe (option_map ids o))
adds_perhaps f ids None h = adds_none no_ids
adds_perhaps f ids (Some x) h = h x

-- lists
pub adds_each : {l : Bool} {A : Type 0} (f : A → Journal → Journal) (ids : A → Ids) (xs : List A) → ((x : A) → Adds l (f x) (ids x)) → Adds l (each (map f xs)) (all (map ids xs))
adds_each f ids [] h = adds_none no_ids
adds_each f ids (x ∷ xs) h = adds_then (h x) (adds_each f ids xs h)

pub adds_parts : {l : Bool} {X : Type 0} {P : X → Type 0} (f : X → Journal → Journal) (ids : X → Ids) (h : (x : X) → P x → Adds l (f x) (ids x)) (ps : List ((x : X) × P x)) → Adds l (each (map f (map (λ q. q.0) ps))) (all (map ids (map (λ q. q.0) ps)))
adds_parts f ids h [] = adds_none no_ids
adds_parts f ids h (q ∷ ps) = adds_then (h q.0 q.1) (adds_parts f ids h ps)

pub adds_seen : {l : Bool} {X S : Type 0} {P : X → Type 0} (seen : X → S) (look : S → Journal → Journal) (ids : X → Ids) (h : (x : X) → P x → Adds l (look (seen x)) (ids x)) (ps : List ((x : X) × P x)) → Adds l (each (map look (map seen (map (λ q. q.0) ps)))) (all (map ids (map (λ q. q.0) ps)))
adds_seen seen look ids h [] = adds_none no_ids
adds_seen seen look ids h (q ∷ ps) = adds_then (h q.0 q.1) (adds_seen seen look ids h ps)

pub adds_twice : {l : Bool} (k : Known) (seen : Env) (bs : List Binder) (i : Ids) → Adds l (twice k seen bs) i
adds_twice k seen [] i = adds_none i
adds_twice k seen (b ∷ bs) i = adds_before (adds_where _ _ _ no_ids) (adds_twice k ((spelling k.text b.name, value_at false b.node) ∷ seen) bs i)
  where
    adds_before : {l : Bool} {f g : Journal → Journal} {i : Ids} → Adds l f no_ids → Adds l g i → Adds l (λ js. g (f js)) i
    adds_before a b = adds_then a b

pub adds_all : {l : Bool} {X S : Type 0} (seen : X → S) (look : S → Journal → Journal) (ids : X → Ids) (xs : List X) → ((x : X) → Adds l (look (seen x)) (ids x)) → Adds l (each (map look (map seen xs))) (all (map ids xs))
adds_all seen look ids [] h = adds_none no_ids
adds_all seen look ids (x ∷ xs) h = adds_then (h x) (adds_all seen look ids xs h)
