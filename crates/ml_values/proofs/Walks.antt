-- One turn of a walk along a list of values, and along the names.
use Rattle.std.proofs.Common.{◌≡◌, ◌≢◌, Bor, ℕ, suc, ◌+◌, List, [], ◌∷◌, length, Option, Some, None, slice_get, sym, ap, ◌∙◌, arith}
use Rattle.ml_values.specs.declared.value.Words.{Words}
use Rattle.ml_values.specs.declared.value.Words.TheVariants as L
use Rattle.ml_values.specs.declared.value.Pair.{Pair, out-Pair}
use Rattle.ml_values.specs.declared.value.Env.{Env}
use Rattle.ml_values.specs.declared.value.Env.TheVariants as N
use Rattle.ml_values.specs.declared.value.Bound.{Bound, out-Bound}
use Rattle.ml_meaning.specs.Values.{Value, listed}
use Rattle.ml_meaning.specs.Names.{lookup}
use Rattle.ml_values.specs.Shown.{value, values_list, names}
use Rattle.ml_values.proofs.Layers.{empty_is, and_at, nothing_is, bound_at}

pub list_end : (rest : Words) → rest ≡ L.Empty → values_list rest ≡ []
list_end rest is = ap values_list is ∙ ap listed empty_is

pub list_more : (rest : Words) (r : Bor Pair) → rest ≡ L.And r → values_list rest ≡ value (out-Pair r.now).first ∷ values_list (out-Pair r.now).rest
list_more rest r is = ap values_list is ∙ ap listed (and_at r)

pub names_end : (rest : Env) → rest ≡ N.Nothing → names rest ≡ []
names_end rest is = ap names is ∙ nothing_is

pub names_more : (rest : Env) (r : Bor Bound) → rest ≡ N.And r → names rest ≡ ((out-Bound r.now).name, value (out-Bound r.now).word) ∷ names (out-Bound r.now).rest
names_more rest r is = ap names is ∙ bound_at r

-- so many values were counted, and with those that are left they are all
abbrev pub Counted : ℕ → Words → ℕ → Type 0
Counted total rest whole = total + length (values_list rest) ≡ whole

pub counted_more : (rest : Words) (r : Bor Pair) (total more whole : ℕ) → rest ≡ L.And r → more ≡ total + 1 → Counted total rest whole → Counted more (out-Pair r.now).rest whole
counted_more rest r total more whole is one e =
    let longer : length (values_list rest) ≡ suc (length (values_list (out-Pair r.now).rest)) = ap length (list_more rest r is) in
    omega (arith, longer, one, e)

pub counted_end : (rest : Words) (total whole : ℕ) → rest ≡ L.Empty → Counted total rest whole → total ≡ whole
counted_end rest total whole is e =
    let none : length (values_list rest) ≡ 0 = ap length (list_end rest is) in
    omega (arith, none, e)

-- the value at this place of what is left is the one that is looked for
abbrev pub Sought : Words → ℕ → Option Value → Type 0
Sought rest left found = slice_get (values_list rest) left ≡ found

sought_in : (vs : List Value) (rest : Words) (left : ℕ) (found : Option Value) → values_list rest ≡ vs → Sought rest left found → slice_get vs left ≡ found
sought_in vs rest left found is e = ap (λ us. slice_get us left) (sym is) ∙ e

pub sought_here : (rest : Words) (r : Bor Pair) (left : ℕ) (found : Option Value) → rest ≡ L.And r → left ≡ 0 → Sought rest left found → Some (value (out-Pair r.now).first) ≡ found
sought_here rest r left found is at e =
    ap (λ k. slice_get (value (out-Pair r.now).first ∷ values_list (out-Pair r.now).rest) k) (sym at)
    ∙ sought_in _ rest left found (list_more rest r is) e

pub sought_more : (rest : Words) (r : Bor Pair) (left : ℕ) (fewer : ℕ) (found : Option Value) → rest ≡ L.And r → left ≡ suc fewer → Sought rest left found → Sought (out-Pair r.now).rest fewer found
sought_more rest r left fewer found is at e =
    ap (λ k. slice_get (value (out-Pair r.now).first ∷ values_list (out-Pair r.now).rest) k) (sym at)
    ∙ sought_in _ rest left found (list_more rest r is) e

pub sought_end : (rest : Words) (left : ℕ) (found : Option Value) → rest ≡ L.Empty → Sought rest left found → None ≡ found
sought_end rest left found is e = sought_in [] rest left found (list_end rest is) e

-- what the name stands for among the names that are left is what it stands for
abbrev pub Named : ℕ → Env → Option Value → Type 0
Named name rest found = lookup name (names rest) ≡ found

lookup_here : (x : ℕ × Value) (xs : List (ℕ × Value)) (n : ℕ) → x.0 ≡ n → Some x.1 ≡ lookup n (x ∷ xs)
lookup_here x xs n e = grind arith

lookup_behind : (x : ℕ × Value) (xs : List (ℕ × Value)) (n : ℕ) → (x.0 ≢ n) → lookup n xs ≡ lookup n (x ∷ xs)
lookup_behind x xs n other = grind arith

pub named_here : (name : ℕ) (rest : Env) (r : Bor Bound) (found : Option Value) → rest ≡ N.And r → (out-Bound r.now).name ≡ name → Named name rest found → Some (value (out-Bound r.now).word) ≡ found
named_here name rest r found is same e = lookup_here _ _ name same ∙ (ap (lookup name) (sym (names_more rest r is)) ∙ e)

pub named_behind : (name : ℕ) (rest : Env) (r : Bor Bound) (found : Option Value) → rest ≡ N.And r → ((out-Bound r.now).name ≢ name) → Named name rest found → Named name (out-Bound r.now).rest found
named_behind name rest r found is other e = lookup_behind _ _ name other ∙ (ap (lookup name) (sym (names_more rest r is)) ∙ e)

pub named_end : (name : ℕ) (rest : Env) (found : Option Value) → rest ≡ N.Nothing → Named name rest found → None ≡ found
named_end name rest found is e = ap (lookup name) (sym (names_end rest is)) ∙ e
