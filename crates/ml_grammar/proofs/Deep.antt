-- Parts that are too deep make wholes that are.
use Rattle.std.proofs.Common.{◌≡◌, ℕ, ◌+◌, ◌<◌, ◌≤◌, List, subst, sym, arith}
use Rattle.ml_lexer.specs.declared.token.Token.{Token}
use Rattle.ml_cursor.specs.declared.error.ParseErr.{ParseErr}
use Rattle.ml_cursor.specs.declared.error.ParseErr.TheVariants.{Refused, NoMemory}
use Rattle.ml_cursor.specs.Says.{Says}
use Rattle.ml_grammar.specs.Readings.{IsRead, AreDeep}

-- a part that is less deep than this
pub record Inside {A : Type 0} (P : A → ℕ → List Token → Type 0) (limit : ℕ) : Type 0 where
  pub tree : A
  pub depth : ℕ
  pub rest : List Token
  pub reads : P tree depth rest
  pub less : depth < limit

-- a part that is no deeper than this
pub record Along {A : Type 0} (P : A → ℕ → List Token → Type 0) (limit : ℕ) : Type 0 where
  pub tree : A
  pub depth : ℕ
  pub rest : List Token
  pub reads : P tree depth rest
  pub most : depth ≤ limit

pub inside : {A : Type 0} {P : A → ℕ → List Token → Type 0} {d : ℕ} (x : A) (c : ℕ) (r : List Token) → P x c r → c < d → Inside P d
inside x c r p h = record { tree = x; depth = c; rest = r; reads = p; less = h }

pub along : {A : Type 0} {P : A → ℕ → List Token → Type 0} {d : ℕ} (x : A) (c : ℕ) (r : List Token) → P x c r → c ≤ d → Along P d
along x c r p h = record { tree = x; depth = c; rest = r; reads = p; most = h }

pub deep_inside : {A B : Type 0} {P : A → ℕ → List Token → Type 0} {Q : B → ℕ → List Token → Type 0} {left below : ℕ} → left ≤ below + 1 → ((y : B) (d : ℕ) (r : List Token) → Q y d r → Inside P d) → AreDeep P below → AreDeep Q left
deep_inside {A} {B} {P} {Q} {left} {below} e f h = record {
  deep = λ y d r q.
      let i = f y d r q in
      let k = h.deep i.tree i.depth i.rest i.reads in
      let l = i.less in
      omega arith;
}

pub deep_along : {A B : Type 0} {P : A → ℕ → List Token → Type 0} {Q : B → ℕ → List Token → Type 0} {left : ℕ} → ((y : B) (d : ℕ) (r : List Token) → Q y d r → Along P d) → AreDeep P left → AreDeep Q left
deep_along f h = record {
  deep = λ y d r q.
      let i = f y d r q in
      let k = h.deep i.tree i.depth i.rest i.reads in
      let l = i.most in
      omega arith;
}

pub never : {B : Type 0} {Q : B → ℕ → List Token → Type 0} {left : ℕ} → ((y : B) (d : ℕ) (r : List Token) → Q y d r → ⊥) → AreDeep Q left
never f = record { deep = λ y d r q. absurd (f y d r q) }

-- what a refusal says of one part it says of another
pub says : {P Q : Type 0} (tokens : List Token) → (P → Q) → (e : ParseErr) → Says tokens P e → Says tokens Q e
says tokens f (Refused r) h = (h.0, f h.1)
says tokens f NoMemory h = tt

-- what was made is what was read
pub read_as : {A : Type 0} {P : A → ℕ → List Token → Type 0} {x y : A} {c d left : ℕ} (r : List Token) → P y c r → x ≡ y → d ≡ c → d ≤ left → IsRead P left x d r
read_as {A} {P} {x} {y} {c} {d} r p e f small = record { reads = subst (λ x. P x d r) (sym e) (subst (λ d. P y d r) (sym f) p); small = small }

pub deep_at : {A : Type 0} {us vs : List Token} {left : ℕ} (P : List Token → A → ℕ → List Token → Type 0) → us ≡ vs → AreDeep (P us) left → AreDeep (P vs) left
deep_at {A} {us} {vs} {left} P e i = subst (λ us. AreDeep (P us) left) e i
