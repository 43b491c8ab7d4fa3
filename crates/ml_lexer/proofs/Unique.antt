-- One division, one fault, one literal.
use Rattle.std.proofs.Common.{◌≡◌, ℕ, ◌≤◌, Bool, cond, eqb, List, [], ◌++◌, length, take, refl, subst, ap, ◌∙◌, arith, length-append, append-nil}
use Rattle.std.proofs.lemmas.List.{get_or_past, length-take}
use Rattle.oxml_base.specs.declared.refusal.Refusal.{Refusal}
use Rattle.oxml_base.specs.declared.span.Span.{Span}
use Rattle.ml_lexer.specs.declared.token.Token.{Token}
use Rattle.ml_lexer.specs.declared.token.TokenKind.{TokenKind}
use Rattle.ml_lexer.specs.declared.pieces.Look.TheVariants.{Nothing}
use Rattle.ml_lexer.specs.declared.pieces.Piece.{Piece}
use Rattle.ml_lexer.specs.declared.pieces.Piece.TheVariants.{Skips, Takes, Faults}
use Rattle.ml_lexer.specs.Bytes.{byte, class}
use Rattle.ml_lexer.specs.Tokens.{Comes, Begins, look, look_by, Divides, nothing, skips, takes, Tokens, IsBad, StartsWith, IsLiteral}
use Rattle.ml_lexer.proofs.Divisions.{same_piece, same_text, Stops, goes_on_from}

none_comes : {text : List ℕ} {at : ℕ} {p : Piece} (P : Type 0) → Comes text at Nothing p → P
none_comes P h = elim h [ ]

byte-past : (e : ℕ) (text : List ℕ) → byte (take e text) e ≡ 256
unfolding byte
byte-past e text = get_or_past (take e text) e 256 (omega (arith, length-take e text))

-- nothing begins where the part ends
nothing_there : (e : ℕ) (text : List ℕ) (m : Bool) (p : Piece) (P : Type 0) → Begins (take e text) m e p → P
unfolding look
nothing_there e text m p P b =
    let front = take e text in
    none_comes P (subst (λ (c : ℕ). Comes front e (cond (eqb c 256) Nothing (look_by (class c) m front e)) p) (byte-past e text) b)

stops_at_end : (e : ℕ) (text : List ℕ) (m : Bool) → Stops (take e text) m e
stops_at_end e text m p b = nothing_there e text m p _ b

stops_at_fault : (text : List ℕ) (m : Bool) (at : ℕ) (r : Refusal) → Begins text m at (Faults r) → Stops text m at
stops_at_fault text m at r f p b = (r, same_piece b f)

skips≢faults : {a : ℕ} {r : Refusal} (P : Type 0) → Skips a ≡ Faults r → P
skips≢faults P h = cc

takes≢faults : {k : TokenKind} {a : ℕ} {r : Refusal} (P : Type 0) → Takes k a ≡ Faults r → P
takes≢faults P h = cc

faults-faults : {r s : Refusal} → Faults r ≡ Faults s → r ≡ s
faults-faults h = cc

-- what a division that stops goes on to
record Nowhere (m n : Bool) (at to : ℕ) (ts : List Token) : Type 0 where
  none : ts ≡ []
  flag : m ≡ n
  place : at ≡ to

nowhere : {text : List ℕ} {m n : Bool} {at to : ℕ} {ts : List Token} → Divides text m at ts n to → Stops text m at → Nowhere m n at to ts
nowhere nothing s = record { none = refl; flag = refl; place = refl }
nowhere (skips b d) s = skips≢faults _ (s _ b).1
nowhere (takes b d) s = takes≢faults _ (s _ b).1

record Same (m n : Bool) (at to : ℕ) (ts us : List Token) : Type 0 where
  tokens : us ≡ ts
  flag : m ≡ n
  place : at ≡ to

-- two divisions from one place that stop are one
same : {text : List ℕ} {l m n : Bool} {start at to : ℕ} {ts us : List Token} → Divides text l start ts m at → Stops text m at → Divides text l start us n to → Stops text n to → Same m n at to ts us
same {ts = ts} d s e t =
    let g = goes_on_from d e t in
    let w = nowhere g.rest s in
    record { tokens = g.joins ∙ ap (λ more. ts ++ more) w.none ∙ append-nil ts; flag = w.flag; place = w.place }

pub one_list : (text : List ℕ) (part : Span) (ts us : List Token) → Tokens text part ts → Tokens text part us → us ≡ ts
one_list text part ts us t u = (same t.divides (stops_at_end part.end text t.after_minus) u.divides (stops_at_end part.end text u.after_minus)).tokens

pub never_both : (text : List ℕ) (part : Span) (ts us : List Token) (r : Refusal) → Tokens text part ts → IsBad text part us r → ⊥
never_both text part ts us r t b =
    let front = take part.end text in
    let s = same b.divides (stops_at_fault front b.after_minus b.place r b.fault) t.divides (stops_at_end part.end text t.after_minus) in
    nothing_there part.end text b.after_minus (Faults r) _ (subst (λ (at : ℕ). Begins front b.after_minus at (Faults r)) s.place b.fault)

pub one_fault : (text : List ℕ) (part : Span) (ts us : List Token) (r s : Refusal) → IsBad text part ts r → IsBad text part us s → (us ≡ ts) × (s ≡ r)
one_fault text part ts us r s a b =
    let front = take part.end text in
    let w = same a.divides (stops_at_fault front a.after_minus a.place r a.fault) b.divides (stops_at_fault front b.after_minus b.place s b.fault) in
    let moved = subst (λ (at : ℕ). Begins front a.after_minus at (Faults r)) w.place a.fault in
    let there = subst (λ (m : Bool). Begins front m b.place (Faults r)) w.flag moved in
    (w.tokens, faults-faults (same_piece b.fault there))

pub no_more_tokens : (text : List ℕ) (part : Span) (front ts : List Token) → StartsWith text part front → Tokens text part ts → length front ≤ length ts
no_more_tokens text part front ts a t =
    let g = goes_on_from a.divides t.divides (stops_at_end part.end text t.after_minus) in
    omega (arith, ap length g.joins, length-append front g.more)

pub no_more_before_fault : (text : List ℕ) (part : Span) (front ts : List Token) (r : Refusal) → StartsWith text part front → IsBad text part ts r → length front ≤ length ts
no_more_before_fault text part front ts r a t =
    let g = goes_on_from a.divides t.divides (stops_at_fault (take part.end text) t.after_minus t.place r t.fault) in
    omega (arith, ap length g.joins, length-append front g.more)

pub one_literal : (text : List ℕ) (t : Token) (bs cs : List ℕ) → IsLiteral text t bs → IsLiteral text t cs → bs ≡ cs
one_literal text t bs cs a b = (same_text a.literal b.literal).bytes
