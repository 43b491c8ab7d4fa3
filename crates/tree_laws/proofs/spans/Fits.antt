-- Parts of a tree that lie among the tokens of the node around them.
use Rattle.std.proofs.Common.{◌≡◌, ℕ, suc, zero, ◌+◌, ◌-◌, ◌<◌, ◌≤◌, List, [], ◌∷◌, drop, length, refl, sym, ap, ◌∙◌, subst, arith}
use Rattle.std.specs.Prelude.{slice_get}
use Rattle.std.specs.List.{All}
use Rattle.std.proofs.lemmas.List.{length-drop as left, length-append, get_or_append_left}
use Rattle.std.proofs.lemmas.List.Elements.{All-nil, All-cons, All-append}
use Rattle.oxml_base.specs.declared.span.Span.{Span}
use Rattle.ml_lexer.specs.declared.token.Token.{Token}
use Rattle.ml_cursor.specs.Places.{first_span, extent, span_of}
use Rattle.tree_laws.specs.Spans.{Edges, none, both, node, Nests}
use Rattle.tree_laws.proofs.spans.Behind.{Behind, count_is, next_to, same, dropped}

-- the span begins where at least n tokens are left, and ends with one before which at most m are left, and
-- above the floor
pub record Holds (whole : List Token) (floor : ℕ) (s : Span) (n m : ℕ) : Type 0 where
  pub first : List Token
  pub last : List Token
  pub first_behind : Behind whole first
  pub last_behind : Behind whole last
  pub early : n ≤ length first
  pub late : length last ≤ m
  pub above : floor < length last
  pub starts : s.start ≡ (first_span first).start
  pub ends : s.end ≡ (first_span last).end

-- below every node that holds these places the parts lie among its tokens
pub record Fits (whole : List Token) (floor n m : ℕ) (parts : Edges) : Type 0 where
  pub by : (s : Span) → Holds whole floor s n m → All (Nests whole (length whole - floor)) (parts s)

pub fits_none : (whole : List Token) (floor n m : ℕ) → Fits whole floor n m none
fits_none whole floor n m = record { by = λ s h. All-nil (Nests whole (length whole - floor)) }

pub fits_both : {whole : List Token} {floor n m : ℕ} {a b : Edges} → Fits whole floor n m a → Fits whole floor n m b → Fits whole floor n m (both a b)
fits_both {whole} {floor} {n} {m} {a} {b} g h = record { by = λ s i. All-append (Nests whole (length whole - floor)) (a s) (b s) (g.by s i) (h.by s i) }

pub widened : {whole : List Token} {floor n m k l : ℕ} {a : Edges} → Fits whole floor n m a → n ≤ k → l ≤ m → Fits whole floor k l a
widened {whole} {floor} {n} {m} {k} {l} {a} h p q = record {
  by = λ s i. h.by s (record {
    first = i.first;
    last = i.last;
    first_behind = i.first_behind;
    last_behind = i.last_behind;
    early = omega (arith, i.early, p);
    late = omega (arith, i.late, q);
    above = i.above;
    starts = i.starts;
    ends = i.ends;
  });
}

-- a node from the first token of one list to that of another
pub fits_node : {whole ts last : List Token} {floor : ℕ} {s : Span} {parts : Edges} → Behind whole ts → Behind whole last → s.start ≡ (first_span ts).start → s.end ≡ (first_span last).end → length last ≤ length ts → Fits whole floor (length ts) (length last) parts → Fits whole floor (length ts) (length last) (node s parts)
fits_node {whole} {ts} {last} {floor} {s} {parts} a b p q le h = record {
  by = λ o i.
      let x = count_is i.first_behind (omega (arith, i.early, i.late, i.above, le)) in
      let y = count_is a (omega (arith, i.late, i.above, le)) in
      let z = count_is b (omega (arith, i.late, i.above)) in
      let w = count_is i.last_behind (omega (arith, i.above)) in
      let e : Nests whole (length whole - floor) (record { outer = o; inner = s }) = record {
        from = i.first_behind.count;
        first = a.count;
        last = b.count;
        to = i.last_behind.count;
        outer_is = record { starts = i.starts ∙ ap (λ us. (first_span us).start) i.first_behind.is; ends = i.ends ∙ ap (λ us. (first_span us).end) i.last_behind.is };
        inner_is = record { starts = p ∙ ap (λ us. (first_span us).start) a.is; ends = q ∙ ap (λ us. (first_span us).end) b.is };
        starts_later = omega (arith, x, y, i.early);
        goes_up = omega (arith, y, z, le);
        ends_sooner = omega (arith, z, w, i.late);
        inside = omega (arith, w, i.above);
      } in
      let own : Holds whole floor s (length ts) (length last) = record {
        first = ts;
        last = last;
        first_behind = a;
        last_behind = b;
        early = omega arith;
        late = omega arith;
        above = omega (arith, i.late, i.above);
        starts = p;
        ends = q;
      } in
      All-cons (Nests whole (length whole - floor)) (record { outer = o; inner = s }) (parts s) e (h.by s own);
}

get_dropped : (n : ℕ) (ts : List Token) → slice_get (drop n ts) 0 ≡ slice_get ts n
get_dropped zero ts = refl
get_dropped (suc n) [] = refl
get_dropped (suc n) (t ∷ ts) = get_dropped n ts

-- a node of all tokens before the rest
pub fits_extent : {whole ts : List Token} {floor : ℕ} {parts : Edges} (r : List Token) → Behind whole ts → length r < length ts → Fits whole floor (length ts) (length r + 1) parts → Fits whole floor (length ts) (length r + 1) (node (extent ts r) parts)
fits_extent {whole} {ts} {floor} {parts} r a lt h =
    let n : ℕ = length ts - length r - 1 in
    let e = left n ts in
    let same : length (drop n ts) ≡ length r + 1 = omega (arith, e) in
    let g = fits_node {whole = whole} {ts = ts} {last = drop n ts} {floor = floor} {s = extent ts r} {parts = parts} a (next_to n a) refl (ap (λ o. (span_of o).end) (sym (get_dropped n ts))) (omega (arith, same)) (widened h (omega arith) (omega (arith, same))) in
    widened g (omega arith) (omega (arith, same))

-- a span of all tokens before the rest
pub extent_holds : (ts r : List Token) → length r < length ts → Holds ts (length r) (extent ts r) (length ts) (length r + 1)
extent_holds ts r lt =
    let n : ℕ = length ts - length r - 1 in
    let e = left n ts in
    record {
      first = ts;
      last = drop n ts;
      first_behind = same;
      last_behind = dropped n ts;
      early = omega arith;
      late = omega (arith, e);
      above = omega (arith, e);
      starts = refl;
      ends = ap (λ o. (span_of o).end) (sym (get_dropped n ts));
    }

-- the parts of what is read from one list up to another lie among the tokens between
abbrev pub Fit : List Token → ℕ → List Token → List Token → Edges → Type 0
Fit all_tokens floor ts r parts = Fits all_tokens floor (length ts) (length r + 1) parts

-- a node of the tokens between, with its edges as they are
pub made : {w ts : List Token} {floor : ℕ} {k : Edges} {parts : Edges} (r : List Token) → k ≡ node (extent ts r) parts → Behind w ts → length r < length ts → Fit w floor ts r parts → Fit w floor ts r k
made {w} {ts} {floor} r e a lt h = subst (Fits w floor (length ts) (length r + 1)) (sym e) (fits_extent r a lt h)

pub bare_node : {w ts : List Token} {floor : ℕ} {k : Edges} (r : List Token) → k ≡ node (extent ts r) none → Behind w ts → length r < length ts → Fit w floor ts r k
bare_node {w} {ts} {floor} r e a lt = made r e a lt (fits_none w floor (length ts) (length r + 1))

-- a node of one token
pub token_fits : {w ts : List Token} {floor : ℕ} (s : Span) → Behind w ts → s.start ≡ (first_span ts).start → s.end ≡ (first_span ts).end → Fits w floor (length ts) (length ts) (node s none)
token_fits {w} {ts} {floor} s a p q = fits_node {whole = w} {ts = ts} {last = ts} {floor = floor} {s = s} {parts = none} a a p q (omega arith) (fits_none w floor (length ts) (length ts))

-- the name of a field, which is one token
pub named_fits : {w ts : List Token} {floor m : ℕ} → Behind w ts → m ≤ length ts → Fits w floor (length ts) m (node (first_span ts) none)
named_fits {w} {ts} {floor} {m} a le = widened (token_fits (first_span ts) a refl refl) (omega arith) (omega arith)

-- the first of two parts
pub fits_first : {whole : List Token} {floor n m : ℕ} (a b : Edges) → Fits whole floor n m (both a b) → Fits whole floor n m a
fits_first {whole} {floor} {n} {m} a b h = record {
  by = λ s i k d lt.
      subst (Nests whole (length whole - floor)) (get_or_append_left (a s) (b s) d k lt)
      (h.by s i k d (omega (arith, length-append (a s) (b s), lt)));
}
